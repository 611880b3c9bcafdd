-- Frames that differ at most at one place.
use Rattle.std.specs.Prelude.{◌≡◌, ℕ, zero, suc, List, [], ◌∷◌}
use Rattle.value_core.specs.declared.value.Value.{Value}

-- the two frames differ at most at the place
abbrev pub AgreeBut : ℕ → List Value → List Value → Type 0
AgreeBut place [] [] = Unit {0}
AgreeBut place [] (w ∷ other) = ⊥
AgreeBut place (v ∷ frame) [] = ⊥
AgreeBut zero (v ∷ frame) (w ∷ other) = frame ≡ other
AgreeBut (suc place) (v ∷ frame) (w ∷ other) = (v ≡ w) × AgreeBut place frame other
