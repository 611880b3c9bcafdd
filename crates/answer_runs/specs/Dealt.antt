-- Answers that are dealt out to lanes in turn.
use Rattle.std.specs.Prelude.{◌≡◌, ℕ, zero, suc, List, [], ◌∷◌, ◌++◌, length, ◌+◌, ◌-◌}

-- how many lanes there are where so many items were dealt out
abbrev pub many_lanes : ℕ → ℕ
many_lanes zero = 0
many_lanes (suc n) = 12

module _ {X : Type 0} where
  -- So many items as they were dealt out, the last one first: that of the first lane was dealt last, and that of the lane behind it
  -- before. A lane has its last one first.
  abbrev pub woven : ℕ → List (List X) → List X
  woven zero lanes = []
  woven (suc n) [] = []
  woven (suc n) ([] ∷ lanes) = []
  woven (suc n) ((x ∷ lane) ∷ lanes) = x ∷ woven n (lanes ++ lane ∷ [])

  -- so many items and no more were dealt out to the lanes
  abbrev pub IsDealt : ℕ → List (List X) → Type 0
  IsDealt zero [] = Unit {0}
  IsDealt zero (lane ∷ lanes) = (lane ≡ []) × IsDealt zero lanes
  IsDealt (suc n) [] = ⊥
  IsDealt (suc n) ([] ∷ lanes) = ⊥
  IsDealt (suc n) ((x ∷ lane) ∷ lanes) = IsDealt n (lanes ++ lane ∷ [])

  -- no lane has anything
  abbrev pub empty_lanes : ℕ → List (List X)
  empty_lanes zero = []
  empty_lanes (suc n) = [] ∷ empty_lanes n

  -- the lanes as they are dealt out to, which are made where there are none yet
  abbrev pub opened : List (List X) → List (List X)
  opened [] = empty_lanes 12
  opened (lane ∷ lanes) = lane ∷ lanes

  -- the newer lanes are the older ones with the item in the last one, which is the first one then
  abbrev pub IsPassedOn : X → List (List X) → List (List X) → Type 0
  IsPassedOn x old new = (front : List (List X)) × (last : List X) × (old ≡ front ++ last ∷ []) × (new ≡ (x ∷ last) ∷ front)

  -- so many items were dealt out to the lanes
  pub record AreLanes (count : ℕ) (lanes : List (List X)) : Type 0 where
    pub dealt : IsDealt count lanes
    pub many : length lanes ≡ many_lanes count

  -- of so many items the first 24, the last one first, and the lanes to which the others were dealt out
  pub record AreKept (count : ℕ) (first : List X) (lanes : List (List X)) : Type 0 where
    pub all : length first + (count - 24) ≡ count
    pub others : AreLanes (count - 24) lanes
