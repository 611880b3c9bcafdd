-- Frames that differ at most at one place.
use Rattle.std.proofs.Common.{◌≡◌, ℕ, zero, suc, ◌<◌, get_or, List, [], ◌∷◌, length, set, refl, sym, ap}
use Rattle.std.specs.Prelude.{unwrap_or}
use Rattle.std.proofs.lemmas.Option.{slice_get_read}
use Rattle.value_core.specs.declared.value.Value.{Value}
use Rattle.value_core.specs.declared.value.Value.TheVariants as value
use Rattle.serial_model.specs.Operation.{local_value}
use Rattle.eval_frames.specs.Agreeing.{AgreeBut}

-- a frame and itself
pub agree-same : (place : ℕ) (frame : List Value) → AgreeBut place frame frame
agree-same place [] = tt
agree-same zero (v ∷ frame) = refl
agree-same (suc place) (v ∷ frame) = (refl, agree-same place frame)

-- a frame with another value at the place
pub agree-set : (place : ℕ) (frame : List Value) (w : Value) → AgreeBut place frame (set frame place w)
agree-set zero [] w = tt
agree-set (suc place) [] w = tt
agree-set zero (v ∷ frame) w = refl
agree-set (suc place) (v ∷ frame) w = (refl, agree-set place frame w)

-- ---- what stands at a place
pub local-read : (values : List Value) (place : ℕ) (x : Value) → place < length values → x ≡ get_or values place x → x ≡ local_value values place
local-read values place x within is = sym (ap (λ found. unwrap_or found value.Nil) (slice_get_read values (length values) place x refl within is))
