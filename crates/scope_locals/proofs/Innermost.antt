-- The innermost local with a name, where one more is bound.
use Rattle.std.proofs.Common.{◌≡◌, ℕ, suc, Bool, true, false, if◌then◌else◌, List, [], ◌∷◌, ◌++◌, length, Option, None, Some, refl}
use Rattle.std.specs.Str.{bytes_eq}
use Rattle.scope_locals.specs.Innermost.{innermost, deeper}

abbrev pub pushed : Bool → ℕ → Option ℕ → Option ℕ
pushed true level outside = Some level
pushed false level outside = outside

deeper_pushed : (b : Bool) (n : ℕ) (outside here : Option ℕ) → deeper (pushed b n outside) here ≡ pushed b (suc n) (deeper outside here)
deeper_pushed true n outside here = refl
deeper_pushed false n outside here = refl

last_here : (b : Bool) → deeper None (if b then Some 0 else None) ≡ pushed b 0 None
last_here true = refl
last_here false = refl

pub innermost_push : (xs : List (List ℕ)) (x name : List ℕ) → innermost (xs ++ x ∷ []) name ≡ pushed (bytes_eq x name) (length xs) (innermost xs name)
innermost_push [] x name = last_here (bytes_eq x name)
innermost_push (y ∷ xs) x name = rw (innermost_push xs x name) (deeper_pushed (bytes_eq x name) (length xs) (innermost xs name) (if bytes_eq y name then Some 0 else None))
