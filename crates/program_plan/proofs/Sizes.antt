-- The front of a list holds nothing greater.
use Rattle.std.proofs.Common.{ℕ, zero, suc, ◌≤◌, List, [], ◌∷◌, take, arith}
use denote.Param.Weighed.{most}

pub most-take : {X : Type 0} (size : X → ℕ) (k : ℕ) (xs : List X) → most size (take k xs) ≤ most size xs
most-take size zero xs = omega arith
most-take size (suc k) [] = omega arith
most-take size (suc k) (x ∷ xs) = let rest = most-take size k xs in omega arith
