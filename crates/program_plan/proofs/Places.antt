-- Places in a frame, found by halves.
use Rattle.std.proofs.Common.{◌≡◌, ℕ, zero, suc, ◌+◌, ◌≤◌, Bool, true, false, List, [], ◌∷◌, length, subst, arith}
use Rattle.std.specs.Prelude.{count_by, All, Some}
use Rattle.std.specs.Prelude.{cond}
use Rattle.std.specs.List.{AllWithin, slice_get}
use Rattle.std.proofs.lemmas.Option.{get_or_from_slice_get, slice_get_within}
use Rattle.std.proofs.lemmas.List.Elements.{All-get_or}
use Rattle.std.proofs.lemmas.List.Sums.{sum_by-cons}

count_by-cons : {X : Type 0} (p : X → Bool) (x : X) (xs : List X) (b : Bool) → p x ≡ b → count_by p (x ∷ xs) ≡ cond b 1 0 + count_by p xs
count_by-cons p x xs b here = subst (λ (t : Bool). count_by p (x ∷ xs) ≡ cond t 1 0 + count_by p xs) here (sum_by-cons (λ y. cond (p y) 1 0) x xs)

-- where the first i pass the test and the others fail it, i pass it
pub count_by-point : {X : Type 0} (p : X → Bool) (xs : List X) (i : ℕ) → i ≤ length xs
    → AllWithin (λ x. p x ≡ true) xs 0 i → AllWithin (λ x. p x ≡ false) xs i (length xs) → i ≡ count_by p xs
count_by-point p [] i le passed failed = omega arith
count_by-point p (x ∷ xs) zero le passed failed =
    let here = count_by-cons p x xs false (failed 0 x (omega arith) (omega arith)) in
    let rest = count_by-point p xs 0 (omega arith) (λ k d low high. absurd (omega arith)) (λ k d low high. failed (suc k) d (omega arith) (omega arith)) in
    omega arith
count_by-point p (x ∷ xs) (suc i) le passed failed =
    let here = count_by-cons p x xs true (passed 0 x (omega arith) (omega arith)) in
    let rest = count_by-point p xs i (omega arith) (λ k d low high. passed (suc k) d (omega arith) (omega arith)) (λ k d low high. failed (suc k) d (omega arith) (omega arith)) in
    omega arith

-- what holds of all holds of the one that is found
pub All-found : {X : Type 0} (P : X → Type 0) (xs : List X) (k : ℕ) (x : X) → All P xs → slice_get xs k ≡ Some x → P x
All-found P xs k x all found =
    subst P (get_or_from_slice_get xs k x x found) (All-get_or P xs k x (slice_get_within xs k x found) all)
