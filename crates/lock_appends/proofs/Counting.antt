-- How often numbers stand in lists.
use Rattle.std.proofs.Common.{◌≡◌, ℕ, ◌+◌, ◌≤◌, ◌==◌, List, [], ◌∷◌, length, cond, subst, arith}
use Rattle.std.proofs.lemmas.Grind.{common_steps}
use Rattle.std.proofs.lemmas.List.Sums.{sum_by-append}
use mathlib.Core.List.{IsPrefix}
use Rattle.lock_appends.specs.Counts.{count_of, HasExactly}

-- a list that goes on from another has each number as often, or more
pub count_of_prefix : (n : ℕ) (xs ys : List ℕ) → IsPrefix xs ys → count_of n xs ≤ count_of n ys
count_of_prefix n xs ys p = subst (λ (zs : List ℕ). count_of n xs ≤ count_of n zs) p.1 (omega (arith, sum_by-append (λ (x : ℕ). cond (x == n) 1 0) xs p.0))

-- a number is one of four at most
one_of_four : (x : ℕ) → cond (x == 1) 1 0 + cond (x == 2) 1 0 + cond (x == 3) 1 0 + cond (x == 4) 1 0 ≤ 1
one_of_four x = grind (arith, common_steps)

-- so these four stand in a list no oftener than it is long
within : (xs : List ℕ) → count_of 1 xs + count_of 2 xs + count_of 3 xs + count_of 4 xs ≤ length xs
within [] = omega arith
within (x ∷ xs) =
    let one : count_of 1 (x ∷ xs) ≡ (0 + cond (x == 1) 1 0) + count_of 1 xs = sum_by-append (λ (y : ℕ). cond (y == 1) 1 0) (x ∷ []) xs in
    let two : count_of 2 (x ∷ xs) ≡ (0 + cond (x == 2) 1 0) + count_of 2 xs = sum_by-append (λ (y : ℕ). cond (y == 2) 1 0) (x ∷ []) xs in
    let three : count_of 3 (x ∷ xs) ≡ (0 + cond (x == 3) 1 0) + count_of 3 xs = sum_by-append (λ (y : ℕ). cond (y == 3) 1 0) (x ∷ []) xs in
    let four : count_of 4 (x ∷ xs) ≡ (0 + cond (x == 4) 1 0) + count_of 4 xs = sum_by-append (λ (y : ℕ). cond (y == 4) 1 0) (x ∷ []) xs in
    omega (arith, one, two, three, four, one_of_four x, within xs)

-- two numbers that were seen so often, where nothing else can stand in the list
pub exactly_two : (times amount : ℕ) (seen xs : List ℕ) → (times ≤ count_of 1 seen) × (times ≤ count_of 2 seen) → IsPrefix seen xs → length xs ≡ amount → amount ≡ times + times
    → HasExactly (1 ∷ 2 ∷ []) times xs
exactly_two times amount seen xs counted on len sum =
    let ones = count_of_prefix 1 seen xs on in
    let twos = count_of_prefix 2 seen xs on in
    let one : count_of 1 xs ≡ times = omega (arith, within xs, ones, twos, counted.0, counted.1, len, sum) in
    let two : count_of 2 xs ≡ times = omega (arith, within xs, ones, twos, counted.0, counted.1, len, sum) in
    ((one, (two, tt)), omega (arith, len, sum))

-- and four
pub exactly_four : (times amount : ℕ) (seen xs : List ℕ) → (times ≤ count_of 1 seen) × (times ≤ count_of 2 seen) → (times ≤ count_of 3 seen) × (times ≤ count_of 4 seen)
    → IsPrefix seen xs → length xs ≡ amount → amount ≡ (times + times) + (times + times) → HasExactly (1 ∷ 2 ∷ 3 ∷ 4 ∷ []) times xs
exactly_four times amount seen xs low high on len sum =
    let ones = count_of_prefix 1 seen xs on in
    let twos = count_of_prefix 2 seen xs on in
    let threes = count_of_prefix 3 seen xs on in
    let fours = count_of_prefix 4 seen xs on in
    let one : count_of 1 xs ≡ times = omega (arith, within xs, ones, twos, threes, fours, low.0, low.1, high.0, high.1, len, sum) in
    let two : count_of 2 xs ≡ times = omega (arith, within xs, ones, twos, threes, fours, low.0, low.1, high.0, high.1, len, sum) in
    let three : count_of 3 xs ≡ times = omega (arith, within xs, ones, twos, threes, fours, low.0, low.1, high.0, high.1, len, sum) in
    let four : count_of 4 xs ≡ times = omega (arith, within xs, ones, twos, threes, fours, low.0, low.1, high.0, high.1, len, sum) in
    ((one, (two, (three, (four, tt)))), omega (arith, len, sum))
