-- Items of joined pieces.
use Rattle.std.proofs.Common.{◌≡◌, ◌∙◌, ℕ, zero, suc, ◌-◌, ◌<◌, ◌≤◌, List, [], ◌∷◌, ◌++◌, length, reverse, take, refl, sym, ap, arith}
use Rattle.std.specs.Prelude.{drop}
use Rattle.std.specs.List.{slice_get}
use Rattle.std.proofs.lemmas.List.{reverse-append, take-append-drop}

pub slice_get-first : {X : Type 0} (xs ys : List X) (i : ℕ) → i < length xs → slice_get (xs ++ ys) i ≡ slice_get xs i
slice_get-first [] ys i less = absurd (omega (arith, less))
slice_get-first (x ∷ xs) ys zero less = refl
slice_get-first (x ∷ xs) ys (suc i) less = slice_get-first xs ys i (omega (arith, less))

pub slice_get-behind : {X : Type 0} (xs ys : List X) (i : ℕ) → length xs ≤ i → slice_get (xs ++ ys) i ≡ slice_get ys (i - length xs)
slice_get-behind [] ys i less = ap (slice_get ys) (let same : i ≡ i - 0 = omega arith in same)
slice_get-behind (x ∷ xs) ys zero less = absurd (omega (arith, less))
slice_get-behind (x ∷ xs) ys (suc i) less = slice_get-behind xs ys i (omega (arith, less)) ∙ ap (slice_get ys) (omega arith)

-- items whose lower ones are apart from the upper ones
pub halves : {X : Type 0} (n : ℕ) (xs : List X) → reverse (drop n xs) ++ reverse (take n xs) ≡ reverse xs
halves n xs = sym (reverse-append (take n xs) (drop n xs)) ∙ ap reverse (take-append-drop n xs)
