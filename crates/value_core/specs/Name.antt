-- Names: a tree of numbers, its after-order, and how a name is written.
use Rattle.std.specs.Prelude.{◌≡◌, ℕ, ◌<◌, ◌^◌, List, [], ◌∷◌, length, map, All, decimal}
use Rattle.std.specs.List.{join_with_byte}
use Rattle.std.specs.declared.cmp.Ordering.{Ordering}
use Rattle.std.specs.declared.cmp.Ordering.TheVariants.{Less, Equal, Greater}
use Rattle.std.specs.Ordering.{nat_cmp, ordering_then}

-- Post-order in the tree of names: at the first place in which two names differ the smaller number is first, and a name
-- comes after all that begin with it.
abbrev pub after_cmp : List ℕ → List ℕ → Ordering
after_cmp [] [] = Equal
after_cmp [] (y ∷ ys) = Greater
after_cmp (x ∷ xs) [] = Less
after_cmp (x ∷ xs) (y ∷ ys) = ordering_then (nat_cmp x y) (after_cmp xs ys)

-- the numbers of a name in decimal, with dots between them
abbrev pub name_text : List ℕ → List ℕ
name_text numbers = join_with_byte 46 (map decimal numbers)

-- the bytes are the text of the name with these numbers: one or more, each below 2 ^ 32
pub record IsTextOf (numbers : List ℕ) (bytes : List ℕ) : Type 0 where
  pub not_empty : 0 < length numbers
  pub in_range : All (λ n. n < 2 ^ 32) numbers
  pub spelled : name_text numbers ≡ bytes
