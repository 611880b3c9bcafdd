-- Rows and functions of a table that stand at given places.
use Rattle.std.proofs.Common.{◌≡◌, ◌∙◌, ℕ, suc, ◌+◌, List, [], ◌∷◌, ◌++◌, length, sym, ap, subst, arith, append_assoc, length-append}
use Rattle.std.specs.Prelude.{Some}
use Rattle.std.specs.List.{slice_get}
use Rattle.core_syntax.specs.declared.function.Function.{Function}
use Rattle.core_syntax.specs.declared.row.Row.{Row}
use Rattle.core_syntax.proofs.Appends.{slice_get-append_left}

-- behind some elements stand the others
pub slice_get-append_right : {X : Type 0} (xs ys : List X) (k : ℕ) → slice_get (xs ++ ys) (length xs + k) ≡ slice_get ys k
slice_get-append_right [] ys k = let same : 0 + k ≡ k = omega arith in ap (slice_get ys) same
slice_get-append_right (x ∷ xs) ys k =
    let same : suc (length xs) + k ≡ suc (length xs + k) = omega arith in
    ap (slice_get (x ∷ (xs ++ ys))) same ∙ slice_get-append_right xs ys k

-- from a place on the rows are there
pub record HasRows (nodes : List Row) (from : ℕ) (rows : List Row) : Type 0 where
  pub there : (k : ℕ) (row : Row) → slice_get rows k ≡ Some row → slice_get nodes (from + k) ≡ Some row

pub rows_first : {nodes : List Row} (from : ℕ) (xs ys : List Row) → HasRows nodes from (xs ++ ys) → HasRows nodes from xs
rows_first from xs ys has = record { there = λ k row is. has.there k row (slice_get-append_left xs ys k row is) }

pub rows_second : {nodes : List Row} (from : ℕ) (xs ys : List Row) → HasRows nodes from (xs ++ ys) → HasRows nodes (from + length xs) ys
rows_second {nodes} from xs ys has = record {
  there = λ k row is.
      let same : from + (length xs + k) ≡ from + length xs + k = omega arith in
      ap (slice_get nodes) (sym same) ∙ has.there (length xs + k) row (slice_get-append_right xs ys k ∙ is);
}

-- the rows behind some and in front of others
pub rows_between : (before rows behind : List Row) → HasRows (before ++ (rows ++ behind)) (length before) rows
rows_between before rows behind = record {
  there = λ k row is. slice_get-append_right before (rows ++ behind) k ∙ slice_get-append_left rows behind k row is;
}

-- as far as both lists go, each function is at its number
abbrev pub HaveNumbers : List Function → List ℕ → List Function → Type 0
HaveNumbers all [] functions = Unit {0}
HaveNumbers all (number ∷ numbers) [] = Unit {0}
HaveNumbers all (number ∷ numbers) (function ∷ functions) = (slice_get all number ≡ Some function) × HaveNumbers all numbers functions

-- each of the numbers follows the one before
abbrev pub Follow : ℕ → ℕ → List ℕ → Type 0
Follow from to [] = from ≡ to
Follow from to (number ∷ numbers) = (number ≡ from) × Follow (from + 1) to numbers

pub Follow-append : (from mid to : ℕ) (xs ys : List ℕ) → Follow from mid xs → Follow mid to ys → Follow from to (xs ++ ys)
Follow-append from mid to [] ys first second = subst (λ (n : ℕ). Follow n to ys) (sym first) second
Follow-append from mid to (x ∷ xs) ys first second = (first.0, Follow-append (from + 1) mid to xs ys first.1 second)

-- functions behind others have the numbers that follow
pub numbers_behind : (others functions : List Function) (to : ℕ) (numbers : List ℕ) → Follow (length others) to numbers → HaveNumbers (others ++ functions) numbers functions
numbers_behind others functions to [] follow = tt
numbers_behind others [] to (number ∷ numbers) follow = tt
numbers_behind others (function ∷ functions) to (number ∷ numbers) follow =
    let longer : length others + 1 ≡ length (others ++ function ∷ []) = sym (length-append others (function ∷ [])) in
    let here : slice_get (others ++ function ∷ functions) (length others + 0) ≡ Some function = slice_get-append_right others (function ∷ functions) 0 in
    let none : length others + 0 ≡ length others = omega arith in
    let rest = numbers_behind (others ++ function ∷ []) functions to numbers (subst (λ (n : ℕ). Follow n to numbers) longer follow.1) in (
      ap (slice_get (others ++ function ∷ functions)) (follow.0 ∙ sym none) ∙ here,
      subst (λ (l : List Function). HaveNumbers l numbers functions) (append_assoc others (function ∷ []) functions) rest,
    )
