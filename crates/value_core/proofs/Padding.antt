-- A few numbers in their places: how they are compared, and how one more is put behind them.
use Rattle.std.proofs.Common.{◌≡◌, ℕ, zero, suc, ◌+◌, ◌<◌, ◌≤◌, ◌^◌, List, [], ◌∷◌, ◌++◌, length, take, All, refl, sym, ap, ap₂, subst, ◌∙◌, arith, slice_set}
use Rattle.std.proofs.lemmas.List.Elements.{All-push}
use Rattle.std.proofs.lemmas.List.{length-append}
use Rattle.std.specs.declared.cmp.Ordering.{Ordering}
use Rattle.std.specs.declared.cmp.Ordering.TheVariants.{Less, Equal, Greater}
use Rattle.std.specs.Ordering.{nat_cmp, ordering_then}
use Rattle.std.proofs.lemmas.Bool.Decides.{nat_tests}
use Rattle.value_core.specs.Few.{IsFew, padded}
use Rattle.value_core.specs.Name.{after_cmp}

-- each number is at most the greatest
abbrev pub Bounded : List ℕ → Type 0
Bounded [] = Unit {0}
Bounded (n ∷ ns) = (n ≤ 4294967295) × Bounded ns

bounded : (ns : List ℕ) → All (λ n. n < 2 ^ 32) ns → Bounded ns
bounded [] all = record {}
bounded (n ∷ ns) all = (omega (arith, all 0 0 (omega arith)), bounded ns (λ k d lt. all (suc k) d (omega (arith, lt))))

-- ---- orderings
then-assoc : (a b c : Ordering) → ordering_then a (ordering_then b c) ≡ ordering_then (ordering_then a b) c
then-assoc Less b c = refl
then-assoc Equal b c = refl
then-assoc Greater b c = refl

one_more : (m n : ℕ) → nat_cmp m n ≡ nat_cmp (suc m) (suc n)
one_more m n = grind (arith, nat_tests)

equal_itself : (n : ℕ) → nat_cmp n n ≡ Equal
equal_itself n = grind (arith, nat_tests)

longer : (n : ℕ) → nat_cmp (suc n) 0 ≡ Greater
longer n = grind (arith, nat_tests)

shorter : (n : ℕ) → nat_cmp 0 (suc n) ≡ Less
shorter n = grind (arith, nat_tests)

-- the greatest number stands behind a number, or is it
from_above : (y : ℕ) → y ≤ 4294967295 → (o : Ordering) → ordering_then o Greater ≡ Greater → ordering_then (ordering_then (nat_cmp 4294967295 y) o) Greater ≡ Greater
from_above y le o rest = on (nat_cmp 4294967295 y) refl
  where
    never : nat_cmp 4294967295 y ≡ Less → ⊥
    never is = grind (arith, nat_tests, is, le)

    on : (p : Ordering) → nat_cmp 4294967295 y ≡ p → ordering_then (ordering_then p o) Greater ≡ Greater
    on Less is = absurd (never is)
    on Equal is = rest
    on Greater is = refl

from_below : (x : ℕ) → x ≤ 4294967295 → (o : Ordering) → ordering_then o Less ≡ Less → ordering_then (ordering_then (nat_cmp x 4294967295) o) Less ≡ Less
from_below x le o rest = on (nat_cmp x 4294967295) refl
  where
    never : nat_cmp x 4294967295 ≡ Greater → ⊥
    never is = grind (arith, nat_tests, is, le)

    on : (p : Ordering) → nat_cmp x 4294967295 ≡ p → ordering_then (ordering_then p o) Less ≡ Less
    on Less is = refl
    on Equal is = rest
    on Greater is = absurd (never is)

-- ---- how they are compared
-- what begins with the other comes first
behind : (room : ℕ) (ys : List ℕ) → Bounded ys → ordering_then (after_cmp (padded room []) (padded room ys)) Greater ≡ Greater
behind zero ys small = refl
behind (suc room) [] small = from_above 4294967295 (omega arith) (after_cmp (padded room []) (padded room [])) (behind room [] small)
behind (suc room) (y ∷ ys) small = from_above y small.0 (after_cmp (padded room []) (padded room ys)) (behind room ys small.1)

before : (room : ℕ) (xs : List ℕ) → Bounded xs → ordering_then (after_cmp (padded room xs) (padded room [])) Less ≡ Less
before zero xs small = refl
before (suc room) [] small = from_below 4294967295 (omega arith) (after_cmp (padded room []) (padded room [])) (before room [] small)
before (suc room) (x ∷ xs) small = from_below x small.0 (after_cmp (padded room xs) (padded room [])) (before room xs small.1)

alike : (room : ℕ) → after_cmp (padded room []) (padded room []) ≡ Equal
alike zero = refl
alike (suc room) = ap (λ o. ordering_then o (after_cmp (padded room []) (padded room []))) (equal_itself 4294967295) ∙ alike room

-- place by place, and where the places are the same the longer one is first
pub padded_cmp : (room : ℕ) (xs ys : List ℕ) → Bounded xs → Bounded ys → length xs ≤ room → length ys ≤ room → after_cmp xs ys ≡ ordering_then (after_cmp (padded room xs) (padded room ys)) (nat_cmp (length ys) (length xs))
padded_cmp zero [] [] s t l m = refl
padded_cmp zero [] (y ∷ ys) s t l m = absurd (omega (arith, m))
padded_cmp zero (x ∷ xs) ys s t l m = absurd (omega (arith, l))
padded_cmp (suc room) [] [] s t l m = sym (ap (λ o. ordering_then o (nat_cmp 0 0)) (alike (suc room)))
padded_cmp (suc room) [] (y ∷ ys) s t l m = sym (ap (ordering_then (after_cmp (padded (suc room) []) (padded (suc room) (y ∷ ys)))) (longer (length ys)) ∙ behind (suc room) (y ∷ ys) t)
padded_cmp (suc room) (x ∷ xs) [] s t l m = sym (ap (ordering_then (after_cmp (padded (suc room) (x ∷ xs)) (padded (suc room) []))) (shorter (length xs)) ∙ before (suc room) (x ∷ xs) s)
padded_cmp (suc room) (x ∷ xs) (y ∷ ys) s t l m =
    ap (ordering_then (nat_cmp x y)) (padded_cmp room xs ys s.1 t.1 (omega (arith, l)) (omega (arith, m)) ∙ ap (ordering_then (after_cmp (padded room xs) (padded room ys))) (one_more (length ys) (length xs)))
    ∙ then-assoc (nat_cmp x y) (after_cmp (padded room xs) (padded room ys)) (nat_cmp (suc (length ys)) (suc (length xs)))

-- ---- one more
pub padded_set : (room : ℕ) (ns : List ℕ) (k : ℕ) → length ns < room → slice_set (padded room ns) (length ns) k ≡ padded room (ns ++ k ∷ [])
padded_set zero ns k l = absurd (omega (arith, l))
padded_set (suc room) [] k l = refl
padded_set (suc room) (n ∷ ns) k l = ap (λ ms. n ∷ ms) (padded_set room ns k (omega (arith, l)))

pub padded_take : (room : ℕ) (ns : List ℕ) → length ns ≤ room → take (length ns) (padded room ns) ≡ ns
padded_take room [] l = refl
padded_take zero (n ∷ ns) l = absurd (omega (arith, l))
padded_take (suc room) (n ∷ ns) l = ap (λ ms. n ∷ ms) (padded_take room ns (omega (arith, l)))

-- ---- the places
length-few : (places : List ℕ) (count : ℕ) → length places ≡ 4 → count ≤ 4 → length (take count places) ≡ count
length-few places count four within = length-take count places (omega (arith, four, within))
  where
    length-take : (n : ℕ) (ns : List ℕ) → n ≤ length ns → length (take n ns) ≡ n
    length-take zero ns l = refl
    length-take (suc n) [] l = absurd (omega (arith, l))
    length-take (suc n) (m ∷ ns) l = ap suc (length-take n ns (omega (arith, l)))

-- two lists in their places
pub few_cmp : (left right : List ℕ) (m n : ℕ) → length left ≡ 4 → length right ≡ 4 → IsFew left m → IsFew right n → after_cmp (take m left) (take n right) ≡ ordering_then (after_cmp left right) (nat_cmp n m)
few_cmp left right m n four four_too few other =
    padded_cmp 4 (take m left) (take n right) (bounded (take m left) few.small) (bounded (take n right) other.small) (omega (arith, a, few.within)) (omega (arith, b, other.within))
    ∙ ap₂ ordering_then (ap₂ after_cmp (sym few.are) (sym other.are)) (ap₂ nat_cmp b a)
  where
    a : length (take m left) ≡ m
    a = length-few left m four few.within

    b : length (take n right) ≡ n
    b = length-few right n four_too other.within

-- a number put into the place behind them
pub record IsPushed (places : List ℕ) (count number : ℕ) : Type 0 where
  pub numbers : take (count + 1) (slice_set places count number) ≡ take count places ++ number ∷ []
  pub few : IsFew (slice_set places count number) (count + 1)

pub few_push : (places : List ℕ) (count number : ℕ) → length places ≡ 4 → IsFew places count → count < 4 → number < 2 ^ 32 → IsPushed places count number
few_push places count number four few room small = record {
  numbers = numbers;
  few = record {
    within = omega (arith, room);
    are = set ∙ ap (padded 4) (sym numbers);
    small = subst (All (λ n. n < 2 ^ 32)) (sym numbers) (All-push (λ n. n < 2 ^ 32) ns number few.small small);
  };
}
  where
    ns : List ℕ
    ns = take count places

    so_many : length ns ≡ count
    so_many = length-few places count four few.within

    set : slice_set places count number ≡ padded 4 (ns ++ number ∷ [])
    set = ap₂ (λ ps k. slice_set ps k number) few.are (sym so_many) ∙ padded_set 4 ns number (omega (arith, so_many, room))

    numbers : take (count + 1) (slice_set places count number) ≡ ns ++ number ∷ []
    numbers =
        ap₂ take (sym (length-append ns (number ∷ []) ∙ ap (λ k. k + 1) so_many)) set
        ∙ padded_take 4 (ns ++ number ∷ []) (omega (arith, so_many, room, length-append ns (number ∷ [])))
