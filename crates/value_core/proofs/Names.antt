-- After-order place by place, and the text of a name both ways.
use Rattle.std.proofs.Common.{◌≡◌, ◌≢◌, ℕ, zero, suc, ◌+◌, ◌-◌, ◌*◌, ◌<◌, ◌≤◌, ◌^◌, min, Bool, true, false, List, [], ◌∷◌, ◌++◌, length, map, take, drop, get_or, All, refl, sym, ap, subst, ◌∙◌, arith, rules, Option, Some, None, cond, not, length-append, inl, inr, append_assoc, append-nil, add-one, drop-cons}
use Rattle.std.specs.declared.cmp.Ordering.{Ordering}
use Rattle.std.specs.declared.cmp.Ordering.TheVariants.{Less, Equal, Greater}
use Rattle.std.specs.Ordering.{nat_cmp, ordering_then, is_ne}
use Rattle.std.specs.FinMap.{IsAntisymmetric, nat_cmp-IsAntisymmetric, slice_cmp-IsAntisymmetric}
use Rattle.std.specs.Fmt.{decimal}
use Rattle.std.specs.List.{join_with_byte, slice_split, onto_first, position, position_or_len}
use Rattle.std.proofs.lemmas.List.Splits.{slice_split_none, slice_split_at, slice_split_first, join_with_byte-slice_split}
use borrow.Author.Tests.{ltb-true, ltb-false}
use Rattle.std.proofs.lemmas.Bool.{cases_lt}
use Rattle.std.proofs.lemmas.Fmt.{decimal_is_IsNumeral, digits_value-decimal, decimal_injective}
use Rattle.std.proofs.lemmas.Str.Parse.{IsNumeralModel, numerals_by_fold, digit_at}
use Rattle.std.specs.Int.{IsInRange}
use Rattle.std.specs.Str.{all_ascii_digits}
use Rattle.std.specs.Str.Parse.{AllDigits}
use Rattle.std.proofs.lemmas.Bool.Decides.{nat_tests}
use Rattle.std.proofs.lemmas.List.Elements.{All-push}
use Rattle.std.proofs.lemmas.List.{map-append, take_all, get_or_default}
use Rattle.value_core.specs.Name.{after_cmp, name_text, IsTextOf}
pub use Rattle.value_core.specs.NameOrder.{after_cmp_is, after_cmp_total}
use Rattle.value_core.specs.NameText.{is_dot, read_on, WritesNumber}

-- ---- after-order
pub after_cmp-IsAntisymmetric : IsAntisymmetric after_cmp
after_cmp-IsAntisymmetric x y e =
    sym (slice_cmp-IsAntisymmetric (λ a b same. sym (nat_cmp-IsAntisymmetric b a same)) y x (sym (after_cmp_is x y) ∙ e))

-- what a unit or task makes, and all below that, comes before it
pub below_first : (p : List ℕ) (k : ℕ) (q : List ℕ) → after_cmp (p ++ k ∷ q) p ≡ Less
below_first [] k q = refl
below_first (x ∷ p) k q = ap (λ o. ordering_then o (after_cmp (p ++ k ∷ q) p)) (equal_itself x) ∙ below_first p k q
  where
    equal_itself : (x : ℕ) → nat_cmp x x ≡ Equal
    equal_itself x = grind (arith, nat_tests)

-- of two things that it makes the earlier one is first, with all below it
pub earlier_first : (p : List ℕ) (j k : ℕ) (q r : List ℕ) → j < k → after_cmp (p ++ j ∷ q) (p ++ k ∷ r) ≡ Less
earlier_first [] j k q r lt = ap (λ o. ordering_then o (after_cmp q r)) (smaller j k lt)
  where
    smaller : (j k : ℕ) → j < k → nat_cmp j k ≡ Less
    smaller j k lt = grind (arith, nat_tests)
earlier_first (x ∷ p) j k q r lt = ap (λ o. ordering_then o (after_cmp (p ++ j ∷ q) (p ++ k ∷ r))) (equal_itself x) ∙ earlier_first p j k q r lt
  where
    equal_itself : (x : ℕ) → nat_cmp x x ≡ Equal
    equal_itself x = grind (arith, nat_tests)

pub after_cmp_step : (x y : List ℕ) (i : ℕ) → i < length x → i < length y → after_cmp (drop i x) (drop i y) ≡ ordering_then (nat_cmp (get_or x i 0) (get_or y i 0)) (after_cmp (drop (i + 1) x) (drop (i + 1) y))
after_cmp_step x y i l m = rw add-one (λ j. after_cmp (drop-cons x i 0 l j) (drop-cons y i 0 m j))

longer : (n : ℕ) → nat_cmp (suc n) 0 ≡ Greater
longer n = grind (arith, nat_tests)

shorter : (n : ℕ) → nat_cmp 0 (suc n) ≡ Less
shorter n = grind (arith, nat_tests)

one_more : (m n : ℕ) → nat_cmp m n ≡ nat_cmp (suc m) (suc n)
one_more m n = grind (arith, nat_tests)

pub after_cmp_end : (x y : List ℕ) (i : ℕ) → i ≤ length x → i ≤ length y → min (length x) (length y) ≤ i → after_cmp (drop i x) (drop i y) ≡ nat_cmp (length y) (length x)
after_cmp_end [] [] zero l m e = refl
after_cmp_end [] [] (suc i) l m e = absurd (omega arith)
after_cmp_end [] (b ∷ y) zero l m e = sym (longer (length y))
after_cmp_end [] (b ∷ y) (suc i) l m e = absurd (omega arith)
after_cmp_end (a ∷ x) [] zero l m e = sym (shorter (length x))
after_cmp_end (a ∷ x) [] (suc i) l m e = absurd (omega arith)
after_cmp_end (a ∷ x) (b ∷ y) zero l m e = absurd (omega arith)
after_cmp_end (a ∷ x) (b ∷ y) (suc i) l m e = after_cmp_end x y i (omega arith) (omega arith) (omega arith) ∙ one_more (length y) (length x)

-- where a pair of numbers differs the answer is theirs
pub differing : (o : Ordering) → is_ne o ≡ true → (p : Ordering) → ordering_then o p ≡ o
differing Less e p = refl
differing Equal e p = cc
differing Greater e p = refl

pub tying : (o : Ordering) → is_ne o ≡ false → (p : Ordering) → ordering_then o p ≡ p
tying Less e p = cc
tying Equal e p = refl
tying Greater e p = cc

-- ---- the text of a name
-- the numbers after the first, each behind a dot
abbrev pub dotted : List ℕ → List ℕ
dotted [] = []
dotted (n ∷ ns) = 46 ∷ decimal n ++ dotted ns

pub name_text_is : (n : ℕ) (ns : List ℕ) → name_text (n ∷ ns) ≡ decimal n ++ dotted ns
name_text_is n [] = sym (append-nil (decimal n))
name_text_is n (m ∷ ns) = ap (λ t. decimal n ++ 46 ∷ t) (name_text_is m ns)

pub dotted_step : (ns : List ℕ) (i : ℕ) → i < length ns → dotted (drop i ns) ≡ 46 ∷ decimal (get_or ns i 0) ++ dotted (drop (i + 1) ns)
dotted_step ns i l = rw add-one (ap dotted (drop-cons ns i 0 l))

-- the first number is written, and the others follow
pub name_start : (ns t : List ℕ) → 0 < length ns → t ≡ decimal (get_or ns 0 0) → t ++ dotted (drop 0 (take (length ns - 1) (drop 1 ns))) ≡ name_text ns
name_start [] t l e = absurd (omega arith)
name_start (n ∷ ns) t l e = rw (take_all (suc (length ns) - 1) ns (omega arith)) ((λ j. e j ++ dotted ns) ∙ sym (name_text_is n ns))

-- ---- a name that is read
digits_are : IsNumeralModel (λ ds. all_ascii_digits ds ≡ true) (read_on 0)
digits_are = numerals_by_fold _ (search rules) read_on (search rules)

pub read_on-decimal : (n : ℕ) → n < 2 ^ 32 → read_on 0 (decimal n) ≡ n
read_on-decimal n small = digits_value-decimal digits_are n (omega arith)

read_on-ge : (n : ℕ) (cs : List ℕ) → n ≤ read_on n cs
read_on-ge n [] = omega arith
read_on-ge n (c ∷ cs) = omega (arith, read_on-ge (n * 10 + (c - 48)) cs)

-- a number past the range stays past it
pub read_on-capped : (n m : ℕ) (cs : List ℕ) → m ≡ min n 4294967295 → min (read_on m cs) 4294967295 ≡ min (read_on n cs) 4294967295
read_on-capped n m cs e = elim (cases_lt n 4294967295) [
  | inl low ↦ let same : m ≡ n = omega arith in ap (λ k. min (read_on k cs) 4294967295) same
  | inr high ↦ omega (arith, read_on-ge n cs, read_on-ge m cs)
]

other_byte : (c : ℕ) → IsInRange 48 57 c → is_dot c ≡ false
other_byte c in_range = grind (arith, nat_tests)

not_dots : (ds : List ℕ) → AllDigits 10 ds → All (λ b. is_dot b ≡ false) ds
not_dots ds all k d lt =
    let digit = digit_at ds k all lt in
    rw (get_or_default ds k d 0 lt) (other_byte (get_or ds k 0) digit)

decimal_not_dots : (n : ℕ) → n < 2 ^ 32 → All (λ b. is_dot b ≡ false) (decimal n)
decimal_not_dots n small = not_dots (decimal n) ((decimal_is_IsNumeral n (omega arith)).0.1)

-- the pieces between the dots of a name's text are its numbers
pub pieces_of_text : (ns : List ℕ) → 0 < length ns → All (λ n. n < 2 ^ 32) ns → slice_split is_dot (name_text ns) ≡ map decimal ns
pieces_of_text [] l all = absurd (omega arith)
pieces_of_text (n ∷ []) l all = slice_split_none is_dot (decimal n) (decimal_not_dots n (all 0 0 (omega arith)))
pieces_of_text (n ∷ m ∷ ns) l all = slice_split_at is_dot (decimal n) 46 (name_text (m ∷ ns)) (decimal_not_dots n (all 0 0 (omega arith))) refl ∙ ap (λ t. decimal n ∷ t) (pieces_of_text (m ∷ ns) (omega arith) (λ k d lt. all (suc k) d (omega arith)))

-- the pieces after the first few: each further one is a number
piece_is_number : (xs : List (List ℕ)) (piece : List ℕ) (more : List (List ℕ)) (ns : List ℕ) → All (λ n. n < 2 ^ 32) ns → map decimal ns ≡ xs ++ piece ∷ more → (n : ℕ) × (n < 2 ^ 32) × (decimal n ≡ piece)
piece_is_number [] piece more [] all e = cc
piece_is_number [] piece more (n ∷ ns) all e = let first : decimal n ≡ piece = cc in (n, all 0 0 (omega arith), first)
piece_is_number (x ∷ xs) piece more [] all e = cc
piece_is_number (x ∷ xs) piece more (n ∷ ns) all e = let rest : map decimal ns ≡ xs ++ piece ∷ more = cc in piece_is_number xs piece more ns (λ k d lt. all (suc k) d (omega arith)) rest

-- where a piece is no number the bytes are no name
pub no_name : (bytes : List ℕ) (done : List ℕ) (piece : List ℕ) (more : List (List ℕ)) → slice_split is_dot bytes ≡ map decimal done ++ piece ∷ more → ((n : ℕ) → n < 2 ^ 32 → decimal n ≢ piece) → (ns : List ℕ) → ¬ (IsTextOf ns bytes)
no_name bytes done piece more e none ns is =
    let pieces : map decimal ns ≡ map decimal done ++ piece ∷ more = sym (pieces_of_text ns is.not_empty is.in_range) ∙ ap (slice_split is_dot) is.spelled ∙ e in
    let found = piece_is_number (map decimal done) piece more ns is.in_range pieces in
    none found.0 found.1 found.2

-- where all pieces are numbers the bytes are their name
pub a_name : (bytes : List ℕ) (ns : List ℕ) → slice_split is_dot bytes ≡ map decimal ns → 0 < length ns → All (λ n. n < 2 ^ 32) ns → IsTextOf ns bytes
a_name bytes ns e l all = record { not_empty = l; in_range = all; spelled = ap (join_with_byte 46) (sym e) ∙ join_with_byte-slice_split 46 bytes }

-- a name is written in one way
pub text_once : (ms ns bytes : List ℕ) → IsTextOf ms bytes → IsTextOf ns bytes → ms ≡ ns
text_once ms ns bytes p q = numbers_of ms ns p.in_range q.in_range (sym (pieces_of_text ms p.not_empty p.in_range) ∙ ap (slice_split is_dot) (p.spelled ∙ sym q.spelled) ∙ pieces_of_text ns q.not_empty q.in_range)
  where
    numbers_of : (ms ns : List ℕ) → All (λ n. n < 2 ^ 32) ms → All (λ n. n < 2 ^ 32) ns → map decimal ms ≡ map decimal ns → ms ≡ ns
    numbers_of [] [] p q e = refl
    numbers_of [] (n ∷ ns) p q e = cc
    numbers_of (m ∷ ms) [] p q e = cc
    numbers_of (m ∷ ms) (n ∷ ns) p q e =
        let first : decimal m ≡ decimal n = cc in
        let rest : map decimal ms ≡ map decimal ns = cc in
        let small_m = p 0 0 (omega arith) in
        let small_n = q 0 0 (omega arith) in
        λ i. decimal_injective m n (omega arith) (omega arith) first i ∷ numbers_of ms ns (λ k d lt. p (suc k) d (omega arith)) (λ k d lt. q (suc k) d (omega arith)) rest i

chosen : (b : Bool) (p dot : ℕ) → Some dot ≡ cond b (Some p) None → (b ≡ true) × (dot ≡ p)
chosen true p dot e = let same : dot ≡ p = cc in (refl, same)
chosen false p dot e = cc

-- the bytes up to the first dot are the first piece
pub dot_in_range : (bytes : List ℕ) (dot : ℕ) → Some dot ≡ position is_dot bytes → dot < length bytes
dot_in_range bytes dot e = let at = chosen _ _ _ e in let lt = ltb-true _ _ at.0 in omega arith

pub first_piece : (bytes : List ℕ) (dot : ℕ) → Some dot ≡ position is_dot bytes → slice_split is_dot bytes ≡ take dot bytes ∷ slice_split is_dot (drop (dot + 1) bytes)
first_piece bytes dot e =
    let at = chosen _ _ _ e in
    rw at.1 (slice_split_first is_dot bytes 0 (ltb-true _ _ at.0))

not_chosen : (b : Bool) (p : ℕ) → None ≡ cond b (Some p) None → b ≡ false
not_chosen true p e = cc
not_chosen false p e = refl

no_dot : (bytes : List ℕ) → length bytes ≤ position_or_len is_dot bytes → slice_split is_dot bytes ≡ bytes ∷ []
no_dot [] le = refl
no_dot (b ∷ bytes) le =
    elim (is_dot b) as (λ t. (suc (length bytes) ≤ cond (not t) (1 + position_or_len is_dot bytes) 0) → cond t ([] ∷ slice_split is_dot bytes) (onto_first b (slice_split is_dot bytes)) ≡ (b ∷ bytes) ∷ []) [
      | true ↦ λ far. absurd (omega arith)
      | false ↦ λ far. ap (onto_first b) (no_dot bytes (omega arith))
    ] le

pub one_piece : (bytes : List ℕ) → None ≡ position is_dot bytes → slice_split is_dot bytes ≡ bytes ∷ []
one_piece bytes e = no_dot bytes (ltb-false _ _ (not_chosen _ _ e))

-- one more piece is a number
pub one_more_piece : (bytes rest done new : List ℕ) (dot : ℕ) → slice_split is_dot bytes ≡ map decimal done ++ slice_split is_dot rest → Some dot ≡ position is_dot rest → WritesNumber done (take dot rest) new
    → slice_split is_dot bytes ≡ map decimal new ++ slice_split is_dot (drop (dot + 1) rest)
one_more_piece bytes rest done new dot e at w =
    let pushed : map decimal new ≡ map decimal done ++ take dot rest ∷ [] = ap (map decimal) w.pushed ∙ map-append decimal done (w.number ∷ []) ∙ ap (λ t. map decimal done ++ t ∷ []) w.written in
    e ∙ ap (λ t. map decimal done ++ t) (first_piece rest dot at) ∙ sym (append_assoc (map decimal done) (take dot rest ∷ []) (slice_split is_dot (drop (dot + 1) rest))) ∙ ap (λ t. t ++ slice_split is_dot (drop (dot + 1) rest)) (sym pushed)

pub one_more_small : (old piece new : List ℕ) → All (λ n. n < 2 ^ 32) old → WritesNumber old piece new → All (λ n. n < 2 ^ 32) new
one_more_small old piece new all w = subst (All (λ n. n < 2 ^ 32)) (sym w.pushed) (All-push (λ n. n < 2 ^ 32) old w.number all w.small)

-- the last piece is a number
pub last_piece : (bytes rest done new : List ℕ) → slice_split is_dot bytes ≡ map decimal done ++ slice_split is_dot rest → None ≡ position is_dot rest → All (λ n. n < 2 ^ 32) done → WritesNumber done rest new → IsTextOf new bytes
last_piece bytes rest done new e none all w =
    let pushed : map decimal new ≡ map decimal done ++ rest ∷ [] = ap (map decimal) w.pushed ∙ map-append decimal done (w.number ∷ []) ∙ ap (λ t. map decimal done ++ t ∷ []) w.written in
    a_name bytes new (e ∙ ap (λ t. map decimal done ++ t) (one_piece rest none) ∙ sym pushed) (rw (ap length w.pushed) (omega (arith, length-append done (w.number ∷ [])))) (one_more_small done rest new all w)

pub read_on_step : (bytes : List ℕ) (n i : ℕ) → i < length bytes → read_on n (drop i bytes) ≡ read_on (n * 10 + (get_or bytes i 0 - 48)) (drop (i + 1) bytes)
read_on_step bytes n i lt = rw add-one (ap (read_on n) (drop-cons bytes i 0 lt))

pub no_name_at : (bytes rest done : List ℕ) (dot : ℕ) → slice_split is_dot bytes ≡ map decimal done ++ slice_split is_dot rest → Some dot ≡ position is_dot rest → ((n : ℕ) → n < 2 ^ 32 → decimal n ≢ take dot rest) → (ns : List ℕ) → ¬ (IsTextOf ns bytes)
no_name_at bytes rest done dot e at none = no_name bytes done (take dot rest) (slice_split is_dot (drop (dot + 1) rest)) (e ∙ ap (λ t. map decimal done ++ t) (first_piece rest dot at)) none

pub no_name_last : (bytes rest done : List ℕ) → slice_split is_dot bytes ≡ map decimal done ++ slice_split is_dot rest → None ≡ position is_dot rest → ((n : ℕ) → n < 2 ^ 32 → decimal n ≢ rest) → (ns : List ℕ) → ¬ (IsTextOf ns bytes)
no_name_last bytes rest done e at none = no_name bytes done rest [] (e ∙ ap (λ t. map decimal done ++ t) (one_piece rest at)) none

pub no_dot_found : (o : Option ℕ) → ((x : ℕ) → o ≢ Some x) → (bytes : List ℕ) → o ≡ position is_dot bytes → None ≡ position is_dot bytes
no_dot_found None h bytes e = e
no_dot_found (Some x) h bytes e = absurd (h x refl)
