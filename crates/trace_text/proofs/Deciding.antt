-- Whether a word is a number, a name, and so on: each is found out.
use Rattle.std.proofs.Common.{◌≡◌, ℕ, ◌+◌, ◌<◌, ◌≤◌, ◌^◌, Bool, true, false, List, [], ◌∷◌, ◌++◌, length, map, All, refl, sym, ap, ◌∙◌, arith, ◌⊎◌, inl, inr, append_assoc, append-nil, length-append}
use Rattle.std.specs.Fmt.{decimal}
use Rattle.std.specs.List.{slice_split}
use Rattle.std.specs.Prelude.{nat_lt}
use Rattle.std.specs.Str.{bytes_eq}
use Rattle.std.proofs.lemmas.Bool.Decides.{nat_tests}
use Rattle.std.proofs.lemmas.List.{map-append}
use Rattle.std.proofs.lemmas.List.Elements.{All-nil, All-push}
use Rattle.std.proofs.lemmas.List.Splits.{length-slice_split}
use Rattle.std.proofs.lemmas.Slice.Eq.{bytes_eq-Decides}
use Rattle.value_core.specs.NameText.{is_dot, read_on}
use Rattle.value_core.proofs.Names.{a_name, no_name, read_on-decimal}
use Rattle.trace_text.specs.Cut.{IsCut, is_mark, is_without}
use Rattle.trace_text.proofs.Cuts.{is_the_mark, without_more}
use Rattle.trace_text.proofs.Pairs.{IsPair, NeverHas, no_pair_first, no_pair_second, no_pair_uncut}
use Rattle.trace_text.proofs.Shapes.{IsNameWord, IsNumber}

-- it holds, or it does not
abbrev pub Either : Type 0 → Type 0
Either P = P ⊎ ¬ P

-- the test is one of the two
pub which : (b : Bool) → (b ≡ true) ⊎ (b ≡ false)
which true = inl refl
which false = inr refl

pub is_less : (m n : ℕ) → Either (m < n)
is_less m n = elim (which (nat_lt m n)) [ inl below ↦ inl (less m n below) | inr none ↦ inr (not_less m n none) ]
  where
    less : (m n : ℕ) → nat_lt m n ≡ true → m < n
    less m n e = grind (arith, nat_tests)

    not_less : (m n : ℕ) → nat_lt m n ≡ false → ¬ (m < n)
    not_less m n e = λ lt. let at_least : n ≤ m = grind (arith, nat_tests) in omega arith

pub is_same : (xs ys : List ℕ) → Either (xs ≡ ys)
is_same xs ys = elim (which (bytes_eq xs ys)) [ inl equal ↦ inl ((bytes_eq-Decides xs ys).0 equal) | inr none ↦ inr (λ e. let equal = (bytes_eq-Decides xs ys).1 e in cc) ]

-- ---- numbers
pub is_number : (word : List ℕ) → Either (IsNumber word)
is_number word = elim (is_less (read_on 0 word) 4294967296) [
  | inl small ↦ elim (is_same (decimal (read_on 0 word)) word) [
    | inl spelled ↦ inl (record { number = read_on 0 word; is = record { small = small; spelled = spelled } })
    | inr other ↦ inr (λ w. other (ap decimal (value_is w) ∙ w.is.spelled))
  ]
  | inr large ↦ inr (λ w. let value = value_is w in let small = w.is.small in large (omega arith))
]
  where
    value_is : (w : IsNumber word) → read_on 0 word ≡ w.number
    value_is w = ap (read_on 0) (sym w.is.spelled) ∙ read_on-decimal w.number w.is.small

-- ---- names
-- the pieces before these are numbers
abbrev From : List ℕ → List (List ℕ) → Type 0
From word pieces = (done : List ℕ) → All (λ n. n < 2 ^ 32) done → slice_split is_dot word ≡ map decimal done ++ pieces → 0 < length done + length pieces → Either (IsNameWord word)

named_more : (word piece : List ℕ) (pieces : List (List ℕ)) → From word pieces → Either (IsNumber piece) → From word (piece ∷ pieces)
named_more word piece pieces later (inl w) done small e some =
    let pushed : map decimal (done ++ w.number ∷ []) ≡ map decimal done ++ piece ∷ [] = map-append decimal done (w.number ∷ []) ∙ ap (λ t. map decimal done ++ t ∷ []) w.is.spelled in
    later (done ++ w.number ∷ []) (All-push (λ n. n < 2 ^ 32) done w.number small w.is.small)
    (e ∙ sym (append_assoc (map decimal done) (piece ∷ []) pieces) ∙ ap (λ t. t ++ pieces) (sym pushed)) (omega (arith, length-append done (w.number ∷ [])))
named_more word piece pieces later (inr none) done small e some =
    inr (λ w. no_name word done piece pieces e (λ n small_n spelled. none (record { number = n; is = record { small = small_n; spelled = spelled } })) w.name w.is)

named_from : (word : List ℕ) (pieces : List (List ℕ)) → From word pieces
named_from word [] done small e some = inl (record { name = done; is = a_name word done (e ∙ append-nil (map decimal done)) (omega arith) small })
named_from word (piece ∷ pieces) done small e some = named_more word piece pieces (named_from word pieces) (is_number piece) done small e some

pub is_name : (word : List ℕ) → Either (IsNameWord word)
is_name word = named_from word (slice_split is_dot word) [] (All-nil (λ n. n < 2 ^ 32)) refl (omega (arith, length-slice_split is_dot word))

-- ---- cuts, beginnings and pairs
-- the bytes are cut at their first mark
pub record Parts (mark : ℕ) (bytes : List ℕ) : Type 0 where
  pub before : List ℕ
  pub after : List ℕ
  pub cut : IsCut mark bytes before after

more_parts : (mark byte : ℕ) (bytes : List ℕ) → is_mark mark byte ≡ false → Parts mark bytes ⊎ (is_without mark bytes ≡ true) → Parts mark (byte ∷ bytes) ⊎ (is_without mark (byte ∷ bytes) ≡ true)
more_parts mark byte bytes other (inl parts) = inl (record {
  before = byte ∷ parts.before;
  after = parts.after;
  cut = record { first = without_more mark byte parts.before other parts.cut.first; joined = ap (λ t. byte ∷ t) parts.cut.joined };
})
more_parts mark byte bytes other (inr without) = inr (without_more mark byte bytes other without)

pub is_cut : (mark : ℕ) (bytes : List ℕ) → Parts mark bytes ⊎ (is_without mark bytes ≡ true)
is_cut mark [] = inr refl
is_cut mark (byte ∷ bytes) = elim (which (is_mark mark byte)) [
  | inl marked ↦ inl (record { before = []; after = bytes; cut = record { first = refl; joined = λ i. is_the_mark mark byte marked i ∷ bytes } })
  | inr other ↦ more_parts mark byte bytes other (is_cut mark bytes)
]

-- the bytes begin so
pub record Begins (prefix bytes : List ℕ) : Type 0 where
  pub rest : List ℕ
  pub joined : bytes ≡ prefix ++ rest

more_begins : (x y : ℕ) (prefix bytes : List ℕ) → Either (x ∷ [] ≡ y ∷ []) → Either (Begins prefix bytes) → Either (Begins (x ∷ prefix) (y ∷ bytes))
more_begins x y prefix bytes (inl same) (inl found) = let first : y ≡ x = cc in inl (record { rest = found.rest; joined = λ i. first i ∷ found.joined i })
more_begins x y prefix bytes (inl same) (inr none) = inr (λ found. let tail : bytes ≡ prefix ++ found.rest = let whole = found.joined in cc in none (record { rest = found.rest; joined = tail }))
more_begins x y prefix bytes (inr other) found = inr (λ given. let first : x ≡ y = let whole = given.joined in cc in other (ap (λ t. t ∷ []) first))

pub begins : (prefix bytes : List ℕ) → Either (Begins prefix bytes)
begins [] bytes = inl (record { rest = bytes; joined = refl })
begins (x ∷ prefix) [] = inr (λ found. let whole = found.joined in cc)
begins (x ∷ prefix) (y ∷ bytes) = more_begins x y prefix bytes (is_same (x ∷ []) (y ∷ [])) (begins prefix bytes)

pair_at : {First Second : List ℕ → Type 0} (mark : ℕ) → NeverHas mark First → (bytes : List ℕ) (parts : Parts mark bytes) → Either (First parts.before) → Either (Second parts.after) → Either (IsPair mark First Second bytes)
pair_at mark never bytes parts (inl first) (inl second) = inl (record { left = parts.before; right = parts.after; first = first; second = second; joined = parts.cut.joined })
pair_at mark never bytes parts (inl first) (inr none) = inr (no_pair_second mark bytes parts.before parts.after never parts.cut none)
pair_at mark never bytes parts (inr none) second = inr (no_pair_first mark bytes parts.before parts.after never parts.cut none)

pub is_pair : {First Second : List ℕ → Type 0} (mark : ℕ) → NeverHas mark First → ((word : List ℕ) → Either (First word)) → ((word : List ℕ) → Either (Second word)) → (bytes : List ℕ) → Either (IsPair mark First Second bytes)
is_pair mark never first second bytes = elim (is_cut mark bytes) [
  | inl parts ↦ pair_at mark never bytes parts (first parts.before) (second parts.after)
  | inr without ↦ inr (no_pair_uncut mark bytes without)
]
