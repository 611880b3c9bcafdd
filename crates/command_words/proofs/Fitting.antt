-- Words that are fit, and words that look like options.
use Rattle.std.proofs.Common.{◌≡◌, ◌+◌, ℕ, List, [], ◌∷◌, suc, take, ◌⊎◌, inl, inr, ap₂, Bool, true, false, not, ◌==◌, ◌&&◌, ◌||◌, cond, refl, sym, ap, ◌∙◌, arith, true≢false, length, drop, Some, None}
use Rattle.std.specs.List.{list_any, position, position_or_len, before_first, after_first}
use Rattle.std.specs.Option.{option_map_or}
use Rattle.std.specs.Str.{bytes_eq}
use Rattle.std.proofs.lemmas.Bool.{and_left, not-true, eqb-true}
use Rattle.std.specs.Prelude.{nat_lt, find, if◌then◌else◌}
use Rattle.std.proofs.lemmas.Bool.Decides.{nat_tests}
use Rattle.std.proofs.lemmas.Option.{cond_some, none-some}
use Rattle.said_values.specs.Values.{Word}
use Rattle.command_words.specs.Reading.{dashed, is_equals, is_fit, option_of}
use Rattle.command_words.specs.Parser.{is_readable, is_readable_option}

-- an element passes where the first place that passes is inside the list
any_inside : (p : ℕ → Bool) (xs : List ℕ) → list_any p xs ≡ nat_lt (position_or_len p xs) (length xs)
any_inside p [] = refl
any_inside p (x ∷ xs) = by (p x) (any_inside p xs)
  where
    by : (b : Bool) → list_any p xs ≡ nat_lt (position_or_len p xs) (length xs)
        → (b || list_any p xs) ≡ nat_lt (cond (not b) (1 + position_or_len p xs) 0) (length (x ∷ xs))
    by true rest = grind (arith, nat_tests)
    by false rest = rest ∙ grind (arith, nat_tests)

pub some_place : (p : ℕ → Bool) (xs : List ℕ) (i : ℕ) → position p xs ≡ Some i → (list_any p xs ≡ true) × (after_first p xs ≡ drop (i + 1) xs)
some_place p xs i at =
    let parts = cond_some (nat_lt (position_or_len p xs) (length xs)) (position_or_len p xs) i at in
    (any_inside p xs ∙ parts.0, ap (λ k. drop (k + 1) xs) parts.1)

pub no_place : (p : ℕ → Bool) (xs : List ℕ) → None ≡ position p xs → list_any p xs ≡ false
no_place p xs none = any_inside p xs ∙ go (nat_lt (position_or_len p xs) (length xs)) none
  where
    go : (b : Bool) → None ≡ cond b (Some (position_or_len p xs)) None → b ≡ false
    go true e = absurd (none-some _ e)
    go false e = refl

pub readable_with_value : (text : List ℕ) (at : ℕ) → Some at ≡ position is_equals text → is_fit (drop (at + 1) text) ≡ is_readable_option text
readable_with_value text at found =
    let known = some_place is_equals text at (sym found) in
    rw known.0 (ap is_fit (sym known.1))

pub readable_alone : (text : List ℕ) → None ≡ position is_equals text → not (length text == 0) ≡ is_readable_option text
readable_alone text none = rw (no_place is_equals text none) refl

-- ---- words with two dashes

before_dashes : (t : List ℕ) → before_first is_equals (45 ∷ 45 ∷ t) ≡ 45 ∷ 45 ∷ before_first is_equals t
before_dashes t =
    let n = position_or_len is_equals t in
    let two : 1 + (1 + n) ≡ suc (suc n) = omega arith in
    ap (λ k. take k (45 ∷ 45 ∷ t)) two

pub after_dashes : (t : List ℕ) → after_first is_equals (45 ∷ 45 ∷ t) ≡ after_first is_equals t
after_dashes t =
    let n = position_or_len is_equals t in
    let two : 1 + (1 + n) + 1 ≡ suc (suc (n + 1)) = omega arith in
    ap (λ k. drop k (45 ∷ 45 ∷ t)) two

-- the name behind the dashes is looked for
pub option_of_dashed : (options : List Word) (t : Word) → option_of options (45 ∷ 45 ∷ t) ≡ find (λ o. bytes_eq o (before_first is_equals t)) options
option_of_dashed options t = ap (λ b. find (λ name. bytes_eq (dashed name) b) options) (before_dashes t)

pub find_none : (p : Word → Bool) (options : List Word) → ((o : Word) → p o ≡ false) → find p options ≡ None
find_none p [] none = refl
find_none p (o ∷ os) none = rw (none o) (find_none p os none)

no_dash_after : (b : ℕ) (bs name : Word) → (b == 45) ≡ false → bytes_eq (dashed name) (before_first is_equals (b ∷ bs)) ≡ false
no_dash_after b bs name other_first = go (b == 61)
  where
    go : (c : Bool) → bytes_eq (dashed name) (take (cond (not c) (1 + position_or_len is_equals bs) 0) (b ∷ bs)) ≡ false
    go true = refl
    go false =
        let one : 1 + position_or_len is_equals bs ≡ suc (position_or_len is_equals bs) = omega arith in
        let other : (45 == b) ≡ false = grind (arith, nat_tests) in
        ap (λ k. bytes_eq (dashed name) (take k (b ∷ bs))) one ∙ and_left (45 == b) _ other

-- a fit word is no option
pub option_of_fit : (options : List Word) (w : Word) → is_fit w ≡ true → option_of options w ≡ None
option_of_fit options [] fit = absurd (true≢false (sym fit))
option_of_fit options (b ∷ bs) fit = find_none _ options (λ name. no_dash_after b bs name (not-true (b == 45) fit))

-- the word is two dashes and a name, with a fit value if it has one
pub record Looks (w : Word) : Type 0 where
  pub first : ℕ
  pub rest : Word
  pub is : w ≡ 45 ∷ 45 ∷ first ∷ rest
  pub readable : is_readable_option (first ∷ rest) ≡ true

looks_by : (a b : ℕ) (rest : Word) → (a == 45) ≡ true → (b == 45) ≡ true → is_readable_option rest ≡ true → Looks (a ∷ b ∷ rest)
looks_by a b [] first second readable = absurd (true≢false (sym readable))
looks_by a b (x ∷ xs) first second readable = record {
  first = x;
  rest = xs;
  is = ap₂ (λ p q. p ∷ q ∷ x ∷ xs) (eqb-true a 45 first) (eqb-true b 45 second);
  readable = readable;
}

pub readable_cases : (w : Word) → is_readable w ≡ true → (is_fit w ≡ true) ⊎ Looks w
readable_cases [] readable = absurd (true≢false (sym readable))
readable_cases (a ∷ []) readable = go (is_fit (a ∷ [])) readable
  where
    go : (c : Bool) → (c || false) ≡ true → (c ≡ true) ⊎ Looks (a ∷ [])
    go true e = inl refl
    go false e = absurd (true≢false (sym e))
readable_cases (a ∷ b ∷ rest) readable = go (a == 45) (b == 45) refl refl readable
  where
    go : (c d : Bool) → (a == 45) ≡ c → (b == 45) ≡ d → (not c || option_map_or is_readable_option (if c && d then Some rest else None) false) ≡ true
        → (not c ≡ true) ⊎ Looks (a ∷ b ∷ rest)
    go false d first second e = inl refl
    go true false first second e = absurd (true≢false (sym e))
    go true true first second e = inr (looks_by a b rest first second e)
