-- What is read among versions whose numbers rise.
use Rattle.std.proofs.Common.{◌≡◌, ◌∙◌, ℕ, zero, suc, ◌-◌, ◌<◌, ◌≤◌, Bool, true, false, cond, List, [], ◌∷◌, ◌++◌, length, take, get_or, refl, sym, ap, subst, Option, Some, None, inl, inr, arith}
use Rattle.std.specs.Prelude.{All}
use Rattle.std.specs.List.{AllWithin, Contains, filter, slice_get}
use Rattle.std.specs.List.Sorted.{IsNonDecreasingBy}
use Rattle.std.specs.Option.{option_map, option_or, IfSome}
use Rattle.std.proofs.lemmas.Bool.{cases_lt, leb-true, leb-false, le-leb, lt-leb}
use Rattle.std.proofs.lemmas.List.Elements.{All-cons, All-nil}
use Rattle.ref_store.specs.declared.version.Version.{Version}
use Rattle.ref_store.specs.Version.{is_by, newest, value_at, version_at, IsHighest, IsNewestBy, IsReadAt, NumbersRise}

-- ---- the order of the numbers
pub rise-rest : (v : Version) (vs : List Version) → NumbersRise (v ∷ vs) → NumbersRise vs
rise-rest v vs rises i j d lt in_range = rises (suc i) (suc j) d (omega arith) (omega arith)

pub rise-first : (v : Version) (vs : List Version) → NumbersRise (v ∷ vs) → All (λ w. v.number < w.number) vs
rise-first v vs rises k d lt = rises 0 (suc k) d (omega arith) (omega arith)

pub rise_non_decreasing : (vs : List Version) → NumbersRise vs → IsNonDecreasingBy (λ v. v.number) vs
rise_non_decreasing vs rises i j d le lt = elim (cases_lt i j) [
  | inl before ↦ let below = rises i j d before lt in omega arith
  | inr same ↦ let e : i ≡ j = omega arith in subst (λ n. (get_or vs i d).number ≤ (get_or vs n d).number) e (omega arith)
]

-- ---- the newest at or below a number, version by version
abbrev pub with_first : ℕ → Version → Option Version → Option Version
with_first number v rest = cond (is_by number v) (option_or rest (Some v)) rest

pub version_at-cons : (number : ℕ) (v : Version) (vs : List Version) → version_at number (v ∷ vs) ≡ with_first number v (version_at number vs)
version_at-cons number v vs = on (is_by number v)
  where
    on : (b : Bool) → newest (cond b (v ∷ filter (is_by number) vs) (filter (is_by number) vs)) ≡ cond b (option_or (version_at number vs) (Some v)) (version_at number vs)
    on true = refl
    on false = refl

-- ---- it is found by the place where the numbers go past the number
filter_part : (p : Version → Bool) (vs : List Version) (i : ℕ) → i ≤ length vs → AllWithin (λ v. p v ≡ true) vs 0 i → AllWithin (λ v. p v ≡ false) vs i (length vs) → filter p vs ≡ take i vs
filter_part p [] zero le met past = refl
filter_part p [] (suc i) le met past = absurd (omega arith)
filter_part p (v ∷ vs) zero le met past =
    ap (λ b. cond b (v ∷ filter p vs) (filter p vs)) (past 0 v (omega arith) (omega arith))
    ∙ filter_part p vs zero (omega arith) (λ k d low high. absurd (omega arith)) (λ k d low high. past (suc k) d (omega arith) (omega arith)) ∙ none vs
  where
    none : (xs : List Version) → take zero xs ≡ []
    none xs = refl
filter_part p (v ∷ vs) (suc i) le met past =
    ap (λ b. cond b (v ∷ filter p vs) (filter p vs)) (met 0 v (omega arith) (omega arith))
    ∙ ap (λ (xs : List Version). v ∷ xs) (filter_part p vs i (omega arith) (λ k d low high. met (suc k) d (omega arith) (omega arith)) (λ k d low high. past (suc k) d (omega arith) (omega arith)))

pub newest_take : (vs : List Version) (i : ℕ) (d : Version) → i < length vs → newest (take (suc i) vs) ≡ Some (get_or vs i d)
newest_take [] i d lt = absurd (omega arith)
newest_take (v ∷ vs) zero d lt = refl
newest_take (v ∷ vs) (suc i) d lt = ap (λ (o : Option Version). option_or o (Some v)) (newest_take vs i d (omega arith))

-- where no version is at or below the number
pub none_at : (number : ℕ) (vs : List Version) (i : ℕ) → i ≡ 0 → AllWithin (λ v. is_by number v ≡ true) vs 0 i → AllWithin (λ v. is_by number v ≡ false) vs i (length vs) → version_at number vs ≡ None
none_at number vs i none met past = ap newest (filter_part (is_by number) vs i (omega arith) met past ∙ ap (λ n. take n vs) none)

-- where the first few are
pub last_at : (number : ℕ) (vs : List Version) (i : ℕ) (d : Version) → 0 < i → i ≤ length vs → AllWithin (λ v. is_by number v ≡ true) vs 0 i → AllWithin (λ v. is_by number v ≡ false) vs i (length vs)
    → version_at number vs ≡ Some (get_or vs (i - 1) d)
last_at number vs zero d some le met past = absurd (omega arith)
last_at number vs (suc i) d some le met past =
    let same : suc i - 1 ≡ i = omega arith in
    ap newest (filter_part (is_by number) vs (suc i) le met past) ∙ newest_take vs i d (omega arith) ∙ ap (λ n. Some (get_or vs n d)) (sym same)

-- ---- what the newest at or below a number is
abbrev IsFound : ℕ → List Version → Option Version → Type 0
IsFound number vs None = All (λ v. number < v.number) vs
IsFound number vs (Some v) = IsNewestBy number vs v

contains-more : (v w : Version) (vs : List Version) → Contains vs w → Contains (v ∷ vs) w
contains-more v w vs there = (suc there.0, omega (arith, there.1), there.2)

pub found_at : (number : ℕ) (vs : List Version) → NumbersRise vs → IsFound number vs (version_at number vs)
found_at number [] rises = All-nil (λ v. number < v.number)
found_at number (v ∷ vs) rises = subst (IsFound number (v ∷ vs)) (sym (version_at-cons number v vs)) (on (is_by number v) refl (version_at number vs) (found_at number vs (rise-rest v vs rises)))
  where
    on : (b : Bool) → is_by number v ≡ b → (o : Option Version) → IsFound number vs o → IsFound number (v ∷ vs) (cond b (option_or o (Some v)) o)
    on true is None none = record {
      kept = (0, omega arith, refl);
      by = leb-true v.number number is;
      newest = All-cons (λ w. w.number ≤ number → w.number ≤ v.number) v vs (λ le. omega arith) (λ k d lt le. absurd (let above = none k d lt in omega arith));
    }
    on true is (Some w) found = record {
      kept = contains-more v w vs found.kept;
      by = found.by;
      newest = All-cons (λ x. x.number ≤ number → x.number ≤ w.number) v vs (λ le. at_least found.kept) found.newest;
    }
      where
        at_least : Contains vs w → v.number ≤ w.number
        at_least there = let below = subst (λ (x : Version). v.number < x.number) there.2 (rise-first v vs rises there.0 w there.1) in omega arith
    on false is None none = All-cons (λ w. number < w.number) v vs (leb-false v.number number is) none
    on false is (Some w) found = record {
      kept = contains-more v w vs found.kept;
      by = found.by;
      newest = All-cons (λ x. x.number ≤ number → x.number ≤ w.number) v vs (λ le. absurd (let above = leb-false v.number number is in omega arith)) found.newest;
    }

pub read_at : (number : ℕ) (vs : List Version) → NumbersRise vs → IsReadAt number vs (value_at number vs)
read_at number vs rises = on (version_at number vs) (found_at number vs rises)
  where
    on : (o : Option Version) → IsFound number vs o → IsReadAt number vs (option_map (λ v. v.value) o)
    on None none = none
    on (Some v) found = (v, found, refl)

-- ---- what the newest is
pub some-newest : (v : Version) (vs : List Version) → (w : Version) × (newest (v ∷ vs) ≡ Some w)
some-newest v vs = on (newest vs)
  where
    on : (o : Option Version) → (w : Version) × (option_or o (Some v) ≡ Some w)
    on None = (v, refl)
    on (Some w) = (w, refl)

pub highest_is : (vs : List Version) → NumbersRise vs → IsHighest vs (newest vs)
highest_is [] rises = refl
highest_is (v ∷ vs) rises = on (newest vs) (highest_is vs (rise-rest v vs rises))
  where
    on : (o : Option Version) → IsHighest vs o → IsHighest (v ∷ vs) (option_or o (Some v))
    on None none = ((0, omega arith, refl), subst (λ (xs : List Version). All (λ w. w.number ≤ v.number) (v ∷ xs)) (sym none) (All-cons (λ w. w.number ≤ v.number) v [] (omega arith) (All-nil (λ w. w.number ≤ v.number))))
    on (Some w) high = (contains-more v w vs high.0, All-cons (λ x. x.number ≤ w.number) v vs (at_least high.0) high.1)
      where
        at_least : Contains vs w → v.number ≤ w.number
        at_least there = let below = subst (λ (x : Version). v.number < x.number) there.2 (rise-first v vs rises there.0 w there.1) in omega arith

pub newest_get : (vs : List Version) → slice_get vs (length vs - 1) ≡ newest vs
newest_get [] = refl
newest_get (v ∷ []) = refl
newest_get (v ∷ w ∷ vs) =
    let one_less : suc (suc (length vs)) - 1 ≡ suc (length vs) = omega arith in
    let same : suc (length vs) - 1 ≡ length vs = omega arith in
    ap (slice_get (v ∷ w ∷ vs)) one_less ∙ sym (ap (slice_get (w ∷ vs)) same) ∙ newest_get (w ∷ vs) ∙ some (newest (w ∷ vs)) (some-newest w vs)
  where
    some : (o : Option Version) → (x : Version) × (o ≡ Some x) → o ≡ option_or o (Some v)
    some None is = absurd (let no_version = is.1 in cc)
    some (Some x) is = refl

-- from the highest number on the newest is read
pub late_at : (number : ℕ) (vs : List Version) → All (λ v. v.number ≤ number) vs → version_at number vs ≡ newest vs
late_at number [] all = refl
late_at number (v ∷ vs) all =
    version_at-cons number v vs ∙ ap (λ b. cond b (option_or (version_at number vs) (Some v)) (version_at number vs)) (le-leb v.number number (all 0 v (omega arith)))
    ∙ ap (λ (o : Option Version). option_or o (Some v)) (late_at number vs (λ k d lt. all (suc k) d (omega arith)))

pub late_newest : (number : ℕ) (vs : List Version) → NumbersRise vs → IfSome (newest vs) (λ v. v.number ≤ number) → version_at number vs ≡ newest vs
late_newest number vs rises late = late_at number vs (on (newest vs) (highest_is vs rises) late)
  where
    on : (o : Option Version) → IsHighest vs o → IfSome o (λ v. v.number ≤ number) → All (λ v. v.number ≤ number) vs
    on None none late = subst (λ (xs : List Version). All (λ v. v.number ≤ number) xs) (sym none) (All-nil (λ v. v.number ≤ number))
    on (Some w) high late = λ k d lt. let le = high.1 k d lt in omega arith

-- ---- one version more
-- at a number below it nothing changes
pub below_push : (number : ℕ) (vs : List Version) (v : Version) → number < v.number → version_at number (vs ++ v ∷ []) ≡ version_at number vs
below_push number [] v below = version_at-cons number v [] ∙ ap (λ b. cond b (option_or None (Some v)) None) (lt-leb v.number number below)
below_push number (w ∷ vs) v below =
    version_at-cons number w (vs ++ v ∷ []) ∙ ap (with_first number w) (below_push number vs v below) ∙ sym (version_at-cons number w vs)

-- at its number and above it is read
pub at_push : (number : ℕ) (vs : List Version) (v : Version) → v.number ≤ number → version_at number (vs ++ v ∷ []) ≡ Some v
at_push number [] v le = version_at-cons number v [] ∙ ap (λ b. cond b (option_or None (Some v)) None) (le-leb v.number number le)
at_push number (w ∷ vs) v le = version_at-cons number w (vs ++ v ∷ []) ∙ ap (with_first number w) (at_push number vs v le) ∙ on (is_by number w)
  where
    on : (b : Bool) → cond b (option_or (Some v) (Some w)) (Some v) ≡ Some v
    on true = refl
    on false = refl

pub newest_push : (vs : List Version) (v : Version) → newest (vs ++ v ∷ []) ≡ Some v
newest_push [] v = refl
newest_push (w ∷ vs) v = ap (λ (o : Option Version). option_or o (Some w)) (newest_push vs v)
