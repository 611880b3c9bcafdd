-- What a prune keeps.
use Rattle.std.proofs.Common.{◌≡◌, ◌∙◌, ℕ, zero, suc, ◌+◌, ◌<◌, ◌≤◌, Bool, true, false, cond, List, [], ◌∷◌, ◌++◌, length, take, drop, get_or, leb, ltb, refl, sym, ap, subst, Option, Some, None, arith}
use Rattle.std.specs.Prelude.{◌&&◌, ◌||◌, All, ⊤}
use Rattle.std.specs.List.{AllWithin, Contains, list_any}
use Rattle.std.specs.List.Sorted.{IsNonDecreasing}
use Rattle.std.specs.Option.{option_or, IfSome}
use Rattle.std.proofs.lemmas.Bool.{leb-true, leb-false, le-leb, lt-leb, lt-ltb, ltb-true, ltb-false, le-ltb}
use Rattle.std.proofs.lemmas.List.Elements.{All-cons, All-contains_itself}
use Rattle.std.proofs.lemmas.List.Folds.{list_any_at, list_any_none}
use Rattle.std.proofs.lemmas.List.Kept.{AllPairs-cons}
use Rattle.ref_store.specs.declared.version.Version.{Version}
use Rattle.ref_store.specs.Pruned.{first_staying, has_between, stays_before, staying, IsPruned}
use Rattle.ref_store.specs.Version.{is_by, newest, version_at, NumbersRise}
use Rattle.ref_store.proofs.VersionLaws.{late_newest, rise-first, rise-rest, some-newest, version_at-cons, with_first}

-- ---- numbers between two bounds
abbrev is_between : ℕ → ℕ → ℕ → Bool
is_between from to number = leb from number && ltb number to

is_true : (a b : Bool) → a ≡ true → b ≡ true → (a && b) ≡ true
is_true true true p q = refl
is_true true false p q = cc
is_true false b p q = cc

left_false : (a b : Bool) → a ≡ false → (a && b) ≡ false
left_false true b p = cc
left_false false b p = refl

right_false : (a b : Bool) → b ≡ false → (a && b) ≡ false
right_false true b p = p
right_false false b p = refl

left_true : (a b : Bool) → (a && b) ≡ true → a ≡ true
left_true true b p = refl
left_true false b p = cc

right_true : (a b : Bool) → (a && b) ≡ true → b ≡ true
right_true true b p = p
right_true false b p = cc

-- where the first number from the bound on is known
module _ (numbers : List ℕ) (from to first : ℕ) (low : AllWithin (λ n. ltb n from ≡ true) numbers 0 first) (high : AllWithin (λ n. ltb n from ≡ false) numbers first (length numbers)) where
  pub between_first : IsNonDecreasing numbers → first < length numbers → ltb (get_or numbers first 0) to ≡ has_between from to numbers
  between_first rises lt = on (ltb (get_or numbers first 0) to) refl
    where
      reaches : leb from (get_or numbers first 0) ≡ true
      reaches = le-leb from (get_or numbers first 0) (ltb-false (get_or numbers first 0) from (high first 0 (omega arith) lt))

      none : to ≤ get_or numbers first 0 → All (λ n. is_between from to n ≡ false) numbers
      none past k d in_range = at (ltb k first) refl
        where
          at : (b : Bool) → ltb k first ≡ b → is_between from to (get_or numbers k d) ≡ false
          at true is = left_false (leb from (get_or numbers k d)) (ltb (get_or numbers k d) to)
              (lt-leb from (get_or numbers k d) (ltb-true (get_or numbers k d) from (low k d (omega arith) (ltb-true k first is))))
          at false is =
              let later : get_or numbers first d ≤ get_or numbers k d = rises first k d (ltb-false k first is) in_range in
              let same : get_or numbers first d ≡ get_or numbers first 0 = same_default numbers first d 0 lt in
              right_false (leb from (get_or numbers k d)) (ltb (get_or numbers k d) to) (le-ltb (get_or numbers k d) to (omega arith))
            where
              same_default : (xs : List ℕ) (i d e : ℕ) → i < length xs → get_or xs i d ≡ get_or xs i e
              same_default [] i d e lt = absurd (omega arith)
              same_default (x ∷ xs) zero d e lt = refl
              same_default (x ∷ xs) (suc i) d e lt = same_default xs i d e (omega arith)

      on : (b : Bool) → ltb (get_or numbers first 0) to ≡ b → b ≡ has_between from to numbers
      on true is = sym (list_any_at (is_between from to) numbers first 0 lt (is_true (leb from (get_or numbers first 0)) (ltb (get_or numbers first 0) to) reaches is))
      on false is = sym (list_any_none (is_between from to) numbers (none (ltb-false (get_or numbers first 0) to is)))

  pub between_none : length numbers ≤ first → false ≡ has_between from to numbers
  between_none past = sym (list_any_none (is_between from to) numbers (λ k d in_range.
      left_false (leb from (get_or numbers k d)) (ltb (get_or numbers k d) to) (lt-leb from (get_or numbers k d) (ltb-true (get_or numbers k d) from (low k d (omega arith) (omega arith))))))

-- ---- one version before those that stay
module _ (live : List ℕ) where
  -- the newest stays
  pub stays-newest : (v : Version) (ks : List Version) → newest (stays_before live v ks) ≡ newest (v ∷ ks)
  stays-newest v [] = refl
  stays-newest v (w ∷ ws) = on (has_between v.number w.number live)
    where
      on : (b : Bool) → newest (cond b (v ∷ w ∷ ws) (w ∷ ws)) ≡ option_or (newest (w ∷ ws)) (Some v)
      on true = refl
      on false = some (newest (w ∷ ws)) (some-newest w ws)
        where
          some : (o : Option Version) → (x : Version) × (o ≡ Some x) → o ≡ option_or o (Some v)
          some None is = absurd (let no = is.1 in cc)
          some (Some x) is = refl

  pub staying-newest : (vs : List Version) → newest (staying live vs) ≡ newest vs
  staying-newest [] = refl
  staying-newest (v ∷ vs) = stays-newest v (staying live vs) ∙ ap (λ (o : Option Version). option_or o (Some v)) (staying-newest vs)

  -- what is read at a live number stays
  pub stays-read : (number : ℕ) → Contains live number → (v : Version) (ks : List Version) → version_at number (stays_before live v ks) ≡ version_at number (v ∷ ks)
  stays-read number lives v [] = refl
  stays-read number lives v (w ∷ ws) = on (has_between v.number w.number live) refl
    where
      passed : has_between v.number w.number live ≡ false → is_by number w ≡ false → is_by number v ≡ false
      passed none later = at (is_by number v) refl
        where
          at : (b : Bool) → is_by number v ≡ b → b ≡ false
          at false is = refl
          at true is =
              let inside = is_true (leb v.number number) (ltb number w.number) is (lt-ltb number w.number (leb-false w.number number later)) in
              let some : has_between v.number w.number live ≡ true =
              list_any_at (is_between v.number w.number) live lives.0 number lives.1 (subst (λ n. is_between v.number w.number n ≡ true) (sym lives.2) inside) in
              cc

      seen : (b a : Bool) (o : Option Version) → (b ≡ false → a ≡ false) → cond b (option_or o (Some w)) o ≡ cond a (option_or (cond b (option_or o (Some w)) o) (Some v)) (cond b (option_or o (Some w)) o)
      seen true true None later = refl
      seen true true (Some x) later = refl
      seen true false o later = refl
      seen false a o later = ap (λ c. cond c (option_or o (Some v)) o) (sym (later refl))

      on : (b : Bool) → has_between v.number w.number live ≡ b → version_at number (cond b (v ∷ w ∷ ws) (w ∷ ws)) ≡ version_at number (v ∷ w ∷ ws)
      on true is = refl
      on false is =
          version_at-cons number w ws ∙ seen (is_by number w) (is_by number v) (version_at number ws) (passed is)
          ∙ ap (with_first number v) (sym (version_at-cons number w ws)) ∙ sym (version_at-cons number v (w ∷ ws))

  pub staying-read : (number : ℕ) → Contains live number → (vs : List Version) → version_at number (staying live vs) ≡ version_at number vs
  staying-read number lives [] = refl
  staying-read number lives (v ∷ vs) =
      stays-read number lives v (staying live vs) ∙ version_at-cons number v (staying live vs) ∙ ap (with_first number v) (staying-read number lives vs) ∙ sym (version_at-cons number v vs)

  -- ---- what stays was there
  stays-all : (P : Version → Type 0) (v : Version) (ks : List Version) → P v → All P ks → All P (stays_before live v ks)
  stays-all P v [] here rest = All-cons P v [] here rest
  stays-all P v (w ∷ ws) here rest = on (has_between v.number w.number live)
    where
      on : (b : Bool) → All P (cond b (v ∷ w ∷ ws) (w ∷ ws))
      on true = All-cons P v (w ∷ ws) here rest
      on false = rest

  pub staying-all : (P : Version → Type 0) (vs : List Version) → All P vs → All P (staying live vs)
  staying-all P [] all = all
  staying-all P (v ∷ vs) all = stays-all P v (staying live vs) (all 0 v (omega arith)) (staying-all P vs (λ k d lt. all (suc k) d (omega arith)))

  pub staying-rises : (vs : List Version) → NumbersRise vs → NumbersRise (staying live vs)
  staying-rises [] rises = rises
  staying-rises (v ∷ vs) rises = on (staying live vs) (staying-rises vs (rise-rest v vs rises)) (staying-all (λ w. v.number < w.number) vs (rise-first v vs rises))
    where
      on : (ks : List Version) → NumbersRise ks → All (λ w. v.number < w.number) ks → NumbersRise (stays_before live v ks)
      on [] rest above = AllPairs-cons (λ older newer. older.number < newer.number) v [] above rest
      on (w ∷ ws) rest above = at (has_between v.number w.number live)
        where
          at : (b : Bool) → NumbersRise (cond b (v ∷ w ∷ ws) (w ∷ ws))
          at true = AllPairs-cons (λ older newer. older.number < newer.number) v (w ∷ ws) above rest
          at false = rest

-- ---- how many stay
-- how many of the numbers are at or above the bound
abbrev from_on : ℕ → List ℕ → ℕ
from_on bound [] = 0
from_on bound (n ∷ ns) = cond (leb bound n) 1 0 + from_on bound ns

at_most_all : (bound : ℕ) (numbers : List ℕ) → from_on bound numbers ≤ length numbers
at_most_all bound [] = omega arith
at_most_all bound (n ∷ ns) = on (leb bound n) (at_most_all bound ns)
  where
    on : (b : Bool) → from_on bound ns ≤ length ns → cond b 1 0 + from_on bound ns ≤ suc (length ns)
    on true rest = omega arith
    on false rest = omega arith

fewer : (low high : ℕ) (numbers : List ℕ) → low ≤ high → from_on high numbers ≤ from_on low numbers
fewer low high [] le = omega arith
fewer low high (n ∷ ns) le = on (leb high n) refl (leb low n) refl (fewer low high ns le)
  where
    on : (a : Bool) → leb high n ≡ a → (b : Bool) → leb low n ≡ b → from_on high ns ≤ from_on low ns → cond a 1 0 + from_on high ns ≤ cond b 1 0 + from_on low ns
    on true above true below rest = omega arith
    on true above false below rest = absurd (let up = leb-true high n above in let down = leb-false low n below in omega arith)
    on false above true below rest = omega arith
    on false above false below rest = omega arith

-- a number between two bounds is one more from the lower bound on
one_more : (low high : ℕ) (numbers : List ℕ) → has_between low high numbers ≡ true → from_on high numbers + 1 ≤ from_on low numbers
one_more low high [] some = cc
one_more low high (n ∷ ns) some = on (is_between low high n) refl some (λ rest. one_more low high ns rest)
  where
    here : is_between low high n ≡ true → from_on high (n ∷ ns) + 1 ≤ from_on low (n ∷ ns)
    here is = at (leb high n) refl (leb low n) refl (fewer low high ns (let le = reached in let lt = before in omega arith))
      where
        reached : low ≤ n
        reached = leb-true low n (left_true (leb low n) (ltb n high) is)

        before : n < high
        before = ltb-true n high (right_true (leb low n) (ltb n high) is)

        at : (a : Bool) → leb high n ≡ a → (b : Bool) → leb low n ≡ b → from_on high ns ≤ from_on low ns → (cond a 1 0 + from_on high ns) + 1 ≤ cond b 1 0 + from_on low ns
        at true above b below rest = absurd (let up = leb-true high n above in let lt = before in omega arith)
        at false above true below rest = omega arith
        at false above false below rest = absurd (let down = leb-false low n below in let le = reached in omega arith)

    later : low ≤ high → from_on high ns + 1 ≤ from_on low ns → from_on high (n ∷ ns) + 1 ≤ from_on low (n ∷ ns)
    later le rest = at (leb high n) refl (leb low n) refl
      where
        at : (a : Bool) → leb high n ≡ a → (b : Bool) → leb low n ≡ b → (cond a 1 0 + from_on high ns) + 1 ≤ cond b 1 0 + from_on low ns
        at true above true below = omega arith
        at true above false below = absurd (let up = leb-true high n above in let down = leb-false low n below in omega arith)
        at false above true below = omega arith
        at false above false below = omega arith

    ordered : (numbers : List ℕ) → list_any (is_between low high) numbers ≡ true → low ≤ high
    ordered [] some = cc
    ordered (m ∷ ms) some = at (is_between low high m) refl some (ordered ms)
      where
        at : (b : Bool) → is_between low high m ≡ b → (b || list_any (is_between low high) ms) ≡ true → (list_any (is_between low high) ms ≡ true → low ≤ high) → low ≤ high
        at true is some rest =
            let le = leb-true low m (left_true (leb low m) (ltb m high) is) in
            let lt = ltb-true m high (right_true (leb low m) (ltb m high) is) in
            omega arith
        at false is some rest = rest some

    on : (b : Bool) → is_between low high n ≡ b → (b || list_any (is_between low high) ns) ≡ true → (list_any (is_between low high) ns ≡ true → from_on high ns + 1 ≤ from_on low ns)
        → from_on high (n ∷ ns) + 1 ≤ from_on low (n ∷ ns)
    on true is some rest = here is
    on false is some rest = later (ordered ns some) (rest some)

-- no more versions stay than live numbers are at or above the first of them, but for one
abbrev IsFew : List ℕ → List Version → Type 0
IsFew live [] = ⊤
IsFew live (w ∷ ws) = length (w ∷ ws) ≤ from_on w.number live + 1

stays-few : (live : List ℕ) (v : Version) (ks : List Version) → IsFew live ks → IsFew live (stays_before live v ks)
stays-few live v [] few = omega arith
stays-few live v (w ∷ ws) few = on (has_between v.number w.number live) refl
  where
    on : (b : Bool) → has_between v.number w.number live ≡ b → IsFew live (cond b (v ∷ w ∷ ws) (w ∷ ws))
    on true is = let more = one_more v.number w.number live is in omega arith
    on false is = few

staying-few : (live : List ℕ) (vs : List Version) → IsFew live (staying live vs)
staying-few live [] = tt
staying-few live (v ∷ vs) = stays-few live v (staying live vs) (staying-few live vs)

pub staying-count : (live : List ℕ) (vs : List Version) → length (staying live vs) ≤ length live + 1
staying-count live vs = on (staying live vs) (staying-few live vs)
  where
    on : (ks : List Version) → IsFew live ks → length ks ≤ length live + 1
    on [] few = omega arith
    on (w ∷ ws) few = let most = at_most_all w.number live in omega arith

-- ---- all together
pub staying_pruned : (live : List ℕ) (vs : List Version) → NumbersRise vs → IsPruned live vs (staying live vs)
staying_pruned live vs rises = record {
  live_reads = λ number lives. staying-read live number lives vs;
  late_reads = λ number late.
      late_newest number (staying live vs) (staying-rises live vs rises) (subst (λ (o : Option Version). IfSome o (λ v. v.number ≤ number)) (sym (staying-newest live vs)) late)
      ∙ staying-newest live vs ∙ sym (late_newest number vs rises late);
  newest_stays = staying-newest live vs;
  count = staying-count live vs;
  none_new = staying-all live (Contains vs) vs (All-contains_itself vs);
}

-- ---- the steps of the loop
-- no more versions stay than there were
pub staying-shorter : (live : List ℕ) (vs : List Version) → length (staying live vs) ≤ length vs
staying-shorter live [] = omega arith
staying-shorter live (v ∷ vs) = on (staying live vs) (staying-shorter live vs)
  where
    on : (ks : List Version) → length ks ≤ length vs → length (stays_before live v ks) ≤ suc (length vs)
    on [] le = omega arith
    on (w ∷ ws) le = at (has_between v.number w.number live)
      where
        at : (b : Bool) → length (cond b (v ∷ w ∷ ws) (w ∷ ws)) ≤ suc (length vs)
        at true = omega arith
        at false = omega arith

-- where the version at a place is read nothing is dropped there
pub whole_read : (live : List ℕ) (vs : List Version) (i : ℕ) (v w : Version) → i + 1 < length vs → v ≡ get_or vs i v → w ≡ get_or vs (i + 1) w → has_between v.number w.number live ≡ true
    → vs ≡ take i vs ++ first_staying live (drop i vs)
whole_read live [] i v w lt here next read = absurd (omega arith)
whole_read live (a ∷ []) zero v w lt here next read = absurd (omega arith)
whole_read live (a ∷ b ∷ vs) zero v w lt here next read = sym (ap (λ c. cond c (a ∷ b ∷ vs) (b ∷ vs)) (ap (λ (x : Version). has_between x.number b.number live) (sym here) ∙ ap (λ (y : Version). has_between v.number y.number live) (sym next) ∙ read))
whole_read live (a ∷ vs) (suc i) v w lt here next read =
    let same : suc i + 1 ≡ suc (i + 1) = omega arith in
    ap (λ (xs : List Version). a ∷ xs) (whole_read live vs i v w (omega arith) here (subst (λ n. w ≡ get_or (a ∷ vs) n w) same next) read)

-- the newest is never dropped
pub whole_last : (live : List ℕ) (vs : List Version) (i : ℕ) → i < length vs → length vs ≤ i + 1 → vs ≡ take i vs ++ first_staying live (drop i vs)
whole_last live [] i lt le = absurd (omega arith)
whole_last live (a ∷ []) zero lt le = refl
whole_last live (a ∷ b ∷ vs) zero lt le = absurd (omega arith)
whole_last live (a ∷ vs) (suc i) lt le = ap (λ (xs : List Version). a ∷ xs) (whole_last live vs i (omega arith) (omega arith))

-- the part from a place on is what stays of that part
pub stays_at : (live : List ℕ) (old new : List Version) (i n : ℕ) → n ≡ suc i → n ≤ length old → new ≡ take n old ++ staying live (drop n old)
    → take i new ++ first_staying live (drop i new) ≡ take i old ++ staying live (drop i old)
stays_at live old new i n next le is =
    subst (λ (xs : List Version). take i xs ++ first_staying live (drop i xs) ≡ take i old ++ staying live (drop i old))
    (sym (is ∙ ap (λ m. take m old ++ staying live (drop m old)) next)) (from old i (omega arith))
  where
    from : (vs : List Version) (j : ℕ) → suc j ≤ length vs
        → take j (take (suc j) vs ++ staying live (drop (suc j) vs)) ++ first_staying live (drop j (take (suc j) vs ++ staying live (drop (suc j) vs))) ≡ take j vs ++ staying live (drop j vs)
    from [] j lt = absurd (omega arith)
    from (v ∷ vs) zero lt = refl
    from (v ∷ vs) (suc j) lt = ap (λ (xs : List Version). v ∷ xs) (from vs j (omega arith))
