-- The names in a value: what holds of all of them is structural.
use Rattle.std.proofs.Common.{◌≡◌, ◌∙◌, ℕ, ℤ, Bool, true, false, ◌||◌, List, [], ◌∷◌, ◌++◌, map, refl, sym, ap, subst, rules}
use Rattle.std.specs.Prelude.{All}
use Rattle.std.specs.List.{list_any}
use Rattle.std.proofs.lemmas.List.Elements.{All-nil, All-cons, All-head, All-tail, All-append, All-weaker}
use Rattle.value_core.specs.declared.pair.Pair.{Pair}
use Rattle.value_core.specs.declared.value.Value.{Value, the_lemmas}
use Rattle.value_core.specs.declared.value.Value.TheVariants as value
use Rattle.value_core.specs.declared.value.Value.TheOpen as one
use Rattle.value_core.specs.declared.value.Value.TheFolds.{fold-roll-Value}
use Rattle.value_core.specs.Futures.{holds_future}
use Rattle.value_core.specs.Structural.{IsStructural}
use Rattle.value_core.specs.Within.{Held, OfRef, OfActor, OfFuture, joined_names, joined_pairs, names_step, names_of, IsHeld, Within}
use Rattle.value_core.proofs.Induction.{by_parts}
use Rattle.value_core.proofs.ValueFolds.{holds_future-Vector, holds_future-Map}

-- ---- the names of a value
-- those of all values, from left to right
abbrev pub all_names : List Value → List Held
all_names vs = joined_names (map names_of vs)

abbrev pub all_pair_names : List (Pair Value) → List Held
all_pair_names [] = []
all_pair_names (p ∷ ps) = names_of p.value ++ all_pair_names ps

pairs_map : (ps : List (Pair Value)) → joined_pairs (map (λ (p : Pair Value). record { key = p.key; value = names_of p.value }) ps) ≡ all_pair_names ps
pairs_map [] = refl
pairs_map (p ∷ ps) = ap (λ l. names_of p.value ++ l) (pairs_map ps)

pub names_of-Nil : names_of value.Nil ≡ []
names_of-Nil = search (rules, the_lemmas)

pub names_of-Bool : (b : Bool) → names_of (value.Bool b) ≡ []
names_of-Bool b = search (rules, the_lemmas)

pub names_of-Int : (n : ℤ) → names_of (value.Int n) ≡ []
names_of-Int n = search (rules, the_lemmas)

pub names_of-Str : (text : List ℕ) → names_of (value.Str text) ≡ []
names_of-Str text = search (rules, the_lemmas)

pub names_of-Kw : (name : List ℕ) → names_of (value.Kw name) ≡ []
names_of-Kw name = search (rules, the_lemmas)

pub names_of-Ref : (name : List ℕ) → names_of (value.Ref name) ≡ OfRef name ∷ []
names_of-Ref name = search (rules, the_lemmas)

pub names_of-Actor : (name : List ℕ) → names_of (value.Actor name) ≡ OfActor name ∷ []
names_of-Actor name = search (rules, the_lemmas)

pub names_of-Future : (name : List ℕ) → names_of (value.Future name) ≡ OfFuture name ∷ []
names_of-Future name = search (rules, the_lemmas)

pub names_of-Vector : (vs : List Value) → names_of (value.Vector vs) ≡ all_names vs
names_of-Vector vs = ap names_of (sym (value.rolls-Vector vs)) ∙ fold-roll-Value (List Held) names_step (one.Vector vs)

pub names_of-Map : (ps : List (Pair Value)) → names_of (value.Map ps) ≡ all_pair_names ps
names_of-Map ps = ap names_of (sym (value.rolls-Map ps)) ∙ fold-roll-Value (List Held) names_step (one.Map ps) ∙ pairs_map ps

-- ---- what holds of all names
all_left : {X : Type 0} (P : X → Type 0) (xs ys : List X) → All P (xs ++ ys) → All P xs
all_left P [] ys all = All-nil P
all_left P (x ∷ xs) ys all = All-cons P x xs (All-head P x (xs ++ ys) all) (all_left P xs ys (All-tail P x (xs ++ ys) all))

all_right : {X : Type 0} (P : X → Type 0) (xs ys : List X) → All P (xs ++ ys) → All P ys
all_right P [] ys all = all
all_right P (x ∷ xs) ys all = all_right P xs ys (All-tail P x (xs ++ ys) all)

module _ (R A F : List ℕ → Type 0) where
  abbrev Good : Held → Type 0
  Good = IsHeld R A F

  all_names-good : (vs : List Value) → All (Within R A F) vs → All Good (all_names vs)
  all_names-good [] all = All-nil Good
  all_names-good (v ∷ vs) all = All-append Good (names_of v) (all_names vs) (All-head (Within R A F) v vs all) (all_names-good vs (All-tail (Within R A F) v vs all))

  all_names-parts : (vs : List Value) → All Good (all_names vs) → All (Within R A F) vs
  all_names-parts [] all = All-nil (Within R A F)
  all_names-parts (v ∷ vs) all =
      All-cons (Within R A F) v vs (all_left Good (names_of v) (all_names vs) all) (all_names-parts vs (all_right Good (names_of v) (all_names vs) all))

  abbrev OfPair : Pair Value → Type 0
  OfPair p = Within R A F p.value

  all_pair_names-good : (ps : List (Pair Value)) → All OfPair ps → All Good (all_pair_names ps)
  all_pair_names-good [] all = All-nil Good
  all_pair_names-good (p ∷ ps) all = All-append Good (names_of p.value) (all_pair_names ps) (All-head OfPair p ps all) (all_pair_names-good ps (All-tail OfPair p ps all))

  all_pair_names-parts : (ps : List (Pair Value)) → All Good (all_pair_names ps) → All OfPair ps
  all_pair_names-parts [] all = All-nil OfPair
  all_pair_names-parts (p ∷ ps) all =
      All-cons OfPair p ps (all_left Good (names_of p.value) (all_pair_names ps) all) (all_pair_names-parts ps (all_right Good (names_of p.value) (all_pair_names ps) all))

  without_names : (v : Value) → names_of v ≡ [] → Within R A F v
  without_names v is = subst (All Good) (sym is) (All-nil Good)

  one_name : (v : Value) (name : Held) → names_of v ≡ name ∷ [] → Good name → Within R A F v
  one_name v name is good = subst (All Good) (sym is) (All-cons Good name [] good (All-nil Good))

  its_name : (v : Value) (name : Held) → names_of v ≡ name ∷ [] → Within R A F v → Good name
  its_name v name is all = All-head Good name [] (subst (All Good) is all)

  -- names within R, A and F: a value has them where its parts have them
  pub Within-structural : IsStructural (Within R A F)
  Within-structural = record {
    nil = without_names value.Nil names_of-Nil;
    bool = λ b. without_names (value.Bool b) (names_of-Bool b);
    int = λ n. without_names (value.Int n) (names_of-Int n);
    str = λ text. without_names (value.Str text) (names_of-Str text);
    kw = λ name. without_names (value.Kw name) (names_of-Kw name);
    vector = λ vs all. subst (All Good) (sym (names_of-Vector vs)) (all_names-good vs all);
    items = λ vs all. all_names-parts vs (subst (All Good) (names_of-Vector vs) all);
    map = λ ps all. subst (All Good) (sym (names_of-Map ps)) (all_pair_names-good ps all);
    parts = λ ps all. all_pair_names-parts ps (subst (All Good) (names_of-Map ps) all);
  }

  -- a ref, an actor or a future has its own name alone
  pub Within-Ref : (name : List ℕ) → R name → Within R A F (value.Ref name)
  Within-Ref name holds = one_name (value.Ref name) (OfRef name) (names_of-Ref name) holds

  pub Within-Actor : (name : List ℕ) → A name → Within R A F (value.Actor name)
  Within-Actor name holds = one_name (value.Actor name) (OfActor name) (names_of-Actor name) holds

  pub Within-Future : (name : List ℕ) → F name → Within R A F (value.Future name)
  Within-Future name holds = one_name (value.Future name) (OfFuture name) (names_of-Future name) holds

  pub ref_within : (name : List ℕ) → Within R A F (value.Ref name) → R name
  ref_within name all = its_name (value.Ref name) (OfRef name) (names_of-Ref name) all

  pub actor_within : (name : List ℕ) → Within R A F (value.Actor name) → A name
  actor_within name all = its_name (value.Actor name) (OfActor name) (names_of-Actor name) all

  pub future_within : (name : List ℕ) → Within R A F (value.Future name) → F name
  future_within name all = its_name (value.Future name) (OfFuture name) (names_of-Future name) all

-- the names of a value are within whatever is more
pub Within-weaker : (R A F R' A' F' : List ℕ → Type 0) → ((name : List ℕ) → R name → R' name) → ((name : List ℕ) → A name → A' name) → ((name : List ℕ) → F name → F' name)
    → (v : Value) → Within R A F v → Within R' A' F' v
Within-weaker R A F R' A' F' refs actors futures v all = All-weaker (IsHeld R A F) (IsHeld R' A' F') on (names_of v) all
  where
    on : (name : Held) → IsHeld R A F name → IsHeld R' A' F' name
    on (OfRef name) holds = refs name holds
    on (OfActor name) holds = actors name holds
    on (OfFuture name) holds = futures name holds

-- ---- values with no future
abbrev pub is_future : Held → Bool
is_future (OfRef name) = false
is_future (OfActor name) = false
is_future (OfFuture name) = true

any_append : {X : Type 0} (test : X → Bool) (xs ys : List X) → list_any test (xs ++ ys) ≡ (list_any test xs || list_any test ys)
any_append test [] ys = refl
any_append test (x ∷ xs) ys = on (test x) (any_append test xs ys)
  where
    on : (b : Bool) → list_any test (xs ++ ys) ≡ (list_any test xs || list_any test ys) → (b || list_any test (xs ++ ys)) ≡ ((b || list_any test xs) || list_any test ys)
    on true is = refl
    on false is = is

neither_left : (a b : Bool) → (a || b) ≡ false → a ≡ false
neither_left true b is = is
neither_left false b is = refl

neither_right : (a b : Bool) → (a || b) ≡ false → b ≡ false
neither_right true b is = absurd (cc)
neither_right false b is = is

-- whether a future is among the names
abbrev Agrees : Value → Type 0
Agrees v = holds_future v ≡ list_any is_future (names_of v)

any_of_all : (vs : List Value) → All Agrees vs → list_any holds_future vs ≡ list_any is_future (all_names vs)
any_of_all [] all = refl
any_of_all (v ∷ vs) all =
    (λ i. All-head Agrees v vs all i || any_of_all vs (All-tail Agrees v vs all) i) ∙ sym (any_append is_future (names_of v) (all_names vs))

abbrev PairAgrees : Pair Value → Type 0
PairAgrees p = Agrees p.value

any_of_pairs : (ps : List (Pair Value)) → All PairAgrees ps → list_any (λ (p : Pair Value). holds_future p.value) ps ≡ list_any is_future (all_pair_names ps)
any_of_pairs [] all = refl
any_of_pairs (p ∷ ps) all =
    (λ i. All-head PairAgrees p ps all i || any_of_pairs ps (All-tail PairAgrees p ps all) i) ∙ sym (any_append is_future (names_of p.value) (all_pair_names ps))

-- a value of one level
agrees_at : (v : Value) (b : Bool) (names : List Held) → holds_future v ≡ b → names_of v ≡ names → b ≡ list_any is_future names → Agrees v
agrees_at v b names holds are same = holds ∙ same ∙ ap (list_any is_future) (sym are)

-- a value holds a future exactly where one is among its names
pub holds_future-names : (v : Value) → holds_future v ≡ list_any is_future (names_of v)
holds_future-names v = by_parts Agrees (record {
  nil = agrees_at value.Nil false [] (search (rules, the_lemmas)) names_of-Nil refl;
  bool = λ b. agrees_at (value.Bool b) false [] (search (rules, the_lemmas)) (names_of-Bool b) refl;
  int = λ n. agrees_at (value.Int n) false [] (search (rules, the_lemmas)) (names_of-Int n) refl;
  str = λ text. agrees_at (value.Str text) false [] (search (rules, the_lemmas)) (names_of-Str text) refl;
  kw = λ name. agrees_at (value.Kw name) false [] (search (rules, the_lemmas)) (names_of-Kw name) refl;
  vector = λ vs all. agrees_at (value.Vector vs) (list_any holds_future vs) (all_names vs) (holds_future-Vector vs) (names_of-Vector vs) (any_of_all vs all);
  map = λ ps all. agrees_at (value.Map ps) (list_any (λ (p : Pair Value). holds_future p.value) ps) (all_pair_names ps) (holds_future-Map ps) (names_of-Map ps) (any_of_pairs ps all);
  ref = λ name. agrees_at (value.Ref name) false (OfRef name ∷ []) (search (rules, the_lemmas)) (names_of-Ref name) refl;
  actor = λ name. agrees_at (value.Actor name) false (OfActor name ∷ []) (search (rules, the_lemmas)) (names_of-Actor name) refl;
  future = λ name. agrees_at (value.Future name) true (OfFuture name ∷ []) (search (rules, the_lemmas)) (names_of-Future name) refl;
}) v

-- a value that holds no future is within any names of futures
pub Within-any_futures : (R A F F' : List ℕ → Type 0) (v : Value) → holds_future v ≡ false → Within R A F v → Within R A F' v
Within-any_futures R A F F' v none all = on (names_of v) (sym (holds_future-names v) ∙ none) all
  where
    name_within : (name : Held) → is_future name ≡ false → IsHeld R A F name → IsHeld R A F' name
    name_within (OfRef name) is holds = holds
    name_within (OfActor name) is holds = holds
    name_within (OfFuture name) is holds = absurd (cc)

    on : (names : List Held) → list_any is_future names ≡ false → All (IsHeld R A F) names → All (IsHeld R A F') names
    on [] is all = All-nil (IsHeld R A F')
    on (name ∷ names) is all =
        All-cons (IsHeld R A F') name names (name_within name (neither_left (is_future name) (list_any is_future names) is) (All-head (IsHeld R A F) name names all))
        (on names (neither_right (is_future name) (list_any is_future names) is) (All-tail (IsHeld R A F) name names all))

-- the same for all of a list
pub all_within-any_futures : (R A F F' : List ℕ → Type 0) (vs : List Value) → list_any holds_future vs ≡ false → All (Within R A F) vs → All (Within R A F') vs
all_within-any_futures R A F F' [] none all = All-nil (Within R A F')
all_within-any_futures R A F F' (v ∷ vs) none all =
    All-cons (Within R A F') v vs
    (Within-any_futures R A F F' v (neither_left (holds_future v) (list_any holds_future vs) none) (All-head (Within R A F) v vs all))
    (all_within-any_futures R A F F' vs (neither_right (holds_future v) (list_any holds_future vs) none) (All-tail (Within R A F) v vs all))
