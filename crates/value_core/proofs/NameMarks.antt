-- Sets that have just the names whose items meet a test.
use Rattle.std.proofs.Common.{◌≡◌, ◌∙◌, Bool, true, false, cond, [], ◌∷◌, refl, sym, ap, subst, Option, Some, None}
use Rattle.std.specs.Prelude.{◌||◌, ◌&&◌, not, if◌then◌else◌}
use Rattle.std.specs.BTreeSet.{BTreeSet}
use Rattle.std.specs.declared.cmp.Ordering.{Ordering}
use Rattle.std.specs.declared.cmp.Ordering.TheVariants.{Less, Equal, Greater}
use Rattle.std.specs.Ordering.{is_gt}
use Rattle.value_core.specs.Name.{after_cmp}
use Rattle.value_core.proofs.Names.{after_cmp-IsAntisymmetric}
use Rattle.value_core.specs.Named.{Name, Named, named, with_named, same_name, Rises, AgreeBut}
use Rattle.value_core.proofs.NamedLaws.{named-with_named, named-before, named-first, named-rest, rises-rest, same_name-equal}
use Rattle.value_core.specs.NameSet.{has_name, holds_at, HasJust, IsFirst, IsWith, IsWithout}

-- what is put under a name changes nothing else
pub agree_put : {X : Type 0} (name : Name) (x : X) (old new : Named X) → new ≡ with_named old name x → AgreeBut name old new
agree_put name x old new put q apart = ap (named q) put ∙ named-with_named q name x old ∙ ap (λ b. cond b (Some x) (named q old)) apart

pub agree_same : {X : Type 0} (name : Name) (old new : Named X) → new ≡ old → AgreeBut name old new
agree_same name old new same q apart = ap (named q) same

module _ {X : Type 0} (test : X → Bool) (name : Name) where
  -- the name is added where its item meets the test now
  pub just_with : (old new : Named X) (s t : BTreeSet Name) → HasJust test s old → IsWith name s t → AgreeBut name old new → holds_at test (named name new) ≡ true → HasJust test t new
  just_with old new s t just with agree here q = with q ∙ on (same_name q name) refl
    where
      on : (b : Bool) → same_name q name ≡ b → (has_name s q || b) ≡ holds_at test (named q new)
      on true same = either (has_name s q) ∙ sym (subst (λ n. holds_at test (named n new) ≡ true) (sym (same_name-equal q name same)) here)
        where
          either : (b : Bool) → (b || true) ≡ true
          either true = refl
          either false = refl
      on false apart = neither (has_name s q) ∙ just q ∙ ap (holds_at test) (sym (agree q apart))
        where
          neither : (b : Bool) → (b || false) ≡ b
          neither true = refl
          neither false = refl

  -- it is taken out where its item doesn't meet it now
  pub just_without : (old new : Named X) (s t : BTreeSet Name) → HasJust test s old → IsWithout name s t → AgreeBut name old new → holds_at test (named name new) ≡ false → HasJust test t new
  just_without old new s t just without agree here q = without q ∙ on (same_name q name) refl
    where
      on : (b : Bool) → same_name q name ≡ b → (has_name s q && not b) ≡ holds_at test (named q new)
      on true same = neither (has_name s q) ∙ sym (subst (λ n. holds_at test (named n new) ≡ false) (sym (same_name-equal q name same)) here)
        where
          neither : (b : Bool) → (b && false) ≡ false
          neither true = refl
          neither false = refl
      on false apart = both (has_name s q) ∙ just q ∙ ap (holds_at test) (sym (agree q apart))
        where
          both : (b : Bool) → (b && true) ≡ b
          both true = refl
          both false = refl

  -- the set stays where its item meets the test as before
  pub just_still : (old new : Named X) (s : BTreeSet Name) → HasJust test s old → AgreeBut name old new → holds_at test (named name new) ≡ holds_at test (named name old) → HasJust test s new
  just_still old new s just agree here q = on (same_name q name) refl
    where
      on : (b : Bool) → same_name q name ≡ b → has_name s q ≡ holds_at test (named q new)
      on true same = just q ∙ subst (λ n. holds_at test (named n old) ≡ holds_at test (named n new)) (sym (same_name-equal q name same)) (sym here)
      on false apart = just q ∙ ap (holds_at test) (sym (agree q apart))

  -- a name that was added and is taken out again
  pub just_back : (all : Named X) (s t u : BTreeSet Name) → HasJust test s all → holds_at test (named name all) ≡ false → IsWith name s t → IsWithout name t u → HasJust test u all
  just_back all s t u just none with without q = without q ∙ ap (λ b. b && not (same_name q name)) (with q) ∙ on (same_name q name) refl
    where
      on : (b : Bool) → same_name q name ≡ b → ((has_name s q || b) && not b) ≡ holds_at test (named q all)
      on true same = neither (has_name s q) ∙ sym (subst (λ n. holds_at test (named n all) ≡ false) (sym (same_name-equal q name same)) none)
        where
          neither : (b : Bool) → ((b || true) && false) ≡ false
          neither true = refl
          neither false = refl
      on false apart = both (has_name s q) ∙ just q
        where
          both : (b : Bool) → ((b || false) && true) ≡ b
          both true = refl
          both false = refl

-- the same names are in another set with the same ones
pub just_same : {X : Type 0} (test : X → Bool) (all : Named X) (s t : BTreeSet Name) → t.keys ≡ s.keys → HasJust test s all → HasJust test t all
just_same test all s t same just q = ap (λ ks. has_name (record { keys = ks }) q) same ∙ just q

module _ {X : Type 0} (test : X → Bool) where
  -- the first name whose item meets the test
  abbrev pub first_name : Named X → Option Name
  first_name [] = None
  first_name (e ∷ es) = if test e.1 then Some e.0 else first_name es

  -- behind the first entry the same names meet the test, where the first one doesn't
  behind : (e : Name × X) (es : Named X) → Rises (e ∷ es) → (q : Name) → holds_at test (named q es) ≡ true → holds_at test (named q (e ∷ es)) ≡ true
  behind e es rises q there = on (named q es) refl there
    where
      on : (o : Option X) → named q es ≡ o → holds_at test o ≡ true → holds_at test (named q (e ∷ es)) ≡ true
      on None is none = absurd (cc)
      on (Some x) is meets = ap (holds_at test) (named-rest q x e es rises is) ∙ meets

  pub first_least : (k : Name) (all : Named X) → Rises all → holds_at test (named k all) ≡ true → ((q : Name) → holds_at test (named q all) ≡ true → is_gt (after_cmp k q) ≡ false)
      → first_name all ≡ Some k
  first_least k [] rises there least = cc
  first_least k (e ∷ es) rises there least =
      on (test e.1) refl (λ found. first_least k es (rises-rest e es rises) found (λ q meets. least q (behind e es rises q meets)))
    where
      is_first : test e.1 ≡ true → (o : Ordering) → after_cmp k e.0 ≡ o → e.0 ≡ k
      is_first meets Less is = let none = named-before k e es rises is in cc
      is_first meets Equal is = sym (after_cmp-IsAntisymmetric k e.0 is)
      is_first meets Greater is = let no = least e.0 (ap (holds_at test) (named-first e es) ∙ meets) in cc

      onward : test e.1 ≡ false → (b : Bool) → same_name k e.0 ≡ b → holds_at test (cond b (Some e.1) (named k es)) ≡ true → holds_at test (named k es) ≡ true
      onward fails true same meets = cc
      onward fails false same meets = meets

      on : (b : Bool) → test e.1 ≡ b → (holds_at test (named k es) ≡ true → first_name es ≡ Some k) → (if b then Some e.0 else first_name es) ≡ Some k
      on true meets rest = ap Some (is_first meets (after_cmp k e.0) refl)
      on false fails rest = rest (onward fails (same_name k e.0) refl there)

  later : (e : Name × X) (es : Named X) → Rises (e ∷ es) → (q : Name) → holds_at test (named q (e ∷ es)) ≡ false → (b : Bool) → holds_at test (named q es) ≡ b → holds_at test (named q es) ≡ false
  later e es rises q none true is = let no = behind e es rises q is in cc
  later e es rises q none false is = is

  pub none_first : (all : Named X) → Rises all → ((q : Name) → holds_at test (named q all) ≡ false) → first_name all ≡ None
  none_first [] rises none = refl
  none_first (e ∷ es) rises none = on (test e.1) refl (none_first es (rises-rest e es rises) (λ q. later e es rises q (none q) (holds_at test (named q es)) refl))
    where
      on : (b : Bool) → test e.1 ≡ b → first_name es ≡ None → (if b then Some e.0 else first_name es) ≡ None
      on true meets rest = let yes = ap (holds_at test) (named-first e es) ∙ meets in let no = none e.0 in cc
      on false fails rest = rest

  -- the first name of the set is that of the map
  pub first_of_set : (all : Named X) (s : BTreeSet Name) (found : Option Name) → Rises all → HasJust test s all → IsFirst s found → first_name all ≡ found
  first_of_set all s None rises just none = none_first all rises (λ q. sym (just q) ∙ none q)
  first_of_set all s (Some k) rises just is = first_least k all rises (sym (just k) ∙ is.0) (λ q meets. is.1 q (just q ∙ meets))

-- nothing is in an empty set, and nothing stands in an empty map
pub none_just : {X : Type 0} (test : X → Bool) (set : BTreeSet Name) (all : Named X) → set.keys ≡ [] → all ≡ [] → HasJust test set all
none_just test set all none empty q = ap (λ ks. has_name (record { keys = ks }) q) none ∙ ap (λ es. holds_at test (named q es)) (sym empty)
