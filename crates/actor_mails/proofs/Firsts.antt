-- The first actor of a map of boxes for which messages wait, and a bound before which there is none.
use Rattle.std.proofs.Common.{◌≡◌, ◌∙◌, ◌&&◌, ◌⊎◌, ◌∷◌, [], Bool, List, Option, Some, None, true, false, cond, inl, inr, refl, sym, ap, arith, length, subst, true≢false}
use Rattle.std.specs.BTreeMap.Range.{range_contains}
use Rattle.std.specs.declared.cmp.Ordering.{Ordering}
use Rattle.std.specs.declared.cmp.Ordering.TheVariants.{Less, Equal, Greater}
use Rattle.std.specs.declared.ops.Bound.TheVariants.{Unbounded}
use Rattle.std.specs.List.{filter}
use Rattle.std.specs.Ordering.{is_gt, is_le, is_lt, ordering_reverse}
use Rattle.std.specs.Prelude.{MatchOption}
use Rattle.actor_mailbox.specs.BySender.{IsBySender}
use Rattle.actor_mailbox.specs.declared.message.Message.{Message}
use Rattle.actor_mails.specs.Firsts.{bound_with, start_bound, IsBefore, IsBounded, IsFirstWithMail}
use Rattle.actor_mails.specs.Mails.{held, items_in, mail_at, Boxes, IsMailed, Mail, NoMail, SameMailBut}
use Rattle.actor_mails.proofs.Held.{held_at}
use Rattle.actor_mails.proofs.Waiting.{empty, none_waits, vacant}
use Rattle.value_core.proofs.NamedLaws.{found_first, named-before, named-first, named-rest, rises-rest, same_or_not}
use Rattle.value_core.specs.Name.{after_cmp}
use Rattle.value_core.specs.NameOrder.{after_cmp_total}
use Rattle.value_core.specs.Named.{Name, Rises, named}
use Rattle.value_core.specs.Roomy.{Roomy}

-- the first name of the list under which a message waits
abbrev pub first_in : Boxes → Option Name
first_in [] = None
first_in (e ∷ es) = cond (none_waits e.1.items) (first_in es) (Some e.0)

-- of those that meet the test
abbrev pub first_such : (Name → Bool) → Boxes → Option Name
first_such test es = first_in (filter (λ e. test e.0) es)

-- what waits in the box of that name
abbrev waiting : Boxes → Name → List Message
waiting es q = items_in (named q es)

some_same : {X : Type 0} (x y : X) → Some x ≡ Some y → x ≡ y
some_same x y e = cc

-- what comes before the first name of a map is not there
before_first : (q : Name) (e : Name × Roomy Message) (es : Boxes) → Rises (e ∷ es) → after_cmp e.0 q ≡ Greater → waiting (e ∷ es) q ≡ []
before_first q e es rises greater = ap items_in (named-before q e es rises (after_cmp_total.antisymm q e.0 ∙ ap ordering_reverse greater))

-- what a first name is
pub record IsFirstSuch (test : Name → Bool) (es : Boxes) (k : Name) : Type 0 where
  pub there : ¬ (items_in (named k es) ≡ [])
  pub meets : test k ≡ true
  pub first : (q : Name) → test q ≡ true → ¬ (items_in (named q es) ≡ []) → is_gt (after_cmp k q) ≡ false

module _ (test : Name → Bool) where
  -- nothing waits for a name that meets the test, where nothing such waits below the head
  none_at : (e : Name × Roomy Message) (es : Boxes) (q : Name) → test q ≡ true → (test e.0 ≡ true → e.1.items ≡ []) → waiting es q ≡ [] → waiting (e ∷ es) q ≡ []
  none_at e es q meets head rest = on (named q (e ∷ es)) refl
    where
      on : (found : Option (Roomy Message)) → named q (e ∷ es) ≡ found → waiting (e ∷ es) q ≡ []
      on None absent = ap items_in absent
      on (Some box) there = elim (found_first q box e es there) [
        | inl here ↦ ap items_in there ∙ ap (λ (b : Roomy Message). b.items) here.1 ∙ head (ap test (sym here.0) ∙ meets)
        | inr below ↦ ap items_in there ∙ sym (ap items_in below) ∙ rest
      ]

  -- none comes exactly where nothing waits there
  pub none_such : (es : Boxes) → first_such test es ≡ None → (q : Name) → test q ≡ true → items_in (named q es) ≡ []
  none_such [] none q meets = refl
  none_such (e ∷ es) none q meets = on (test e.0) refl none (λ rest. none_such es rest q meets)
    where
      on_box : (vacancy : Bool) → none_waits e.1.items ≡ vacancy → cond vacancy (first_such test es) (Some e.0) ≡ None → (first_such test es ≡ None → waiting es q ≡ []) → waiting (e ∷ es) q ≡ []
      on_box false is some later = absurd (cc)
      on_box true is rest later = none_at e es q meets (λ _. empty e.1.items is) (later rest)

      on : (t : Bool) → test e.0 ≡ t → first_in (cond t (e ∷ filter (λ x. test x.0) es) (filter (λ x. test x.0) es)) ≡ None → (first_such test es ≡ None → waiting es q ≡ []) → waiting (e ∷ es) q ≡ []
      on true is so later = on_box (none_waits e.1.items) refl so later
      on false is so later = none_at e es q meets (λ meets_head. absurd (true≢false (sym meets_head ∙ is))) (later so)

  -- what is first in the rest is first in all, where the head isn't such
  later : (e : Name × Roomy Message) (es : Boxes) (k : Name) → Rises (e ∷ es) → IsFirstSuch test es k → (test e.0 ≡ true → e.1.items ≡ []) → IsFirstSuch test (e ∷ es) k
  later e es k rises first head = record { there = there; meets = first.meets; first = least }
    where
      there : ¬ (waiting (e ∷ es) k ≡ [])
      there none = on (named k es) refl
        where
          on : (found : Option (Roomy Message)) → named k es ≡ found → ⊥
          on None absent = first.there (ap items_in absent)
          on (Some box) is = first.there (ap items_in is ∙ sym (ap items_in (named-rest k box e es rises is)) ∙ none)

      least : (q : Name) → test q ≡ true → ¬ (waiting (e ∷ es) q ≡ []) → is_gt (after_cmp k q) ≡ false
      least q meets waits = on (named q (e ∷ es)) refl
        where
          on : (found : Option (Roomy Message)) → named q (e ∷ es) ≡ found → is_gt (after_cmp k q) ≡ false
          on None absent = absurd (waits (ap items_in absent))
          on (Some box) found = elim (found_first q box e es found) [
            | inl here ↦ absurd (waits (ap items_in found ∙ ap (λ (b : Roomy Message). b.items) here.1 ∙ head (ap test (sym here.0) ∙ meets)))
            | inr below ↦ first.first q meets (λ none. waits (ap items_in found ∙ sym (ap items_in below) ∙ none))
          ]

  pub first_is : (es : Boxes) (k : Name) → Rises es → first_such test es ≡ Some k → IsFirstSuch test es k
  first_is [] k rises some = absurd (cc)
  first_is (e ∷ es) k rises some = on (test e.0) refl some (λ rest. first_is es k (rises-rest e es rises) rest)
    where
      here : test e.0 ≡ true → ¬ (e.1.items ≡ []) → IsFirstSuch test (e ∷ es) e.0
      here meets waits = record {
        there = λ none. waits (sym (ap items_in (named-first e es)) ∙ none);
        meets = meets;
        first = least;
      }
        where
          least : (q : Name) → test q ≡ true → ¬ (waiting (e ∷ es) q ≡ []) → is_gt (after_cmp e.0 q) ≡ false
          least q meets is = by_order (after_cmp e.0 q) refl
            where
              by_order : (o : Ordering) → after_cmp e.0 q ≡ o → is_gt o ≡ false
              by_order Less so = refl
              by_order Equal so = refl
              by_order Greater so = absurd (is (before_first q e es rises so))

      on_box : (vacancy : Bool) → none_waits e.1.items ≡ vacancy → test e.0 ≡ true → cond vacancy (first_such test es) (Some e.0) ≡ Some k → (first_such test es ≡ Some k → IsFirstSuch test es k) → IsFirstSuch test (e ∷ es) k
      on_box false is meets so below = subst (IsFirstSuch test (e ∷ es)) (some_same e.0 k so) (here meets (λ none. true≢false (sym (vacant e.1.items none) ∙ is)))
      on_box true is meets so below = later e es k rises (below so) (λ _. empty e.1.items is)

      on : (t : Bool) → test e.0 ≡ t → first_in (cond t (e ∷ filter (λ x. test x.0) es) (filter (λ x. test x.0) es)) ≡ Some k → (first_such test es ≡ Some k → IsFirstSuch test es k) → IsFirstSuch test (e ∷ es) k
      on true is so below = on_box (none_waits e.1.items) refl is so below
      on false is so below = later e es k rises (below so) (λ meets. absurd (true≢false (sym meets ∙ is)))

-- the names that don't come before the bound
abbrev pub from_test : Option Name → Name → Bool
from_test start q = range_contains after_cmp (start_bound start) Unbounded q

before : (start : Option Name) (q : Name) → from_test start q ≡ false → IsBefore start q
before None q is = absurd (true≢false is)
before (Some s) q is = on (after_cmp s q) refl is
  where
    on : (o : Ordering) → after_cmp s q ≡ o → (is_le o && true) ≡ false → after_cmp q s ≡ Less
    on Less so is = absurd (true≢false is)
    on Equal so is = absurd (true≢false is)
    on Greater so is = after_cmp_total.antisymm q s ∙ ap ordering_reverse so

-- what waits for nobody from the bound on waits for nobody, and the first from there on is the first of all
module _ (start : Option Name) (boxes : Boxes) (bounded : IsBounded start boxes) where
  nobody : first_such (from_test start) boxes ≡ None → NoMail (held boxes)
  nobody is q = on (from_test start q) refl
    where
      on : (t : Bool) → from_test start q ≡ t → mail_at (held boxes) q ≡ []
      on true so = held_at boxes q bounded.rises ∙ none_such (from_test start) boxes is q so
      on false so = bounded.none q (before start q so)

  first_of_all : (k : Name) → first_such (from_test start) boxes ≡ Some k → IsFirstWithMail (held boxes) k
  first_of_all k is = record {
    there = λ none. first.there (sym (held_at boxes k bounded.rises) ∙ none);
    first = λ q waits. on q waits (from_test start q) refl;
  }
    where
      first : IsFirstSuch (from_test start) boxes k
      first = first_is (from_test start) boxes k bounded.rises is

      on : (q : Name) → ¬ (mail_at (held boxes) q ≡ []) → (t : Bool) → from_test start q ≡ t → is_gt (after_cmp k q) ≡ false
      on q waits true so = first.first q so (λ none. waits (held_at boxes q bounded.rises ∙ none))
      on q waits false so = absurd (waits (bounded.none q (before start q so)))

  -- what was found is the first, or nobody has mail
  pub found_is : (found : Option Name) → found ≡ first_such (from_test start) boxes → MatchOption found (NoMail (held boxes)) (IsFirstWithMail (held boxes))
  found_is None is = nobody (sym is)
  found_is (Some k) is = first_of_all k (sym is)

-- the first actor with mail is a bound
pub bounded_by : (boxes : Boxes) (k : Name) → Rises boxes → IsFirstWithMail (held boxes) k → IsBounded (Some k) boxes
bounded_by boxes k rises is = record { rises = rises; none = λ q less. on q less (mail_at (held boxes) q) refl }
  where
    on : (q : Name) → after_cmp q k ≡ Less → (mail : List Message) → mail_at (held boxes) q ≡ mail → mail_at (held boxes) q ≡ []
    on q less [] at = at
    on q less (m ∷ ms) at = absurd (true≢false (sym (ap is_gt (after_cmp_total.antisymm k q ∙ ap ordering_reverse less)) ∙ is.first q (λ none. cc)))

-- ---- a bound stays one where mail becomes less
pub still : (start : Option Name) (old new : Boxes) → IsBounded start old → Rises new → ((q : Name) → mail_at (held old) q ≡ [] → mail_at (held new) q ≡ []) → IsBounded start new
still start old new was rises less = record { rises = rises; none = λ q is. less q (was.none q is) }

pub still_same : (start : Option Name) (old new : Boxes) → IsBounded start old → Rises new → held new ≡ held old → IsBounded start new
still_same start old new was rises same = still start old new was rises (λ q none. ap (λ (mail : Mail). mail_at mail q) same ∙ none)

pub still_but : (start : Option Name) (to : Name) (old new : Boxes) → IsBounded start old → Rises new → (mail_at (held old) to ≡ [] → mail_at (held new) to ≡ []) → SameMailBut to (held old) (held new) → IsBounded start new
still_but start to old new was rises here others = still start old new was rises (λ q. on q (same_or_not q to))
  where
    on : (q : Name) → (q ≡ to) ⊎ ¬ (q ≡ to) → mail_at (held old) q ≡ [] → mail_at (held new) q ≡ []
    on q (inl is) none = subst (λ name. mail_at (held old) name ≡ [] → mail_at (held new) name ≡ []) (sym is) here none
    on q (inr apart) none = others q apart ∙ none

pub still_mailed : (start : Option Name) (to : Name) (mail : List Message) (old new : Boxes) → IsBounded start old → Rises new → IsMailed to mail (held old) (held new) → (mail_at (held old) to ≡ [] → mail ≡ []) → IsBounded start new
still_mailed start to mail old new was rises is less = still_but start to old new was rises (λ none. is.here ∙ less none) is.others

pub still_taken : (start : Option Name) (actor : Name) (old new : Boxes) (first : Option Message) → IsBounded start old → Rises new
    → MatchOption first ((mail_at (held old) actor ≡ []) × (held new ≡ held old)) (λ message. (mail_at (held old) actor ≡ message ∷ mail_at (held new) actor) × SameMailBut actor (held old) (held new))
    → IsBounded start new
still_taken start actor old new None was rises is = still_same start old new was rises is.1
still_taken start actor old new (Some message) was rises is = still_but start actor old new was rises (λ none. no_more (sym is.0 ∙ none)) is.1
  where
    no_more : message ∷ mail_at (held new) actor ≡ [] → mail_at (held new) actor ≡ []
    no_more so = cc

-- nothing stands by sender only where nothing did
pub sorted_none : (old new : List Message) → IsBySender old new → old ≡ [] → new ≡ []
sorted_none old [] by none = refl
sorted_none old (m ∷ ms) by none = absurd (let is = by.length in let was : length old ≡ 0 = ap length none in omega arith)

-- ---- and where it is given up for an actor that comes before it
pub moved : (start : Option Name) (to : Name) (mail : List Message) (old new : Boxes) → IsBounded start old → Rises new → IsMailed to mail (held old) (held new) → IsBounded (bound_with to start) new
moved None to mail old new was rises is = record { rises = rises; none = λ q before. absurd before }
moved (Some s) to mail old new was rises is = on (is_lt (after_cmp to s)) refl
  where
    apart : (q : Name) → is_lt (after_cmp to s) ≡ false → after_cmp q s ≡ Less → ¬ (q ≡ to)
    apart q not_less less same = true≢false (sym (ap is_lt (ap (λ (name : Name). after_cmp name s) (sym same) ∙ less)) ∙ not_less)

    on : (t : Bool) → is_lt (after_cmp to s) ≡ t → IsBounded (cond t None (Some s)) new
    on true so = record { rises = rises; none = λ q before. absurd before }
    on false so = record { rises = rises; none = λ q less. is.others q (apart q so less) ∙ was.none q less }
