-- Boxes in which no message waits.
use Rattle.std.proofs.Common.{◌≡◌, ◌∙◌, ◌&&◌, inl, inr, Bool, true, false, List, [], ◌∷◌, Option, Some, None, refl, sym, ap}
use Rattle.std.specs.Borrow.{Bor}
use Rattle.std.specs.Prelude.{IsTrue, MatchOption, ◌↔◌, is_some, map, slice_get}
use Rattle.value_core.specs.Named.{Name, named, Rises}
use Rattle.value_core.specs.Roomy.{Roomy}
use Rattle.value_core.proofs.NamedLaws.{found_first, named-first, named-rest, rises-rest}
use Rattle.actor_mailbox.specs.declared.message.Message.{Message}
use Rattle.actor_mails.specs.Mails.{held, items_in, Boxes, NoMail}
use Rattle.actor_mails.proofs.Held.{held_at}

-- whether no message is there
abbrev pub none_waits : List Message → Bool
none_waits [] = true
none_waits (first ∷ others) = false

-- whether no box has one
abbrev pub none_wait : List (Roomy Message) → Bool
none_wait [] = true
none_wait (box ∷ boxes) = none_waits box.items && none_wait boxes

pub empty : (items : List Message) → none_waits items ≡ true → items ≡ []
empty [] is = refl
empty (first ∷ others) is = cc

pub vacant : (items : List Message) → items ≡ [] → none_waits items ≡ true
vacant [] is = refl
vacant (first ∷ others) is = cc

-- a box has one where its front is seen
pub front_waits : (items : List Message) (front : Option (Bor Message)) → is_some front ≡ true → MatchOption front (items ≡ []) (λ m. slice_get items 0 ≡ Some m.now) → none_waits items ≡ false
front_waits [] (Some m) some is = cc
front_waits (first ∷ others) (Some m) some is = refl
front_waits items None some is = cc

and_left : (a b : Bool) → (a && b) ≡ true → a ≡ true
and_left true b is = refl
and_left false b is = is

and_right : (a b : Bool) → (a && b) ≡ true → b ≡ true
and_right true b is = is
and_right false b is = cc

and_both : (a b : Bool) → a ≡ true → b ≡ true → (a && b) ≡ true
and_both true b left right = right
and_both false b left right = cc

-- the boxes without their names
abbrev pub boxes_in : Boxes → List (Roomy Message)
boxes_in boxes = map (λ e. e.1) boxes

-- where no box has one, none has the box of a name
none_under : (boxes : Boxes) → none_wait (boxes_in boxes) ≡ true → (actor : Name) → items_in (named actor boxes) ≡ []
none_under [] is actor = refl
none_under (e ∷ es) is actor = on (named actor (e ∷ es)) refl (none_under es (and_right _ _ is) actor)
  where
    on : (found : Option (Roomy Message)) → named actor (e ∷ es) ≡ found → items_in (named actor es) ≡ [] → items_in found ≡ []
    on None there rest = refl
    on (Some box) there rest = elim (found_first actor box e es there) [
      | inl here ↦ ap (λ (b : Roomy Message). b.items) here.1 ∙ empty e.1.items (and_left _ _ is)
      | inr behind ↦ sym (ap items_in behind) ∙ rest
    ]

under_none : (boxes : Boxes) → Rises boxes → ((actor : Name) → items_in (named actor boxes) ≡ []) → none_wait (boxes_in boxes) ≡ true
under_none [] rises none = refl
under_none (e ∷ es) rises none = and_both _ _ (vacant e.1.items (sym (ap items_in (named-first e es)) ∙ none e.0)) (under_none es (rises-rest e es rises) rest)
  where
    rest : (actor : Name) → items_in (named actor es) ≡ []
    rest actor = on (named actor es) refl
      where
        on : (found : Option (Roomy Message)) → named actor es ≡ found → items_in found ≡ []
        on None there = refl
        on (Some box) there = sym (ap items_in (named-rest actor box e es rises there)) ∙ none actor

-- nobody has mail exactly where no box has a message
pub no_mail : (boxes : Boxes) → Rises boxes → (b : Bool) → b ≡ none_wait (boxes_in boxes) → IsTrue b ↔ NoMail (held boxes)
no_mail boxes rises b is = (
  λ yes actor. held_at boxes actor rises ∙ none_under boxes (sym is ∙ yes) actor,
  λ none. is ∙ under_none boxes rises (λ actor. sym (held_at boxes actor rises) ∙ none actor),
)
