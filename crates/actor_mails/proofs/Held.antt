-- What boxes hold, by name, and when it is the same.
use Rattle.std.proofs.Common.{◌≡◌, ◌∙◌, List, [], ◌∷◌, Option, Some, None, refl, sym, ap, subst}
use Rattle.std.specs.FinMap.Entries.{same_entries}
use Rattle.std.specs.Option.{option_and_then, option_map}
use Rattle.value_core.specs.Name.{after_cmp}
use Rattle.value_core.specs.Named.{Name, each_as, named, with_named, Rises}
use Rattle.value_core.specs.NameOrder.{after_cmp_total}
use Rattle.value_core.specs.Placed.{Placed, filled}
use Rattle.value_core.specs.Roomy.{Roomy}
use Rattle.value_core.proofs.NamedLaws.{Each}
use Rattle.value_core.proofs.NamedViews.{each_as-with_named, named-each_as, rises_each, view_none}
use Rattle.value_core.proofs.Names.{after_cmp-IsAntisymmetric}
use Rattle.value_core.proofs.PlacedLaws.{named_filled, prepared_shows, rises_filled}
use Rattle.actor_mailbox.specs.declared.message.Message.{Message}
use Rattle.actor_mails.specs.Mails.{held, held_in, if_any, items_in, mail_at, those, Boxes, Mail, SameMail}

-- what is held under a name
abbrev held_of : Option (Roomy Message) → Option (List Message)
held_of box = option_and_then (λ (messages : Option (List Message)). messages) (option_map held_in box)

named-held : (boxes : Boxes) (actor : Name) → Rises boxes → named actor (held boxes) ≡ held_of (named actor boxes)
named-held boxes actor rises =
    named_filled actor (each_as held_in boxes) (rises_each held_in boxes rises)
    ∙ ap (option_and_then (λ (messages : Option (List Message)). messages)) (named-each_as held_in actor boxes)

-- what waits for an actor is what its box holds
pub held_at : (boxes : Boxes) (actor : Name) → Rises boxes → mail_at (held boxes) actor ≡ items_in (named actor boxes)
held_at boxes actor rises = ap those (named-held boxes actor rises) ∙ on (named actor boxes)
  where
    all : (items : List Message) → those (if_any items) ≡ items
    all [] = refl
    all (first ∷ others) = refl

    on : (box : Option (Roomy Message)) → those (held_of box) ≡ items_in box
    on None = refl
    on (Some box) = all box.items

-- where the names of the boxes rise, those of what they hold do
pub rises_held : (boxes : Boxes) → Rises boxes → Rises (held boxes)
rises_held boxes rises = rises_filled (each_as held_in boxes) (rises_each held_in boxes rises)

-- messages wait for each actor that the mail names
abbrev pub HasNoEmpty : Mail → Type 0
HasNoEmpty mail = Each (λ (_ : Name) (messages : List Message). ¬ (messages ≡ [])) mail

-- what boxes hold names no actor for which nothing waits
pub held_full : (boxes : Boxes) → Rises boxes → HasNoEmpty (held boxes)
held_full boxes rises actor messages is = on (named actor boxes) (sym (named-held boxes actor rises) ∙ is)
  where
    some : (items : List Message) → if_any items ≡ Some messages → ¬ (messages ≡ [])
    some [] is none = cc
    some (first ∷ others) is none = cc

    on : (box : Option (Roomy Message)) → held_of box ≡ Some messages → ¬ (messages ≡ [])
    on None is none = cc
    on (Some box) is none = some box.items is none

those_same : (a b : Option (List Message)) → ((messages : List Message) → a ≡ Some messages → ¬ (messages ≡ [])) → ((messages : List Message) → b ≡ Some messages → ¬ (messages ≡ []))
    → those a ≡ those b → a ≡ b
those_same None None left right same = refl
those_same None (Some messages) left right same = absurd (right messages refl (sym same))
those_same (Some messages) None left right same = absurd (left messages refl same)
those_same (Some messages) (Some others) left right same = ap Some same

-- mails in the order of their names, which name no actor for which nothing waits, are the same where the same waits for each
pub same_mails : (old new : Mail) → Rises old → Rises new → HasNoEmpty old → HasNoEmpty new → SameMail old new → new ≡ old
same_mails old new rises_old rises_new full_old full_new same =
    same_entries after_cmp after_cmp_total after_cmp-IsAntisymmetric new old rises_new rises_old
    (λ actor. those_same (named actor new) (named actor old) (full_new actor) (full_old actor) (same actor))

-- so boxes hold the same where the same waits for each
pub held_same : (old new : Boxes) → Rises old → Rises new → SameMail (held old) (held new) → held new ≡ held old
held_same old new rises_old rises_new = same_mails (held old) (held new) (rises_held old rises_old) (rises_held new rises_new) (held_full old rises_old) (held_full new rises_new)

-- a box that is made holds nothing
pub held_made : (to : Name) (box : Roomy Message) (old : Boxes) → box.items ≡ [] → named to old ≡ None → held (with_named old to box) ≡ held old
held_made to box old empty none =
    ap (λ (places : Placed (List Message)). filled places)
    (each_as-with_named held_in to box old ∙ ap (λ (messages : Option (List Message)). with_named (each_as held_in old) to messages) (ap if_any empty))
    ∙ prepared_shows to (each_as held_in old) (view_none held_in to old none)

-- what waits is what the box holds that was found
pub seen : (self inside : Boxes) (actor : Name) (found box : Option (Roomy Message)) → inside ≡ self → Rises inside → found ≡ named actor inside → found ≡ box → mail_at (held self) actor ≡ items_in box
seen self inside actor found box view rises find is =
    subst (λ (boxes : Boxes). mail_at (held boxes) actor ≡ items_in box) view (held_at inside actor rises ∙ ap items_in (sym find ∙ is))
