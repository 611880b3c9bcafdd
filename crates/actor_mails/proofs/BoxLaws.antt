-- What a box that is put under a name does to the mail, and to the room.
use Rattle.std.proofs.Common.{◌≡◌, ◌∙◌, ◌⊎◌, inl, inr, ◌≤◌, Bool, List, [], ◌∷◌, ◌++◌, Option, Some, None, sym, ap, subst, arith}
use Rattle.std.specs.Prelude.{MatchOption}
use Rattle.std.specs.BTreeMap.{BTreeMap, get_by, WritesThrough}
use Rattle.std.specs.List.Sorted.{IsStrictlySortedBy}
use Rattle.value_core.specs.Name.{after_cmp}
use Rattle.value_core.specs.Named.{Name, named, with_named, Rises}
use Rattle.value_core.specs.Roomy.{Roomy}
use Rattle.value_core.proofs.NamedLaws.{named-here, named-other, rises-with_named, same_or_not}
use Rattle.value_core.proofs.NameMaps.{found_named, rises_of, written_is_put}
use Rattle.actor_mailbox.specs.declared.message.Message.{Message}
use Rattle.actor_mailbox.specs.BySender.{IsBySender}
use Rattle.actor_mailbox.specs.Messages.{depends_on, settle_first, without}
use Rattle.std.specs.List.{list_any}
use Rattle.actor_mails.specs.Mails.{held, items_in, mail_at, room_at, room_in, Boxes, IsMailed, KeepsRoom, KeepsRoomBut, SameMailBut}
use Rattle.actor_mails.proofs.Held.{held_at, held_same}

-- ---- a box is put under a name
module _ (to : Name) (box : Roomy Message) (old new : Boxes) (put : new ≡ with_named old to box) where
  pub rises_after : Rises old → Rises new
  rises_after rises = subst (λ (boxes : Boxes). Rises boxes) (sym put) (rises-with_named to box old rises)

  mail_here : Rises old → mail_at (held new) to ≡ box.items
  mail_here rises = held_at new to (rises_after rises) ∙ ap (λ (boxes : Boxes). items_in (named to boxes)) put ∙ ap items_in (named-here to box old)

  mail_others : Rises old → SameMailBut to (held old) (held new)
  mail_others rises actor apart =
      held_at new actor (rises_after rises) ∙ ap (λ (boxes : Boxes). items_in (named actor boxes)) put ∙ ap items_in (named-other actor to box old apart)
      ∙ sym (held_at old actor rises)

  pub room_here : room_at new to ≡ box.room
  room_here = ap (λ (boxes : Boxes). room_at boxes to) put ∙ ap room_in (named-here to box old)

  room_others : KeepsRoomBut to old new
  room_others actor apart =
      let same : room_at new actor ≡ room_at old actor = ap (λ (boxes : Boxes). room_at boxes actor) put ∙ ap room_in (named-other actor to box old apart) in
      omega arith

  same_held : Rises old → box.items ≡ mail_at (held old) to → held new ≡ held old
  same_held rises same = held_same old new rises (rises_after rises) (λ actor. on actor (same_or_not actor to))
    where
      on : (actor : Name) → (actor ≡ to) ⊎ ¬ (actor ≡ to) → mail_at (held new) actor ≡ mail_at (held old) actor
      on actor (inl here) = subst (λ name. mail_at (held new) name ≡ mail_at (held old) name) (sym here) (mail_here rises ∙ same)
      on actor (inr apart) = mail_others rises actor apart

  pub keeps_room : room_at old to ≤ box.room → KeepsRoom old new
  keeps_room more actor = on (same_or_not actor to)
    where
      here_more : room_at old to ≤ room_at new to
      here_more = let is = room_here in omega arith

      on : (actor ≡ to) ⊎ ¬ (actor ≡ to) → room_at old actor ≤ room_at new actor
      on (inl here) = subst (λ name. room_at old name ≤ room_at new name) (sym here) here_more
      on (inr apart) = room_others actor apart

-- ---- a box is changed in its place
-- the one box stood under the name, and the other one is put there
pub record IsPutBack (to : Name) (before after : Roomy Message) (old new : Boxes) : Type 0 where
  pub rises : Rises old
  pub there : named to old ≡ Some before
  pub put : new ≡ with_named old to after

-- what is written through a box that was found is put back
pub put_back : (to : Name) (before after : Roomy Message) (old new : BTreeMap Name (Roomy Message)) (found : Option (Roomy Message)) → found ≡ get_by (after_cmp to) old → found ≡ Some before
    → WritesThrough after_cmp (after_cmp to) old after new → IsPutBack to before after old.entries new.entries
put_back to before after old new found value is writes =
    let there = found_named to old found before value is in
    record {
      rises = rises_of old.entries (subst (IsStrictlySortedBy after_cmp) writes.1 writes.4);
      there = there;
      put = written_is_put to old new after before writes there;
    }

module _ (to : Name) (before after : Roomy Message) (old new : Boxes) (back : IsPutBack to before after old new) where
  mail_before : mail_at (held old) to ≡ before.items
  mail_before = held_at old to back.rises ∙ ap items_in back.there

  -- the names of the boxes rise
  pub rises_kept : Rises new
  rises_kept = rises_after to after old new back.put back.rises

  -- the messages of the box come to stand before these
  pub mailed : (more : List Message) → after.items ≡ before.items ++ more → IsMailed to (mail_at (held old) to ++ more) (held old) (held new)
  mailed more items = record {
    here = mail_here to after old new back.put back.rises ∙ items ∙ ap (λ (mail : List Message). mail ++ more) (sym mail_before);
    others = mail_others to after old new back.put back.rises;
  }

  -- the message comes to stand before those of the box
  pub mailed_first : (first : Message) → after.items ≡ first ∷ before.items → IsMailed to (first ∷ mail_at (held old) to) (held old) (held new)
  mailed_first first items = record {
    here = mail_here to after old new back.put back.rises ∙ items ∙ ap (λ (mail : List Message). first ∷ mail) (sym mail_before);
    others = mail_others to after old new back.put back.rises;
  }

  pub room_kept-others : KeepsRoomBut to old new
  room_kept-others = room_others to after old new back.put

  pub mail_kept : after.items ≡ before.items → held new ≡ held old
  mail_kept same = same_held to after old new back.put back.rises (same ∙ sym mail_before)

  pub room_kept : before.room ≤ after.room → KeepsRoom old new
  room_kept more = keeps_room to after old new back.put (let was : room_at old to ≡ before.room = ap room_in back.there in omega arith)

  -- the first message of the box is taken, where there is one
  pub taken : (first : Option Message) → MatchOption first ((before.items ≡ []) × (after.items ≡ [])) (λ message. before.items ≡ message ∷ after.items)
      → MatchOption first ((mail_at (held old) to ≡ []) × (held new ≡ held old)) (λ message. (mail_at (held old) to ≡ message ∷ mail_at (held new) to) × SameMailBut to (held old) (held new))
  taken None none = (mail_before ∙ none.0, mail_kept (none.1 ∙ sym none.0))
  taken (Some message) some = (
    mail_before ∙ some ∙ ap (λ (rest : List Message). message ∷ rest) (sym (mail_here to after old new back.put back.rises)),
    mail_others to after old new back.put back.rises,
  )

  -- the first message of the box that depends on a name that passes is definite, where there is one
  pub settled : (test : Name → Bool) → after.items ≡ settle_first test before.items → IsMailed to (settle_first test (mail_at (held old) to)) (held old) (held new)
  settled test items = record {
    here = mail_here to after old new back.put back.rises ∙ items ∙ ap (settle_first test) (sym mail_before);
    others = mail_others to after old new back.put back.rises;
  }

  pub found_first : (test : Name → Bool) → list_any (depends_on test) before.items ≡ list_any (depends_on test) (mail_at (held old) to)
  found_first test = ap (list_any (depends_on test)) (sym mail_before)

  -- the messages of the box that depend on a name that passes are gone
  pub dropped : (test : Name → Bool) → after.items ≡ without test before.items → IsMailed to (without test (mail_at (held old) to)) (held old) (held new)
  dropped test items = record {
    here = mail_here to after old new back.put back.rises ∙ items ∙ ap (without test) (sym mail_before);
    others = mail_others to after old new back.put back.rises;
  }

  -- the messages of the box stand by sender
  pub sorted : IsBySender before.items after.items → IsBySender (mail_at (held old) to) (mail_at (held new) to)
  sorted by = subst (λ (mail : List Message). IsBySender mail (mail_at (held new) to)) (sym mail_before) (subst (IsBySender before.items) (sym (mail_here to after old new back.put back.rises)) by)

  pub others_kept : SameMailBut to (held old) (held new)
  others_kept = mail_others to after old new back.put back.rises
