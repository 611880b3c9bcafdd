use Rattle.std.proofs.Common.{◌∙◌, ap}
use Rattle.std.specs.BTreeMap.{BTreeMap}
use Rattle.std.specs.Option.{option_copied_mut}
use Rattle.value_core.specs.Named.{Name}
use Rattle.value_core.specs.Roomy.{Roomy}
use Rattle.value_core.proofs.NameMaps.{none_named, rises_of}
use Rattle.actor_mailbox.specs.declared.message.Message.{Message}
use Rattle.actor_mails.specs.Mails.{held, items_in}
use Rattle.actor_mails.proofs.BoxLaws.{put_back, rises_kept, room_kept, taken, IsPutBack}
use Rattle.actor_mails.proofs.Held.{held_at}
use Rattle.actor_mails.proofs.mails.take.Goals as goal

back : (c : goal.After-boxes-in-Some-1) → IsPutBack c.args.actor.now c.in-Some.mailbox.now c.take.new.self c.args.boxes.now.entries (c.get_mut.follows.lender c.take.new.self).entries
back c = put_back _ _ _ c.args.boxes.now (c.get_mut.follows.lender c.take.new.self) _ c.get_mut.ensures.value (ap option_copied_mut c.in-Some.is) (c.get_mut.follows.holds c.take.new.self)

pub returns-in-Some-clause-taken : goal.returns-in-Some-clause-taken
returns-in-Some-clause-taken c = taken _ _ _ _ _ (back c) c.take.result c.take.ensures.taken

pub returns-in-Some-clause-room : goal.returns-in-Some-clause-room
returns-in-Some-clause-room c = room_kept _ _ _ _ _ (back c) c.take.ensures.room

pub returns-in-Some-clause-rises : goal.returns-in-Some-clause-rises
returns-in-Some-clause-rises c = λ _. rises_kept _ _ _ _ _ (back c)

-- no box is there
pub returns-in-None-clause-taken : goal.returns-in-None-clause-taken
returns-in-None-clause-taken c =
    let none = none_named c.args.actor.now c.args.boxes.now _ c.get_mut.ensures.value (ap option_copied_mut c.in-None.is) in (
      held_at c.args.boxes.now.entries c.args.actor.now (rises_of c.args.boxes.now.entries c.get_mut.ensures.ordered) ∙ ap items_in none,
      ap (λ (boxes : BTreeMap Name (Roomy Message)). held boxes.entries) c.get_mut.follows.holds-at-none,
    )
