use Rattle.std.proofs.Common.{◌∙◌, ap, sym}
use Rattle.std.specs.BTreeMap.{BTreeMap}
use Rattle.std.specs.Option.{option_copied_mut}
use Rattle.value_core.specs.Named.{Name, same_name}
use Rattle.value_core.specs.Roomy.{Roomy}
use Rattle.value_core.proofs.NameMaps.{none_named, rises_of}
use Rattle.actor_mailbox.specs.declared.message.Message.{Message}
use Rattle.actor_mailbox.specs.Messages.{without}
use Rattle.actor_mails.specs.Mails.{held, items_in, mail_at}
use Rattle.actor_mails.proofs.BoxLaws.{dropped, put_back, rises_kept, room_kept, IsPutBack}
use Rattle.actor_mails.proofs.Held.{held_at}
use Rattle.actor_mails.proofs.mails.drop_in.Goals as goal

back : (c : goal.After-boxes-in-Some-1) → IsPutBack c.args.to.now c.in-Some.mailbox.now c.drop_of.new.self c.args.boxes.now.entries (c.get_mut.follows.lender c.drop_of.new.self).entries
back c = put_back _ _ _ c.args.boxes.now (c.get_mut.follows.lender c.drop_of.new.self) _ c.get_mut.ensures.value (ap option_copied_mut c.in-Some.is) (c.get_mut.follows.holds c.drop_of.new.self)

pub returns-in-Some-clause-mail : goal.returns-in-Some-clause-mail
returns-in-Some-clause-mail c = dropped _ _ _ _ _ (back c) (same_name c.args.on.now) c.drop_of.ensures.items

pub returns-in-Some-clause-room : goal.returns-in-Some-clause-room
returns-in-Some-clause-room c = room_kept _ _ _ _ _ (back c) c.drop_of.ensures.room

pub returns-in-Some-clause-rises : goal.returns-in-Some-clause-rises
returns-in-Some-clause-rises c = λ _. rises_kept _ _ _ _ _ (back c)

-- no box is there
pub returns-in_default-clause-mail : goal.returns-in_default-clause-mail
returns-in_default-clause-mail c =
    let none = held_at c.args.boxes.now.entries c.args.to.now (rises_of c.args.boxes.now.entries c.get_mut.ensures.ordered) ∙ ap items_in (none_named c.args.to.now c.args.boxes.now _ c.get_mut.ensures.value (ap option_copied_mut c.in_default.is)) in
    let same = ap (λ (boxes : BTreeMap Name (Roomy Message)). held boxes.entries) c.get_mut.follows.holds-at-none in
    record {
      here = ap (λ m. mail_at m c.args.to.now) same ∙ none ∙ sym (ap (without (same_name c.args.on.now)) none);
      others = λ q ne. ap (λ m. mail_at m q) same;
    }
