use Rattle.std.proofs.Common.{◌∙◌, ap}
use Rattle.std.specs.BTreeMap.{BTreeMap}
use Rattle.std.specs.Option.{option_copied_mut}
use Rattle.value_core.specs.Named.{Name, named}
use Rattle.value_core.specs.Roomy.{Roomy}
use Rattle.value_core.proofs.NameMaps.{none_named}
use Rattle.actor_mailbox.specs.declared.message.Message.{Message}
use Rattle.actor_mails.proofs.BoxLaws.{mail_kept, put_back, rises_kept, room_kept, IsPutBack}
use Rattle.actor_mails.proofs.mails.reserve.Goals as goal

back : (c : goal.After-boxes-in-Some-1) → IsPutBack c.args.to.now c.in-Some.mailbox.now c.reserve.new.self c.args.boxes.now.entries (c.get_mut.follows.lender c.reserve.new.self).entries
back c = put_back _ _ _ c.args.boxes.now (c.get_mut.follows.lender c.reserve.new.self) _ c.get_mut.ensures.value (ap option_copied_mut c.in-Some.is) (c.get_mut.follows.holds c.reserve.new.self)

pub returns-in-Some-clause-mail : goal.returns-in-Some-clause-mail
returns-in-Some-clause-mail c = mail_kept _ _ _ _ _ (back c) c.reserve.ensures.items

pub returns-in-Some-clause-kept : goal.returns-in-Some-clause-kept
returns-in-Some-clause-kept c = room_kept _ _ _ _ _ (back c) c.reserve.ensures.kept

pub returns-in-Some-clause-rises : goal.returns-in-Some-clause-rises
returns-in-Some-clause-rises c = λ _. rises_kept _ _ _ _ _ (back c)

-- no box is there
pub add_box-requires : goal.add_box-requires
add_box-requires c =
    ap (λ (m : BTreeMap Name (Roomy Message)). named c.args.to.now m.entries) c.get_mut.follows.holds-at-none
    ∙ none_named c.args.to.now c.args.boxes.now (option_copied_mut c.get_mut.result) c.get_mut.ensures.value (ap option_copied_mut c.in-None.is)
