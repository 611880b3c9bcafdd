use Rattle.std.proofs.Common.{ap}
use Rattle.std.specs.Option.{option_copied_mut}
use Rattle.actor_mails.proofs.BoxLaws.{mailed_first, put_back, rises_kept, room_kept-others, IsPutBack}
use Rattle.actor_mails.proofs.mails.put_first.Goals as goal

back : (c : goal.After-boxes-in-Some-1) → IsPutBack c.args.to.now c.in-Some.mailbox.now c.put_before.new.mailbox c.args.boxes.now.entries (c.get_mut.follows.lender c.put_before.new.mailbox).entries
back c = put_back _ _ _ c.args.boxes.now (c.get_mut.follows.lender c.put_before.new.mailbox) _ c.get_mut.ensures.value (ap option_copied_mut c.in-Some.is) (c.get_mut.follows.holds c.put_before.new.mailbox)

pub returns-in-Some-clause-mail : goal.returns-in-Some-clause-mail
returns-in-Some-clause-mail c = mailed_first _ _ _ _ _ (back c) _ c.put_before.ensures.items

pub returns-in-Some-clause-kept : goal.returns-in-Some-clause-kept
returns-in-Some-clause-kept c = room_kept-others _ _ _ _ _ (back c)

pub returns-in-Some-clause-rises : goal.returns-in-Some-clause-rises
returns-in-Some-clause-rises c = λ _. rises_kept _ _ _ _ _ (back c)
