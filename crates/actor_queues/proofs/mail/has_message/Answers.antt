use Rattle.std.proofs.Common.{◌∙◌, sym, ap}
use Rattle.std.specs.Option.{option_copied}
use Rattle.std.specs.Prelude.{not}
use Rattle.actor_queues.proofs.Mails.{waits_there, waits_nowhere, first_is}
use Rattle.actor_queues.proofs.mail.has_message.Goals as goal

pub returns-in-Some : goal.returns-in-Some
returns-in-Some c = ap not c.is_empty.ensures ∙ first_is c.in-Some.queue.now.len c.in-Some.queue.now.items c.in-Some.queue.now.ok.0
    ∙ sym (waits_there c.args.sender.now c.args.queues.now c.in-Some.queue.now (sym c.find.ensures ∙ ap option_copied c.in-Some.is))

pub returns-in-None : goal.returns-in-None
returns-in-None c = sym (waits_nowhere c.args.sender.now c.args.queues.now (sym c.find.ensures ∙ ap option_copied c.in-None.is))
