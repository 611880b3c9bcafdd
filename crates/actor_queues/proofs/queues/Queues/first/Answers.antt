use Rattle.std.proofs.Common.{◌∙◌, sym, ap}
use Rattle.std.specs.Option.{option_copied}
use Rattle.serial_model.specs.First.{first_message}
use Rattle.actor_queues.specs.Waiting.{waits}
use Rattle.actor_queues.proofs.FirstMessages.{message_first, no_message}
use Rattle.value_core.proofs.NameMaps.{rises_of}
use Rattle.value_core.proofs.NameMarks.{first_of_set}
use Rattle.actor_queues.proofs.queues.Queues.first.Goals as goal

pub returns-in-Some-first : goal.returns-in-Some-first
returns-in-Some-first c =
    let queues = c.self.inside.mails.entries in
    let first = first_of_set waits queues c.self.inside.waiting (option_copied c.first.result) (rises_of queues c.len-count.ensures.ordered) c.self.invariant c.first.ensures in
    sym (message_first queues c.in-Some.actor.now c.in-Some-first.sender.now c.in-Some-find.mail.now (first ∙ ap option_copied c.in-Some.is) (sym c.find.ensures ∙ ap option_copied c.in-Some-find.is)
    (sym c.first-in-Some-find.ensures ∙ ap option_copied c.in-Some-first.is)) ∙ ap first_message c.self.view_is

pub returns-in-None : goal.returns-in-None
returns-in-None c =
    let queues = c.self.inside.mails.entries in
    let first = first_of_set waits queues c.self.inside.waiting (option_copied c.first.result) (rises_of queues c.len-count.ensures.ordered) c.self.invariant c.first.ensures in
    sym (no_message queues (first ∙ ap option_copied c.in-None.is)) ∙ ap first_message c.self.view_is
