use Rattle.std.proofs.Common.{◌∙◌, sym, ap}
use Rattle.std.specs.Option.{option_copied}
use Rattle.serial_model.specs.First.{first_sender}
use Rattle.actor_queues.specs.Waiting.{has_first, mail_of}
use Rattle.actor_queues.proofs.FirstMessages.{sender_first}
use Rattle.actor_queues.proofs.Mails.{mail_rises}
use Rattle.value_core.proofs.NameMarks.{first_of_set}
use Rattle.actor_queues.proofs.mail.Mail.first.Goals as goal

pub returns : goal.returns
returns c =
    let mail = mail_of c.self.inside.queues in
    sym (sender_first mail ∙ first_of_set has_first mail c.self.inside.waiting (option_copied c.first.result) (mail_rises c.self.inside.queues c.len-count.ensures.ordered) c.self.invariant c.first.ensures)
    ∙ ap first_sender c.self.view_is
