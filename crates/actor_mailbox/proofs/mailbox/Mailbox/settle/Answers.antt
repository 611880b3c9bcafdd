use Rattle.std.proofs.Common.{◌∙◌, ap, sym, subst}
use Rattle.value_core.specs.Named.{same_name}
use Rattle.actor_mailbox.specs.BySender.{AreSortedTo}
use Rattle.actor_mailbox.specs.Messages.{settle}
use Rattle.actor_mailbox.proofs.Rising.{settle_senders, sorted_same}
use Rattle.actor_mailbox.proofs.mailbox.Mailbox.settle.Goals as goal

pub invariant_of-self : goal.invariant_of-self
invariant_of-self c =
    let test = same_name c.args.name.now in
    let ms = c.self.inside.messages.items in
    let contiguous = c.make_contiguous.ensures in
    let written = contiguous.writes_back c.settle_all.new.messages (c.settle_all.auto.messages ∙ contiguous.len) ∙ c.settle_all.ensures ∙ ap (settle test) contiguous.value in
    subst (AreSortedTo c.self.inside.sorted) (sym written) (sorted_same c.self.inside.sorted ms (settle test ms) (settle_senders test ms) c.self.invariant)
