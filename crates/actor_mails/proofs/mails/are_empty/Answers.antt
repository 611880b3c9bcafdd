use Rattle.std.proofs.Common.{◌∙◌, ◌&&◌, sym, ap}
use Rattle.value_core.proofs.NameMaps.{rises_of}
use Rattle.actor_mails.proofs.Waiting.{front_waits, no_mail, none_wait}
use Rattle.actor_mails.proofs.mails.are_empty.Goals as goal

pub returns-then-is_some : goal.returns-then-is_some
returns-then-is_some c =
    let waits = front_waits c.in-Some.mailbox.now.items c.front.result (sym c.is_some.ensures ∙ c.if-is_some.true) c.front.ensures in
    no_mail c.args.boxes.now.entries (rises_of c.args.boxes.now.entries c.values-mailbox-items.ensures.ordered) _
    (sym (ap none_wait c.in-Some.ensures.steps ∙ ap (λ b. b && none_wait c.next.new.self) waits) ∙ c.loop-mailbox.invariant)

pub returns : goal.returns
returns c =
    no_mail c.args.boxes.now.entries (rises_of c.args.boxes.now.entries c.values-mailbox-items.ensures.ordered) _ (sym (ap none_wait c.in-None.ensures.steps.0) ∙ c.loop-mailbox.invariant)
