use Rattle.std.proofs.Common.{◌≡◌, ◌∙◌, None, Some, cond, false, sym, ap}
use Rattle.std.specs.Option.{option_copied}
use Rattle.actor_mails.proofs.Firsts.{first_in, found_is}
use Rattle.actor_mails.proofs.Waiting.{front_waits, none_waits}
use Rattle.actor_mails.proofs.mails.first_from.Goals as goal

pub returns-then-is_some : goal.returns-then-is_some
returns-then-is_some c =
    let waits : none_waits c.in-Some.mailbox.now.items ≡ false = front_waits c.in-Some.mailbox.now.items c.front.result (sym c.is_some.ensures ∙ c.if-is_some.true) c.front.ensures in
    let found : Some c.in-Some.next.now ≡ first_in c.loop-next.next-iterator =
    sym (ap first_in c.in-Some.ensures.steps ∙ ap (λ t. cond t (first_in c.next.new.self) (Some c.in-Some.next.now)) waits) in
    found_is (option_copied c.args.start) c.args.boxes.now.entries c.requires (Some c.in-Some.next.now) (found ∙ c.loop-next.invariant)

pub returns : goal.returns
returns c = found_is (option_copied c.args.start) c.args.boxes.now.entries c.requires None (sym (ap first_in c.in-None.ensures.steps.0) ∙ c.loop-next.invariant)
