use Rattle.std.proofs.Common.{◌≡◌, ◌<◌, ◌-◌, ◌∙◌, suc, length, refl, sym, ap, arith}
use Rattle.std.proofs.lemmas.List.{take_all}
use Rattle.std.specs.Prelude.{not}
use Rattle.std.specs.VecDeque.{deque_len}
use Rattle.actor_mailbox.specs.declared.message.Message.{Message}
use Rattle.actor_mailbox.specs.BySender.{is_up_to, may_follow}
use Rattle.actor_mailbox.proofs.Inserted.{follows_at}
use Rattle.actor_mailbox.proofs.mailbox.follows.Goals as goal

pub returns-in-Some : goal.returns-in-Some
returns-in-Some c =
    let ms = c.args.messages.now.items in
    let sender = c.args.sender.now in
    let last = c.in-Some.last.now in
    let at = deque_len c.args.messages.now - 1 in
    let some : 0 < deque_len c.args.messages.now = c.in-Some.ensures.variant.0 refl in
    let long : deque_len c.args.messages.now ≡ length ms = c.args.messages.now.ok.0 in
    ap not c.comes_after.ensures
    ∙ ap (λ (m : Message). is_up_to m.sender sender) c.in-Some.ensures.lookup
    ∙ sym (follows_at sender ms at last (omega arith))
    ∙ ap (λ before. may_follow before sender) (take_all (suc at) ms (omega arith))
