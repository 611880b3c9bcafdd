use Rattle.std.proofs.Common.{◌≡◌, ◌∙◌, ◌-◌, suc, take, sym, ap, arith}
use Rattle.std.specs.Prelude.{not}
use Rattle.actor_mailbox.specs.declared.message.Message.{Message}
use Rattle.actor_mailbox.specs.BySender.{is_up_to, may_follow}
use Rattle.actor_mailbox.proofs.Inserted.{follows_at}
use Rattle.actor_mailbox.proofs.mailbox.place_for.Goals as goal

pub returns-else-comes_after : goal.returns-else-comes_after
returns-else-comes_after c =
    let place = c.loop-place.place in
    let one : suc (place - 1) ≡ place = (let more = c.loop-place-test.true in omega arith) in
    record {
      within = c.loop-place.invariant.within;
      follows = ap (λ n. may_follow (take n c.args.sorted.now) c.args.sender.now) (sym one) ∙ follows_at c.args.sender.now c.args.sorted.now (place - 1) c.index-sorted-place.result (let more = c.loop-place-test.true in let long = c.loop-place.invariant.within in omega arith)
          ∙ ap (λ (m : Message). is_up_to m.sender c.args.sender.now) (sym c.index-sorted-place.is) ∙ ap not (sym c.comes_after.ensures ∙ c.if-comes_after.false);
      leads = c.loop-place.invariant.leads;
    }
