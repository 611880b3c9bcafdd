use Rattle.std.proofs.Common.{arith, length}
use Rattle.wait_lists.proofs.Linked.{first_waits, if_below, link_within, AreLinked-wait}
use Rattle.wait_lists.proofs.wait_lists.WaitLists.wait.Goals as goal

pub put_first-requires-clause-head : goal.put_first-requires-clause-head
put_first-requires-clause-head c =
    if_below (length c.self.inside.before.items) _ (λ head is. omega (arith, c.self.invariant.room_before, link_within c.self.inside.waits.items head c.args.need (first_waits c.self.inside.waits.items c.self.inside.first.items c.self.inside.next.items c.self.inside.before.items c.self.invariant c.args.need head is)))

pub invariant_of-self : goal.invariant_of-self
invariant_of-self c =
    AreLinked-wait c.self.inside.waits.items c.self.inside.first.items c.self.inside.next.items c.self.inside.before.items c.self.invariant c.args.slot c.args.need _ _ _ (rw (← c.self.view_is) at c.requires.slot) (rw (← c.self.view_is) at c.requires.idle) c.put_first.ensures
