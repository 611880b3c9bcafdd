use Rattle.std.proofs.Common.{arith, refl}
use Rattle.wait_lists.proofs.Linked.{AreLinked-grow}
use Rattle.wait_lists.proofs.wait_lists.WaitLists.reserve.Goals as goal

pub invariant_of-self-in_err-grow-2 : goal.invariant_of-self-in_err-grow-2
invariant_of-self-in_err-grow-2 c =
    AreLinked-grow c.self.inside.waits.items c.self.inside.first.items c.self.inside.next.items c.self.inside.before.items c.self.invariant c.self.inside.waits.items c.grow.new.links.items c.grow-2.new.links.items c.self.inside.before.items (λ s. refl) c.grow.ensures.same c.grow-2.ensures.same (λ s. refl)
    (omega (arith, c.grow.ensures.kept, c.self.invariant.room_first)) (omega (arith, c.grow-2.ensures.kept, c.self.invariant.room_next)) c.self.invariant.room_before

pub invariant_of-self-in_err-grow-3 : goal.invariant_of-self-in_err-grow-3
invariant_of-self-in_err-grow-3 c =
    AreLinked-grow c.self.inside.waits.items c.self.inside.first.items c.self.inside.next.items c.self.inside.before.items c.self.invariant c.self.inside.waits.items c.grow.new.links.items c.grow-2.new.links.items c.grow-3.new.links.items (λ s. refl) c.grow.ensures.same c.grow-2.ensures.same c.grow-3.ensures.same
    (omega (arith, c.grow.ensures.kept, c.self.invariant.room_first)) (omega (arith, c.grow-2.ensures.kept, c.self.invariant.room_next)) (omega (arith, c.grow-3.ensures.kept, c.self.invariant.room_before))

pub invariant_of-self-2 : goal.invariant_of-self-2
invariant_of-self-2 c =
    AreLinked-grow c.self.inside.waits.items c.self.inside.first.items c.self.inside.next.items c.self.inside.before.items c.self.invariant c.grow-4.new.links.items c.grow.new.links.items c.grow-2.new.links.items c.grow-3.new.links.items c.grow-4.ensures.same c.grow.ensures.same c.grow-2.ensures.same c.grow-3.ensures.same
    (omega (arith, c.grow.ensures.kept, c.in_ok-grow.ensures.ok, c.grow-4.ensures.at_most, c.self.invariant.room_first)) (omega (arith, c.grow-2.ensures.kept, c.in_ok-grow-2.ensures.ok, c.grow-4.ensures.at_most, c.self.invariant.room_next)) (omega (arith, c.grow-3.ensures.kept, c.in_ok-grow-3.ensures.ok, c.grow-4.ensures.at_most, c.self.invariant.room_before))
