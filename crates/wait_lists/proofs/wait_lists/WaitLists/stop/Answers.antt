use Rattle.std.proofs.Common.{◌≡◌, ◌∙◌, Some, arith, length}
use Rattle.wait_lists.specs.WaitLists.{need_of}
use Rattle.wait_lists.proofs.Linked.{before_waits, if_below, link_within, need_within, next_waits, read_is, AreLinked-stop}
use Rattle.wait_lists.proofs.wait_lists.WaitLists.stop.Goals as goal

pub unlink-requires-clause-need : goal.unlink-requires-clause-need
unlink-requires-clause-need c =
    let waits_for : need_of c.self.inside.waits.items c.args.slot ≡ Some c.in-Some.need = read_is c.self.inside.waits.items c.args.slot c.index.result.now (rw (← c.self.view_is) at c.requires) c.index.ensures ∙ c.in-Some.is in
    need_within c.self.inside.waits.items c.self.inside.first.items c.self.inside.next.items c.self.inside.before.items c.self.invariant c.args.slot c.in-Some.need waits_for

pub unlink-requires-clause-other_before : goal.unlink-requires-clause-other_before
unlink-requires-clause-other_before c =
    let waits_for : need_of c.self.inside.waits.items c.args.slot ≡ Some c.in-Some.need = read_is c.self.inside.waits.items c.args.slot c.index.result.now (rw (← c.self.view_is) at c.requires) c.index.ensures ∙ c.in-Some.is in
    if_below (length c.self.inside.next.items) _ (λ other is. omega (arith, c.self.invariant.room_next, link_within c.self.inside.waits.items other c.in-Some.need (before_waits c.self.inside.waits.items c.self.inside.first.items c.self.inside.next.items c.self.inside.before.items c.self.invariant c.args.slot c.in-Some.need waits_for other is)))

pub unlink-requires-clause-other_next : goal.unlink-requires-clause-other_next
unlink-requires-clause-other_next c =
    let waits_for : need_of c.self.inside.waits.items c.args.slot ≡ Some c.in-Some.need = read_is c.self.inside.waits.items c.args.slot c.index.result.now (rw (← c.self.view_is) at c.requires) c.index.ensures ∙ c.in-Some.is in
    if_below (length c.self.inside.before.items) _ (λ other is. omega (arith, c.self.invariant.room_before, link_within c.self.inside.waits.items other c.in-Some.need (next_waits c.self.inside.waits.items c.self.inside.first.items c.self.inside.next.items c.self.inside.before.items c.self.invariant c.args.slot c.in-Some.need waits_for other is)))

pub invariant_of-self : goal.invariant_of-self
invariant_of-self c =
    let waits_for : need_of c.self.inside.waits.items c.args.slot ≡ Some c.in-Some.need = read_is c.self.inside.waits.items c.args.slot c.index.result.now (rw (← c.self.view_is) at c.requires) c.index.ensures ∙ c.in-Some.is in
    AreLinked-stop c.self.inside.waits.items c.self.inside.first.items c.self.inside.next.items c.self.inside.before.items c.self.invariant c.args.slot c.in-Some.need waits_for _ _ _ c.unlink.ensures
