use Rattle.std.proofs.Common.{◌≡◌, ◌∙◌, Some, None, arith}
use Rattle.wait_lists.specs.Links.{link}
use Rattle.wait_lists.proofs.Linked.{first_waits, link_within, none_waits, read_is}
use Rattle.wait_lists.proofs.wait_lists.WaitLists.wake.Goals as goal

pub stop-requires : goal.stop-requires
stop-requires c =
    let head : link c.self.inside.first.items c.args.need ≡ Some c.in-Some.slot = read_is c.self.inside.first.items c.args.need c.index.result.now (omega (arith, rw (← c.self.view_is) at c.requires, c.self.invariant.room_first)) c.index.ensures ∙ c.in-Some.is in
    rw (← c.self.view_is) (link_within c.self.inside.waits.items c.in-Some.slot c.args.need (first_waits c.self.inside.waits.items c.self.inside.first.items c.self.inside.next.items c.self.inside.before.items c.self.invariant c.args.need c.in-Some.slot head))

pub returns-in-Some-clause-was : goal.returns-in-Some-clause-was
returns-in-Some-clause-was c =
    let head : link c.self.inside.first.items c.args.need ≡ Some c.in-Some.slot = read_is c.self.inside.first.items c.args.need c.index.result.now (omega (arith, rw (← c.self.view_is) at c.requires, c.self.invariant.room_first)) c.index.ensures ∙ c.in-Some.is in
    rw (← c.self.view_is) (first_waits c.self.inside.waits.items c.self.inside.first.items c.self.inside.next.items c.self.inside.before.items c.self.invariant c.args.need c.in-Some.slot head)

pub returns-in-None-clause-none : goal.returns-in-None-clause-none
returns-in-None-clause-none c =
    let head : link c.self.inside.first.items c.args.need ≡ None = read_is c.self.inside.first.items c.args.need c.index.result.now (omega (arith, rw (← c.self.view_is) at c.requires, c.self.invariant.room_first)) c.index.ensures ∙ c.in-None.is in
    rw (← c.self.view_is) (none_waits c.self.inside.waits.items c.self.inside.first.items c.self.inside.next.items c.self.inside.before.items c.self.invariant c.args.need head)
