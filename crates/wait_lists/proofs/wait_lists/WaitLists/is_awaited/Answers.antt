use Rattle.std.proofs.Common.{◌≡◌, ◌∙◌, true, false, sym}
use Rattle.wait_lists.proofs.Linked.{none_first, some_first}
use Rattle.wait_lists.proofs.wait_lists.WaitLists.is_awaited.Goals as goal

pub returns-clause-some : goal.returns-clause-some
returns-clause-some c =
    λ (is : c.is_some.result ≡ true). rw (← c.self.view_is) (some_first c.self.inside.waits.items c.self.inside.first.items c.self.inside.next.items c.self.inside.before.items c.self.invariant c.args.need c.link_at.result c.link_at.ensures (sym c.is_some.ensures ∙ is))

pub returns-clause-none : goal.returns-clause-none
returns-clause-none c =
    λ (is : c.is_some.result ≡ false). rw (← c.self.view_is) (none_first c.self.inside.waits.items c.self.inside.first.items c.self.inside.next.items c.self.inside.before.items c.self.invariant c.args.need c.link_at.result c.link_at.ensures (sym c.is_some.ensures ∙ is))
