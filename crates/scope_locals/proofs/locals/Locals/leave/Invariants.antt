use Rattle.std.proofs.Common.{◌≡◌, ◌≤◌, take, length}
use Rattle.scope_locals.proofs.locals.Locals.leave.Given as goal

abbrev pub invariant-loop-self : goal.invariant-loop-self
invariant-loop-self l = (l.depth ≤ length l.self) × (take l.depth l.self ≡ take l.depth l.initial.self)

abbrev pub decreases-loop-self : goal.decreases-loop-self
decreases-loop-self l = length l.self
