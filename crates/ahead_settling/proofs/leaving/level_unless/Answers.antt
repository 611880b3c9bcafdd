use Rattle.std.proofs.Common.{refl, sym}
use Rattle.ahead_settling.proofs.leaving.level_unless.Goals as goal
use Rattle.ahead_settling.proofs.Lefts.{level-same, level-so}
use Rattle.world_steps.specs.Kept.{shared_of}

pub returns-then-leads-clause-level : goal.returns-then-leads-clause-level
returns-then-leads-clause-level c = level-same c.args.leads c.args.name.now (shared_of c.args.kept.now) c.if-leads.true

pub returns-clause-level : goal.returns-clause-level
returns-clause-level c =
    level-so c.args.leads c.args.name.now (shared_of c.args.kept.now) _ c.if-leads.false (record { aheads = c.drop_turn.ensures; woken = c.wake_waiters.ensures.woken; claims = c.wake_waiters.ensures.claims; others = refl })
