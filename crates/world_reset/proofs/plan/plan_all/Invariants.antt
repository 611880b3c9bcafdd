-- What was passed is planned, and nothing has changed but room.
use Rattle.std.proofs.Common.{◌≡◌}
use Rattle.world_reset.proofs.plan.plan_all.Given as goal
use Rattle.world_reset.proofs.Planned.{AreSoFar}
use Rattle.world_steps.specs.Kept.{shared_of}

abbrev pub invariant-loop : goal.invariant-loop
invariant-loop l = record {
  same : shared_of l.kept ≡ shared_of l.fn.kept;
  others : l.kept ≡ record l.fn.kept { mails = l.kept.mails };
  planned : AreSoFar (shared_of l.fn.kept) l.kept.mails l.passed l.plan.entries;
}
