use Rattle.std.proofs.Common.{◌≡◌}
use Rattle.attempt_commits.proofs.Letters.{VacantBut}
use Rattle.world_steps.specs.Kept.{IsSameBut, shared_of}
use Rattle.attempt_commits.proofs.doing.room_for_actors.Given as goal

abbrev pub invariant-loop-name : goal.invariant-loop-name
invariant-loop-name l = record {
  same : IsSameBut (shared_of l.fn.kept) (shared_of l.kept);
  others : l.kept ≡ record l.fn.kept { units = l.kept.units };
  vacant : VacantBut l.actors.entries l.name-iterator l.kept.units;
}
