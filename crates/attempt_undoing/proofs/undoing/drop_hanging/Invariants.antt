use Rattle.std.proofs.Common.{◌≡◌, List}
use Rattle.attempt_undoing.proofs.Steps.{standing_count}
use Rattle.attempt_undoing.proofs.undoing.drop_hanging.Given as goal
use Rattle.attempt_undoing.specs.Sends.{ActorsMarked}
use Rattle.attempt_undoing.specs.Turns.{Going}
use Rattle.turns_ahead.specs.Leading.{ahead_of}
use Rattle.value_core.specs.Named.{Name, each_as}
use Rattle.world_steps.specs.Kept.{shared_of}

-- some turns have gone
abbrev pub invariant-loop-name : goal.invariant-loop-name
invariant-loop-name l = record {
  going : (turns : List Name) × Going (each_as ahead_of l.aheads.entries) (shared_of l.fn.kept) turns (shared_of l.kept);
  marks : ActorsMarked (shared_of l.kept);
  others : l.kept ≡ record l.fn.kept { units = l.kept.units; attempts = l.kept.attempts; mails = l.kept.mails; taken = l.kept.taken };
}

-- each one that goes is no more there
abbrev pub decreases-loop-name : goal.decreases-loop-name
decreases-loop-name l = standing_count l.kept.units (each_as ahead_of l.aheads.entries)
