use Rattle.std.specs.Prelude.{length}
use Rattle.actor_mails.specs.Mails.{held}
use Rattle.attempt_commits.proofs.Letters.{AreBeginning}
use Rattle.attempt_commits.proofs.doing.add_actors.Given as goal

abbrev pub invariant-loop-entry : goal.invariant-loop-entry
invariant-loop-entry l = AreBeginning l.fn.actors.entries l.actors.entries (held l.mails) l.fn.units l.units

abbrev pub decreases-loop-entry : goal.decreases-loop-entry
decreases-loop-entry l = length l.actors.entries
