-- The claims on what was passed have ended.
use Rattle.run_end.proofs.finishing.end_claims.Given as goal
use Rattle.run_end.specs.Finishing.{AreEnding, LentAfter}

abbrev pub invariant-loop : goal.invariant-loop
invariant-loop l = record { ending : AreEnding l.fn.units l.units; after : LentAfter l.passed l.units }
