-- What is still planned is as it was, and all else is put back.
use Rattle.std.proofs.Common.{◌≡◌}
use Rattle.std.specs.Prelude.{length}
use Rattle.world_reset.proofs.putting.put_all.Given as goal
use Rattle.world_reset.proofs.Returned.{AreLeft}
use Rattle.world_reset.specs.Putting.{NoneMoreOut}

abbrev pub invariant-loop-entry : goal.invariant-loop-entry
invariant-loop-entry l = record {
  left : AreLeft l.fn.kept l.plan.entries l.kept;
  claims : NoneMoreOut l.fn.kept.units l.kept.units;
  others : l.kept ≡ record l.fn.kept { units = l.kept.units; mails = l.kept.mails; taken = l.kept.taken };
}

abbrev pub decreases-loop-entry : goal.decreases-loop-entry
decreases-loop-entry l = length l.plan.entries
