use Rattle.std.proofs.Common.{◌≡◌, ◌<◌, false}
use Rattle.std.specs.Prelude.{All, drop}
use Rattle.serial_model.specs.Operation.{arguments}
use Rattle.eval_step.specs.Unread.{reads, Spares}
use Rattle.eval_step.proofs.unread.+spares.Given as goal

abbrev pub decreases-spares : goal.decreases-spares
decreases-spares l = l.looks

abbrev pub invariant-loop-child : goal.invariant-loop-child
invariant-loop-child l = record {
  fewer : l.left < l.fn.looks;
  own : reads l.place l.node ≡ false;
  others : All (Spares l.program l.place) (drop l.number (arguments l.node)) → All (Spares l.program l.place) (drop l.fn.from (arguments l.node));
}

abbrev pub decreases-loop-child : goal.decreases-loop-child
decreases-loop-child l = l.left
