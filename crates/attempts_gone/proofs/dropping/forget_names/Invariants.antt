use Rattle.std.specs.Prelude.{length}
use Rattle.unit_table.specs.Board.{SameClaims, SamePieces}
use Rattle.attempts_gone.proofs.dropping.forget_names.Given as goal

abbrev pub invariant-loop-name : goal.invariant-loop-name
invariant-loop-name l = record {
  pieces : SamePieces l.fn.units l.units;
  claims : SameClaims l.fn.units l.units;
}

abbrev pub decreases-loop-name : goal.decreases-loop-name
decreases-loop-name l = length l.names
