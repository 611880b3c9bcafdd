use Rattle.std.proofs.Common.{length}
use Rattle.sexpr_reader.specs.Cursor.{Cursor}
use Rattle.sexpr_reader.specs.Gap.{Gap}
use Rattle.sexpr_reader.proofs.reader.Reader.skip.Given as goal

abbrev pub invariant-loop-class : goal.invariant-loop-class
invariant-loop-class l = (d : Cursor) → Gap l.self d → Gap l.initial.self d

abbrev pub decreases-loop-class : goal.decreases-loop-class
decreases-loop-class l = length l.self.rest
