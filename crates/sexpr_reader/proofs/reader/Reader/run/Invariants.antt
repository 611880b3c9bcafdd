use Rattle.std.proofs.Common.{ℕ, List, length}
use Rattle.sexpr_reader.specs.Cursor.{Spans}
use Rattle.sexpr_reader.specs.Bytes.{has}
use Rattle.sexpr_reader.proofs.reader.Reader.run.Given as goal

abbrev pub invariant-loop-class : goal.invariant-loop-class
invariant-loop-class l = (text : List ℕ) × Spans (has l.class) text l.initial.self l.self

abbrev pub decreases-loop-class : goal.decreases-loop-class
decreases-loop-class l = length l.self.rest
