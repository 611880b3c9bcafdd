use Rattle.std.proofs.Common.{take}
use Rattle.sexpr_reader.specs.Cursor.{Over}
use Rattle.sexpr_reader.proofs.reader.Reader.pass.Given as goal

abbrev pub invariant-loop-index : goal.invariant-loop-index
invariant-loop-index l = Over (take l.index l.initial.self.rest) l.initial.self l.self
