use Rattle.std.proofs.Common.{length}
use Rattle.sexpr_reader.specs.Strings.{Content}
use Rattle.sexpr_reader.proofs.lexer.string.Given as goal

abbrev pub invariant-content : goal.invariant-content
invariant-content l = Content l.initial.reader l.text l.reader

abbrev pub decreases-content : goal.decreases-content
decreases-content l = length l.reader.rest
