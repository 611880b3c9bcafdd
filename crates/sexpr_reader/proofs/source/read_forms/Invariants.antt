use Rattle.std.proofs.Common.{length}
use Rattle.sexpr_reader.specs.Grammar.{source}
use Rattle.sexpr_reader.specs.Nest.{seen}
use Rattle.sexpr_reader.proofs.Sources.{SoFar}
use Rattle.sexpr_reader.proofs.source.read_forms.Given as goal

abbrev pub invariant-tokens : goal.invariant-tokens
invariant-tokens l = SoFar (source l.bytes) (seen l.nest) l.reader

abbrev pub decreases-tokens : goal.decreases-tokens
decreases-tokens l = length l.reader.rest
