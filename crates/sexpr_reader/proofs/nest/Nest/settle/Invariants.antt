use Rattle.std.proofs.Common.{◌≡◌, length}
use Rattle.sexpr_reader.specs.Nest.{seen, settled}
use Rattle.sexpr_reader.proofs.nest.Nest.settle.Given as goal

abbrev pub invariant-signs : goal.invariant-signs
invariant-signs l = settled (seen l.self).frames (seen l.self).forms ≡ settled (seen l.initial.self).frames (seen l.initial.self).forms

abbrev pub decreases-signs : goal.decreases-signs
decreases-signs l = length (seen l.self).frames
