use Rattle.std.proofs.Common.{drop}
use Rattle.attempt_commits.specs.Deeds.{AreDeedsBut}
use Rattle.attempt_commits.proofs.deeds.deeds_of.Given as goal

abbrev pub invariant-loop-effect : goal.invariant-loop-effect
invariant-loop-effect l = AreDeedsBut l.owner l.effects (drop l.effect-index l.effects) l.deeds
