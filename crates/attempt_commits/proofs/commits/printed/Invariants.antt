use Rattle.std.proofs.Common.{◌≡◌, ◌++◌, drop}
use Rattle.world_model.specs.rows.Commits.{effects_bytes}
use Rattle.attempt_commits.proofs.commits.printed.Given as goal

abbrev pub invariant-loop-effect : goal.invariant-loop-effect
invariant-loop-effect l = l.text.items ++ effects_bytes (drop l.effect-index l.effects) ≡ effects_bytes l.effects
