use Rattle.std.proofs.Common.{◌≡◌, ◌++◌, filter, drop, nat_lt}
use Rattle.resolved_forms.proofs.survey.below.Given as goal

abbrev pub invariant-loop-level : goal.invariant-loop-level
invariant-loop-level l = l.below ++ filter (λ level. nat_lt level l.base) (drop l.level-index l.levels) ≡ filter (λ level. nat_lt level l.base) l.levels
