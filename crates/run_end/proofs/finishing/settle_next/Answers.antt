use Rattle.std.proofs.Common.{subst}
use Rattle.run_end.proofs.Walked.{walked-anew}
use Rattle.run_end.proofs.finishing.settle_next.Goals as goal
use Rattle.world_reset.specs.Plan.{IsNextOr}
use Rattle.world_steps.specs.Kept.{shared_of}

pub settle_or_pass-requires-clause-next : goal.settle_or_pass-requires-clause-next
settle_or_pass-requires-clause-next c = subst (IsNextOr c.args.kept.now.units c.args.passed) c.in-Some.is c.in_ok-name.ensures

pub returns-in-None-clause-walked : goal.returns-in-None-clause-walked
returns-in-None-clause-walked c = λ going. walked-anew (shared_of c.args.kept.now) c.args.passed c.requires.walked
