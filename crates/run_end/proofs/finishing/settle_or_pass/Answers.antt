use Rattle.std.proofs.Common.{inl}
use Rattle.run_end.proofs.Turns.{next-first}
use Rattle.run_end.proofs.Walked.{walked-left, walked-past}
use Rattle.run_end.proofs.finishing.settle_or_pass.Goals as goal
use Rattle.world_steps.specs.Kept.{shared_of}

pub returns-else-is_due-clause-walked : goal.returns-else-is_due-clause-walked
returns-else-is_due-clause-walked c =
    let s = shared_of c.args.kept.now in
    λ going. walked-past s c.args.passed c.args.name c.requires.walked c.requires.next (c.is_due.ensures.passed c.if-is_due.false)

pub settle_due-requires-clause-walked : goal.settle_due-requires-clause-walked
settle_due-requires-clause-walked c = walked-left (shared_of c.args.kept.now) c.args.name c.args.passed c.in_ok-left.left c.requires.walked c.in_ok-left.ensures

pub settle_due-requires-clause-first : goal.settle_due-requires-clause-first
settle_due-requires-clause-first c = next-first c.args.kept.now.units c.args.passed c.args.name c.requires.next c.requires.walked.behind

pub settle_due-requires-clause-made : goal.settle_due-requires-clause-made
settle_due-requires-clause-made c = c.in_ok-left.ensures.made

pub settle_due-requires-clause-due : goal.settle_due-requires-clause-due
settle_due-requires-clause-due c = inl (c.is_due.ensures.due c.if-is_due.true)
