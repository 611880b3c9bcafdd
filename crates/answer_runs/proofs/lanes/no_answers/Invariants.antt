use Rattle.std.proofs.Common.{◌≡◌}
use Rattle.answer_runs.specs.Dealt.{empty_lanes}
use Rattle.answer_runs.proofs.lanes.no_answers.Given as goal

abbrev pub invariant-loop-index : goal.invariant-loop-index
invariant-loop-index l = l.lanes.items ≡ empty_lanes l.index
