use Rattle.std.proofs.Common.{◌≡◌, length}
use Rattle.answer_runs.specs.Rest.{rest_back}
use Rattle.answer_runs.proofs.lane.are_same_rests.Given as goal

-- the two are the same where what is left of them is
abbrev pub invariant-loop-left : goal.invariant-loop-left
invariant-loop-left l = record {
  onward : rest_back l.left ≡ rest_back l.right → rest_back l.fn.left ≡ rest_back l.fn.right;
  back : rest_back l.fn.left ≡ rest_back l.fn.right → rest_back l.left ≡ rest_back l.right;
}

abbrev pub decreases-loop-left : goal.decreases-loop-left
decreases-loop-left l = length (rest_back l.left)
