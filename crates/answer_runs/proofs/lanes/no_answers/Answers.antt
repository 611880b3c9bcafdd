use Rattle.std.proofs.Common.{◌≡◌, ◌∙◌, suc, ◌+◌, [], ◌∷◌, ◌++◌, ap, arith}
use Rattle.answer_runs.specs.Dealt.{empty_lanes}
use Rattle.answer_runs.proofs.Dealt.{empty-more}
use Rattle.answer_runs.proofs.lanes.no_answers.Goals as goal

pub loop-index-preserved : goal.loop-index-preserved
loop-index-preserved c =
    let n = c.loop-index.index in
    c.in_ok-push.ensures.items ∙ ap (λ l. l ++ c.new.result ∷ []) c.loop-index.invariant
    ∙ ap (λ x. empty_lanes n ++ x ∷ []) c.new.ensures ∙ empty-more _ n ∙ ap (λ k. empty_lanes k) (let next : suc n ≡ n + 1 = omega arith in next)
