use Rattle.std.proofs.Common.{◌∙◌, sym, ap}
use Rattle.std.specs.Int.{w64}
use Rattle.std.proofs.lemmas.Int.{to_z-of_z}
use Rattle.answer_runs.specs.Earlier.{earlier}
use Rattle.answer_runs.specs.Runs.{run_back}
use Rattle.answer_runs.proofs.Earlier.{earlier-zero}
use Rattle.answer_runs.proofs.Runs.{run_back-grown}
use Rattle.answer_runs.proofs.run.Run.is_one_run.Goals as goal

pub returns-then-is_also : goal.returns-then-is_also
returns-then-is_also c = λ same.
    let last = c.args.self.now.last in
    let before = c.args.self.now.before in
    let whole = to_z-of_z w64 c.args.stride c.ranges.stride in
    run_back-grown c.args.stride c.args.self.now.stride last c.args.answer.now before (ap (λ z. run_back z last before) (sym whole) ∙ c.is_also.ensures c.if-is_also.true)
    (sym (earlier-zero c.none.result.stride last) ∙ ap (λ n. earlier c.none.result.stride n last) (sym c.none.ensures) ∙ c.are_same.ensures.0 same ∙ ap (λ z. earlier z 1 c.args.answer.now) whole)
