use Rattle.std.proofs.Common.{◌∙◌, sym, ap}
use Rattle.answer_runs.specs.Runs.{runs_back}
use Rattle.answer_runs.proofs.lane.Lane.same.Goals as goal

pub returns : goal.returns
returns c =
    let left = c.from.ensures ∙ ap runs_back c.top.ensures in
    let right = c.from-2.ensures ∙ ap runs_back c.top-2.ensures in (
      λ t. sym c.self.view_is ∙ sym left ∙ c.are_same_rests.ensures.0 t ∙ right ∙ c.other.view_is,
      λ e. c.are_same_rests.ensures.1 (left ∙ c.self.view_is ∙ e ∙ sym c.other.view_is ∙ sym right),
    )
