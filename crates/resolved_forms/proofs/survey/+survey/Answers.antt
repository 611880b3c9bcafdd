use Rattle.std.proofs.Common.{◌-◌, ◌++◌, ◌∷◌, [], take, length, map, arith, sym, ap, ◌∙◌}
use Rattle.std.specs.Prelude.{slice_set}
use Rattle.resolved_forms.specs.Survey.{both, all_of, body_of, surveyed}
use Rattle.resolved_forms.proofs.Surveys.{next_initial, Looped, looped, loop_parts}
use Rattle.resolved_forms.proofs.survey.+survey.Goals as goal

pub survey_initial-loop-index-preserved : goal.survey_initial-loop-index-preserved
survey_initial-loop-index-preserved t c =
    next_initial c.args.behaviours c.args.parts.now (length c.args.parts.now - 1) c.loop-index.index c.index-parts-index.result c.loop-index.found c.survey_expr.new.found
    (omega arith) (omega arith) (sym c.index-parts-index.is) c.in_ok-survey_expr.ensures
    ∙ c.loop-index.invariant

pub survey_loop-returns : goal.survey_loop-returns
survey_loop-returns t c =
    let found = c.args.found.now in
    let mid = c.survey_initial.new.found in
    let done = c.in_ok-done.done in
    let values = map (surveyed c.args.behaviours) c.args.parts.now in
    let initial = all_of (map (surveyed c.args.behaviours) (take (length c.args.parts.now - 1) c.args.parts.now)) in
    let body = body_of values in
    let known : Looped c.args.behaviours c.args.own.now initial body found mid done c.add-2.new.list c.extend.new.self c.set.new.self = record {
      place = c.empty.result;
      initial_is = c.in_ok-survey_initial.ensures ∙ ap (λ l. both (record { uses = found.uses; levels = found.levels; loops = l }) initial) c.in_ok-add.ensures.ok;
      body_is = c.in_ok-done.ensures.survey;
      units_are = c.in_ok-add-2.ensures.ok ∙ ap (λ n. mid.uses.units ++ n ∷ []) c.in_ok-function_unit.ensures;
      levels_are = c.in_ok-extend.ensures.ok ∙ ap (λ l. mid.levels ++ l) c.items.ensures;
      loops_are = c.set.ensures ∙ ap (λ l. slice_set l (length c.items-place.result.now) done) c.in_ok-done.ensures.loops
          ∙ ap (λ l. slice_set (mid.loops ++ body.loops) (length l) done) c.items-place.ensures;
    } in
    looped _ _ _ _ _ _ _ _ _ _ known ∙ ap (both found) (loop_parts c.args.behaviours c.args.own.now c.args.parts.now)
