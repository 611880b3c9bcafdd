use Rattle.std.proofs.Common.{◌≡◌, ◌+◌, ◌-◌, ◌*◌, map, take, drop, length}
use Rattle.resolved_forms.specs.Survey.{both, all_of, surveyed}
use Rattle.resolved_forms.proofs.survey.+survey.Given as goal

abbrev pub invariant-survey_parts-loop-part : goal.invariant-survey_parts-loop-part
invariant-survey_parts-loop-part l = both l.found (all_of (map (surveyed l.behaviours) (drop l.part-index l.parts))) ≡ both l.initial.found (all_of (map (surveyed l.behaviours) l.parts))

abbrev pub invariant-survey_initial-loop-index : goal.invariant-survey_initial-loop-index
invariant-survey_initial-loop-index l =
    both l.found (all_of (map (surveyed l.behaviours) (drop l.index (take (length l.parts - 1) l.parts)))) ≡ both l.initial.found (all_of (map (surveyed l.behaviours) (take (length l.parts - 1) l.parts)))

-- each call goes to what is less deep, or down this order
abbrev pub decreases-survey_expr : goal.decreases-survey_expr
decreases-survey_expr l = goal.size-survey_expr l * 8 + 0

abbrev pub decreases-survey_parts : goal.decreases-survey_parts
decreases-survey_parts l = goal.size-survey_parts l * 8 + 1

abbrev pub decreases-survey_body : goal.decreases-survey_body
decreases-survey_body l = goal.size-survey_body l * 8 + 2

abbrev pub decreases-survey_initial : goal.decreases-survey_initial
decreases-survey_initial l = goal.size-survey_initial l * 8 + 1

abbrev pub decreases-survey_last : goal.decreases-survey_last
decreases-survey_last l = goal.size-survey_last l * 8 + 1

abbrev pub decreases-survey_loop : goal.decreases-survey_loop
decreases-survey_loop l = goal.size-survey_loop l * 8 + 3
