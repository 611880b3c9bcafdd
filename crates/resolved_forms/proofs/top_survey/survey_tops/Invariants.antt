use Rattle.std.proofs.Common.{◌≡◌, drop}
use Rattle.resolved_forms.specs.TopSurvey.{both_tops, tops_from, tops_surveyed}
use Rattle.resolved_forms.proofs.top_survey.survey_tops.Given as goal

abbrev pub invariant-loop-top : goal.invariant-loop-top
invariant-loop-top l = both_tops l.survey (tops_from l.behaviours l.survey.globals (drop l.top-index l.top-items)) ≡ tops_surveyed l.tops
