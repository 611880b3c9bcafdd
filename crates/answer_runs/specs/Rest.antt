-- What is left of the answers, gone through from the last one on.
use Rattle.std.specs.Prelude.{ℕ, ◌-◌, List, [], ◌++◌, Option, None, Some, option_copied}
use Rattle.serial_model.specs.declared.answer.Answer.{Answer}
use Rattle.answer_runs.specs.declared.rest.Rest.{Rest}
use Rattle.answer_runs.specs.Earlier.{earlier}
use Rattle.answer_runs.specs.Runs.{run_back, runs_back}
use Rattle.shared_chain.specs.Links.{from_link}

-- the answer at which the rest stands
abbrev pub first_of : Rest → Answer
first_of rest = earlier rest.run.now.stride rest.passed rest.run.now.last

-- so many answers of the run come before that one
abbrev pub left_of : Rest → ℕ
left_of rest = rest.run.now.before - rest.passed

-- the answers that are left, the last one first
abbrev pub rest_back : Option Rest → List Answer
rest_back None = []
rest_back (Some rest) = run_back rest.run.now.stride (first_of rest) (left_of rest) ++ runs_back (from_link (option_copied rest.below))
