-- The answers of runs.
use Rattle.std.specs.Prelude.{ℕ, zero, suc, ℤ, List, [], ◌∷◌, ◌++◌}
use Rattle.serial_model.specs.declared.answer.Answer.{Answer}
use Rattle.answer_runs.specs.declared.run.Run.{Run}
use Rattle.answer_runs.specs.Earlier.{earlier}

-- that answer and so many before it, each a stride before the one behind it; the last one first
abbrev pub run_back : ℤ → Answer → ℕ → List Answer
run_back stride last zero = last ∷ []
run_back stride last (suc more) = last ∷ run_back stride (earlier stride 1 last) more

-- the answers of the runs, the last one first, and so are the runs
abbrev pub runs_back : List Run → List Answer
runs_back [] = []
runs_back (run ∷ runs) = run_back run.stride run.last run.before ++ runs_back runs
