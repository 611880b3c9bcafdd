-- The report of what came of the lines of a schedule.
use Rattle.std.specs.Prelude.{ℕ, ◌+◌, List, [], ◌∷◌, ◌++◌, codes, decimal}
use Rattle.schedule_report.specs.declared.told.Told.{Told}
use Rattle.schedule_report.specs.declared.told.Told.TheVariants as told
use Rattle.serial_model.specs.Trace.{entry_text, line_of}
use Rattle.shared_world.specs.declared.given.Given.{Given}
use Rattle.shared_world.specs.declared.given.Given.TheVariants as given
use Rattle.unit_table.specs.declared.mark.WaitOn.{WaitOn}
use Rattle.unit_table.specs.declared.mark.WaitOn.TheVariants as wait
use Rattle.value_core.specs.Name.{name_text}

-- what a piece waits for
abbrev pub wait_text : WaitOn → List ℕ
wait_text (wait.Finish name) = codes "finish " ++ name_text name
wait_text (wait.Definite name) = codes "definite " ++ name_text name

-- what the world answered
abbrev pub given_text : Given → List ℕ
given_text (given.Settled entry) = codes "settled " ++ entry_text entry
given_text given.Held = codes "held"
given_text given.Local = codes "local"
given_text (given.Began snapshot) = codes "began " ++ decimal snapshot
given_text (given.Waiting on) = codes "waiting " ++ wait_text on
given_text (given.Aborted unit name version) = codes "aborted " ++ name_text unit ++ codes " ref " ++ name_text name ++ codes " version " ++ decimal version
given_text given.Stale = codes "stale"

-- what came of a line
abbrev pub told_text : Told → List ℕ
told_text (told.Answered given) = given_text given
told_text told.Kept = codes "kept"
told_text told.NotReady = codes "not-ready"

-- a line of the report: the number of the schedule's line, and what came of it
abbrev pub report_line : ℕ → Told → List ℕ
report_line number told = line_of (decimal number ++ codes " " ++ told_text told)

-- the lines from that number on
abbrev pub report_from : ℕ → List Told → List ℕ
report_from number [] = []
report_from number (told ∷ rest) = report_line number told ++ report_from (number + 1) rest

-- the whole report, whose lines are numbered from 1
abbrev pub report_text : List Told → List ℕ
report_text all = report_from 1 all
