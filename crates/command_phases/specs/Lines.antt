-- The lines on standard error.
use Rattle.std.specs.Prelude.{ℕ, List, [], ◌∷◌, ◌++◌, flat_map, ◌==◌, if◌then◌else◌, Option, None, Some, codes, decimal}
use Rattle.value_core.specs.FaultCodes.{code_name, code_number}
use Rattle.value_core.specs.Name.{name_text}
use Rattle.value_core.specs.declared.code.Code.{Code}
use Rattle.serial_model.specs.declared.end.End.{End}
use Rattle.serial_model.specs.declared.end.End.TheVariants as end
use Rattle.command_phases.specs.declared.outcome.Part.{Part}
use Rattle.command_phases.specs.declared.outcome.Part.TheVariants.{Source, Scope, Trace, Schedule}
use Rattle.command_phases.specs.declared.outcome.Detail.{Detail}
use Rattle.command_phases.specs.declared.outcome.Detail.TheVariants.{Nothing, Refused, Differs}
use Rattle.command_phases.specs.declared.load.LoadNo.{LoadNo}
use Rattle.command_phases.specs.declared.load.LoadNo.TheVariants as load
use Rattle.command_phases.specs.declared.load_pair.PairNo.{PairNo}
use Rattle.command_phases.specs.declared.load_pair.PairNo.TheVariants as pair
use Rattle.command_phases.specs.Outcome.{refused_as, out_of_scope, refused_lines}
use Rattle.command_phases.specs.Status as exit

abbrev pub one_after_another : List (List ℕ) → List ℕ
one_after_another pieces = flat_map (λ piece. piece) pieces

abbrev pub usage_line : List ℕ
usage_line = codes "chocola: bad command line\n"

abbrev pub cannot_read_line : List ℕ → List ℕ
cannot_read_line name = codes "cannot read " ++ name ++ codes "\n"

abbrev pub memory_line : List ℕ
memory_line = codes "out of memory\n"

-- the name of the refusal with that number, of a text that is read line by line
abbrev pub line_kind_name : ℕ → List ℕ
line_kind_name kind =
    if kind == 1 then codes "BadLine"
    else (if kind == 2 then codes "TooLong"
    else [])

-- the name of the refusal with that number, of the source's text, of its scope, of a trace or of a schedule
abbrev pub kind_name : Part → ℕ → List ℕ
kind_name Source kind =
    if kind == 1 then codes "BadByte"
    else (if kind == 2 then codes "Unclosed"
    else (if kind == 3 then codes "Unmatched"
    else (if kind == 4 then codes "BadNumber"
    else (if kind == 5 then codes "BadString"
    else (if kind == 6 then codes "TooNested"
    else (if kind == 7 then codes "TooLong"
    else []))))))
kind_name Scope kind =
    if kind == 1 then codes "Unknown"
    else (if kind == 2 then codes "Twice"
    else (if kind == 3 then codes "Arity"
    else (if kind == 4 then codes "BadForm"
    else (if kind == 5 then codes "EarlyGlobal"
    else (if kind == 6 then codes "TooManyNodes"
    else [])))))
kind_name Trace kind = line_kind_name kind
kind_name Schedule kind = line_kind_name kind

abbrev pub source_line : Part → ℕ → ℕ → ℕ → List ℕ
source_line part kind line column = codes "source " ++ decimal line ++ codes ":" ++ decimal column ++ codes " " ++ kind_name part kind ++ codes "\n"

-- the line of a refused text that is read line by line, which this word says
abbrev pub refused_line : List ℕ → ℕ → ℕ → List ℕ
refused_line word kind line = word ++ codes " " ++ decimal line ++ codes " " ++ line_kind_name kind ++ codes "\n"

abbrev pub part_line : Part → ℕ → ℕ → ℕ → List ℕ
part_line Source kind line column = source_line Source kind line column
part_line Scope kind line column = source_line Scope kind line column
part_line Trace kind line column = refused_line (codes "trace") kind line
part_line Schedule kind line column = refused_line (codes "schedule") kind line

abbrev pub differs_line : ℕ → List ℕ
differs_line line = one_after_another (codes "replay differs at line " ∷ decimal line ∷ codes "\n" ∷ [])

-- the line of a detail
abbrev pub detail_line : Detail → List ℕ
detail_line Nothing = []
detail_line (Refused part kind line column) = part_line part kind line column
detail_line (Differs line stated found) = differs_line line

abbrev pub fault_line : Code → ℕ → ℕ → List ℕ → List ℕ
fault_line failed line column unit =
    one_after_another (codes "fault " ∷ decimal (code_number failed) ∷ codes " " ∷ code_name failed ∷ codes " at " ∷ decimal line ∷ codes ":" ∷ decimal column
    ∷ codes " in " ∷ name_text unit ∷ codes "\n" ∷ [])

abbrev pub spent_line : List ℕ → List ℕ
spent_line unit = one_after_another (codes "spent fuel in " ∷ name_text unit ∷ codes "\n" ∷ [])

-- the line of an end
abbrev pub end_line : End → List ℕ
end_line end.Done = []
end_line (end.Fault failed at unit) = fault_line failed at.line at.column unit
end_line (end.Spent unit) = spent_line unit
end_line end.UnitsSpent = codes "spent units\n"

abbrev pub ended_line : Option End → List ℕ
ended_line None = []
ended_line (Some end) = end_line end

-- the line of an outcome with that status, detail and end, or nothing; `unread` is the name that was not read
abbrev pub line_of : List ℕ → ℕ → Detail → Option End → List ℕ
line_of unread status detail end =
    if status == exit.fault then ended_line end
    else if status == exit.usage then usage_line
    else if status == exit.not_read then cannot_read_line unread
    else if status == exit.refused then detail_line detail
    else if status == exit.spent then ended_line end
    else if status == exit.no_memory then memory_line
    else if status == exit.differs then detail_line detail
    else []

-- the line of a run or a replay that was begun where something was not written
abbrev pub last_line : Detail → Option End → List ℕ
last_line Nothing end = ended_line end
last_line (Refused part kind line column) end = []
last_line (Differs line stated found) end = differs_line line

-- the line that was begun: where something was not written, it may be a front of that last line
abbrev pub line_begun : List ℕ → ℕ → Detail → Option End → List ℕ
line_begun unread status detail end = if status == exit.not_written then last_line detail end else line_of unread status detail end

-- the line where the file of that name gives no program
abbrev pub load_line : List ℕ → LoadNo → List ℕ
load_line name load.NotRead = cannot_read_line name
load_line name (load.Refused kind at) = detail_line (refused_as kind at)
load_line name (load.OutOfScope kind at) = detail_line (out_of_scope kind at)
load_line name load.Memory = memory_line

-- and so where the files of these names give nothing to run; the second is read as this part
abbrev pub pair_line : Part → List ℕ → List ℕ → PairNo → List ℕ
pair_line part file second (pair.Source error) = load_line file error
pair_line part file second pair.NotRead = cannot_read_line second
pair_line part file second (pair.Refused kind line) = detail_line (refused_lines part kind line)
