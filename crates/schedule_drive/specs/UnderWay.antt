-- A drive that is under way. No public clause speaks of it.
use Rattle.std.specs.Prelude.{◌≡◌, [], ℕ, List, Some}
use Rattle.core_syntax.specs.Table.{Table}
use Rattle.schedule_drive.specs.Drive.{Comes, Drives, Stage}
use Rattle.schedule_report.specs.Report.{report_text}
use Rattle.schedule_report.specs.declared.told.Told.{Told}
use Rattle.schedule_text.specs.declared.line.Line.{Line}
use Rattle.shared_world.specs.Returned.{Returned}
use Rattle.shared_world.specs.Shared.{Shared}
use Rattle.value_core.specs.Named.{Name, Named, named}

-- where a drive stands
abbrev pub stage : Shared → Named Returned → Stage
stage world kept = record { world = world; kept = kept }

-- each result that is kept is of that program
abbrev pub AreOf : Table → Named Returned → Type 0
AreOf program kept = (name : Name) (done : Returned) → named name kept ≡ Some done → done.program ≡ program

-- what comes of a line, whatever results are kept
abbrev pub ComesAlone : Line → Shared → Told → Shared → Type 0
ComesAlone l old said new = (kept : Named Returned) → Comes l (stage old kept) said (stage new kept)

-- the lines drove the world to this, with these results kept, and that is the report so far
pub record IsDrivenSo (lines : List Line) (old : Shared) (text : List ℕ) (new : Shared) (kept : Named Returned) : Type 0 where
  pub all : List Told
  pub drives : Drives lines (stage old []) all (stage new kept)
  pub spelled : text ≡ report_text all
