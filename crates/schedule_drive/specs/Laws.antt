-- What holds of every drive.
use Rattle.schedule_drive.specs.Drive.{IsDriven}
use Rattle.schedule_drive.specs.Entries.{entries_told}
use Rattle.schedule_report.specs.declared.told.Told.{Told}
use Rattle.schedule_text.specs.declared.line.Line.{Line}
use Rattle.shared_world.specs.Later.{Appends}
use Rattle.shared_world.specs.Shared.{Shared}
use Rattle.std.specs.Prelude.{List}

-- a drive appends just the entries that its report tells of, in their order
abbrev pub DriveAppends : Type 0
DriveAppends = (lines : List Line) (old new : Shared) (all : List Told) → IsDriven lines old all new → Appends (entries_told all) old new
