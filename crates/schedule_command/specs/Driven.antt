-- The report of a run by a schedule, and its history.
use Rattle.std.specs.Prelude.{◌≡◌, ◌++◌, ℕ, List}
use Rattle.run_end.specs.Finishing.{NoneOut}
use Rattle.schedule_drive.specs.Drive.{IsReported}
use Rattle.schedule_drive.specs.Entries.{entries_told}
use Rattle.schedule_text.specs.declared.line.Line.{Line}
use Rattle.serial_model.specs.State.{Setup}
use Rattle.serial_model.specs.declared.entry.Entry.{Entry}
use Rattle.shared_world.specs.Later.{IsLater}
use Rattle.shared_world.specs.Opening.{IsOpening}
use Rattle.shared_world.specs.Shared.{Shared}

-- The lines drove the world from that one, and that is the report of it. The world then went on to the last one.
pub record IsDrivenOn (lines : List Line) (first : Shared) (report : List ℕ) (last : Shared) : Type 0 where
  pub driven : Shared
  pub reported : IsReported lines first report driven
  pub later : IsLater driven last

-- The lines drove the world from its opening, where no claim was out, and that is the report of it. The history is that of the
-- driven world, with more entries behind it: it begins with the entries that the report tells of as settled, in their order.
pub record IsReportOf (setup : Setup) (lines : List Line) (report : List ℕ) (history : List Entry) : Type 0 where
  pub opening : Shared
  pub opens : IsOpening setup opening
  pub unclaimed : NoneOut opening
  pub driven : Shared
  pub reported : IsReported lines opening report driven
  pub more : List Entry
  pub goes_on : history ≡ driven.history ++ more
  pub settled : history ≡ entries_told reported.all ++ more
