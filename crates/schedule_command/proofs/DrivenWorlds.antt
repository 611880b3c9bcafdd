-- A world that was driven, and the report of it.
use Rattle.std.proofs.Common.{◌≡◌, List, ℕ, ◌++◌, ◌∙◌, ap}
use Rattle.std.specs.Prelude.{Option, None, Some, IfSome}
use Rattle.run_end.specs.Finishing.{NoneOut}
use Rattle.schedule_drive.proofs.Drives.{drive_appends}
use Rattle.schedule_drive.specs.Drive.{IsReported}
use Rattle.schedule_drive.specs.Entries.{entries_told}
use Rattle.schedule_text.specs.declared.line.Line.{Line}
use Rattle.serial_model.specs.State.{Setup}
use Rattle.serial_model.specs.declared.entry.Entry.{Entry}
use Rattle.shared_world.specs.Later.{IsLater}
use Rattle.shared_world.specs.Opening.{IsOpening}
use Rattle.shared_world.specs.Shared.{Shared}
use Rattle.schedule_command.specs.Driven.{IsDrivenOn, IsReportOf}

-- the report of a drive that went on, and the history that came of it
pub report_of : (setup : Setup) (lines : List Line) (opening last : Shared) (report : List ℕ) (history : List Entry) → IsOpening setup opening → NoneOut opening
    → IsDrivenOn lines opening report last → history ≡ last.history → IsReportOf setup lines report history
report_of setup lines opening last report history opens none on same =
    let goes_on = same ∙ on.later.history in
    let appends = drive_appends lines opening on.driven on.reported.all on.reported.driven in
    record {
      opening = opening;
      opens = opens;
      unclaimed = none;
      driven = on.driven;
      reported = on.reported;
      more = on.later.more;
      goes_on = goes_on;
      settled = goes_on ∙ ap (λ h. h ++ on.later.more) (appends.history ∙ ap (λ w. w.history ++ entries_told on.reported.all) opens.rest);
    }

-- a drive, and what came behind it
pub reported_setup : (lines : List Line) (old new : Shared) (text : List ℕ) → IsReported lines old text new → new.setup ≡ old.setup
reported_setup lines old new text is = (drive_appends lines old new is.all is.driven).setup

pub driven_on : {T : Type 0} (report : T → List ℕ) (found : Option T) (lines : List Line) (first driven last : Shared) (text : List ℕ) → IsReported lines first text driven → IsLater driven last
    → IfSome found (λ over. report over ≡ text) → IfSome found (λ over. IsDrivenOn lines first (report over) last)
driven_on report None lines first driven last text is later same = tt
driven_on report (Some over) lines first driven last text is later same =
    rw same (record { driven = driven; reported = is; later = later })
