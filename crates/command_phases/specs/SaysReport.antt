-- What standard error took of a run by a schedule that came to its end.
use Rattle.std.specs.Prelude.{◌≡◌, ◌≢◌, ◌++◌, ℕ, List, [], Option}
use Rattle.std.specs.Io.KnownBytes.{append_known}
use Rattle.serial_model.specs.declared.end.End.{End}
use Rattle.world_io.specs.Seen.{SinkSeen}
use Rattle.world_io.specs.Taken.{TookPrefix, Said}
use Rattle.command_phases.specs.declared.outcome.Detail.TheVariants.{Nothing}
use Rattle.command_phases.specs.Lines.{line_of, line_begun, ended_line}
use Rattle.command_phases.specs.Status as exit

-- The report, and behind it the line of that status and end: all of it where the count did not rise, and else a front of it. At
-- an end that was written it is all of it, whatever was counted.
pub record SaysReport (report : List ℕ) (status : ℕ) (end : Option End) (old new : SinkSeen) : Type 0 where
  pub said : Said old new (report ++ line_of [] status Nothing end)
  pub said_at_most : TookPrefix old.taken new.taken (report ++ line_begun [] status Nothing end)
  pub end_said : status ≢ exit.not_written → new.taken ≡ append_known old.taken (report ++ ended_line end)
