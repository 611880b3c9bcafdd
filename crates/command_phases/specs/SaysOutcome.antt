-- What standard error took of an outcome whose files were read.
use Rattle.std.specs.Prelude.{◌≡◌, ◌≢◌, ℕ, [], Option}
use Rattle.std.specs.Io.KnownBytes.{append_known}
use Rattle.world_io.specs.Seen.{SinkSeen}
use Rattle.world_io.specs.Taken.{TookPrefix, Said}
use Rattle.serial_model.specs.declared.end.End.{End}
use Rattle.command_phases.specs.declared.outcome.Detail.{Detail}
use Rattle.command_phases.specs.Lines.{line_of, line_begun, ended_line}
use Rattle.command_phases.specs.Outcome.{IsEnded}
use Rattle.command_phases.specs.Status as exit

-- The line of that status, detail and end: all of it where the count did not rise, and else a front of it. At an end that
-- was written it is the whole line, whatever was counted.
pub record SaysOutcome (status : ℕ) (detail : Detail) (end : Option End) (old new : SinkSeen) : Type 0 where
  pub said : Said old new (line_of [] status detail end)
  pub said_at_most : TookPrefix old.taken new.taken (line_begun [] status detail end)
  pub end_said : IsEnded status → status ≢ exit.not_written → new.taken ≡ append_known old.taken (ended_line end)
