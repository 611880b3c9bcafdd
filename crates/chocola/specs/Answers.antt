-- What is owed to the words of a command line.
use Rattle.std.specs.Prelude.{◌≡◌, ℕ, List, Option, None, Some}
use Rattle.command_words.specs.Said.{command_of}
use Rattle.said_commands.specs.declared.command.Command.{Command}
use Rattle.said_commands.specs.declared.command.Command.TheVariants as said
use Rattle.serial_model.specs.Limits.{Budget}
use Rattle.command_phases.specs.declared.outcome.Outcome.{Outcome}
use Rattle.serial_commands.specs.CheckAnswers.{CheckAnswers}
use Rattle.serial_commands.specs.MakeAnswers.{MakeAnswers}
use Rattle.chocola.specs.NoAnswers.{NoCommand}
use Rattle.command_phases.specs.Outcome.{IsStatus}
use Rattle.serial_commands.specs.ReplayAnswers.{ReplayAnswers}
use Rattle.run_command.specs.RunAnswers.{RunAnswers}
use Rattle.schedule_command.specs.ScheduleAnswers.{ScheduleAnswers}
use Rattle.stress_command.specs.StressAnswers.{StressAnswers}
use Rattle.command_phases.specs.Seen.{Seen, IsLater}
use Rattle.command_phases.specs.Status as exit

-- what is owed to each command, and to words that say none
pub record Answers (words : List (List ℕ)) (before after : Seen) (outcome : Outcome) : Type 0 where
  pub statuses : IsStatus outcome.status
  pub run : (file : List ℕ) (workers : ℕ) (limits : Budget) (trace : Option (List ℕ)) → command_of words ≡ Some (said.Run file workers limits trace)
      → RunAnswers file limits trace before after outcome
  pub schedule : (file schedule : List ℕ) (limits : Budget) (trace : Option (List ℕ)) → command_of words ≡ Some (said.Schedule file schedule limits trace)
      → ScheduleAnswers file schedule limits trace before after outcome
  pub replay : (file trace : List ℕ) → command_of words ≡ Some (said.Replay file trace) → ReplayAnswers file trace before after outcome
  pub check : (file : List ℕ) → command_of words ≡ Some (said.Check file) → CheckAnswers file before after outcome
  pub make : (number size : ℕ) → command_of words ≡ Some (said.Make number size) → MakeAnswers number size before after outcome
  pub stress : (number size workers : ℕ) → command_of words ≡ Some (said.Stress number size workers) → StressAnswers number size before after outcome
  pub no_command : command_of words ≡ None → NoCommand before after outcome
  pub usage : outcome.status ≡ exit.usage → command_of words ≡ None
  pub no_count_falls : IsLater before after

-- what is owed to that command, by whatever words it is said
abbrev pub IsOwed : Command → Seen → Seen → Outcome → Type 0
IsOwed command before after outcome = (words : List (List ℕ)) → command_of words ≡ Some command → Answers words before after outcome
