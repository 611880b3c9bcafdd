-- The command that its name and the values say.
use Rattle.std.specs.Prelude.{◌≡◌, List, Option, Some, None, Result, Ok, Err}
use Rattle.std.specs.Prelude.{if◌then◌else◌, option_map, option_and_then, codes}
use Rattle.std.specs.Str.{bytes_eq}
use Rattle.clap.specs.Walk.{Row, first_of}
use Rattle.said_values.specs.Values.{Word, limits_of, made_of, workers_of}
use Rattle.said_commands.specs.declared.command.Command.{Command}
use Rattle.said_commands.specs.declared.command.Command.TheVariants.{Run, Schedule, Replay, Check, Make, Stress}
use Rattle.said_commands.specs.declared.words_no.WordsNo.{WordsNo}
use Rattle.said_commands.specs.declared.words_no.WordsNo.TheVariants.{Usage, Memory}

-- the run that is said by what its places and options are given
abbrev pub run_of : (Word → Option Word) → Option Command
run_of given =
    option_and_then (λ file. option_and_then (λ workers. option_map (λ limits. Run file workers limits (given (codes "trace"))) (limits_of given))
    (workers_of (given (codes "workers")))) (given (codes "file"))

-- the run by a schedule that is said by what its places and options are given
abbrev pub schedule_of : (Word → Option Word) → Option Command
schedule_of given =
    option_and_then (λ file. option_and_then (λ schedule. option_map (λ limits. Schedule file schedule limits (given (codes "trace"))) (limits_of given))
    (given (codes "schedule"))) (given (codes "file"))

-- the replay that is said by what its places are given
abbrev pub replay_of : (Word → Option Word) → Option Command
replay_of given = option_and_then (λ file. option_map (Replay file) (given (codes "trace"))) (given (codes "file"))

-- the check that is said by what its place is given
abbrev pub check_of : (Word → Option Word) → Option Command
check_of given = option_map Check (given (codes "file"))

-- the made program that is said by what its places are given
abbrev pub make_of : (Word → Option Word) → Option Command
make_of given = option_map (λ made. Make made.0 made.1) (made_of given)

-- the run of a made program that is said by what its places and its option are given
abbrev pub stress_of : (Word → Option Word) → Option Command
stress_of given = option_and_then (λ made. option_map (Stress made.0 made.1) (workers_of (given (codes "workers")))) (made_of given)

-- the command of that name, of what its places and options are given
abbrev pub command_named : Word → (Word → Option Word) → Option Command
command_named title given =
    if bytes_eq (codes "run") title then run_of given
    else if bytes_eq (codes "schedule") title then schedule_of given
    else if bytes_eq (codes "replay") title then replay_of given
    else if bytes_eq (codes "check") title then check_of given
    else if bytes_eq (codes "make") title then make_of given
    else if bytes_eq (codes "stress") title then stress_of given
    else None

-- the command that the parser found, with the rows of what it is given
abbrev pub found_command : Option (Word × List Row) → Option Command
found_command None = None
found_command (Some found) = command_named found.0 (λ name. first_of name found.1)

-- the result is the command that is said, or `Usage` where none is, or tells of want of memory
abbrev pub Reads : Option Command → Result Command WordsNo → Type 0
Reads said (Ok command) = said ≡ Some command
Reads said (Err Usage) = said ≡ None
Reads said (Err Memory) = Unit {0}
