-- The command that the words of a command line say.
use Rattle.std.specs.Prelude.{List, [], ◌∷◌, Option, None}
use Rattle.std.specs.Prelude.{if◌then◌else◌, option_and_then, codes}
use Rattle.std.specs.Str.{bytes_eq}
use Rattle.said_values.specs.Values.{Word}
use Rattle.said_commands.specs.Said.{check_of, make_of, replay_of, run_of, schedule_of, stress_of}
use Rattle.said_commands.specs.declared.command.Command.{Command}
use Rattle.command_words.specs.Reading.{Form, given_of, value_of}

-- the options of what is run within limits: `--fuel`, `--units` and `--trace`
abbrev pub limit_options : List Word
limit_options = codes "fuel" ∷ codes "units" ∷ codes "trace" ∷ []

-- `run FILE`, with these options and `--workers`
abbrev pub run_form : Form
run_form = record { places = codes "file" ∷ []; options = codes "workers" ∷ limit_options }

-- `schedule FILE SCHEDULE`, with these options
abbrev pub schedule_form : Form
schedule_form = record { places = codes "file" ∷ codes "schedule" ∷ []; options = limit_options }

-- `replay FILE TRACE`
abbrev pub replay_form : Form
replay_form = record { places = codes "file" ∷ codes "trace" ∷ []; options = [] }

-- `check FILE`
abbrev pub check_form : Form
check_form = record { places = codes "file" ∷ []; options = [] }

-- `make NUMBER SIZE`
abbrev pub make_form : Form
make_form = record { places = codes "number" ∷ codes "size" ∷ []; options = [] }

-- `stress NUMBER SIZE`, with the option `--workers`
abbrev pub stress_form : Form
stress_form = record { places = codes "number" ∷ codes "size" ∷ []; options = codes "workers" ∷ [] }

-- the command that the words behind its name say
abbrev pub said_by : Form → ((Word → Option Word) → Option Command) → List Word → Option Command
said_by form command words = option_and_then (λ given. command (value_of given)) (given_of form words)

-- the command that the words say, and `None` where they are refused
abbrev pub command_of : List Word → Option Command
command_of [] = None
command_of (name ∷ words) =
    if bytes_eq (codes "run") name then said_by run_form run_of words
    else if bytes_eq (codes "schedule") name then said_by schedule_form schedule_of words
    else if bytes_eq (codes "replay") name then said_by replay_form replay_of words
    else if bytes_eq (codes "check") name then said_by check_form check_of words
    else if bytes_eq (codes "make") name then said_by make_form make_of words
    else if bytes_eq (codes "stress") name then said_by stress_form stress_of words
    else None
