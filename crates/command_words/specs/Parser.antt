-- What the parser of words is told of the commands, and which words are passed to it.
use Rattle.std.specs.Prelude.{List, [], ◌∷◌, ◌++◌, Bool, true, false, not, ◌==◌, ◌&&◌, ◌||◌, Option, Some, None, map}
use Rattle.std.specs.Prelude.{codes, if◌then◌else◌, ◌≡◌, Result, IfOk}
use Rattle.std.specs.List.{list_any, after_first}
use Rattle.std.specs.Option.{option_map_or}
use Rattle.clap.specs.Words.{App, Rule, app_of, new_app, new_rule, with_rule, with_subcommand}
use Rattle.clap.specs.Simple.{on_top}
use Rattle.clap.specs.Walk.{is_empty}
use Rattle.clap.specs.declared.builder.command.Command.{Command}
use Rattle.clap.specs.declared.builder.command.Command.TheViews.{out-Command}
use Rattle.said_values.specs.Values.{Word}
use Rattle.command_words.specs.Reading.{Form, is_fit, is_equals}
use Rattle.command_words.specs.Said.{run_form, schedule_form, replay_form, check_form, make_form, stress_form}

-- a place, which has to have its word
abbrev pub told_place : Word → Rule
told_place name = record (new_rule name) { required = true }

-- an option that takes a value
abbrev pub told_option : Word → Rule
told_option name = record (new_rule name) { long = Some name }

-- the command, where there was memory for it, is told that
abbrev pub IsTold : {E : Type 0} → Result Command E → App → Type 0
IsTold built app = IfOk built (λ c. app_of c ≡ app)

-- no place or option of the command is one of the commands below it
abbrev pub IsLocal : {E : Type 0} → Result Command E → Type 0
IsLocal built = IfOk built (λ c. (out-Command c).has_globals ≡ false)

-- the command with these places and options too
abbrev pub with_rules : App → List Rule → App
with_rules app [] = app
with_rules app (rule ∷ rules) = with_rules (with_rule app rule) rules

-- a command with the places and options of the form
abbrev pub told_command : Word → Form → App
told_command name form = with_rules (new_app name) (map told_place form.places ++ map told_option form.options)

-- there is no word for the program's name, no help, and one of the commands is wanted
abbrev pub with_settings : App → App
with_settings app =
    on_top (λ s. record s {
      no_binary_name = true;
      disable_help_flag = true;
      disable_help_subcommand = true;
      subcommand_required = true;
    }) app

-- the parser with two commands more
abbrev pub with_commands : App → App → App → App
with_commands app first second = with_subcommand (with_subcommand app first.top) second.top

-- all commands
abbrev pub told : App
told =
    with_commands (with_commands (with_commands (with_settings (new_app (codes "chocola")))
    (told_command (codes "run") run_form) (told_command (codes "schedule") schedule_form))
    (told_command (codes "replay") replay_form) (told_command (codes "check") check_form))
    (told_command (codes "make") make_form) (told_command (codes "stress") stress_form)

-- what stands behind two dashes
abbrev pub behind_dashes : Word → Option Word
behind_dashes [] = None
behind_dashes (a ∷ []) = None
behind_dashes (a ∷ b ∷ rest) = if a == 45 && b == 45 then Some rest else None

-- the text is `NAME`, or `NAME=VALUE` with a fit value
abbrev pub is_readable_option : Word → Bool
is_readable_option text = if list_any is_equals text then is_fit (after_first is_equals text) else not (is_empty text)

-- the word is fit or looks like an option with a fit value, so that the parser reads it by the rules
abbrev pub is_readable : Word → Bool
is_readable word = is_fit word || option_map_or is_readable_option (behind_dashes word) false
