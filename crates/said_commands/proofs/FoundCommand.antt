-- From what the parser found to the name and the values of a command.
use Rattle.std.proofs.Common.{◌≡◌, List, refl, sym, subst, ap, ap₂, ◌∙◌, Option, Some, None, Result, option_map}
use Rattle.std.specs.Box.{box_value}
use Rattle.std.specs.Prelude.{unwrap_or}
use Rattle.std.proofs.lemmas.Option.{none-some}
use Rattle.clap.specs.Walk.{Row, first_of}
use Rattle.clap.specs.Walk.{rows_of as rows_in}
use Rattle.clap.specs.Simple.{subcommand_rows_of}
use Rattle.clap.specs.Matches.{first_value, found_of, subcommand_name_of}
use Rattle.clap.specs.declared.parser.matches.ArgMatches.{ArgMatches}
use Rattle.clap.specs.declared.parser.matches.ArgMatches.TheViews.{out-ArgMatches, out-SubCommand}
use Rattle.clap.specs.declared.parser.matches.Found.{Found}
use Rattle.clap.proofs.WalkLemmas.{first_value-rows}
use Rattle.said_values.specs.Values.{Word}
use Rattle.said_commands.specs.declared.command.Command.{Command}
use Rattle.said_commands.specs.declared.words_no.WordsNo.{WordsNo}
use Rattle.said_commands.specs.Said.{Reads, command_named, found_command}

pair_is : {A B : Type 0} (o : Option (A × B)) (a : A) (b : B) → Some a ≡ option_map (λ (p : A × B). p.0) o → Some b ≡ option_map (λ (p : A × B). p.1) o → o ≡ Some (a, b)
pair_is None a b first second = absurd (none-some a (sym first))
pair_is (Some p) a b first second =
    sym (ap₂ (λ x y. Some (x, y)) (ap (λ o. unwrap_or o a) first) (ap (λ o. unwrap_or o b) second))

first_part : {X A B : Type 0} (f : X → A) (g : X → B) (o : Option X) → option_map f o ≡ option_map (λ (p : A × B). p.0) (option_map (λ x. (f x, g x)) o)
first_part f g None = refl
first_part f g (Some x) = refl

-- the command that is found has this name and these rows
found_is : (m : ArgMatches) (name : Word) (rows : List Row) → Some name ≡ subcommand_name_of m → Some rows ≡ option_map (λ p. p.1) (subcommand_rows_of m)
    → subcommand_rows_of m ≡ Some (name, rows)
found_is m name rows named kept =
    pair_is (subcommand_rows_of m) name rows
    (named ∙ first_part (λ b. (out-SubCommand (box_value b)).name.now) (λ b. rows_in (found_of (out-SubCommand (box_value b)).matches)) (out-ArgMatches m).subcommand) kept

values_are : (found : Found) → ◌≡◌ {A = Word → Option Word} (first_value found) (λ name. first_of name (rows_in found))
values_are found = λ i. λ name. first_value-rows found name i

pub reads_found : (m : ArgMatches) (name : Word) (found : Found) (r : Result Command WordsNo) → Some name ≡ subcommand_name_of m
    → Some (rows_in found) ≡ option_map (λ p. p.1) (subcommand_rows_of m) → Reads (command_named name (first_value found)) r → Reads (found_command (subcommand_rows_of m)) r
reads_found m name found r named kept h =
    subst (λ o. Reads o r) (ap (command_named name) (values_are found) ∙ ap found_command (sym (found_is m name (rows_in found) named kept))) h
