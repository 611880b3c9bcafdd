-- What the parser makes of the places and options that it is told, and of one use of them.
use Rattle.std.proofs.Common.{◌≡◌, ◌+◌, ℕ, List, [], ◌∷◌, ◌++◌, map, Bool, true, false, ◌||◌, refl, sym, ap, ◌∙◌, Option, Some, None, codes}
use Rattle.std.specs.Str.{bytes_eq}
use Rattle.clap.specs.Walk.{Row, Rule, Text, at_row, has_row, more_values, used, with_values}
use Rattle.clap.specs.Simple.{Shape, built}
use Rattle.clap.specs.Faults.{use_fault}
use Rattle.clap.specs.declared.builder.ArgAction.TheVariants.{Set}
use Rattle.clap.specs.declared.builder.ValueParser.TheVariants as vp
use Rattle.clap.specs.declared.parser.matches.ValueSource.TheVariants.{CommandLine}
use Rattle.clap.specs.declared.builder.value_parser.Reading.TheVariants.{AsWritten}
use Rattle.clap.specs.declared.error.ErrorKind.TheVariants.{ArgumentConflict}
use Rattle.std.proofs.lemmas.Bool.{or_parts}
use Rattle.std.proofs.lemmas.List.{append-nil, map-append}
use Rattle.said_values.specs.Values.{Word}
use Rattle.command_words.specs.Reading.{Form, is_given}
use Rattle.command_words.specs.Said.{run_form, schedule_form, replay_form, check_form, make_form, stress_form}
use Rattle.command_words.specs.Parser.{told}

abbrev pub plain_rule : Word → Option Text → Option ℕ → Bool → Rule
plain_rule name long index required = record {
  id = name;
  long = long;
  aliases = [];
  short = None;
  short_aliases = [];
  index = index;
  action = Some Set;
  range = Some (record { start_inclusive = 1; end_inclusive = 1 });
  value_names = 0;
  defaults = [];
  missing = [];
  trailing_var_arg = false;
  parser = Some vp.String;
  ignore_case = false;
  required = required;
  is_simple = true;
  is_free = true;
}

abbrev pub place_rule : ℕ → Word → Rule
place_rule i name = plain_rule name None (Some i) true

abbrev pub option_rule : Word → Rule
option_rule name = plain_rule name (Some name) None false

abbrev pub places_from : ℕ → List Word → List Rule
places_from i [] = []
places_from i (name ∷ names) = place_rule i name ∷ places_from (i + 1) names

abbrev pub rules_of : Form → List Rule
rules_of form = places_from 1 form.places ++ map option_rule form.options

abbrev pub built_form : Word → Form → Shape
built_form name form = record {
  name = name;
  aliases = [];
  rules = rules_of form;
  is_plain = true;
  is_leaf = true;
  no_binary_name = true;
  disable_help_flag = true;
  disable_help_subcommand = true;
  disable_version_flag = false;
  propagate_version = false;
  has_version = false;
  has_long_version = false;
  args_override_self = false;
  arg_required_else_help = false;
  subcommand_required = false;
  subcommand_negates_reqs = false;
  is_built = true;
}

pub built_run : (built told).subs ≡ built_form (codes "run") run_form ∷ built_form (codes "schedule") schedule_form ∷ built_form (codes "replay") replay_form ∷ built_form (codes "check") check_form ∷ built_form (codes "make") make_form ∷ built_form (codes "stress") stress_form ∷ []
built_run = refl

-- ---- what was given, as the parser keeps it

abbrev pub row_of : Word × Word → Row
row_of g = record { id = g.0; values = g.1 ∷ []; count = None; source = Some CommandLine; reading = AsWritten }

abbrev pub rows_of : List (Word × Word) → List Row
rows_of given = map row_of given

pub has_row_given : (name : Word) (given : List (Word × Word)) → has_row name (rows_of given) ≡ is_given name given
has_row_given name [] = refl
has_row_given name (g ∷ gs) = ap (λ b. bytes_eq g.0 name || b) (has_row_given name gs)

at_no_row : (name : Word) (change : Row → List Row) (missing rows : List Row) → has_row name rows ≡ false → at_row name change missing rows ≡ rows ++ missing
at_no_row name change missing [] none = refl
at_no_row name change missing (r ∷ rs) none =
    let parts = or_parts (bytes_eq r.id name) (has_row name rs) none in
    rw parts.0 (ap (λ xs. r ∷ xs) (at_no_row name change missing rs parts.1))

-- a first use is kept as what the name was given
pub used_first : (name : Word) (long : Option Text) (index : Option ℕ) (required : Bool) (v : Word) (given : List (Word × Word)) → is_given name given ≡ false
    → used (plain_rule name long index required) (v ∷ []) (rows_of given) ≡ rows_of (given ++ (name, v) ∷ [])
used_first name long index required v given new =
    let none : has_row name (rows_of given) ≡ false = has_row_given name given ∙ new in
    ap (with_values name AsWritten CommandLine (v ∷ [])) (at_no_row name (λ _. []) [] (rows_of given) none ∙ append-nil (rows_of given))
    ∙ at_no_row name (more_values CommandLine (v ∷ [])) (row_of (name, v) ∷ []) (rows_of given) none
    ∙ sym (map-append row_of given ((name, v) ∷ []))

pub first_passes : (name : Word) (long : Option Text) (index : Option ℕ) (required : Bool) (v : Word) (given : List (Word × Word)) → is_given name given ≡ false
    → use_fault false (plain_rule name long index required) (v ∷ []) (rows_of given) ≡ []
first_passes name long index required v given new = rw (has_row_given name given ∙ new) refl

pub second_fails : (name : Word) (long : Option Text) (index : Option ℕ) (required : Bool) (v : Word) (given : List (Word × Word)) → is_given name given ≡ true
    → use_fault false (plain_rule name long index required) (v ∷ []) (rows_of given) ≡ ArgumentConflict ∷ []
second_fails name long index required v given known = rw (has_row_given name given ∙ known) refl
