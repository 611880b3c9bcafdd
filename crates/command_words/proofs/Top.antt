-- The parser of all commands, for words that may be passed to it.
use Rattle.std.proofs.Common.{◌≡◌, ◌⊎◌, inl, inr, List, [], ◌∷◌, ◌++◌, Bool, true, false, ◌&&◌, ◌||◌, cond, refl, sym, subst, ap, ap₂, ◌∙◌, Option, Some, None, codes, option_map, fold, is_some}
use Rattle.std.specs.Prelude.{find, if◌then◌else◌, option_and_then, slice_get}
use Rattle.std.specs.List.{list_all}
use Rattle.std.specs.Str.{bytes_eq}
use Rattle.clap.specs.Walk.{Held, Names, Row, Step, Text, Walk, after_step, finished, first_of, idle, nothing_held, rows_after, settled, subcommand, subcommand_met, subcommand_or_other, walk_from, walked, word_met}
use Rattle.clap.specs.Simple.{Shape, built, entered, names_of, subcommand_of}
use Rattle.clap.specs.Kinds.{Kinds, or_else}
use Rattle.clap.specs.Faults.{check_fault, defaults_fault, entered_fault, fault_of, level_fault, other_fault, settle_fault, step_fault, turn_fault, walk_fault, word_fault}
use Rattle.clap.specs.declared.error.ErrorKind.TheVariants.{DisplayHelp, InvalidSubcommand}
use Rattle.clap.proofs.WalkLemmas.{walk_stopped}
use Rattle.said_commands.specs.declared.command.Command.{Command}
use Rattle.said_values.specs.Values.{Word}
use Rattle.command_words.specs.Reading.{Form, given_of, is_fit, value_of}
use Rattle.said_commands.specs.Said.{check_of, command_named, make_of, replay_of, run_of, schedule_of, stress_of}
use Rattle.command_words.specs.Said.{check_form, command_of, make_form, replay_form, run_form, said_by, schedule_form, stress_form}
use Rattle.command_words.specs.Parser.{is_readable, told}
use Rattle.std.proofs.lemmas.Bool.{and_parts}
use Rattle.command_words.proofs.Fitting.{Looks, readable_cases}
use Rattle.command_words.proofs.Rules.{built_form, row_of, rows_of, rules_of}
use Rattle.command_words.proofs.Turns.{Fails, dashed_fault_among, fails_as, first_fails, fit_met_among, fit_passes_among}
use Rattle.command_words.proofs.Forms.{IsSound, check_sound, make_sound, replay_sound, run_sound, schedule_sound, stress_sound}
use Rattle.command_words.proofs.Level.{Agrees, level}

-- what the parser makes of the words is what they say
pub data Parses (words : List Word) : Type 0 where
  refused : Fails (fault_of told words) → command_of words ≡ None → Parses words
  taken : (title : Word) (given : List (Word × Word)) → fault_of told words ≡ [] → subcommand_of told words ≡ Some (title, rows_of given)
      → command_of words ≡ command_named title (value_of given) → Parses words

abbrev t : Shape
t = (built told).top

abbrev names : Names
names = names_of (built told)

-- ---- after the name of a command

stopped_passes : (at : Walk) (p : Text × List Text) (words : List Word) → walk_fault t names (record at { stopped = Some p }) words ≡ []
unfolding walk_fault walked
stopped_passes at p [] = refl
stopped_passes at p (w ∷ words) = stopped_passes at (p.0, p.1 ++ w ∷ []) words

abbrev at_title : Word → List Word → Walk
at_title title words = record (walk_from nothing_held) { stopped = Some (title, words) }

abbrev rest_fault : Walk → Kinds
rest_fault end = or_else (entered_fault (built told) end.stopped)
    (or_else (settle_fault [] false end.held) (or_else (defaults_fault (settled [] end.held).rows []) (check_fault t (finished [] end.held) (is_some (entered (built told) end.stopped)))))

module _ (name title : Word) (words : List Word) (met : subcommand_met names idle name ≡ Some title) (plain : bytes_eq title (codes "help") ≡ false) where
  name_met : word_met [] names false idle 1 name nothing_held ≡ (nothing_held, subcommand title)
  name_met = ap (λ n. subcommand_or_other [] n idle 1 name nothing_held) met

  name_passes : turn_fault t names (walk_from nothing_held) name ≡ []
  name_passes =
      ap₂ (λ n m. or_else (other_fault t n name nothing_held) (step_fault t 1 m.0 m.1)) met name_met
      ∙ ap (λ b. or_else (if b && false then DisplayHelp ∷ InvalidSubcommand ∷ [] else []) []) plain

  name_taken : walked [] names (walk_from nothing_held) name ≡ at_title title []
  unfolding walked
  name_taken = ap (λ m. after_step [] name (walk_from nothing_held) m.0 m.1) name_met

  walk_is : fold (walked [] names) (walk_from nothing_held) (name ∷ words) ≡ at_title title words
  walk_is = ap (λ at. fold (walked [] names) at words) name_taken ∙ sym (walk_stopped [] names (walk_from nothing_held) title [] words)

  walk_passes : walk_fault t names (walk_from nothing_held) (name ∷ words) ≡ []
  unfolding walk_fault
  walk_passes = ap₂ (λ k at. or_else k (walk_fault t names at words)) name_passes name_taken ∙ stopped_passes (walk_from nothing_held) (title, []) words

  pub fault_after : fault_of told (name ∷ words) ≡ rest_fault (at_title title words)
  fault_after = ap₂ (λ k end. or_else k (rest_fault end)) walk_passes walk_is

  pub subcommand_after : subcommand_of told (name ∷ words) ≡ entered (built told) (Some (title, words))
  subcommand_after = ap (λ (end : Walk). entered (built told) end.stopped) walk_is

-- ---- a word that names no command

module _ (name : Word) (words : List Word) (none : subcommand_met names idle name ≡ None) where
  fit_fails : is_fit name ≡ true → Fails (turn_fault t names (walk_from nothing_held) name)
  fit_fails fit =
      fails_as _ _ (ap₂ (λ k m. or_else k (step_fault t 1 m.0 m.1)) (fit_passes_among names idle name none fit t nothing_held) (fit_met_among names idle name none fit [] 1 nothing_held)) tt

  abbrev met_as : Word → Held × Step
  met_as w = word_met [] names false idle 1 w nothing_held

  looks_fails : Looks name → Fails (turn_fault t names (walk_from nothing_held) name)
  looks_fails looks =
      let w : Word = 45 ∷ 45 ∷ looks.first ∷ looks.rest in
      subst (λ w. Fails (turn_fault t names (walk_from nothing_held) w)) (sym looks.is)
      (first_fails (word_fault t names false idle w nothing_held) (step_fault t 1 (met_as w).0 (met_as w).1)
      (fails_as _ _ (dashed_fault_among t names idle looks.first looks.rest nothing_held (subst (λ w. subcommand_met names idle w ≡ None) looks.is none)) tt))

  name_fails : is_readable name ≡ true → Fails (turn_fault t names (walk_from nothing_held) name)
  name_fails readable = go (readable_cases name readable)
    where
      go : (is_fit name ≡ true) ⊎ Looks name → Fails (turn_fault t names (walk_from nothing_held) name)
      go (inl fit) = fit_fails fit
      go (inr looks) = looks_fails looks

  pub unknown_fails : is_readable name ≡ true → Fails (fault_of told (name ∷ words))
  unfolding walk_fault
  unknown_fails readable = first_fails _ _ (first_fails (turn_fault t names (walk_from nothing_held) name) _ (name_fails readable))

-- ---- the words

or_nothing : (a : Kinds) → or_else a [] ≡ a
or_nothing [] = refl
or_nothing (k ∷ ks) = refl

module _ (name : Word) (words : List Word) (readable : list_all is_readable (name ∷ words) ≡ true) where
  rest_readable : list_all is_readable words ≡ true
  rest_readable = (and_parts (is_readable name) (list_all is_readable words) readable).1

  -- of a command that is named, by its own parser
  of_command : (title : Word) (form : Form) (made : (Word → Option Word) → Option Command) → IsSound form
      → fault_of told (name ∷ words) ≡ level_fault (built_form title form) [] nothing_held words false []
      → subcommand_of told (name ∷ words) ≡ Some (title, rows_after (rules_of form) [] words)
      → command_of (name ∷ words) ≡ said_by form made words → ((given : Word → Option Word) → made given ≡ command_named title given)
      → Parses (name ∷ words)
  of_command title form made sound faulty sub said same = go (given_of form words) refl (level title form sound words rest_readable)
    where
      go : (o : Option (List (Word × Word))) → given_of form words ≡ o → Agrees o (level_fault (built_form title form) [] nothing_held words false []) (rows_after (rules_of form) [] words)
          → Parses (name ∷ words)
      go None is h = refused (fails_as _ _ faulty h) (said ∙ ap (λ o. option_and_then (λ given. made (value_of given)) o) is)
      go (Some given) is h = taken title given (faulty ∙ h.0) (sub ∙ ap (λ rows. Some (title, rows)) h.1)
          (said ∙ ap (λ o. option_and_then (λ g. made (value_of g)) o) is ∙ same (value_of given))

  abbrev met_by : Bool → Bool → Bool → Bool → Bool → Bool → Option Word
  met_by is_run is_schedule is_replay is_check is_make is_stress = option_map (λ (p : Text × List Text). p.0)
      (cond (is_run || false) (Some (codes "run", [])) (cond (is_schedule || false) (Some (codes "schedule", [])) (cond (is_replay || false) (Some (codes "replay", [])) (cond (is_check || false) (Some (codes "check", [])) (cond (is_make || false) (Some (codes "make", [])) (cond (is_stress || false) (Some (codes "stress", [])) None))))))

  abbrev said_as : Bool → Bool → Bool → Bool → Bool → Bool → Option Command
  said_as is_run is_schedule is_replay is_check is_make is_stress =
      if is_run then said_by run_form run_of words
      else if is_schedule then said_by schedule_form schedule_of words
      else if is_replay then said_by replay_form replay_of words
      else if is_check then said_by check_form check_of words
      else if is_make then said_by make_form make_of words
      else if is_stress then said_by stress_form stress_of words
      else None

  by_name : (is_run is_schedule is_replay is_check is_make is_stress : Bool) → subcommand_met names idle name ≡ met_by is_run is_schedule is_replay is_check is_make is_stress
      → command_of (name ∷ words) ≡ said_as is_run is_schedule is_replay is_check is_make is_stress
      → Parses (name ∷ words)
  unfolding defaults_fault
  by_name true is_schedule is_replay is_check is_make is_stress met said =
      of_command (codes "run") run_form run_of run_sound
      (fault_after name (codes "run") words met refl ∙ or_nothing _) (subcommand_after name (codes "run") words met refl) said (λ given. refl)
  by_name false true is_replay is_check is_make is_stress met said =
      of_command (codes "schedule") schedule_form schedule_of schedule_sound
      (fault_after name (codes "schedule") words met refl ∙ or_nothing _) (subcommand_after name (codes "schedule") words met refl) said (λ given. refl)
  by_name false false true is_check is_make is_stress met said =
      of_command (codes "replay") replay_form replay_of replay_sound
      (fault_after name (codes "replay") words met refl ∙ or_nothing _) (subcommand_after name (codes "replay") words met refl) said (λ given. refl)
  by_name false false false true is_make is_stress met said =
      of_command (codes "check") check_form check_of check_sound
      (fault_after name (codes "check") words met refl ∙ or_nothing _) (subcommand_after name (codes "check") words met refl) said (λ given. refl)
  by_name false false false false true is_stress met said =
      of_command (codes "make") make_form make_of make_sound
      (fault_after name (codes "make") words met refl ∙ or_nothing _) (subcommand_after name (codes "make") words met refl) said (λ given. refl)
  by_name false false false false false true met said =
      of_command (codes "stress") stress_form stress_of stress_sound
      (fault_after name (codes "stress") words met refl ∙ or_nothing _) (subcommand_after name (codes "stress") words met refl) said (λ given. refl)
  by_name false false false false false false met said =
      refused (unknown_fails name words met (and_parts (is_readable name) (list_all is_readable words) readable).0) said

  some_words : Parses (name ∷ words)
  some_words = by_name (bytes_eq (codes "run") name) (bytes_eq (codes "schedule") name) (bytes_eq (codes "replay") name) (bytes_eq (codes "check") name) (bytes_eq (codes "make") name) (bytes_eq (codes "stress") name) refl refl

no_words : Fails (fault_of told [])
unfolding walk_fault defaults_fault
no_words = tt

-- the parser refuses the words that the rules refuse, and else finds the command with what it is given
pub parses : (words : List Word) → list_all is_readable words ≡ true → Parses words
parses [] readable = refused no_words refl
parses (name ∷ words) readable = some_words name words readable

-- ---- what is read of the matches

pub first_given : (name : Word) (given : List (Word × Word)) → first_of name (rows_of given) ≡ value_of given name
first_given name [] = refl
first_given name (g ∷ gs) = go (bytes_eq g.0 name) (first_given name gs)
  where
    go : (b : Bool) → first_of name (rows_of gs) ≡ value_of gs name
        → option_and_then (λ (r : Row). slice_get r.values 0) (cond b (Some (row_of g)) (find (λ r. bytes_eq r.id name) (rows_of gs)))
        ≡ option_map (λ (p : Word × Word). p.1) (cond b (Some g) (find (λ p. bytes_eq p.0 name) gs))
    go true rest = refl
    go false rest = rest
