-- What the rules of a form find, and what is checked of them when the words are over.
use Rattle.std.proofs.Common.{◌≡◌, ◌+◌, ◌<◌, ℕ, List, [], ◌∷◌, ◌++◌, map, Bool, true, false, not, ◌&&◌, ◌||◌, cond, refl, subst, ap, ap₂, ◌∙◌, arith, Some, None, codes, option_map, fold}
use Rattle.std.specs.Prelude.{find, if◌then◌else◌, unwrap_or}
use Rattle.std.specs.Option.{option_map_or}
use Rattle.std.specs.List.{list_all, list_any}
use Rattle.std.specs.Str.{bytes_eq}
use Rattle.clap.specs.Lexer.{usize_max}
use Rattle.clap.specs.Facts.{explicit_source}
use Rattle.clap.specs.Walk.{Row, Rule, arg_by_index, arg_by_long, default_rows, has_row, is_empty, reading_by, with_default}
use Rattle.clap.specs.Takes.{is_given as is_found}
use Rattle.clap.specs.Kinds.{or_else}
use Rattle.clap.specs.Faults.{check_fault, default_fault, defaults_fault, given_default_fault}
use Rattle.clap.specs.declared.error.ErrorKind.TheVariants.{MissingRequiredArgument}
use Rattle.std.proofs.lemmas.Option.{none-some}
use Rattle.said_values.specs.Values.{Word}
use Rattle.command_words.specs.Reading.{Form, is_given}
use Rattle.command_words.specs.Said.{run_form, schedule_form, replay_form, check_form, make_form, stress_form}
use Rattle.command_words.proofs.Rules.{built_form, option_rule, place_rule, places_from, row_of, rows_of, rules_of}
use Rattle.command_words.proofs.Turns.{Known}

abbrev pub Each : {X : Type 0} → (X → Type 0) → List X → Type 0
Each P [] = Unit {0}
Each P (x ∷ xs) = P x × Each P xs

-- ---- names and places

options_by_long : (os : List Word) (name : Word) → arg_by_long (map option_rule os) name ≡ option_map option_rule (find (λ o. bytes_eq o name) os)
options_by_long [] name = refl
options_by_long (o ∷ os) name = go (bytes_eq o name) (options_by_long os name)
  where
    go : (b : Bool) → arg_by_long (map option_rule os) name ≡ option_map option_rule (find (λ o. bytes_eq o name) os)
        → cond (b || false) (Some (option_rule o)) (arg_by_long (map option_rule os) name) ≡ option_map option_rule (cond b (Some o) (find (λ o. bytes_eq o name) os))
    go true rest = refl
    go false rest = rest

by_long : (i : ℕ) (places os : List Word) (name : Word)
    → arg_by_long (places_from i places ++ map option_rule os) name ≡ option_map option_rule (find (λ o. bytes_eq o name) os)
by_long i [] os name = options_by_long os name
by_long i (p ∷ ps) os name = by_long (i + 1) ps os name

pub found_by_long : (form : Form) (name : Word) → arg_by_long (rules_of form) name ≡ option_map option_rule (find (λ o. bytes_eq o name) form.options)
found_by_long form name = by_long 1 form.places form.options name

-- the places that are free stand in the rules from this position on
abbrev pub HasPlaces : List Rule → ℕ → List Word → Type 0
HasPlaces c position [] = arg_by_index c position ≡ None
HasPlaces c position (name ∷ free) = (arg_by_index c position ≡ Some (place_rule position name)) × (position < usize_max) × Known c name × HasPlaces c (position + 1) free

-- the form's names are in its rules
pub record IsSound (form : Form) : Type 0 where
  pub places : HasPlaces (rules_of form) 1 form.places
  pub options : Each (Known (rules_of form)) form.options
  pub named : find (λ o. bytes_eq o []) form.options ≡ None

pub run_sound : IsSound run_form
run_sound = record {
  places = (refl, omega arith, (None, Some 1, true, refl), refl);
  options = ((Some (codes "workers"), None, false, refl), ((Some (codes "fuel"), None, false, refl), ((Some (codes "units"), None, false, refl), ((Some (codes "trace"), None, false, refl), tt))));
  named = refl;
}

pub schedule_sound : IsSound schedule_form
schedule_sound = record {
  places = (refl, omega arith, (None, Some 1, true, refl), (refl, omega arith, (None, Some 2, true, refl), refl));
  options = ((Some (codes "fuel"), None, false, refl), ((Some (codes "units"), None, false, refl), ((Some (codes "trace"), None, false, refl), tt)));
  named = refl;
}

pub replay_sound : IsSound replay_form
replay_sound = record {
  places = (refl, omega arith, (None, Some 1, true, refl), (refl, omega arith, (None, Some 2, true, refl), refl));
  options = tt;
  named = refl;
}

pub check_sound : IsSound check_form
check_sound = record { places = (refl, omega arith, (None, Some 1, true, refl), refl); options = tt; named = refl }

pub make_sound : IsSound make_form
make_sound = record {
  places = (refl, omega arith, (None, Some 1, true, refl), (refl, omega arith, (None, Some 2, true, refl), refl));
  options = tt;
  named = refl;
}

pub stress_sound : IsSound stress_form
stress_sound = record {
  places = (refl, omega arith, (None, Some 1, true, refl), (refl, omega arith, (None, Some 2, true, refl), refl));
  options = ((Some (codes "workers"), None, false, refl), tt);
  named = refl;
}

pub found_known : (c : List Rule) (p : Word → Bool) (os : List Word) (name : Word) → Each (Known c) os → find p os ≡ Some name → Known c name
found_known c p [] name known found = absurd (none-some _ found)
found_known c p (o ∷ os) name known found = go (p o) (found_known c p os name known.1) found
  where
    go : (b : Bool) → (find p os ≡ Some name → Known c name) → cond b (Some o) (find p os) ≡ Some name → Known c name
    go true rest e = subst (Known c) (ap (λ found_name. unwrap_or found_name o) e) known.0
    go false rest e = rest e

-- ---- when the words are over

abbrev HasNoDefaults : Rule → Type 0
HasNoDefaults a = a.defaults ≡ []

options_plain : (os : List Word) → Each HasNoDefaults (map option_rule os)
options_plain [] = tt
options_plain (o ∷ os) = (refl, options_plain os)

places_plain : (i : ℕ) (places os : List Word) → Each HasNoDefaults (places_from i places ++ map option_rule os)
places_plain i [] os = options_plain os
places_plain i (p ∷ ps) os = (refl, places_plain (i + 1) ps os)

default_adds : (rows : List Row) (a : Rule) → HasNoDefaults a → with_default rows a ≡ rows
default_adds rows a none = ap (λ values. if has_row a.id rows then rows else default_rows a.id (reading_by a) values rows) none ∙ go (has_row a.id rows)
  where
    go : (b : Bool) → (if b then rows else rows) ≡ rows
    go true = refl
    go false = refl

defaults_add : (rows : List Row) (c : List Rule) → Each HasNoDefaults c → fold with_default rows c ≡ rows
defaults_add rows [] plain = refl
defaults_add rows (a ∷ c) plain = ap (λ rs. fold with_default rs c) (default_adds rows a plain.0) ∙ defaults_add rows c plain.1

default_passes : (rows : List Row) (a : Rule) → HasNoDefaults a → default_fault rows a ≡ []
default_passes rows a none = ap (λ values. if has_row a.id rows || is_empty values then [] else given_default_fault a values) none ∙ go (has_row a.id rows)
  where
    go : (b : Bool) → (if b || true then [] else given_default_fault a []) ≡ []
    go true = refl
    go false = refl

defaults_pass : (rows : List Row) (c : List Rule) → Each HasNoDefaults c → defaults_fault rows c ≡ []
unfolding defaults_fault
defaults_pass rows [] plain = refl
defaults_pass rows (a ∷ c) plain =
    ap₂ (λ k rs. or_else k (defaults_fault rs c)) (default_passes rows a plain.0) (default_adds rows a plain.0) ∙ defaults_pass rows c plain.1

pub no_more_rows : (form : Form) (rows : List Row) → fold with_default rows (rules_of form) ≡ rows
no_more_rows form rows = defaults_add rows (rules_of form) (places_plain 1 form.places form.options)

pub no_default_fails : (form : Form) (rows : List Row) → defaults_fault rows (rules_of form) ≡ []
no_default_fails form rows = defaults_pass rows (rules_of form) (places_plain 1 form.places form.options)

found_given : (name : Word) (given : List (Word × Word)) → is_found name (rows_of given) ≡ is_given name given
found_given name [] = refl
found_given name (g ∷ gs) = go (bytes_eq g.0 name) (found_given name gs)
  where
    go : (b : Bool) → is_found name (rows_of gs) ≡ is_given name gs
        → option_map_or (λ r. explicit_source r.source) (cond b (Some (row_of g)) (find (λ r. bytes_eq r.id name) (rows_of gs))) false ≡ (b || is_given name gs)
    go true rest = refl
    go false rest = rest

abbrev is_missed : List Row → Rule → Bool
is_missed rows a = a.required && not (is_found a.id rows)

options_missed : (os : List Word) (rows : List Row) → list_any (is_missed rows) (map option_rule os) ≡ false
options_missed [] rows = refl
options_missed (o ∷ os) rows = options_missed os rows

missed : (i : ℕ) (places os : List Word) (given : List (Word × Word))
    → list_any (is_missed (rows_of given)) (places_from i places ++ map option_rule os) ≡ not (list_all (λ place. is_given place given) places)
missed i [] os given = options_missed os (rows_of given)
missed i (p ∷ ps) os given = ap₂ (λ f m. not f || m) (found_given p given) (missed (i + 1) ps os given) ∙ go (is_given p given)
  where
    go : (b : Bool) → (not b || not (list_all (λ place. is_given place given) ps)) ≡ not (b && list_all (λ place. is_given place given) ps)
    go true = refl
    go false = refl

-- what is missed when the words are over is a place without a word
pub check_is : (title : Word) (form : Form) (given : List (Word × Word))
    → check_fault (built_form title form) (rows_of given) false ≡ (if list_all (λ place. is_given place given) form.places then [] else MissingRequiredArgument ∷ [])
check_is title form given =
    ap (λ b. if b then MissingRequiredArgument ∷ [] else []) (missed 1 form.places form.options given)
    ∙ go (list_all (λ place. is_given place given) form.places)
  where
    go : (b : Bool) → (if not b then MissingRequiredArgument ∷ [] else []) ≡ (if b then [] else MissingRequiredArgument ∷ [])
    go true = refl
    go false = refl
