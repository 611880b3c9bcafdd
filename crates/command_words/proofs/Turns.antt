-- What one word does to the parser of a command, by whether the word is fit or begins with two dashes.
use Rattle.std.proofs.Common.{◌≡◌, ◌+◌, ◌<◌, ℕ, List, [], ◌∷◌, ◌++◌, Bool, true, false, ◌==◌, refl, sym, subst, ap, ap₂, ◌∙◌, arith, min, Option, Some, None}
use Rattle.std.proofs.Common.{eq-eqb}
use Rattle.std.proofs.lemmas.Bool.{and_right, not-true}
use Rattle.std.specs.Prelude.{if◌then◌else◌, nat_lt}
use Rattle.std.specs.Option.{option_map_or}
use Rattle.std.specs.Str.{bytes_eq}
use Rattle.clap.specs.Lexer.{long_of, name_and_value, short_of, usize_max}
use Rattle.clap.specs.Walk.{Held, Names, Rule, Step, Text, Waiting, Walk, after_flag, after_step, arg_by_id, arg_by_index, arg_by_long, idle, is_pending, long_met, long_word, long_or_other, next, option, option_met, option_word, plain_word, positional_held, positional, pushed, reacted, settled, short_or_plain, subcommand_met, subcommand_or_other, trailing, used, used_by_id, to_positional, value, walked, word_met}
use Rattle.clap.specs.Simple.{Shape}
use Rattle.clap.specs.Kinds.{Kinds, or_else}
use Rattle.clap.specs.Faults.{bundle_fault, flag_word_fault, long_fault, other_fault, positional_fault, settle_fault, step_fault, stray_fault, turn_fault, use_fault, word_fault}
use Rattle.said_values.specs.Values.{Word}
use Rattle.command_words.specs.Reading.{Form, is_fit, is_given}
use Rattle.command_words.proofs.Rules.{built_form, first_passes, option_rule, place_rule, plain_rule, rows_of, rules_of, second_fails, used_first}

-- some kind of error comes
abbrev pub Fails : Kinds → Type 0
Fails [] = ⊥
Fails (k ∷ ks) = Unit {0}

pub first_fails : (a b : Kinds) → Fails a → Fails (or_else a b)
first_fails [] b h = absurd h
first_fails (k ∷ ks) b h = tt

pub second_fails_too : (a b : Kinds) → Fails b → Fails (or_else a b)
second_fails_too [] b h = h
second_fails_too (k ∷ ks) b h = tt

pub fails_as : (a b : Kinds) → a ≡ b → Fails b → Fails a
fails_as a b same h = subst Fails (sym same) h

-- ---- fit words

same_bytes : (xs : List ℕ) → bytes_eq xs xs ≡ true
same_bytes [] = refl
same_bytes (x ∷ xs) = rw (eq-eqb x x refl) (same_bytes xs)

pub bytes_eq_self : (xs : List ℕ) → bytes_eq xs xs ≡ true
bytes_eq_self = same_bytes

no_dash : (b : ℕ) (bs : List ℕ) → is_fit (b ∷ bs) ≡ true → (b == 45) ≡ false
no_dash b bs fit = not-true (b == 45) fit

fit_is_not_long : (w : Word) → is_fit w ≡ true → long_of w ≡ None
fit_is_not_long [] fit = refl
fit_is_not_long (b ∷ bs) fit = rw (no_dash b bs fit) refl

fit_is_not_short : (w : Word) → is_fit w ≡ true → short_of w ≡ None
fit_is_not_short [] fit = refl
fit_is_not_short (b ∷ bs) fit = rw (no_dash b bs fit) refl

fit_is_not_dashes : (w : Word) → is_fit w ≡ true → bytes_eq w (45 ∷ 45 ∷ []) ≡ false
fit_is_not_dashes [] fit = refl
fit_is_not_dashes (b ∷ bs) fit = rw (no_dash b bs fit) refl

pub no_subcommand : (waiting : Waiting) (w : Word) → subcommand_met [] waiting w ≡ None
no_subcommand idle w = refl
no_subcommand (option name) w = refl
no_subcommand positional w = refl

-- where a word names no subcommand, a fit one is a plain word
module _ (names : Names) (waiting : Waiting) (w : Word) (none : subcommand_met names waiting w ≡ None) (fit : is_fit w ≡ true) where
  pub fit_met_among : (c : List Rule) (position : ℕ) (h : Held) → word_met c names false waiting position w h ≡ plain_word c waiting w h
  fit_met_among c position h =
      ap (λ n. subcommand_or_other c n waiting position w h) none
      ∙ ap (λ d. if d then (h, trailing position) else long_or_other c waiting w (long_of w) h) (fit_is_not_dashes w fit)
      ∙ ap (λ l. long_or_other c waiting w l h) (fit_is_not_long w fit)
      ∙ ap (λ f. short_or_plain c waiting w f h) (fit_is_not_short w fit)

  pub fit_passes_among : (s : Shape) (h : Held) → word_fault s names false waiting w h ≡ []
  fit_passes_among s h =
      ap (λ n. other_fault s n w h) none
      ∙ ap (λ d. if d then [] else flag_word_fault s.rules s.args_override_self (long_of w) w h) (fit_is_not_dashes w fit)
      ∙ ap (λ l. flag_word_fault s.rules s.args_override_self l w h) (fit_is_not_long w fit)
      ∙ ap (λ f. option_map_or (λ flags. bundle_fault s.rules s.args_override_self flags h) f []) (fit_is_not_short w fit)

pub fit_met : (c : List Rule) (waiting : Waiting) (position : ℕ) (w : Word) (h : Held) → is_fit w ≡ true → word_met c [] false waiting position w h ≡ plain_word c waiting w h
fit_met c waiting position w h fit = fit_met_among [] waiting w (no_subcommand waiting w) fit c position h

pub fit_word_passes : (s : Shape) (waiting : Waiting) (w : Word) (h : Held) → is_fit w ≡ true → word_fault s [] false waiting w h ≡ []
fit_word_passes s waiting w h fit = fit_passes_among [] waiting w (no_subcommand waiting w) fit s h

-- a word with two dashes and more is read as an option
abbrev pub name_in : Word → Word
name_in text = (name_and_value text).0

abbrev pub value_in : Word → Option Word
value_in text = (name_and_value text).1

pub dashed_met : (c : List Rule) (waiting : Waiting) (position x : ℕ) (xs : Word) (h : Held)
    → word_met c [] false waiting position (45 ∷ 45 ∷ x ∷ xs) h ≡ long_word c waiting (45 ∷ 45 ∷ x ∷ xs) (name_in (x ∷ xs)) (value_in (x ∷ xs)) h
dashed_met c waiting position x xs h = ap (λ n. subcommand_or_other c n waiting position (45 ∷ 45 ∷ x ∷ xs) h) (no_subcommand waiting (45 ∷ 45 ∷ x ∷ xs))

pub dashed_fault_among : (s : Shape) (names : Names) (waiting : Waiting) (x : ℕ) (xs : Word) (h : Held) → subcommand_met names waiting (45 ∷ 45 ∷ x ∷ xs) ≡ None
    → word_fault s names false waiting (45 ∷ 45 ∷ x ∷ xs) h ≡ long_fault s.rules s.args_override_self (arg_by_long s.rules (name_in (x ∷ xs))) (value_in (x ∷ xs)) h
dashed_fault_among s names waiting x xs h none = ap (λ n. other_fault s n (45 ∷ 45 ∷ x ∷ xs) h) none

dashed_fault : (s : Shape) (waiting : Waiting) (x : ℕ) (xs : Word) (h : Held)
    → word_fault s [] false waiting (45 ∷ 45 ∷ x ∷ xs) h ≡ long_fault s.rules s.args_override_self (arg_by_long s.rules (name_in (x ∷ xs))) (value_in (x ∷ xs)) h
dashed_fault s waiting x xs h = dashed_fault_among s [] waiting x xs h (no_subcommand waiting (45 ∷ 45 ∷ x ∷ xs))

-- ---- states of the walk

abbrev pub clean : List (Word × Word) → Held
clean given = record { rows = rows_of given; pending = None; skip = 0 }

abbrev pub holding : List (Word × Word) → Word → Word → Held
holding given name v = record { rows = rows_of given; pending = Some (name, v ∷ []); skip = 0 }

abbrev pub asking : List (Word × Word) → Word → Held
asking given name = record { rows = rows_of given; pending = Some (name, []); skip = 0 }

abbrev pub walk_at : Held → Waiting → ℕ → Walk
walk_at h waiting position = record { held = h; waiting = waiting; position = position; is_trailing = false; stopped = None }

abbrev pub turn_of : Shape → ℕ → Kinds → Held × Step → Kinds
turn_of s position fault met = or_else fault (step_fault s position met.0 met.1)

-- what a word does is what it is met as
pub turn_by : (s : Shape) (h : Held) (waiting : Waiting) (position : ℕ) (w : Word) (fault : Kinds) (met : Held × Step)
    → word_fault s [] false waiting w h ≡ fault → word_met s.rules [] false waiting position w h ≡ met
    → turn_fault s [] (walk_at h waiting position) w ≡ turn_of s position fault met
turn_by s h waiting position w fault met faulty is = ap₂ (turn_of s position) faulty is

pub walked_by : (c : List Rule) (h : Held) (waiting : Waiting) (position : ℕ) (w : Word) (met : Held × Step)
    → word_met c [] false waiting position w h ≡ met
    → walked c [] (walk_at h waiting position) w ≡ after_step c w (walk_at h waiting position) met.0 met.1
unfolding walked
walked_by c h waiting position w met is = ap (λ (m : Held × Step). after_step c w (walk_at h waiting position) m.0 m.1) is

-- the rules have one for this name
abbrev pub Known : List Rule → Word → Type 0
Known c name = (long : Option Text) × (index : Option ℕ) × (required : Bool) × (arg_by_id c name ≡ Some (plain_rule name long index required))

-- what is held passes when it is used, and is then what was given
pub record Ready (c : List Rule) (h : Held) (given : List (Word × Word)) : Type 0 where
  pub no_fault : settle_fault c false h ≡ []
  pub is_settled : settled c h ≡ clean given

pub clean_ready : (c : List Rule) (given : List (Word × Word)) → Ready c (clean given) given
clean_ready c given = record { no_fault = refl; is_settled = refl }

module _ (c : List Rule) (given : List (Word × Word)) (name : Word) (known : Known c name) where
  fault_by : (values : List Word) → option_map_or (λ a. use_fault false a values (rows_of given)) (arg_by_id c name) [] ≡ use_fault false (plain_rule name known.0 known.1 known.2) values (rows_of given)
  fault_by values = ap (λ o. option_map_or (λ a. use_fault false a values (rows_of given)) o []) known.3

  pub holding_ready : (v : Word) → is_given name given ≡ false → Ready c (holding given name v) (given ++ (name, v) ∷ [])
  holding_ready v new = record {
    no_fault = fault_by (v ∷ []) ∙ first_passes name known.0 known.1 known.2 v given new;
    is_settled = ap (λ rows. record { rows = rows; pending = None; skip = 0 })
        (ap (λ o. used_by_id o (v ∷ []) (rows_of given)) known.3 ∙ used_first name known.0 known.1 known.2 v given new);
  }

  pub holding_fails : (v : Word) → is_given name given ≡ true → Fails (settle_fault c false (holding given name v))
  holding_fails v again = fails_as _ _ (fault_by (v ∷ []) ∙ second_fails name known.0 known.1 known.2 v given again) tt

  pub asking_fails : Fails (settle_fault c false (asking given name))
  asking_fails = fails_as _ _ (fault_by []) tt

-- ---- what a word does

module _ (title : Word) (form : Form) where
  abbrev s : Shape
  s = built_form title form

  abbrev c : List Rule
  c = rules_of form

  -- a word that takes a place uses what was held before
  place_settles : (i : ℕ) (name : Word) (h : Held) → positional_fault c false (place_rule i name) h ≡ settle_fault c false h
  place_settles i name h = ap (λ b. if b then [] else settle_fault c false h) (and_right (is_pending (place_rule i name) h.pending) false refl)

  place_holds : (i : ℕ) (name w : Word) (h : Held) (given : List (Word × Word)) → Ready c h given → positional_held c (place_rule i name) w h ≡ holding given name w
  place_holds i name w h given ready =
      ap (λ b. pushed name w (if b then h else settled c h)) (and_right (is_pending (place_rule i name) h.pending) false refl)
      ∙ ap (pushed name w) ready.is_settled

  fit_turn : (h : Held) (position : ℕ) (w : Word) → is_fit w ≡ true → turn_fault s [] (walk_at h idle position) w ≡ step_fault s position h value
  fit_turn h position w fit = turn_by s h idle position w [] (h, value) (fit_word_passes s idle w h fit) (fit_met c idle position w h fit)

  pub no_place_fails : (h : Held) (position : ℕ) (w : Word) → is_fit w ≡ true → arg_by_index c position ≡ None → Fails (turn_fault s [] (walk_at h idle position) w)
  no_place_fails h position w fit none =
      fails_as _ _ (fit_turn h position w fit ∙ ap (λ o. option_map_or (λ a. positional_fault c false a h) o (stray_fault s)) none) tt

  place_turn : (h : Held) (position : ℕ) (w name : Word) → is_fit w ≡ true → arg_by_index c position ≡ Some (place_rule position name)
      → turn_fault s [] (walk_at h idle position) w ≡ settle_fault c false h
  place_turn h position w name fit found =
      fit_turn h position w fit ∙ ap (λ o. option_map_or (λ a. positional_fault c false a h) o (stray_fault s)) found ∙ place_settles position name h

  pub place_fails : (h : Held) (position : ℕ) (w name : Word) → is_fit w ≡ true → arg_by_index c position ≡ Some (place_rule position name)
      → Fails (settle_fault c false h) → Fails (turn_fault s [] (walk_at h idle position) w)
  place_fails h position w name fit found faulty = fails_as _ _ (place_turn h position w name fit found) faulty

  pub place_passes : (h : Held) (position : ℕ) (w name : Word) (given : List (Word × Word)) → is_fit w ≡ true → arg_by_index c position ≡ Some (place_rule position name)
      → Ready c h given → turn_fault s [] (walk_at h idle position) w ≡ []
  place_passes h position w name given fit found ready = place_turn h position w name fit found ∙ ready.no_fault

  pub place_taken : (h : Held) (position : ℕ) (w name : Word) (given : List (Word × Word)) → is_fit w ≡ true → arg_by_index c position ≡ Some (place_rule position name)
      → position < usize_max → Ready c h given → walked c [] (walk_at h idle position) w ≡ walk_at (holding given name w) idle (position + 1)
  place_taken h position w name given fit found below ready =
      let next : min (position + 1) usize_max ≡ position + 1 = omega arith in
      walked_by c h idle position w (h, value) (fit_met c idle position w h fit)
      ∙ ap (λ o. to_positional c o w (walk_at h idle position) h) found
      ∙ ap₂ (λ k p. walk_at k idle p) (place_holds position name w h given ready) next

  -- the value of an option that waits for it
  value_met : (given : List (Word × Word)) (w name : Word) → Known c name → plain_word c (option name) w (asking given name) ≡ (holding given name w, next idle)
  value_met given w name known =
      ap (λ o. ((option_word o name w (asking given name)).0, next (option_word o name w (asking given name)).1)) known.3
      ∙ ap (λ b. (holding given name w, next (if nat_lt (if b then 1 else 0) 1 then option name else idle))) (bytes_eq_self name)

  pub value_passes : (given : List (Word × Word)) (position : ℕ) (w name : Word) → is_fit w ≡ true → Known c name
      → turn_fault s [] (walk_at (asking given name) (option name) position) w ≡ []
  value_passes given position w name fit known =
      turn_by s (asking given name) (option name) position w [] (holding given name w, next idle) (fit_word_passes s (option name) w (asking given name) fit)
      (fit_met c (option name) position w (asking given name) fit ∙ value_met given w name known)

  pub value_taken : (given : List (Word × Word)) (position : ℕ) (w name : Word) → is_fit w ≡ true → Known c name
      → walked c [] (walk_at (asking given name) (option name) position) w ≡ walk_at (holding given name w) idle position
  value_taken given position w name fit known =
      walked_by c (asking given name) (option name) position w (holding given name w, next idle)
      (fit_met c (option name) position w (asking given name) fit ∙ value_met given w name known)

  -- a word with two dashes
  module _ (h : Held) (waiting : Waiting) (position x : ℕ) (xs : Word) where
    abbrev w : Word
    w = 45 ∷ 45 ∷ x ∷ xs

    fails_by_word : (found : Option Rule) → arg_by_long c (name_in (x ∷ xs)) ≡ found → Fails (long_fault c false found (value_in (x ∷ xs)) h)
        → Fails (turn_fault s [] (walk_at h waiting position) w)
    fails_by_word found is faulty =
        first_fails (word_fault s [] false waiting w h) _
        (fails_as _ _ (dashed_fault s waiting x xs h ∙ ap (λ o. long_fault c false o (value_in (x ∷ xs)) h) is) faulty)

    pub unknown_fails : arg_by_long c (name_in (x ∷ xs)) ≡ None → Fails (turn_fault s [] (walk_at h waiting position) w)
    unknown_fails none = fails_by_word None none tt

    module _ (name : Word) (found : arg_by_long c (name_in (x ∷ xs)) ≡ Some (option_rule name)) where
      option_fails_by : (v : Option Word) → Fails (settle_fault c false h) → Fails (long_fault c false (Some (option_rule name)) v h)
      option_fails_by None faulty = faulty
      option_fails_by (Some v) faulty = first_fails (settle_fault c false h) _ faulty

      pub option_fails : Fails (settle_fault c false h) → Fails (turn_fault s [] (walk_at h waiting position) w)
      option_fails faulty = fails_by_word (Some (option_rule name)) found (option_fails_by (value_in (x ∷ xs)) faulty)

      option_fault_is : (v : Option Word) → value_in (x ∷ xs) ≡ v → word_fault s [] false waiting w h ≡ long_fault c false (Some (option_rule name)) v h
      option_fault_is v has = dashed_fault s waiting x xs h ∙ ap₂ (λ o value. long_fault c false o value h) found has

      option_met_is : (v : Option Word) → value_in (x ∷ xs) ≡ v
          → word_met c [] false waiting position w h ≡ after_flag c waiting w (option_met c (option_rule name) v h).0 (option_met c (option_rule name) v h).1
      option_met_is v has = dashed_met c waiting position x xs h ∙ ap₂ (λ o value. after_flag c waiting w (long_met c o value h).0 (long_met c o value h).1) found has

      module _ (given : List (Word × Word)) (ready : Ready c h given) where
        use_is : (v : Word) → long_fault c false (Some (option_rule name)) (Some v) h ≡ use_fault false (option_rule name) (v ∷ []) (rows_of given)
        use_is v =
            ap (λ k. or_else k (use_fault false (option_rule name) (v ∷ []) (settled c h).rows)) ready.no_fault
            ∙ ap (λ (k : Held). use_fault false (option_rule name) (v ∷ []) k.rows) ready.is_settled

        pub value_again_fails : (v : Word) → value_in (x ∷ xs) ≡ Some v → is_given name given ≡ true → Fails (turn_fault s [] (walk_at h waiting position) w)
        value_again_fails v has again =
            first_fails (word_fault s [] false waiting w h) _
            (fails_as _ _ (option_fault_is (Some v) has ∙ use_is v ∙ second_fails name (Some name) None false v given again) tt)

        reacted_is : (v : Word) → is_given name given ≡ false → reacted c (option_rule name) (v ∷ []) h ≡ clean (given ++ (name, v) ∷ [])
        reacted_is v new =
            ap (λ (k : Held). record k { rows = used (option_rule name) (v ∷ []) k.rows }) ready.is_settled
            ∙ ap (λ rows. record { rows = rows; pending = None; skip = 0 }) (used_first name (Some name) None false v given new)

        with_value_met : (v : Word) → value_in (x ∷ xs) ≡ Some v → is_given name given ≡ false
            → word_met c [] false waiting position w h ≡ (clean (given ++ (name, v) ∷ []), next idle)
        with_value_met v has new = option_met_is (Some v) has ∙ ap (λ k. (k, next idle)) (reacted_is v new)

        pub with_value_passes : (v : Word) → value_in (x ∷ xs) ≡ Some v → is_given name given ≡ false → turn_fault s [] (walk_at h waiting position) w ≡ []
        with_value_passes v has new =
            turn_by s h waiting position w [] (clean (given ++ (name, v) ∷ []), next idle)
            (option_fault_is (Some v) has ∙ use_is v ∙ first_passes name (Some name) None false v given new) (with_value_met v has new)

        pub with_value_taken : (v : Word) → value_in (x ∷ xs) ≡ Some v → is_given name given ≡ false
            → walked c [] (walk_at h waiting position) w ≡ walk_at (clean (given ++ (name, v) ∷ [])) idle position
        with_value_taken v has new = walked_by c h waiting position w (clean (given ++ (name, v) ∷ []), next idle) (with_value_met v has new)

        alone_met : value_in (x ∷ xs) ≡ None → word_met c [] false waiting position w h ≡ (asking given name, next (option name))
        alone_met none = option_met_is None none ∙ ap (λ (k : Held). (record k { pending = Some (name, []) }, next (option name))) ready.is_settled

        pub alone_passes : value_in (x ∷ xs) ≡ None → turn_fault s [] (walk_at h waiting position) w ≡ []
        alone_passes none =
            turn_by s h waiting position w [] (asking given name, next (option name)) (option_fault_is None none ∙ ready.no_fault) (alone_met none)

        pub alone_taken : value_in (x ∷ xs) ≡ None → walked c [] (walk_at h waiting position) w ≡ walk_at (asking given name) (option name) position
        alone_taken none = walked_by c h waiting position w (asking given name, next (option name)) (alone_met none)
