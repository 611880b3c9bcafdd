-- Words that are not passed to the parser are refused by the rules.
use Rattle.std.proofs.Common.{◌≡◌, ◌⊎◌, inl, inr, ◌+◌, ℕ, suc, take, List, [], ◌∷◌, ◌++◌, Bool, true, false, not, ◌==◌, ◌&&◌, ◌||◌, cond, refl, sym, subst, ap, ap₂, ◌∙◌, arith, true≢false, length, Option, Some, None, codes}
use Rattle.std.specs.Prelude.{find, if◌then◌else◌, option_and_then}
use Rattle.std.specs.List.{list_all, list_any, position_or_len, before_first, after_first}
use Rattle.std.specs.Option.{option_map_or}
use Rattle.std.specs.Str.{bytes_eq}
use Rattle.clap.specs.Walk.{is_empty}
use Rattle.std.proofs.lemmas.Bool.{and_cases, and_left, eqb-true, or_parts}
use Rattle.std.proofs.lemmas.Bool.Decides.{nat_tests}
use Rattle.std.proofs.lemmas.Option.{none-some}
use Rattle.said_commands.specs.declared.command.Command.{Command}
use Rattle.said_values.specs.Values.{Word}
use Rattle.command_words.specs.Reading.{Form, Reading, dashed, first_reading, give, is_equals, is_fit, is_given, option_of, read_by, read_in_place, read_unasked, read_word, read_words, value_of, whole}
use Rattle.said_commands.specs.Said.{check_of, make_of, replay_of, run_of, schedule_of, stress_of}
use Rattle.command_words.specs.Said.{check_form, command_of, make_form, replay_form, run_form, said_by, schedule_form, stress_form}
use Rattle.command_words.specs.Parser.{behind_dashes, is_readable, is_readable_option}
use Rattle.said_commands.proofs.OtherNames.{other_name}
use Rattle.command_words.proofs.Fitting.{after_dashes, find_none, option_of_dashed}
use Rattle.command_words.proofs.Forms.{IsSound, check_sound, make_sound, replay_sound, run_sound, schedule_sound, stress_sound}

eqb_suc : (n : ℕ) → (suc n == 0) ≡ false
eqb_suc n = grind (arith, nat_tests)

give_unfit : (name w : Word) (r : Reading) → is_fit w ≡ false → give name w r ≡ None
give_unfit name w r unfit = ap (λ b. if b && not (is_given name r.given) then Some (record { given = r.given ++ (name, w) ∷ []; free = r.free; asked = None }) else None) unfit

place_unfit : (free : List Word) (w : Word) (r : Reading) → is_fit w ≡ false → read_in_place w free r ≡ None
place_unfit [] w r unfit = refl
place_unfit (place ∷ free) w r unfit = give_unfit place w (record { given = r.given; free = free; asked = r.asked }) unfit

-- a word whose second byte is no dash is no option
one_dash : (b : ℕ) (rest name : Word) → (b == 45) ≡ false → bytes_eq (dashed name) (before_first is_equals (45 ∷ b ∷ rest)) ≡ false
one_dash b rest name other_second = go (b == 61)
  where
    go : (c : Bool) → bytes_eq (dashed name) (take (1 + cond (not c) (1 + position_or_len is_equals rest) 0) (45 ∷ b ∷ rest)) ≡ false
    go true = refl
    go false =
        let two : 1 + (1 + position_or_len is_equals rest) ≡ suc (suc (position_or_len is_equals rest)) = omega arith in
        let other : (45 == b) ≡ false = grind (arith, nat_tests) in
        ap (λ k. bytes_eq (dashed name) (take k (45 ∷ b ∷ rest))) two ∙ and_left (45 == b) _ other

module _ (form : Form) (sound : IsSound form) where
  no_option : (w : Word) (r : Reading) → is_fit w ≡ false → option_of form.options w ≡ None → read_unasked (option_of form.options w) w r ≡ None
  no_option w r unfit none = ap (λ o. read_unasked o w r) none ∙ place_unfit r.free w r unfit

  unreadable_value : (name text : Word) (r : Reading) (b : Bool) → list_any is_equals text ≡ b → is_readable_option text ≡ false → (text ≡ [] → ⊥)
      → (if b then give name (after_first is_equals (45 ∷ 45 ∷ text)) r else Some (record { given = r.given; free = r.free; asked = Some name })) ≡ None
  unreadable_value name text r true has unreadable some =
      ap (λ v. give name v r) (after_dashes text) ∙ give_unfit name (after_first is_equals text) r (sym (ap (λ b. if b then is_fit (after_first is_equals text) else not (is_empty text)) has) ∙ unreadable)
  unreadable_value name [] r false none unreadable some = absurd (some refl)
  unreadable_value name (x ∷ xs) r false none unreadable some =
      let readable : is_readable_option (x ∷ xs) ≡ true =
      let some_bytes : is_empty (x ∷ xs) ≡ false = eqb_suc (length xs) in
      ap₂ (λ b e. if b then is_fit (after_first is_equals (x ∷ xs)) else not e) none some_bytes in
      absurd (true≢false (sym readable ∙ unreadable))

  dashed_unreadable : (text : Word) (r : Reading) (o : Option Word) → option_of form.options (45 ∷ 45 ∷ text) ≡ o → is_readable_option text ≡ false
      → read_unasked o (45 ∷ 45 ∷ text) r ≡ None
  dashed_unreadable text r None is unreadable = place_unfit r.free (45 ∷ 45 ∷ text) r refl
  dashed_unreadable text r (Some name) is unreadable = unreadable_value name text r (list_any is_equals text) refl unreadable
      (λ empty. none-some name (sym sound.named ∙ ap (λ u. find (λ o. bytes_eq o (before_first is_equals u)) form.options) (sym empty) ∙ sym (option_of_dashed form.options text) ∙ is))

  two_bytes : (a b : ℕ) (text : Word) (r : Reading) (first second : Bool) → (a == 45) ≡ first → (b == 45) ≡ second
      → (not first || option_map_or is_readable_option (if first && second then Some text else None) false) ≡ false
      → read_unasked (option_of form.options (a ∷ b ∷ text)) (a ∷ b ∷ text) r ≡ None
  two_bytes a b text r false second one other unreadable = absurd (true≢false unreadable)
  two_bytes a b text r true false one other unreadable =
      subst (λ x. read_unasked (option_of form.options (x ∷ b ∷ text)) (x ∷ b ∷ text) r ≡ None) (sym (eqb-true a 45 one))
      (no_option (45 ∷ b ∷ text) r refl (find_none _ form.options (λ name. one_dash b text name other)))
  two_bytes a b text r true true one other unreadable =
      subst (λ x. read_unasked (option_of form.options (x ∷ b ∷ text)) (x ∷ b ∷ text) r ≡ None) (sym (eqb-true a 45 one))
      (subst (λ y. read_unasked (option_of form.options (45 ∷ y ∷ text)) (45 ∷ y ∷ text) r ≡ None) (sym (eqb-true b 45 other))
      (dashed_unreadable text r (option_of form.options (45 ∷ 45 ∷ text)) refl unreadable))

  one_byte : (a : ℕ) (r : Reading) (first : Bool) → (a == 45) ≡ first → (not first || false) ≡ false
      → read_unasked (option_of form.options (a ∷ [])) (a ∷ []) r ≡ None
  one_byte a r false one unreadable = absurd (true≢false unreadable)
  one_byte a r true one unreadable =
      subst (λ x. read_unasked (option_of form.options (x ∷ [])) (x ∷ []) r ≡ None) (sym (eqb-true a 45 one))
      (no_option (45 ∷ []) r refl (find_none _ form.options (λ name. refl)))

  unreadable_unasked : (w : Word) (r : Reading) → is_readable w ≡ false → read_unasked (option_of form.options w) w r ≡ None
  unreadable_unasked [] r unreadable = no_option [] r refl (find_none _ form.options (λ name. refl))
  unreadable_unasked (a ∷ []) r unreadable = one_byte a r (a == 45) refl unreadable
  unreadable_unasked (a ∷ b ∷ text) r unreadable = two_bytes a b text r (a == 45) (b == 45) refl refl unreadable

  unreadable_by : (asked : Option Word) (w : Word) (r : Reading) → is_readable w ≡ false → read_by form.options asked w r ≡ None
  unreadable_by None w r unreadable = unreadable_unasked w r unreadable
  unreadable_by (Some name) w r unreadable = give_unfit name w r (or_parts (is_fit w) (option_map_or is_readable_option (behind_dashes w) false) unreadable).0

  unreadable_words : (words : List Word) (r : Reading) → list_all is_readable words ≡ false → read_words form.options words r ≡ None
  unreadable_words [] r unreadable = absurd (true≢false unreadable)
  unreadable_words (w ∷ words) r unreadable = go (and_cases (is_readable w) (list_all is_readable words) unreadable) (λ now. unreadable_words words now)
    where
      later : (o : Option Reading) → ((now : Reading) → read_words form.options words now ≡ None) → option_and_then (read_words form.options words) o ≡ None
      later None rest = refl
      later (Some now) rest = rest now

      go : (is_readable w ≡ false) ⊎ (list_all is_readable words ≡ false) → ((now : Reading) → list_all is_readable words ≡ false → read_words form.options words now ≡ None)
          → option_and_then (read_words form.options words) (read_word form.options w r) ≡ None
      go (inl here) rest = ap (option_and_then (read_words form.options words)) (unreadable_by r.asked w r here)
      go (inr there) rest = later (read_word form.options w r) (λ now. rest now there)

  pub unreadable_said : (made : (Word → Option Word) → Option Command) (words : List Word) → list_all is_readable words ≡ false → said_by form made words ≡ None
  unreadable_said made words unreadable =
      ap (λ o. option_and_then (λ given. made (value_of given)) (option_and_then (whole form) o)) (unreadable_words words (first_reading form) unreadable)

not_named : (title name : Word) → is_readable title ≡ true → is_readable name ≡ false → bytes_eq title name ≡ false
not_named title name readable unreadable = other_name title name (λ same. true≢false (sym readable ∙ ap is_readable (sym same) ∙ unreadable))

-- the rules refuse words of which one is not passed to the parser
pub unreadable_refused : (words : List Word) → list_all is_readable words ≡ false → command_of words ≡ None
unreadable_refused [] unreadable = absurd (true≢false unreadable)
unreadable_refused (name ∷ words) unreadable = go (and_cases (is_readable name) (list_all is_readable words) unreadable)
  where
    by : (is_run is_schedule is_replay is_check is_make is_stress : Bool) → list_all is_readable words ≡ false
        → (if is_run then said_by run_form run_of words else if is_schedule then said_by schedule_form schedule_of words else if is_replay then said_by replay_form replay_of words else if is_check then said_by check_form check_of words else if is_make then said_by make_form make_of words else if is_stress then said_by stress_form stress_of words else None) ≡ None
    by true is_schedule is_replay is_check is_make is_stress there = unreadable_said run_form run_sound run_of words there
    by false true is_replay is_check is_make is_stress there = unreadable_said schedule_form schedule_sound schedule_of words there
    by false false true is_check is_make is_stress there = unreadable_said replay_form replay_sound replay_of words there
    by false false false true is_make is_stress there = unreadable_said check_form check_sound check_of words there
    by false false false false true is_stress there = unreadable_said make_form make_sound make_of words there
    by false false false false false true there = unreadable_said stress_form stress_sound stress_of words there
    by false false false false false false there = refl

    go : (is_readable name ≡ false) ⊎ (list_all is_readable words ≡ false) → command_of (name ∷ words) ≡ None
    go (inl here) = rw (not_named (codes "run") name refl here) (rw (not_named (codes "schedule") name refl here) (rw (not_named (codes "replay") name refl here) (rw (not_named (codes "check") name refl here) (rw (not_named (codes "make") name refl here) (rw (not_named (codes "stress") name refl here) refl)))))
    go (inr there) = by (bytes_eq (codes "run") name) (bytes_eq (codes "schedule") name) (bytes_eq (codes "replay") name) (bytes_eq (codes "check") name) (bytes_eq (codes "make") name) (bytes_eq (codes "stress") name) there
