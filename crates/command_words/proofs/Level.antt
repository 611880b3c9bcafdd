-- The parser of one command takes and keeps what its rules say, for words that may be passed to it.
use Rattle.std.proofs.Common.{◌≡◌, ◌⊎◌, inl, inr, ◌+◌, ℕ, List, [], ◌∷◌, ◌++◌, Bool, true, false, not, ◌&&◌, refl, sym, subst, ap, ap₂, ◌∙◌, Option, Some, None, option_map, fold}
use Rattle.std.specs.Prelude.{find, if◌then◌else◌, option_and_then}
use Rattle.std.specs.List.{list_all, list_any, after_first}
use Rattle.std.specs.Str.{bytes_eq}
use Rattle.clap.specs.Walk.{Held, Row, Rule, Waiting, Walk, arg_by_long, finished, idle, nothing_held, option, rows_after, settled, walked, with_default}
use Rattle.clap.specs.Simple.{Shape}
use Rattle.clap.specs.Kinds.{Kinds, or_else}
use Rattle.clap.specs.Faults.{check_fault, defaults_fault, level_fault, settle_fault, turn_fault, walk_fault}
use Rattle.clap.specs.declared.error.ErrorKind.TheVariants.{MissingRequiredArgument}
use Rattle.said_values.specs.Values.{Word}
use Rattle.command_words.specs.Reading.{Form, Reading, give, given_of, is_equals, is_fit, is_given, read_in_place, read_unasked, read_words, whole}
use Rattle.command_words.specs.Parser.{is_readable, is_readable_option}
use Rattle.std.proofs.lemmas.Bool.{and_parts}
use Rattle.command_words.proofs.Fitting.{Looks, after_dashes, option_of_dashed, option_of_fit, readable_cases}
use Rattle.command_words.proofs.Rules.{built_form, option_rule, rows_of, rules_of}
use Rattle.command_words.proofs.Turns.{Fails, Known, Ready, alone_passes, alone_taken, asking, asking_fails, clean, clean_ready, fails_as, first_fails, holding, holding_fails, holding_ready, name_in, no_place_fails, option_fails, place_fails, place_passes, place_taken, unknown_fails, value_again_fails, value_in, value_passes, value_taken, walk_at, with_value_passes, with_value_taken}
use Rattle.command_words.proofs.Forms.{HasPlaces, IsSound, check_is, found_by_long, found_known, no_default_fails, no_more_rows}

abbrev Given : Type 0
Given = List (Word × Word)

-- the parser refuses where the rules do, and else keeps what they give
abbrev pub Agrees : Option Given → Kinds → List Row → Type 0
Agrees None faults rows = Fails faults
Agrees (Some given) faults rows = (faults ≡ []) × (rows ≡ rows_of given)

agrees_as : (o : Option Given) (faults now : Kinds) (rows kept : List Row) → faults ≡ now → rows ≡ kept → Agrees o now kept → Agrees o faults rows
agrees_as None faults now rows kept same alike h = fails_as faults now same h
agrees_as (Some given) faults now rows kept same alike h = (same ∙ h.0, alike ∙ h.1)

agrees_for : (o now : Option Given) (faults : Kinds) (rows : List Row) → o ≡ now → Agrees now faults rows → Agrees o faults rows
agrees_for o now faults rows same h = subst (λ p. Agrees p faults rows) (sym same) h

-- what the name was given, and `None` where that is a second time
abbrev after_give : Given → Word → Word → Option Given
after_give given name w = if is_given name given then None else Some (given ++ (name, w) ∷ [])

abbrev reading : List Word → Given → Reading
reading free given = record { given = given; free = free; asked = None }

give_is : (given : Given) (free : List Word) (asked : Option Word) (name w : Word) → is_fit w ≡ true
    → give name w (record { given = given; free = free; asked = asked }) ≡ option_map (reading free) (after_give given name w)
give_is given free asked name w fit = ap (λ b. if b && not (is_given name given) then Some (reading free (given ++ (name, w) ∷ [])) else None) fit ∙ go (is_given name given)
  where
    go : (b : Bool) → (if not b then Some (reading free (given ++ (name, w) ∷ [])) else None) ≡ option_map (reading free) (if b then None else Some (given ++ (name, w) ∷ []))
    go true = refl
    go false = refl

module _ (title : Word) (form : Form) (sound : IsSound form) where
  abbrev s : Shape
  s = built_form title form

  abbrev c : List Rule
  c = rules_of form

  abbrev end_fault : Held → Kinds
  end_fault h = or_else [] (or_else (settle_fault c false h) (or_else (defaults_fault (settled c h).rows c) (check_fault s (finished c h) false)))

  -- what is still refused, and what is kept, of the words from here on
  abbrev rest_fault : Walk → List Word → Kinds
  rest_fault at words = or_else (walk_fault s [] at words) (end_fault (fold (walked c []) at words).held)

  abbrev rest_rows : Walk → List Word → List Row
  rest_rows at words = finished c (fold (walked c []) at words).held

  abbrev finish : List Word → Reading → Option Given
  finish words r = option_and_then (whole form) (read_words form.options words r)

  refuses : (at : Walk) (w : Word) (words : List Word) → Fails (turn_fault s [] at w) → Fails (rest_fault at (w ∷ words))
  unfolding walk_fault
  refuses at w words h = first_fails _ _ (first_fails (turn_fault s [] at w) _ h)

  goes : (o : Option Given) (at next : Walk) (w : Word) (words : List Word) → turn_fault s [] at w ≡ [] → walked c [] at w ≡ next
      → Agrees o (rest_fault next words) (rest_rows next words) → Agrees o (rest_fault at (w ∷ words)) (rest_rows at (w ∷ words))
  unfolding walk_fault
  goes o at next w words passes taken h =
      agrees_as o _ _ _ _
      (ap₂ (λ k to. or_else (or_else k (walk_fault s [] to words)) (end_fault (fold (walked c []) to words).held)) passes taken)
      (ap (λ to. rest_rows to words) taken) h

  -- what is held stands for what is given, or is refused as soon as it is used
  abbrev Stands : Held → Option Given → Type 0
  Stands h None = Fails (settle_fault c false h)
  Stands h (Some given) = Ready c h given

  stands_by : (given : Given) (name w : Word) (known : Known c name) (b : Bool) → is_given name given ≡ b
      → Stands (holding given name w) (if b then None else Some (given ++ (name, w) ∷ []))
  stands_by given name w known true again = holding_fails c given name known w again
  stands_by given name w known false new = holding_ready c given name known w new

  stands : (given : Given) (name w : Word) → Known c name → Stands (holding given name w) (after_give given name w)
  stands given name w known = stands_by given name w known (is_given name given) refl

  -- with no option that waits
  abbrev Unasked : List Word → Type 0
  Unasked words = (h : Held) (o : Option Given) (free : List Word) (position : ℕ) → Stands h o → HasPlaces c position free
      → Agrees (option_and_then (λ given. finish words (reading free given)) o) (rest_fault (walk_at h idle position) words) (rest_rows (walk_at h idle position) words)

  -- with an option that waits for its value
  abbrev Asked : List Word → Type 0
  Asked words = (given : Given) (name : Word) (free : List Word) (position : ℕ) → Known c name → HasPlaces c position free
      → Agrees (finish words (record { given = given; free = free; asked = Some name }))
      (rest_fault (walk_at (asking given name) (option name) position) words) (rest_rows (walk_at (asking given name) (option name) position) words)

  -- ---- no word

  end_fails : (h : Held) (at : Walk) → Fails (settle_fault c false h) → Fails (end_fault h)
  end_fails h at faulty = first_fails (settle_fault c false h) _ faulty

  whole_is : (free : List Word) (given : Given) → whole form (reading free given) ≡ (if list_all (λ place. is_given place given) form.places then Some given else None)
  whole_is free given = refl

  end_is : (h : Held) (given : Given) → Ready c h given → end_fault h ≡ (if list_all (λ place. is_given place given) form.places then [] else MissingRequiredArgument ∷ [])
  end_is h given ready =
      ap₂ (λ k now. or_else k (or_else (defaults_fault now.rows c) (check_fault s (fold with_default now.rows c) false))) ready.no_fault ready.is_settled
      ∙ ap₂ (λ k rows. or_else k (check_fault s rows false)) (no_default_fails form (rows_of given)) (no_more_rows form (rows_of given))
      ∙ check_is title form given

  end_rows : (h : Held) (given : Given) → Ready c h given → finished c h ≡ rows_of given
  end_rows h given ready = ap (λ (now : Held). fold with_default now.rows c) ready.is_settled ∙ no_more_rows form (rows_of given)

  end_agrees : (given : Given) (b : Bool) → Agrees (if b then Some given else None) (if b then [] else MissingRequiredArgument ∷ []) (rows_of given)
  end_agrees given true = (refl, refl)
  end_agrees given false = tt

  unasked_end : Unasked []
  unfolding walk_fault
  unasked_end h None free position holds places = first_fails (settle_fault c false h) _ holds
  unasked_end h (Some given) free position ready places =
      agrees_as (whole form (reading free given)) _ _ _ _ (end_is h given ready) (end_rows h given ready)
      (end_agrees given (list_all (λ place. is_given place given) form.places))

  asked_end : Asked []
  unfolding walk_fault
  asked_end given name free position known places = first_fails (settle_fault c false (asking given name)) _ (asking_fails c given name known)

  -- ---- one more word

  -- a word that is no option and not fit is refused
  unfit_refused : (free : List Word) (r : Reading) (w : Word) → is_fit w ≡ false → read_in_place w free r ≡ None
  unfit_refused [] r w unfit = refl
  unfit_refused (name ∷ free) r w unfit = ap (λ b. if b && not (is_given name r.given) then Some (record { given = r.given ++ (name, w) ∷ []; free = free; asked = None }) else None) unfit

  -- what the reading after one word comes to
  abbrev after : List Word → Option Reading → Option Given
  after words r = option_and_then (whole form) (option_and_then (read_words form.options words) r)

  given_on : (words : List Word) (free : List Word) (o : Option Given)
      → option_and_then (whole form) (option_and_then (read_words form.options words) (option_map (reading free) o)) ≡ option_and_then (λ given. finish words (reading free given)) o
  given_on words free None = refl
  given_on words free (Some given) = refl

  -- what follows a fit word that is given to a name
  give_on : (w : Word) (words : List Word) (given : Given) (free : List Word) (asked : Option Word) (name : Word) → is_fit w ≡ true
      → option_and_then (whole form) (option_and_then (read_words form.options words) (give name w (record { given = given; free = free; asked = asked })))
      ≡ option_and_then (λ g. finish words (reading free g)) (after_give given name w)
  give_on w words given free asked name fit =
      ap (λ r. option_and_then (whole form) (option_and_then (read_words form.options words) r)) (give_is given free asked name w fit)
      ∙ given_on words free (after_give given name w)

  module _ (w : Word) (words : List Word) (unasked : Unasked words) (asked : Asked words) where
    -- ---- a fit word

    fit_fails : (h : Held) (position : ℕ) (free : List Word) → is_fit w ≡ true → HasPlaces c position free → Fails (settle_fault c false h) → Fails (turn_fault s [] (walk_at h idle position) w)
    fit_fails h position [] fit places faulty = no_place_fails title form h position w fit places
    fit_fails h position (name ∷ free) fit places faulty = place_fails title form h position w name fit places.0 faulty

    fit_in_place : (h : Held) (given : Given) (free : List Word) (position : ℕ) → is_fit w ≡ true → Ready c h given → HasPlaces c position free
        → Agrees (after words (read_in_place w free (reading free given))) (rest_fault (walk_at h idle position) (w ∷ words)) (rest_rows (walk_at h idle position) (w ∷ words))
    fit_in_place h given [] position fit ready places = refuses _ w words (no_place_fails title form h position w fit places)
    fit_in_place h given (name ∷ free) position fit ready places =
        goes _ _ _ w words (place_passes title form h position w name given fit places.0 ready) (place_taken title form h position w name given fit places.0 places.1 ready)
        (agrees_for _ _ _ _ (give_on w words given free None name fit)
        (unasked (holding given name w) (after_give given name w) free (position + 1) (stands given name w places.2) places.3))

    fit_unasked : is_fit w ≡ true → Unasked (w ∷ words)
    fit_unasked fit h None free position faulty places = refuses _ w words (fit_fails h position free fit places faulty)
    fit_unasked fit h (Some given) free position ready places =
        agrees_for _ _ _ _ (ap (λ o. after words (read_unasked o w (reading free given))) (option_of_fit form.options w fit))
        (fit_in_place h given free position fit ready places)

    fit_asked : is_fit w ≡ true → Asked (w ∷ words)
    fit_asked fit given name free position known places =
        goes _ _ _ w words (value_passes title form given position w name fit known) (value_taken title form given position w name fit known)
        (agrees_for _ _ _ _ (give_on w words given free (Some name) name fit)
        (unasked (holding given name w) (after_give given name w) free position (stands given name w known) places))

  -- ---- a word that looks like an option

  module _ (x : ℕ) (xs : Word) (readable : is_readable_option (x ∷ xs) ≡ true) (words : List Word) (unasked : Unasked words) (asked : Asked words) where
    abbrev w : Word
    w = 45 ∷ 45 ∷ x ∷ xs

    abbrev text : Word
    text = x ∷ xs

    abbrev found : Option Word
    found = find (λ o. bytes_eq o (name_in text)) form.options

    rule_is : (o : Option Word) → found ≡ o → arg_by_long c (name_in text) ≡ option_map option_rule o
    rule_is o is = found_by_long form (name_in text) ∙ ap (option_map option_rule) is

    dashed_fails : (h : Held) (waiting : Waiting) (position : ℕ) (o : Option Word) → found ≡ o → Fails (settle_fault c false h) → Fails (turn_fault s [] (walk_at h waiting position) w)
    dashed_fails h waiting position None is faulty = unknown_fails title form h waiting position x xs (rule_is None is)
    dashed_fails h waiting position (Some name) is faulty = option_fails title form h waiting position x xs name (rule_is (Some name) is) faulty

    -- the option has its value behind an `=`
    with_value : (h : Held) (given : Given) (free : List Word) (position : ℕ) (name v : Word) → Ready c h given → HasPlaces c position free
        → found ≡ Some name → value_in text ≡ Some v → (b : Bool) → is_given name given ≡ b
        → Agrees (option_and_then (λ g. finish words (reading free g)) (if b then None else Some (given ++ (name, v) ∷ [])))
        (rest_fault (walk_at h idle position) (w ∷ words)) (rest_rows (walk_at h idle position) (w ∷ words))
    with_value h given free position name v ready places is has true again =
        refuses _ w words (value_again_fails title form h idle position x xs name (rule_is (Some name) is) given ready v has again)
    with_value h given free position name v ready places is has false new =
        goes _ _ _ w words (with_value_passes title form h idle position x xs name (rule_is (Some name) is) given ready v has new)
        (with_value_taken title form h idle position x xs name (rule_is (Some name) is) given ready v has new)
        (unasked (clean (given ++ (name, v) ∷ [])) (Some (given ++ (name, v) ∷ [])) free position (clean_ready c (given ++ (name, v) ∷ [])) places)

    -- the option waits for its value
    alone : (h : Held) (given : Given) (free : List Word) (position : ℕ) (name : Word) → Ready c h given → HasPlaces c position free
        → found ≡ Some name → value_in text ≡ None
        → Agrees (finish words (record { given = given; free = free; asked = Some name }))
        (rest_fault (walk_at h idle position) (w ∷ words)) (rest_rows (walk_at h idle position) (w ∷ words))
    alone h given free position name ready places is none =
        goes _ _ _ w words (alone_passes title form h idle position x xs name (rule_is (Some name) is) given ready none)
        (alone_taken title form h idle position x xs name (rule_is (Some name) is) given ready none)
        (asked given name free position (found_known c (λ o. bytes_eq o (name_in text)) form.options name sound.options is) places)

    value_fits : list_any is_equals text ≡ true → is_fit (after_first is_equals text) ≡ true
    value_fits has = sym (ap (λ b. if b then is_fit (after_first is_equals text) else false) has) ∙ value_first has
      where
        value_first : list_any is_equals text ≡ true → (if list_any is_equals text then is_fit (after_first is_equals text) else false) ≡ true
        value_first e = rw e (rw e at readable)

    read_as_option : (h : Held) (given : Given) (free : List Word) (position : ℕ) (name : Word) → Ready c h given → HasPlaces c position free
        → found ≡ Some name → (b : Bool) → list_any is_equals text ≡ b
        → Agrees (after words (if b then give name (after_first is_equals w) (reading free given) else Some (record { given = given; free = free; asked = Some name })))
        (rest_fault (walk_at h idle position) (w ∷ words)) (rest_rows (walk_at h idle position) (w ∷ words))
    read_as_option h given free position name ready places is true has =
        agrees_for _ _ _ _ (ap (λ v. after words (give name v (reading free given))) (after_dashes text)
        ∙ give_on (after_first is_equals text) words given free None name (value_fits has))
        (with_value h given free position name (after_first is_equals text) ready places is
        (ap (λ b. if b then Some (after_first is_equals text) else None) has) (is_given name given) refl)
    read_as_option h given free position name ready places is false none =
        alone h given free position name ready places is (ap (λ b. if b then Some (after_first is_equals text) else None) none)

    dashed_read : (h : Held) (given : Given) (free : List Word) (position : ℕ) → Ready c h given → HasPlaces c position free → (o : Option Word) → found ≡ o
        → Agrees (after words (read_unasked o w (reading free given))) (rest_fault (walk_at h idle position) (w ∷ words)) (rest_rows (walk_at h idle position) (w ∷ words))
    dashed_read h given free position ready places None is =
        agrees_for _ None _ _ (ap (after words) (unfit_refused free (reading free given) w refl))
        (refuses _ w words (unknown_fails title form h idle position x xs (rule_is None is)))
    dashed_read h given free position ready places (Some name) is = read_as_option h given free position name ready places is (list_any is_equals text) refl

    dashed_unasked : Unasked (w ∷ words)
    dashed_unasked h None free position faulty places = refuses _ w words (dashed_fails h idle position found refl faulty)
    dashed_unasked h (Some given) free position ready places =
        agrees_for _ _ _ _ (ap (λ o. after words (read_unasked o w (reading free given))) (option_of_dashed form.options text))
        (dashed_read h given free position ready places found refl)

    dashed_asked : Asked (w ∷ words)
    dashed_asked given name free position known places =
        refuses _ w words (dashed_fails (asking given name) (option name) position found refl (asking_fails c given name known))

  -- ---- all words

  abbrev Steps : List Word → Type 0
  Steps words = Unasked words × Asked words

  step : (w : Word) (words : List Word) → is_readable w ≡ true → Steps words → Steps (w ∷ words)
  step w words readable steps = go (readable_cases w readable)
    where
      go : (is_fit w ≡ true) ⊎ Looks w → Steps (w ∷ words)
      go (inl fit) = (fit_unasked w words steps.0 steps.1 fit, fit_asked w words steps.0 steps.1 fit)
      go (inr looks) = subst (λ v. Steps (v ∷ words)) (sym looks.is)
          (dashed_unasked looks.first looks.rest looks.readable words steps.0 steps.1, dashed_asked looks.first looks.rest looks.readable words steps.0 steps.1)

  steps : (words : List Word) → list_all is_readable words ≡ true → Steps words
  steps [] readable = (unasked_end, asked_end)
  steps (w ∷ words) readable =
      let parts = and_parts (is_readable w) (list_all is_readable words) readable in
      step w words parts.0 (steps words parts.1)

  -- the parser of the command refuses the words that its rules refuse, and else keeps what they give
  pub level : (words : List Word) → list_all is_readable words ≡ true
      → Agrees (given_of form words) (level_fault s [] nothing_held words false []) (rows_after c [] words)
  level words readable = (steps words readable).0 (clean []) (Some []) form.places 1 (clean_ready c []) sound.places
