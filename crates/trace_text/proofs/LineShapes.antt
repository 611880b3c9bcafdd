-- Which lines are no entry's and no end's.
use Rattle.std.proofs.Common.{◌≡◌, ◌≢◌, ℕ, List, ◌∷◌, ◌++◌, refl, sym, ap, ◌∙◌, arith, append_assoc, get_or, true, false}
use Rattle.std.specs.Fmt.{decimal}
use Rattle.std.specs.Prelude.{codes, nat_eq}
use Rattle.std.proofs.lemmas.Bool.Decides.{nat_tests}
use Rattle.value_core.specs.FaultCodes.{code_number}
use Rattle.value_core.specs.Name.{name_text, IsTextOf}
use Rattle.serial_model.specs.declared.end.End.{End}
use Rattle.serial_model.specs.declared.end.End.TheVariants.{Done, Fault, Spent, UnitsSpent}
use Rattle.serial_model.specs.declared.entry.Entry.{Entry}
use Rattle.serial_model.specs.declared.entry.Entry.TheVariants.{Run, Take}
use Rattle.serial_model.specs.Trace.{place_text}
use Rattle.trace_text.specs.Lines.{IsEntryText, IsEndText, IsNoLine}
use Rattle.trace_text.proofs.Pairs.{IsPair}
use Rattle.trace_text.proofs.Shapes.{IsCode, IsNameWord, IsPlaceWord, name_word}

-- two different bytes
pub apart : (m n : ℕ) → nat_eq m n ≡ false → m ≡ n → ⊥
apart m n other e = let same : nat_eq m n ≡ true = grind (arith, nat_tests) in cc

-- ---- lines that begin with the word of an entry
no_run_entry : (unit : List ℕ) → ((name : List ℕ) → ¬ (IsTextOf name unit)) → (entry : Entry) → ¬ (IsEntryText entry (codes "run " ++ unit))
no_run_entry unit none (Run name) is =
    let whole = is.spelled in
    let spelled : name_text name ≡ unit = cc in
    none name (record { not_empty = is.is_entry.not_empty; in_range = is.is_entry.in_range; spelled = spelled })
no_run_entry unit none (Take actor sender) is = apart 116 114 refl (ap (λ t. get_or t 0 0) is.spelled)

no_run_end : (unit : List ℕ) (end : End) → ¬ (IsEndText end (codes "run " ++ unit))
no_run_end unit Done is = apart 101 114 refl (ap (λ t. get_or t 0 0) is.spelled)
no_run_end unit (Fault failed at name) is = apart 101 114 refl (ap (λ t. get_or t 0 0) is.spelled)
no_run_end unit (Spent name) is = apart 101 114 refl (ap (λ t. get_or t 0 0) is.spelled)
no_run_end unit UnitsSpent is = apart 101 114 refl (ap (λ t. get_or t 0 0) is.spelled)

pub no_run : (unit : List ℕ) → ((name : List ℕ) → ¬ (IsTextOf name unit)) → IsNoLine (codes "run " ++ unit)
no_run unit none = record { no_entry = no_run_entry unit none; no_end = no_run_end unit }

no_take_entry : (names : List ℕ) → ¬ (IsPair 32 IsNameWord IsNameWord names) → (entry : Entry) → ¬ (IsEntryText entry (codes "take " ++ names))
no_take_entry names none (Run name) is = apart 114 116 refl (ap (λ t. get_or t 0 0) is.spelled)
no_take_entry names none (Take actor sender) is =
    let whole = is.spelled in
    let spelled : (name_text actor ++ codes " ") ++ name_text sender ≡ names = cc in
    none (record { left = name_text actor; right = name_text sender; first = name_word actor is.is_entry.0; second = name_word sender is.is_entry.1; joined = sym spelled ∙ append_assoc (name_text actor) (codes " ") (name_text sender) })

no_take_end : (names : List ℕ) (end : End) → ¬ (IsEndText end (codes "take " ++ names))
no_take_end names Done is = apart 101 116 refl (ap (λ t. get_or t 0 0) is.spelled)
no_take_end names (Fault failed at name) is = apart 101 116 refl (ap (λ t. get_or t 0 0) is.spelled)
no_take_end names (Spent name) is = apart 101 116 refl (ap (λ t. get_or t 0 0) is.spelled)
no_take_end names UnitsSpent is = apart 101 116 refl (ap (λ t. get_or t 0 0) is.spelled)

pub no_take : (names : List ℕ) → ¬ (IsPair 32 IsNameWord IsNameWord names) → IsNoLine (codes "take " ++ names)
no_take names none = record { no_entry = no_take_entry names none; no_end = no_take_end names }

-- ---- lines that begin with the word of an end
no_entry_ends : (words : List ℕ) (entry : Entry) → ¬ (IsEntryText entry (codes "end " ++ words))
no_entry_ends words (Run name) is = apart 114 101 refl (ap (λ t. get_or t 0 0) is.spelled)
no_entry_ends words (Take actor sender) is = apart 116 101 refl (ap (λ t. get_or t 0 0) is.spelled)

no_spent_end : (unit : List ℕ) → ((name : List ℕ) → ¬ (IsTextOf name unit)) → (end : End) → ¬ (IsEndText end (codes "end spent " ++ unit))
no_spent_end unit none Done is = apart 100 115 refl (ap (λ t. get_or t 4 0) is.spelled)
no_spent_end unit none (Fault failed at name) is = apart 102 115 refl (ap (λ t. get_or t 4 0) is.spelled)
no_spent_end unit none (Spent name) is =
    let whole = is.spelled in
    let spelled : name_text name ≡ unit = cc in
    none name (record { not_empty = is.is_end.not_empty; in_range = is.is_end.in_range; spelled = spelled })
no_spent_end unit none UnitsSpent is = apart 117 115 refl (ap (λ t. get_or t 4 0) is.spelled)

pub no_spent : (unit : List ℕ) → ((name : List ℕ) → ¬ (IsTextOf name unit)) → IsNoLine (codes "end spent " ++ unit)
no_spent unit none = record { no_entry = no_entry_ends (codes "spent " ++ unit); no_end = no_spent_end unit none }

-- the words of a fault
abbrev pub IsFaultWords : List ℕ → Type 0
IsFaultWords words = IsPair 32 IsCode (IsPair 32 IsPlaceWord IsNameWord) words

pub three_joined : (a b c : List ℕ) → (((a ++ codes " ") ++ b) ++ codes " ") ++ c ≡ a ++ 32 ∷ (b ++ 32 ∷ c)
three_joined a b c = simp append_assoc

no_fault_end : (words : List ℕ) → ¬ (IsFaultWords words) → (end : End) → ¬ (IsEndText end (codes "end fault " ++ words))
no_fault_end words none Done is = apart 100 102 refl (ap (λ t. get_or t 4 0) is.spelled)
no_fault_end words none (Fault failed at name) is =
    let whole = is.spelled in
    let spelled : (((decimal (code_number failed) ++ codes " ") ++ place_text at) ++ codes " ") ++ name_text name ≡ words = cc in
    none (record {
      left = decimal (code_number failed);
      right = place_text at ++ 32 ∷ name_text name;
      first = record { failed = failed; is = record { spelled = refl } };
      second = record { left = place_text at; right = name_text name; first = record { at = at; is = record { is_place = is.is_end.0; spelled = refl } }; second = name_word name is.is_end.1; joined = refl };
      joined = sym spelled ∙ three_joined (decimal (code_number failed)) (place_text at) (name_text name);
    })
no_fault_end words none (Spent name) is = apart 115 102 refl (ap (λ t. get_or t 4 0) is.spelled)
no_fault_end words none UnitsSpent is = apart 117 102 refl (ap (λ t. get_or t 4 0) is.spelled)

pub no_fault : (words : List ℕ) → ¬ (IsFaultWords words) → IsNoLine (codes "end fault " ++ words)
no_fault words none = record { no_entry = no_entry_ends (codes "fault " ++ words); no_end = no_fault_end words none }

-- ---- lines that begin otherwise
-- the words after the first of an end begin as none does
pub record BeginsNoEnd (words : List ℕ) : Type 0 where
  pub not_done : words ≢ codes "done"
  pub not_units : words ≢ codes "units"
  pub not_spent : (rest : List ℕ) → words ≢ codes "spent " ++ rest
  pub not_fault : (rest : List ℕ) → words ≢ codes "fault " ++ rest

no_other_ends : (words : List ℕ) → BeginsNoEnd words → (end : End) → ¬ (IsEndText end (codes "end " ++ words))
no_other_ends words none Done is = let whole = is.spelled in let spelled : codes "done" ≡ words = cc in none.not_done (sym spelled)
no_other_ends words none (Fault failed at name) is =
    let whole = is.spelled in
    let spelled : codes "fault " ++ ((((decimal (code_number failed) ++ codes " ") ++ place_text at) ++ codes " ") ++ name_text name) ≡ words = cc in
    none.not_fault ((((decimal (code_number failed) ++ codes " ") ++ place_text at) ++ codes " ") ++ name_text name) (sym spelled)
no_other_ends words none (Spent name) is = let whole = is.spelled in let spelled : codes "spent " ++ name_text name ≡ words = cc in none.not_spent (name_text name) (sym spelled)
no_other_ends words none UnitsSpent is = let whole = is.spelled in let spelled : codes "units" ≡ words = cc in none.not_units (sym spelled)

pub no_other_end : (words : List ℕ) → BeginsNoEnd words → IsNoLine (codes "end " ++ words)
no_other_end words none = record { no_entry = no_entry_ends words; no_end = no_other_ends words none }

-- the line begins with no word that a line begins with
pub record BeginsNoLine (line : List ℕ) : Type 0 where
  pub not_run : (rest : List ℕ) → line ≢ codes "run " ++ rest
  pub not_take : (rest : List ℕ) → line ≢ codes "take " ++ rest
  pub not_end : (rest : List ℕ) → line ≢ codes "end " ++ rest

no_other_entry : (line : List ℕ) → BeginsNoLine line → (entry : Entry) → ¬ (IsEntryText entry line)
no_other_entry line none (Run name) is = none.not_run (name_text name) (sym is.spelled)
no_other_entry line none (Take actor sender) is = none.not_take ((name_text actor ++ codes " ") ++ name_text sender) (sym is.spelled)

no_other_line_end : (line : List ℕ) → BeginsNoLine line → (end : End) → ¬ (IsEndText end line)
no_other_line_end line none Done is = none.not_end (codes "done") (sym is.spelled)
no_other_line_end line none (Fault failed at name) is = none.not_end (codes "fault " ++ ((((decimal (code_number failed) ++ codes " ") ++ place_text at) ++ codes " ") ++ name_text name)) (sym is.spelled)
no_other_line_end line none (Spent name) is = none.not_end (codes "spent " ++ name_text name) (sym is.spelled)
no_other_line_end line none UnitsSpent is = none.not_end (codes "units") (sym is.spelled)

pub no_other_line : (line : List ℕ) → BeginsNoLine line → IsNoLine line
no_other_line line none = record { no_entry = no_other_entry line none; no_end = no_other_line_end line none }
