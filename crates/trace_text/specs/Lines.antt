-- What a line, or a word of one, writes.
use Rattle.std.specs.Prelude.{◌≡◌, ℕ, ◌<◌, ◌^◌, List, decimal}
use Rattle.value_core.specs.FaultCodes.{code_number}
use Rattle.value_core.specs.declared.code.Code.{Code}
use Rattle.value_core.specs.Place.{Spot}
use Rattle.serial_model.specs.declared.end.End.{End}
use Rattle.serial_model.specs.declared.entry.Entry.{Entry}
use Rattle.serial_model.specs.Limits.{Budget, IsInRange}
use Rattle.serial_model.specs.Trace.{IsEntry, IsEnd, IsPlace, end_text, entry_text, limits_text, place_text}
use Rattle.trace_text.specs.declared.line.Line.{Line}
use Rattle.trace_text.specs.declared.line.Line.TheVariants as line

-- the word is this number's
pub record IsNumberText (number : ℕ) (word : List ℕ) : Type 0 where
  pub small : number < 2 ^ 32
  pub spelled : decimal number ≡ word

-- the word is this fault code's
pub record IsCodeText (failed : Code) (word : List ℕ) : Type 0 where
  pub spelled : decimal (code_number failed) ≡ word

-- the word is this place's
pub record IsPlaceText (at : Spot) (word : List ℕ) : Type 0 where
  pub is_place : IsPlace at
  pub spelled : place_text at ≡ word

-- the line is that of these limits
pub record IsLimitsText (limits : Budget) (text : List ℕ) : Type 0 where
  pub in_range : IsInRange limits
  pub spelled : limits_text limits ≡ text

-- the line is this entry's
pub record IsEntryText (entry : Entry) (text : List ℕ) : Type 0 where
  pub is_entry : IsEntry entry
  pub spelled : entry_text entry ≡ text

-- the line is this end's
pub record IsEndText (end : End) (text : List ℕ) : Type 0 where
  pub is_end : IsEnd end
  pub spelled : end_text end ≡ text

abbrev pub IsLineText : Line → List ℕ → Type 0
IsLineText (line.Entry entry) text = IsEntryText entry text
IsLineText (line.End end) text = IsEndText end text

-- the line is no entry's and no end's
pub record IsNoLine (text : List ℕ) : Type 0 where
  pub no_entry : (entry : Entry) → ¬ (IsEntryText entry text)
  pub no_end : (end : End) → ¬ (IsEndText end text)
