-- The text of a trace, and the refusal of bytes that are no trace's text.
use Rattle.std.specs.Prelude.{◌≡◌, ℕ, ◌-◌, ◌<◌, ◌≤◌, ◌^◌, ◌==◌, if◌then◌else◌, List, [], ◌∷◌, ◌++◌, length, map, flat_map, take, All, codes, decimal}
use Rattle.std.specs.List.{onto_first}
use Rattle.value_core.specs.Name.{name_text}
use Rattle.value_core.specs.Place.{Spot}
use Rattle.value_core.specs.FaultCodes.{code_number}
use Rattle.serial_model.specs.declared.end.End.{End}
use Rattle.serial_model.specs.declared.end.End.TheVariants.{Done, Fault, Spent, UnitsSpent}
use Rattle.serial_model.specs.declared.entry.Entry.{Entry}
use Rattle.serial_model.specs.declared.entry.Entry.TheVariants.{Run, Take}
use Rattle.serial_model.specs.declared.trace.Trace.{Trace}
use Rattle.serial_model.specs.declared.trace.LineKind.{LineKind}
use Rattle.serial_model.specs.declared.trace.LineKind.TheVariants.{BadLine, TooLong}
use Rattle.serial_model.specs.Limits.{Budget, IsInRange}
use Rattle.value_core.specs.Named.{Name}

-- the most bytes that a trace is read from: 64 MiB
abbrev pub trace_limit : ℕ
trace_limit = 67108864

-- one line: its text, and the line feed that ends it
abbrev pub line_of : List ℕ → List ℕ
line_of text = text ++ codes "\n"

abbrev pub limits_text : Budget → List ℕ
limits_text limits = codes "limits " ++ decimal limits.fuel ++ codes " " ++ decimal limits.units

abbrev pub entry_text : Entry → List ℕ
entry_text (Run unit) = codes "run " ++ name_text unit
entry_text (Take actor sender) = codes "take " ++ name_text actor ++ codes " " ++ name_text sender

abbrev pub place_text : Spot → List ℕ
place_text at = decimal at.line ++ codes ":" ++ decimal at.column

abbrev pub end_text : End → List ℕ
end_text Done = codes "end done"
end_text (Fault failed at unit) = codes "end fault " ++ decimal (code_number failed) ++ codes " " ++ place_text at ++ codes " " ++ name_text unit
end_text (Spent unit) = codes "end spent " ++ name_text unit
end_text UnitsSpent = codes "end units"

-- a trace, line by line
abbrev pub trace_lines : Trace → List (List ℕ)
trace_lines t = codes "chocola-trace 1" ∷ limits_text t.limits ∷ map entry_text t.history.items ++ end_text t.end ∷ []

-- the whole text of a trace
abbrev pub trace_text : Trace → List ℕ
trace_text t = flat_map line_of (trace_lines t)

-- a name is one or more numbers below 2 ^ 32
pub record IsName (name : Name) : Type 0 where
  pub not_empty : 0 < length name
  pub in_range : All (λ number. number < 2 ^ 32) name

-- the parts of an entry are names
abbrev pub IsEntry : Entry → Type 0
IsEntry (Run unit) = IsName unit
IsEntry (Take actor sender) = IsName actor × IsName sender

-- a line and a column are from 1, and below 2 ^ 32
pub record IsPlace (at : Spot) : Type 0 where
  pub from_one : 1 ≤ at.line
  pub small_line : at.line < 2 ^ 32
  pub from_first : 1 ≤ at.column
  pub small_column : at.column < 2 ^ 32

-- the parts of an end are places and names
abbrev pub IsEnd : End → Type 0
IsEnd Done = Unit {0}
IsEnd (Fault failed at unit) = IsPlace at × IsName unit
IsEnd (Spent unit) = IsName unit
IsEnd UnitsSpent = Unit {0}

-- the parts of a trace are limits, entries and an end
pub record IsTrace (t : Trace) : Type 0 where
  pub limits : IsInRange t.limits
  pub entries : All IsEntry t.history.items
  pub end : IsEnd t.end

-- the bytes are the text of the trace, and no longer than a text may be
pub record IsTextOfTrace (t : Trace) (bytes : List ℕ) : Type 0 where
  pub is_trace : IsTrace t
  pub spelled : trace_text t ≡ bytes
  pub short : length bytes ≤ trace_limit

-- the lines of bytes, each with the line feed that ends it, where it has one
abbrev pub lines_of : List ℕ → List (List ℕ)
lines_of [] = []
lines_of (byte ∷ bytes) = if byte == 10 then (byte ∷ []) ∷ lines_of bytes else onto_first byte (lines_of bytes)

-- the bytes and the text of some trace have the same first lines, so many
pub record FitsUpTo (count : ℕ) (bytes : List ℕ) : Type 0 where
  pub trace : Trace
  pub is_trace : IsTrace trace
  pub alike : take count (lines_of bytes) ≡ take count (lines_of (trace_text trace))

-- The bytes are refused with this kind at this line: as too long at line 1, and else at the first line in which they
-- differ from the text of every trace.
abbrev pub trace_refusal : List ℕ → LineKind → ℕ → Type 0
trace_refusal bytes BadLine line = (length bytes ≤ trace_limit) × FitsUpTo (line - 1) bytes × ¬ (FitsUpTo line bytes)
trace_refusal bytes TooLong line = (trace_limit < length bytes) × (line ≡ 1)
