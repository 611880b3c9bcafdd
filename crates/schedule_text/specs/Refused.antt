-- Why bytes are read as no schedule.
use Rattle.std.specs.Prelude.{◌≡◌, ℕ, List}
use Rattle.value_core.specs.Name.{IsTextOf}
use Rattle.serial_model.specs.declared.trace.LineKind.TheVariants.{BadLine}
use Rattle.schedule_text.specs.declared.error.LineNo.{LineNo}
use Rattle.schedule_text.specs.declared.error.LineNo.TheVariants.{Refused, Memory}
use Rattle.schedule_text.specs.declared.line.Line.{Line}
use Rattle.schedule_text.specs.Schedule.{IsTextOfLine, schedule_refusal}

-- a refusal is the one that the bytes have; memory may be wanting for any bytes
abbrev pub IsWhy : LineNo → List ℕ → Type 0
IsWhy (Refused kind line) bytes = schedule_refusal bytes kind line
IsWhy Memory bytes = Unit {0}

-- a text that stands at that line is no line's
abbrev pub IsLineWhy : LineNo → List ℕ → ℕ → Type 0
IsLineWhy (Refused kind line) text number = (kind ≡ BadLine) × (line ≡ number) × ((read : Line) → ¬ (IsTextOfLine read text))
IsLineWhy Memory text number = Unit {0}

-- a word that stands in that line is no name's
abbrev pub IsNameWhy : LineNo → List ℕ → ℕ → Type 0
IsNameWhy (Refused kind line) word number = (kind ≡ BadLine) × (line ≡ number) × ((name : List ℕ) → ¬ (IsTextOf name word))
IsNameWhy Memory word number = Unit {0}
