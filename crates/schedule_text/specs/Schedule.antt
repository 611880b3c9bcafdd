-- The text of a schedule, and the refusal of bytes that are no schedule's text.
use Rattle.std.specs.Prelude.{◌≡◌, ℕ, ◌-◌, ◌<◌, ◌≤◌, List, ◌++◌, length, map, flat_map, take, All, codes}
use Rattle.value_core.specs.Name.{name_text}
use Rattle.serial_model.specs.declared.trace.LineKind.{LineKind}
use Rattle.serial_model.specs.declared.trace.LineKind.TheVariants.{BadLine, TooLong}
use Rattle.serial_model.specs.Trace.{IsName, line_of, lines_of}
use Rattle.schedule_text.specs.declared.line.Line.{Line}
use Rattle.schedule_text.specs.declared.line.Line.TheVariants.{Back, Go, Hold, Turn}

-- the most bytes that a schedule is read from: 4 MiB
abbrev pub schedule_limit : ℕ
schedule_limit = 4194304

-- a line is its word and a name
abbrev pub line_text : Line → List ℕ
line_text (Go name) = codes "go " ++ name_text name
line_text (Hold name) = codes "hold " ++ name_text name
line_text (Back name) = codes "back " ++ name_text name
line_text (Turn name) = codes "turn " ++ name_text name

-- the whole text of a schedule
abbrev pub text_of : List Line → List ℕ
text_of lines = flat_map line_of (map line_text lines)

-- what a line speaks of is a name
abbrev pub IsLine : Line → Type 0
IsLine (Go name) = IsName name
IsLine (Hold name) = IsName name
IsLine (Back name) = IsName name
IsLine (Turn name) = IsName name

-- the text is this line's
pub record IsTextOfLine (line : Line) (text : List ℕ) : Type 0 where
  pub is_line : IsLine line
  pub spelled : line_text line ≡ text

-- the bytes are the text of these lines, and no longer than a schedule may be
pub record IsTextOfSchedule (lines : List Line) (bytes : List ℕ) : Type 0 where
  pub each : All IsLine lines
  pub spelled : text_of lines ≡ bytes
  pub short : length bytes ≤ schedule_limit

-- the bytes and the text of some schedule have the same first lines, so many
pub record FitsUpTo (count : ℕ) (bytes : List ℕ) : Type 0 where
  pub lines : List Line
  pub each : All IsLine lines
  pub alike : take count (lines_of bytes) ≡ take count (lines_of (text_of lines))

-- The bytes are refused with this kind at this line: as too long at line 1, and else at the first line in which they
-- differ from the text of every schedule.
abbrev pub schedule_refusal : List ℕ → LineKind → ℕ → Type 0
schedule_refusal bytes BadLine line = (length bytes ≤ schedule_limit) × FitsUpTo (line - 1) bytes × ¬ (FitsUpTo line bytes)
schedule_refusal bytes TooLong line = (schedule_limit < length bytes) × (line ≡ 1)
