-- What separates tokens: white space, and comments from a semicolon to the line feed or the end.
use Rattle.std.specs.Prelude.{◌≡◌, ℕ, List}
use Rattle.sexpr_reader.specs.declared.lead.Lead.TheVariants.{WhiteSpace, Comment}
use Rattle.sexpr_reader.specs.Bytes.{is_line_byte}
use Rattle.sexpr_reader.specs.Cursor.{Cursor}
use Rattle.sexpr_reader.specs.Lead.{lead_of, is_white_space}
use Rattle.sexpr_reader.specs.Runs.{IsRun}

pub data Gap : Cursor → Cursor → Type 0 where
  nothing : {c : Cursor} → Gap c c
  white_space : {c m d : Cursor} (text : List ℕ) → lead_of c.rest ≡ WhiteSpace → IsRun is_white_space text c m → Gap m d → Gap c d
  comment : {c m d : Cursor} (text : List ℕ) → lead_of c.rest ≡ Comment → IsRun is_line_byte text c m → Gap m d → Gap c d
