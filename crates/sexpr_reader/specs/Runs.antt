-- Longest texts of bytes that pass a test.
use Rattle.std.specs.Prelude.{◌≡◌, ℕ, Bool, false, List}
use Rattle.sexpr_reader.specs.Cursor.{Cursor, Spans}
use Rattle.sexpr_reader.specs.Lead.{begins}

-- the longest text of bytes that pass the test leads from one cursor to the other
pub record IsRun (test : ℕ → Bool) (text : List ℕ) (c d : Cursor) : Type 0 where
  pub spans : Spans test text c d
  pub ends : begins test d.rest ≡ false
