-- Names of symbols and keywords: words of name characters, with apostrophes behind the first.
use Rattle.std.specs.Prelude.{◌≡◌, ℕ, true, false, List}
use Rattle.std.specs.List.{list_all}
use Rattle.value_core.specs.Place.{Spot}
use Rattle.sexpr_reader.specs.Cursor.{Cursor}
use Rattle.sexpr_reader.specs.Bytes.{is_name_byte, is_later_byte}
use Rattle.sexpr_reader.specs.Lead.{begins, is_word_byte}
use Rattle.sexpr_reader.specs.Runs.{IsRun}

pub record IsName (c : Cursor) (name : List ℕ) (d : Cursor) : Type 0 where
  pub first : begins is_name_byte c.rest ≡ true
  pub word : IsRun is_word_byte name c d
  pub fits : list_all is_later_byte name ≡ true

-- the place has the first byte of a word that does not fit a name
pub data Misfit : Cursor → Spot → Type 0 where
  first : {c : Cursor} → begins is_word_byte c.rest ≡ true → begins is_name_byte c.rest ≡ false → Misfit c c.at
  later : {c d : Cursor} (front : List ℕ) → begins is_name_byte c.rest ≡ true → IsRun is_later_byte front c d → begins is_word_byte d.rest ≡ true → Misfit c d.at
