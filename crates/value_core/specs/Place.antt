-- Places in a source.
use Rattle.std.specs.Prelude.{ℕ}

-- a line and a column, both counted from 1
pub record Spot : Type 0 where
  pub line : ℕ
  pub column : ℕ
