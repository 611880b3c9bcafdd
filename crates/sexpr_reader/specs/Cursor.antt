-- Where a reader of a source stands.
use Rattle.std.specs.Prelude.{◌≡◌, ℕ, ◌+◌, ◌==◌, if◌then◌else◌, Bool, true, List, [], ◌∷◌, ◌++◌}
use Rattle.std.specs.List.{list_all}
use Rattle.value_core.specs.Place.{Spot}

-- a place, and the bytes of the source from there on
pub record Cursor : Type 0 where
  pub at : Spot
  pub rest : List ℕ

-- the place after one byte: a line feed, 10, ends a line
abbrev pub next_spot : Spot → ℕ → Spot
next_spot s b = if b == 10 then record { line = s.line + 1; column = 1 } else record { line = s.line; column = s.column + 1 }

-- the place after a text
unfoldable pub after : Spot → List ℕ → Spot
after s [] = s
after s (b ∷ bs) = after (next_spot s b) bs

-- the text leads from one cursor to the other
pub record Over (text : List ℕ) (c d : Cursor) : Type 0 where
  pub bytes : c.rest ≡ text ++ d.rest
  pub place : d.at ≡ after c.at text

-- and each byte of it passes the test
pub record Spans (test : ℕ → Bool) (text : List ℕ) (c d : Cursor) : Type 0 where
  pub each : list_all test text ≡ true
  pub over : Over text c d

-- where a source begins
abbrev pub start : Spot
start = record { line = 1; column = 1 }
