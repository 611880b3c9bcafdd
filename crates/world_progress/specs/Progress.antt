-- Something can be done while a run goes on.
use Rattle.std.specs.Prelude.{◌≡◌, true}
use Rattle.shared_world.specs.Marks.{AreMarked}
use Rattle.shared_world.specs.Rest.{IsAtRest}
use Rattle.shared_world.specs.Shared.{Shared, is_going}
use Rattle.shared_world.specs.Stands.{Stands}
use Rattle.unit_table.specs.Board.{marks_ready, piece_at}
use Rattle.value_core.specs.Named.{Name}

-- a piece that is there, and with which something can be done, whether a claim on it is out or not
pub record HasWork (s : Shared) : Type 0 where
  pub name : Name
  pub ready : marks_ready (piece_at s.board name) ≡ true

-- While a run goes on and is not at rest, something can be done with a piece.
abbrev pub SomethingCanBeDone : Type 0
SomethingCanBeDone = (s : Shared) → Stands s → AreMarked s → is_going s.end ≡ true → (IsAtRest s → ⊥) → HasWork s
