-- When nothing is left to be done.
use Rattle.std.specs.Prelude.{◌≡◌, false}
use Rattle.actor_mails.specs.Mails.{NoMail}
use Rattle.shared_world.specs.Shared.{Shared}
use Rattle.unit_table.specs.Board.{Board, is_unfinished}
use Rattle.value_core.specs.Named.{Name}

-- every unit is finished
abbrev pub AreFinished : Board → Type 0
AreFinished board = (u : Name) → is_unfinished board u ≡ false

-- every unit is finished, and nobody has mail
pub record IsAtRest (s : Shared) : Type 0 where
  pub units : AreFinished s.board
  pub mail : NoMail s.mails
