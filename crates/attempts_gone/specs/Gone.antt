-- Claims on what is gone.
use Rattle.std.specs.Prelude.{◌≡◌, Some}
use Rattle.shared_world.specs.Gave.{is_gone}
use Rattle.shared_world.specs.rows.Pieces.{ClaimsEnd}
use Rattle.shared_world.specs.Shared.{Shared}
use Rattle.unit_table.specs.Board.{Board, lent_to}
use Rattle.value_core.specs.declared.ticket.Ticket.{Ticket}
use Rattle.value_core.specs.Named.{Name}

-- no claim is on it
abbrev pub IsFree : Board → Name → Type 0
IsFree b name = (ticket : Ticket) → lent_to b ticket ≡ Some name → ⊥

-- the claims on what is gone end
abbrev pub GoneEnd : Shared → Shared → Type 0
GoneEnd old new = ClaimsEnd (is_gone old.board new.board) old new
