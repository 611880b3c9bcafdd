-- When nothing can be claimed though the run goes on.
use Rattle.std.specs.Prelude.{◌≡◌, Some}
use Rattle.shared_world.specs.Shared.{Shared, claimed}
use Rattle.value_core.specs.declared.ticket.Ticket.{Ticket}
use Rattle.value_core.specs.Named.{Name}

-- a claim is out, and lends that piece
pub record IsClaimOut (s : Shared) : Type 0 where
  pub ticket : Ticket
  pub piece : Name
  pub lends : claimed s ticket ≡ Some piece
