-- What a change of a pool is to its tickets.
use Rattle.std.specs.Prelude.{◌≡◌, ◌≢◌, ℕ, ◌≤◌, Option, Some}
use Rattle.value_core.specs.declared.ticket.Ticket.{Ticket}
use Rattle.record_pool.specs.Pool.{Pool, find, next_of}

-- the ticket has this now, each other one what it had, and no ticket that was given out will be given out again
pub record IsPut {T : Type 0} (old new : Pool T) (ticket : Ticket) (now : Option T) : Type 0 where
  pub here : find new ticket ≡ now
  pub others : (other : Ticket) → other ≢ ticket → find new other ≡ find old other
  pub later : (slot : ℕ) → next_of old slot ≤ next_of new slot

-- the same of a ticket that was never given out before
pub record IsGiven {T : Type 0} (old new : Pool T) (ticket : Ticket) (now : T) : Type 0 where
  pub fresh : next_of old ticket.slot ≤ ticket.generation
  pub put : IsPut old new ticket (Some now)

-- there may be more room, and nothing else changes
abbrev pub HasMoreRoom : {T : Type 0} → Pool T → Pool T → Type 0
HasMoreRoom old new = new ≡ record old { room = new.room }
