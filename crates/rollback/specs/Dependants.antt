-- Which tickets hang on a ticket.
use Rattle.std.specs.Prelude.{◌==◌, ◌&&◌, Bool, List, All, Contains}
use Rattle.std.specs.List.{list_any, IsDistinct}
use Rattle.rollback.specs.declared.link.Link.{Link}
use Rattle.value_core.specs.declared.ticket.Ticket.{Ticket}

abbrev pub same_ticket : Ticket → Ticket → Bool
same_ticket a b = (a.slot == b.slot) && (a.generation == b.generation)

abbrev pub is_one_of : Ticket → List Ticket → Bool
is_one_of ticket tickets = list_any (same_ticket ticket) tickets

-- a ticket hangs on another by a link, or by a link on one that hangs on the other
pub data HangsOn (links : List Link) (of : Ticket) : Ticket → Type 0 where
  directly : {by : Ticket} → Contains links (record { on = of; by = by }) → HangsOn links of by
  through : {on by : Ticket} → HangsOn links of on → Contains links (record { on = on; by = by }) → HangsOn links of by

-- these are the tickets that hang on that one, each once
pub record AreDependants (links : List Link) (of : Ticket) (tickets : List Ticket) : Type 0 where
  pub hang : All (HangsOn links of) tickets
  pub whole : (ticket : Ticket) → HangsOn links of ticket → Contains tickets ticket
  pub once : IsDistinct same_ticket tickets
