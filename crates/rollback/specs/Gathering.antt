-- How the tickets that hang on one are gathered. No public clause cites this module.
use Rattle.std.specs.Prelude.{ℕ, ◌+◌, ◌≤◌, ◌≡◌, true, List, [], ◌∷◌, ◌++◌, filter, length, map, if◌then◌else◌}
use Rattle.std.specs.List.{IsDistinct}
use Rattle.rollback.specs.Dependants.{is_one_of, same_ticket}
use Rattle.rollback.specs.declared.link.Link.{Link}
use Rattle.value_core.specs.declared.ticket.Ticket.{Ticket}

-- the tickets that hang on that one by a link
abbrev pub directly : List Link → Ticket → List Ticket
directly links on = map (λ link. link.by) (filter (λ link. same_ticket link.on on) links)

-- the tickets, with this one at the end where it is none of them
abbrev pub with_ticket : List Ticket → Ticket → List Ticket
with_ticket tickets ticket = if is_one_of ticket tickets then tickets else tickets ++ ticket ∷ []

-- the tickets differ, each hangs by a link, and there is room for the others that do
pub record IsRoomFor (links : List Link) (tickets : List Ticket) (room : ℕ) : Type 0 where
  pub once : IsDistinct same_ticket tickets
  pub hang : (ticket : Ticket) → is_one_of ticket tickets ≡ true → is_one_of ticket (map (λ link. link.by) links) ≡ true
  pub room_is : length links ≤ room + length tickets
