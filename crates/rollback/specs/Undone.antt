-- What stands after the tickets that hang on one are undone.
use Rattle.std.specs.Prelude.{◌≡◌, List, drop, filter, length, not, take}
use Rattle.rollback.specs.Dependants.{is_one_of, AreDependants}
use Rattle.rollback.specs.declared.link.Link.{Link}
use Rattle.value_core.specs.declared.ticket.Ticket.{Ticket}

-- what the list has more
abbrev pub appended : List Ticket → List Ticket → List Ticket
appended before after = drop (length before) after

-- the tickets that hang on that one are appended
pub record AreAppended (links : List Link) (of : Ticket) (before after : List Ticket) : Type 0 where
  pub kept : take (length before) after ≡ before
  pub dependants : AreDependants links of (appended before after)

-- the links but for those by which one of these tickets hangs
abbrev pub without : List Ticket → List Link → List Link
without tickets links = filter (λ link. not (is_one_of link.by tickets)) links
