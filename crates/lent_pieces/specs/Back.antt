-- A result that is given back for which memory was wanting.
use Rattle.std.specs.Prelude.{◌≡◌, ◌≤◌, Err, None, Ok, Result, length, true}
use Rattle.std.specs.declared.alloc.AllocError.{AllocError}
use Rattle.lent_pieces.specs.Claims.{IsStale}
use Rattle.shared_world.specs.Counts.{age_of}
use Rattle.shared_world.specs.declared.given.Given.{Given}
use Rattle.shared_world.specs.declared.given.Given.TheVariants as given
use Rattle.shared_world.specs.Gave.{Gave}
use Rattle.shared_world.specs.Marks.{HasMarks}
use Rattle.shared_world.specs.Returned.{IsLive, Returned}
use Rattle.shared_world.specs.Shared.{claimed, ready, Shared}
use Rattle.shared_world.specs.Stands.{Stands}
use Rattle.unit_table.specs.Board.{piece_at}
use Rattle.value_core.specs.declared.ticket.Ticket.{Ticket}
use Rattle.value_core.specs.Named.{Name}

-- The history, the refs, the bytes and the end are as they were, and so is every other piece; the claim is out no more, and every
-- other claim is; the piece is ready again; each attempt began where it did, and there are no fewer; and the marks are right where they
-- were.
pub record IsBack (old : Shared) (result : Returned) (new : Shared) : Type 0 where
  pub stands : Stands new
  pub marks : HasMarks old → HasMarks new
  pub here : claimed new result.ticket ≡ None
  pub others : (other : Ticket) → (other ≡ result.ticket → ⊥) → claimed new other ≡ claimed old other
  pub ready_again : (name : Name) → IsLive old result name → ready new name ≡ true
  pub pieces : (name : Name) → (IsLive old result name → ⊥) → piece_at new.board name ≡ piece_at old.board name
  pub ages : (u : Name) → age_of new u ≡ age_of old u
  pub no_fewer : length old.attempts ≤ length new.attempts
  pub rest : new ≡ record old { attempts = new.attempts; board = new.board }

-- what a result comes to
pub record HasGiven (old : Shared) (result : Returned) (new : Shared) (found : Given) : Type 0 where
  pub gave : Gave old result found new
  pub stale : found ≡ given.Stale → IsStale old result new

-- or for want of memory the claim ends
abbrev pub GivesBack : Shared → Returned → Shared → Result Given AllocError → Type 0
GivesBack old result new (Ok found) = HasGiven old result new found
GivesBack old result new (Err e) = IsBack old result new
