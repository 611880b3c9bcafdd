-- A seat that a closure takes out of an option.
use Rattle.std.specs.Prelude.{ℕ, List, [], Option, Some, None}
use Rattle.world_lock.specs.Known.{LockKnown, SeatKnown, IsSeatOf}

-- there is a seat, and it is of the lock
abbrev pub HasSeat : {S I : Type 0} → LockKnown S → Option (SeatKnown S I) → Type 0
HasSeat l None = ⊥
HasSeat l (Some s) = IsSeatOf l s

-- what it has seen, and its shares
abbrev pub seen_of : {S I : Type 0} → Option (SeatKnown S I) → List I
seen_of None = []
seen_of (Some s) = s.seen

abbrev pub shares_of : {S I : Type 0} → Option (SeatKnown S I) → ℕ
shares_of None = 0
shares_of (Some s) = s.shares
