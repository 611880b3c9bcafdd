-- What clauses see of a lock, a seat and a turn.
use Rattle.std.specs.Prelude.{◌≡◌, ℕ, List, Option, Some}
use Rattle.atomic_table.specs.Seated.{TableId}

-- which lock it is, the setup of its value, and how many shares it was made with
pub record LockKnown (S : Type 0) : Type 0 where
  pub id : TableId
  pub setup : S
  pub seats : ℕ

-- the lock that it is of, that lock's setup, what it has seen of the history, and how many shares it has
pub record SeatKnown (S I : Type 0) : Type 0 where
  pub lock : TableId
  pub setup : Option S
  pub seen : List I
  pub shares : ℕ

-- the lock that it is of, that lock's setup, the shares of the seat that entered, the value as it was then, and as it is
pub record TurnKnown (T S : Type 0) : Type 0 where
  pub lock : TableId
  pub setup : Option S
  pub shares : ℕ
  pub entered : T
  pub value : T

-- the seat is of the lock
pub record IsSeatOf {S I : Type 0} (l : LockKnown S) (s : SeatKnown S I) : Type 0 where
  pub lock : s.lock ≡ l.id
  pub setup : s.setup ≡ Some l.setup

-- the turn is of the lock
pub record IsTurnOf {T S : Type 0} (l : LockKnown S) (t : TurnKnown T S) : Type 0 where
  pub lock : t.lock ≡ l.id
  pub setup : t.setup ≡ Some l.setup

-- the turn, with w for its value
abbrev pub with_value : {T S : Type 0} → TurnKnown T S → T → TurnKnown T S
with_value t w = record { lock = t.lock; setup = t.setup; shares = t.shares; entered = t.entered; value = w }
