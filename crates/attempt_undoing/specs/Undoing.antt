-- An attempt that is undone with all that hangs on it.
use Rattle.std.specs.Prelude.{◌≡◌, ◌⊎◌, [], IfSome, None, Option, Some}
use Rattle.attempt_undoing.specs.declared.undoing.Undone.{Undone}
use Rattle.attempt_undoing.specs.Turns.{HangingGone, StandingLeft, TreeGone}
use Rattle.attempts_gone.specs.Dropping.{HasAttempt}
use Rattle.shared_world.specs.rows.Attempts.{ArePrunedFor, IsWithout}
use Rattle.shared_world.specs.rows.Undoing.{IdleEnd, Undoes}
use Rattle.shared_world.specs.Shared.{Shared}
use Rattle.task_fork_join.specs.Attempt.{Attempt}
use Rattle.unit_table.specs.Board.{Board, IsMarked, IsUnlent, lent_to, mark_at, unit_at}
use Rattle.unit_table.specs.declared.mark.Mark.TheVariants as mark
use Rattle.unit_table.specs.declared.mark.Work.TheVariants as work
use Rattle.unit_table.specs.declared.unit.Unit.{Unit}
use Rattle.value_core.specs.declared.ticket.Ticket.{Ticket}
use Rattle.value_core.specs.Named.{Name, named}

-- the attempt of the unit is undone with all that hangs on it
abbrev pub HasUndone : Shared → Name → Shared → Type 0
HasUndone old u new = (x : Unit) (tree : Attempt) → unit_at old.board u ≡ Some x → named u old.attempts ≡ Some tree → Undoes old u x tree new

-- so it is; no claim ends but on what nothing can be done with; and that is the unit, and what its attempt had read
pub record UndoneFrom (old : Shared) (u : Name) (new : Shared) (found : Undone) : Type 0 where
  pub undone : HasUndone old u new
  pub claims : IdleEnd old new
  pub unit : found.unit ≡ u
  pub reads : IfSome (named u old.attempts) (λ tree. found.reads.items ≡ tree.reads)

-- a task of an attempt of that unit is claimed under the ticket
pub record IsClaimedTask (s : Shared) (claim : Ticket) : Type 0 where
  pub task : Name
  pub lent : lent_to s.board claim ≡ Some task
  pub owner : Name
  pub of : named task s.owners ≡ Some owner
  pub attempt : HasAttempt s owner

-- What stands under the name is ready to settle: it is so already, or nothing does; or it is marked so, and no claim is on it.
abbrev pub IsReadied : Name → Board → Board → Type 0
IsReadied name old new = ((new ≡ old) × ((mark_at old name ≡ Some (mark.Ready work.Settle)) ⊎ (mark_at old name ≡ None)))
    ⊎ (IsMarked name (mark.Ready work.Settle) old new × IsUnlent name old new × (mark_at old name ≡ Some (mark.Ready work.Settle) → ⊥))

-- that attempt of the unit is taken out
pub record IsTaken (s : Shared) (u : Name) (tree : Attempt) (taken : Shared) : Type 0 where
  pub there : named u s.attempts ≡ Some tree
  pub attempts : IsWithout u s.attempts taken.attempts
  pub taken_is : taken ≡ record s { attempts = taken.attempts }

-- it is, with the name of the unit
abbrev pub TookOut : Shared → Name → Option (Name × Attempt) → Shared → Type 0
TookOut s u None new = ⊥
TookOut s u (Some entry) new = (entry.0 ≡ u) × IsTaken s u entry.1 new

-- what goes with it is gone, then the turns that hang on that; then the unit is ready
pub record UndoneTaken (u : Name) (tree : Attempt) (old new : Shared) : Type 0 where
  pub mid : Shared
  pub tree_gone : TreeGone tree (record old { aheads = [] }) mid
  pub last : Shared
  pub hanging : HangingGone old.aheads mid last
  pub last_is : last ≡ record mid { board = last.board; attempts = last.attempts; mails = last.mails; taken = last.taken }
  pub aheads : StandingLeft last.board old.aheads new.aheads
  pub readied : IsReadied u last.board new.board
  pub versions : ArePrunedFor new.attempts last.versions new.versions
  pub new_is : new ≡ record last { versions = new.versions; board = new.board; aheads = new.aheads }
