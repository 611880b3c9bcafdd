-- Attempts that are gone, and their tasks.
use Rattle.std.specs.Prelude.{◌≡◌, ◌&&◌, List, [], ◌∷◌, Option, None, Some, cond}
use Rattle.shared_world.specs.rows.Attempts.{IsWithout}
use Rattle.shared_world.specs.rows.Pieces.{but_gone, is_task, task_gone}
use Rattle.shared_world.specs.Shared.{Shared}
use Rattle.task_fork_join.specs.Attempt.{Attempt, names_in}
use Rattle.task_fork_join.specs.Following.{names_after}
use Rattle.task_fork_join.specs.declared.task.Task.{Task}
use Rattle.unit_table.specs.Board.{Board, lent_to, piece_at, unit_at}
use Rattle.unit_table.specs.declared.unit.Unit.{Unit}
use Rattle.value_core.specs.declared.ticket.Ticket.{Ticket}
use Rattle.value_core.specs.Named.{Name, Named, is_among, named, same_name}

-- the task of that name is gone, where it is one, and the claim on it
pub record IsTaskGone (name : Name) (old new : Board) : Type 0 where
  pub here : piece_at new name ≡ task_gone (piece_at old name)
  pub others : (other : Name) → (other ≡ name → ⊥) → piece_at new other ≡ piece_at old other
  pub claims : (ticket : Ticket) → lent_to new ticket ≡ but_gone (λ q. same_name q name && is_task (piece_at old name)) (lent_to old ticket)

-- the tasks of these names are gone, and the claims on them
pub record TasksGone (names : List Name) (old new : Board) : Type 0 where
  pub pieces : (name : Name) → piece_at new name ≡ cond (is_among name names) (task_gone (piece_at old name)) (piece_at old name)
  pub claims : (ticket : Ticket) → lent_to new ticket ≡ but_gone (λ q. is_among q names && is_task (piece_at old q)) (lent_to old ticket)

-- Of these names some are left: once their tasks are gone too, those of all are.
pub record AreLeft (all left : List Name) (old now : Board) : Type 0 where
  pub pieces : (name : Name) → cond (is_among name left) (task_gone (piece_at now name)) (piece_at now name) ≡ cond (is_among name all) (task_gone (piece_at old name)) (piece_at old name)
  pub claims : (ticket : Ticket) → but_gone (λ q. is_among q left && is_task (piece_at now q)) (lent_to now ticket) ≡ but_gone (λ q. is_among q all && is_task (piece_at old q)) (lent_to old ticket)

-- the unit is there, and has an attempt
pub record HasAttempt (s : Shared) (owner : Name) : Type 0 where
  pub unit : Unit
  pub there : unit_at s.board owner ≡ Some unit
  pub tree : Attempt
  pub attempt : named owner s.attempts ≡ Some tree

-- the attempt of the unit is gone, and its tasks are
pub record IsUndone (owner : Name) (attempts : Named Attempt) (board : Board) (left : Named Attempt) (after : Board) : Type 0 where
  pub gone : IsWithout owner attempts left
  pub tasks : (tree : Attempt) → named owner attempts ≡ Some tree → TasksGone (names_in tree.tasks) board after

-- the name and those of the tasks that come after it
abbrev pub names_from : Option Name → Named Task → List Name
names_from None tasks = []
names_from (Some name) tasks = name ∷ names_after (Some name) tasks
