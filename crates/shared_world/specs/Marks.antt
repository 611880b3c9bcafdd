-- What the marks of pieces say, while the run goes on.
use Rattle.std.specs.Prelude.{◌≡◌, ◌⊎◌, false, true, None, Some}
use Rattle.actor_mails.specs.Mails.{mail_at}
use Rattle.serial_model.specs.declared.halt.Halt.TheVariants as halt
use Rattle.serial_model.specs.declared.request.Request.TheVariants as request
use Rattle.serial_model.specs.Step.{next_of}
use Rattle.shared_world.specs.Ahead.{Ahead}
use Rattle.shared_world.specs.rows.Actors.{actor_mark, has_turn}
use Rattle.shared_world.specs.rows.Leading.{can_settle}
use Rattle.shared_world.specs.Shared.{Shared, finished_at, is_going, unit_state}
use Rattle.task_fork_join.specs.Attempt.{Attempt, end_at, end_of}
use Rattle.task_fork_join.specs.declared.task.Task.{Task}
use Rattle.task_fork_join.specs.declared.task_end.TaskEnd.{TaskEnd}
use Rattle.task_fork_join.specs.Joining.{IsGoing, JoinsAt, known_in}
use Rattle.task_fork_join.specs.Knowledge.{is_known}
use Rattle.unit_table.specs.Board.{Board, piece_at, unit_at}
use Rattle.unit_table.specs.declared.mark.Mark.{Mark}
use Rattle.unit_table.specs.declared.mark.Mark.TheVariants as mark
use Rattle.unit_table.specs.declared.mark.WaitOn.TheVariants as wait
use Rattle.unit_table.specs.declared.mark.Work.TheVariants as work
use Rattle.unit_table.specs.declared.piece.Actor.{Actor}
use Rattle.unit_table.specs.declared.piece.Piece.TheVariants as piece
use Rattle.unit_table.specs.declared.unit.Unit.{Unit as Doing}
use Rattle.value_core.specs.Named.{Name, Named, named}
use Rattle.value_core.specs.Place.{Spot}

-- A unit waits for the root of its attempt, unless it holds something that can be settled; where it has none and stands where the
-- history left it, it asks for the value of a unit that is not finished.
pub data UnitWaits (s : Shared) (u : Name) (x : Doing) (f : Name) : Type 0 where
  root : can_settle s u ≡ false → (tree : Attempt) → named u s.attempts ≡ Some tree → tree.root ≡ f → UnitWaits s u x f
  join : named u s.aheads ≡ None → named u s.attempts ≡ None → (at : Spot) → next_of s.setup (unit_state x) ≡ halt.Ask (request.Join f) at → finished_at s.board f ≡ None → UnitWaits s u x f

-- a turn that runs ahead and is not definite
pub record IsTentative (s : Shared) (u : Name) : Type 0 where
  pub ahead : Ahead
  pub leads : named u s.aheads ≡ Some ahead
  pub not_yet : can_settle s u ≡ false

-- A unit that can do something, or is finished, has no attempt, unless it holds something that can be settled; a turn waits until
-- it is definite, while it is not.
abbrev pub UnitSays : Shared → Name → Doing → Mark → Type 0
UnitSays s u x (mark.Ready work.Eval) = named u s.attempts ≡ None
UnitSays s u x (mark.Ready work.Settle) = (named u s.attempts ≡ None) ⊎ (can_settle s u ≡ true)
UnitSays s u x (mark.Waiting (wait.Finish f)) = UnitWaits s u x f
UnitSays s u x (mark.Waiting (wait.Definite turn)) = (turn ≡ u) × IsTentative s u
UnitSays s u x (mark.Finished v) = named u s.attempts ≡ None
UnitSays s u x _ = ⊥

-- What a task waits for is still to come: a task of its attempt that it knows and that goes on; or a unit that is not finished, where the
-- task knows no task of that name.
pub data IsToCome (b : Board) (tasks : Named Task) (t : Task) (f : Name) : Type 0 where
  task : is_known t.knows f ≡ true → (child : Task) → named f tasks ≡ Some child → IsGoing child.stage → IsToCome b tasks t f
  unit : known_in tasks t.knows f ≡ None → finished_at b f ≡ None → IsToCome b tasks t f

-- it has not ended, it joins what it waits for, and that is still to come
pub record TaskWaits (s : Shared) (tasks : Named Task) (t : Task) (f : Name) : Type 0 where
  pub going : IsGoing t.stage
  pub joins : JoinsAt s.setup.program t t.stage f
  pub to_come : IsToCome s.board tasks t f

-- a turn that runs ahead
pub record IsRunningAhead (s : Shared) (turn : Name) : Type 0 where
  pub ahead : Ahead
  pub leads : named turn s.aheads ≡ Some ahead

-- it has not ended, and that turn is its unit, which runs ahead
pub record TurnWaits (s : Shared) (owner : Name) (t : Task) (turn : Name) : Type 0 where
  pub going : IsGoing t.stage
  pub own : turn ≡ owner
  pub leads : IsRunningAhead s owner

-- A task of the attempt of that unit that can be evaluated goes on, and one that is finished has ended; one waits for the turn that its
-- unit is while that runs ahead.
abbrev pub TaskSays : Shared → Name → Named Task → Task → Mark → Type 0
TaskSays s owner tasks t (mark.Ready work.Eval) = IsGoing t.stage
TaskSays s owner tasks t (mark.Ready work.Settle) = Unit {0}
TaskSays s owner tasks t (mark.Waiting (wait.Finish f)) = TaskWaits s tasks t f
TaskSays s owner tasks t (mark.Waiting (wait.Definite turn)) = TurnWaits s owner t turn
TaskSays s owner tasks t (mark.Finished v) = end_of t.stage ≡ None → ⊥
TaskSays s owner tasks t _ = ⊥

-- where the mark says that a turn is waited for, that is this one
abbrev pub HangsOn : Name → Mark → Type 0
HangsOn owner m = (turn : Name) → m ≡ mark.Waiting (wait.Definite turn) → turn ≡ owner

-- where the root of an attempt is at its end, and that is still to be decided on, it can be done, or the unit runs ahead and is waited for
abbrev pub RootSays : Shared → Name → Mark → Type 0
RootSays s owner (mark.Ready work) = Unit {0}
RootSays s owner (mark.Waiting (wait.Definite turn)) = IsRunningAhead s owner
RootSays s owner _ = ⊥

-- The piece of a task: it is of the attempt of its unit, and waits for no other turn. While the root of that is not at its end, its mark
-- says where it is; then the root is still to be decided on.
pub record IsTaskPiece (s : Shared) (n : Name) (m : Mark) : Type 0 where
  pub owner : Name
  pub of : named n s.owners ≡ Some owner
  pub tree : Attempt
  pub attempt : named owner s.attempts ≡ Some tree
  pub task : Task
  pub among : named n tree.tasks ≡ Some task
  pub hangs : HangsOn owner m
  pub says : end_at tree ≡ None → TaskSays s owner tree.tasks task m
  pub decides : (ended : TaskEnd) → end_at tree ≡ Some ended → n ≡ tree.root → RootSays s owner m

-- a task of the attempt of that unit is a piece
pub record HasPiece (s : Shared) (u n : Name) : Type 0 where
  pub mark : Mark
  pub there : piece_at s.board n ≡ Some (piece.Task mark)
  pub of : named n s.owners ≡ Some u

-- The mark of each unit, of each task and of each actor is right, and each task of an attempt is a piece.
pub record AreMarked (s : Shared) : Type 0 where
  pub units : (u : Name) (x : Doing) → unit_at s.board u ≡ Some x → UnitSays s u x x.mark
  pub tasks : (n : Name) (m : Mark) → piece_at s.board n ≡ Some (piece.Task m) → IsTaskPiece s n m
  pub actors : (a : Name) (x : Actor) → piece_at s.board a ≡ Some (piece.Actor x) → x.mark ≡ actor_mark (has_turn s.taken a x.state) (mail_at s.mails a)
  pub pieces : (u : Name) (tree : Attempt) → named u s.attempts ≡ Some tree → (n : Name) (t : Task) → named n tree.tasks ≡ Some t → HasPiece s u n

-- the task is of the attempt of that unit
pub record IsTaskOf (s : Shared) (u n : Name) : Type 0 where
  pub of : named n s.owners ≡ Some u
  pub tree : Attempt
  pub attempt : named u s.attempts ≡ Some tree
  pub task : Task
  pub among : named n tree.tasks ≡ Some task

-- a task of the attempt of that unit is no piece yet
pub record IsYetToStand (s : Shared) (u v n : Name) : Type 0 where
  pub own : v ≡ u
  pub none : piece_at s.board n ≡ None

-- So it is but for the tasks of the attempt of that unit, which has taken a step since: nothing is said of their marks, and some of them
-- may be no pieces yet.
pub record AreMarkedBeside (s : Shared) (u : Name) : Type 0 where
  pub units : (v : Name) (x : Doing) → unit_at s.board v ≡ Some x → UnitSays s v x x.mark
  pub tasks : (n : Name) (m : Mark) → piece_at s.board n ≡ Some (piece.Task m) → (IsTaskOf s u n) ⊎ (IsTaskPiece s n m)
  pub actors : (a : Name) (x : Actor) → piece_at s.board a ≡ Some (piece.Actor x) → x.mark ≡ actor_mark (has_turn s.taken a x.state) (mail_at s.mails a)
  pub pieces : (v : Name) (tree : Attempt) → named v s.attempts ≡ Some tree → (n : Name) (t : Task) → named n tree.tasks ≡ Some t → (HasPiece s v n) ⊎ (IsYetToStand s u v n)

-- once the run has ended nothing is said of them
abbrev pub HasMarks : Shared → Type 0
HasMarks s = is_going s.end ≡ true → AreMarked s
