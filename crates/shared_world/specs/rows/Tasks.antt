-- What a task of an attempt comes to.
use Rattle.std.specs.Prelude.{◌≡◌, ◌++◌, List, Option, None, Some, All}
use Rattle.std.specs.List.{slice_get}
use Rattle.eval_step.specs.Evaluation.{Evaluation, IsOf, IsSame}
use Rattle.ref_store.specs.declared.version.Version.{Version}
use Rattle.ref_store.specs.Store.{versions_of}
use Rattle.ref_store.specs.Version.{newest}
use Rattle.serial_model.specs.declared.effect.Effect.{Effect}
use Rattle.serial_model.specs.declared.end.End.TheVariants as ending
use Rattle.serial_model.specs.declared.halt.Halt.{Halt}
use Rattle.serial_model.specs.declared.halt.Halt.TheVariants as halt
use Rattle.serial_model.specs.declared.request.Request.TheVariants as request
use Rattle.shared_world.specs.Ahead.{Ahead}
use Rattle.shared_world.specs.declared.given.Given.{Given}
use Rattle.shared_world.specs.declared.given.Given.TheVariants as given
use Rattle.shared_world.specs.Returned.{halt_of}
use Rattle.shared_world.specs.rows.Commits.{Commits}
use Rattle.shared_world.specs.rows.Pieces.{Ends, IsSet}
use Rattle.shared_world.specs.rows.Sending.{Posts, Send, sends_in}
use Rattle.shared_world.specs.rows.Undoing.{Aborts}
use Rattle.shared_world.specs.Seen.{done_by_root}
use Rattle.shared_world.specs.Shared.{Shared, finished_at}
use Rattle.task_fork_join.specs.Attempt.{Attempt, end_at}
use Rattle.task_fork_join.specs.declared.stepped.Stepped.{Stepped}
use Rattle.task_fork_join.specs.declared.stepped.Stepped.TheVariants as stepped
use Rattle.task_fork_join.specs.declared.task_end.TaskEnd.{TaskEnd}
use Rattle.task_fork_join.specs.declared.task_end.TaskEnd.TheVariants as end
use Rattle.task_fork_join.specs.Step.{IsStep}
use Rattle.txn_commit.specs.Conflict.{IsFirstConflict, IsUnchanged}
use Rattle.txn_commit.specs.declared.conflict.Conflict.{Conflict}
use Rattle.txn_snapshot.specs.SnapshotAnswer.{snapshot_of}
use Rattle.unit_table.specs.Board.{Board, IsPutAt, piece_at}
use Rattle.unit_table.specs.declared.mark.Mark.{Mark}
use Rattle.unit_table.specs.declared.mark.Mark.TheVariants as mark
use Rattle.unit_table.specs.declared.mark.WaitOn.TheVariants as wait
use Rattle.unit_table.specs.declared.mark.Work.TheVariants as work
use Rattle.unit_table.specs.declared.piece.Piece.TheVariants as piece
use Rattle.unit_table.specs.declared.unit.Unit.{Unit}
use Rattle.value_core.specs.declared.value.Value.{Value}
use Rattle.value_core.specs.declared.value.Value.TheVariants as value
use Rattle.value_core.specs.Named.{Name, named, with_named}

-- the value of the plain task that is asked for, where it has one
abbrev pub outer_of : Board → Halt → Option Value
outer_of board (halt.Ask (request.Join future) at) = finished_at board future
outer_of board _ = None

-- the task has that mark, and all else stays
pub record IsMarkedTask (old : Shared) (task : Name) (m : Mark) (new : Shared) : Type 0 where
  pub set : IsSet task (piece.Task m) m old.board new.board
  pub others : new ≡ record old { board = new.board }

-- Local: it goes on, and the child that it forked can go on
pub record Forked (old : Shared) (u task child : Name) (new : Shared) : Type 0 where
  pub none : piece_at old.board child ≡ None
  pub board : Board
  pub put : IsPutAt child (Some (piece.Task (mark.Ready work.Eval))) old.board board
  pub steps : IsMarkedTask (record old { owners = with_named old.owners child u; board = board }) task (mark.Ready work.Eval) new

-- Waiting: the unit runs ahead, and the task waits until it is definite and holds nothing; all else stays
pub record WaitsForTurn (old : Shared) (u task : Name) (found : Given) (new : Shared) : Type 0 where
  pub ahead : Ahead
  pub leads : named u old.aheads ≡ Some ahead
  pub found_is : found ≡ given.Waiting (wait.Definite u)
  pub marked : IsMarkedTask old task (mark.Waiting (wait.Definite u)) new

-- a ref that the snapshot does not have: the attempt is undone where the store has it; else the turn made it and holds it, and is
-- waited for
abbrev pub Missing : Shared → Name → Unit → Name → Attempt → Name → Option Version → Given → Shared → Type 0
Missing old u x task tree ref None found new = WaitsForTurn old u task found new
Missing old u x task tree ref (Some version) found new = Aborts old u x tree ref version.number found new

-- what a step comes to that does not end the root
abbrev pub StepGives : Shared → Name → Unit → Name → Attempt → Stepped → Given → Shared → Type 0
StepGives old u x task tree stepped.Now found new = (found ≡ given.Local) × IsMarkedTask old task (mark.Ready work.Eval) new
StepGives old u x task tree (stepped.Forked child) found new = (found ≡ given.Local) × Forked old u task child new
StepGives old u x task tree (stepped.WaitJoin future) found new = (found ≡ given.Waiting (wait.Finish future)) × IsMarkedTask old task (mark.Waiting (wait.Finish future)) new
StepGives old u x task tree (stepped.NotInSnapshot ref) found new = Missing old u x task tree ref (newest (versions_of old.versions ref)) found new
StepGives old u x task tree stepped.Finished found new = (found ≡ given.Local) × IsMarkedTask old task (mark.Finished value.Nil) new

-- what a valid attempt comes to whose root ended so
abbrev pub EndGives : Shared → Name → Unit → Attempt → TaskEnd → Given → Shared → Type 0
EndGives old u x tree (end.Value v) found new = Commits old u x tree v found new
EndGives old u x tree (end.Fault failed at) found new = Ends old u (ending.Fault failed at u) found new
EndGives old u x tree end.Spent found new = Ends old u (ending.Spent u) found new

-- a conflict: the first ref that was read and has a version above the snapshot
pub record Conflicts (old : Shared) (u : Name) (x : Unit) (tree : Attempt) (found : Given) (new : Shared) : Type 0 where
  pub conflict : Conflict
  pub first : IsFirstConflict tree.reads old.versions tree.snapshot conflict
  pub ref : Name
  pub ref_is : slice_get tree.reads conflict.index ≡ Some ref
  pub aborts : Aborts old u x tree ref conflict.version found new

-- What an attempt comes to whose root is at its end: it is decided on where its unit stands where the history left it; else the task of
-- which a result is given back waits until that does.
pub data RootGives (old : Shared) (u : Name) (x : Unit) (task : Name) (tree : Attempt) (ended : TaskEnd) (found : Given) (new : Shared) : Type 0 where
  valid : named u old.aheads ≡ None → All (IsUnchanged old.versions tree.snapshot) tree.reads → EndGives old u x tree ended found new → RootGives old u x task tree ended found new
  conflicts : named u old.aheads ≡ None → Conflicts old u x tree found new → RootGives old u x task tree ended found new
  waits : WaitsForTurn old u task found new → RootGives old u x task tree ended found new

abbrev pub AfterStep : Shared → Name → Unit → Name → Attempt → Stepped → Option TaskEnd → Given → Shared → Type 0
AfterStep old u x task tree went None found new = StepGives old u x task tree went found new
AfterStep old u x task tree went (Some ended) found new = RootGives old u x task tree ended found new

-- the task of that machine takes a step; what the root of the attempt has done more by it
pub record HasStepped (old : Shared) (task : Name) (tree : Attempt) (machine : Evaluation) : Type 0 where
  pub moved : Evaluation
  pub same : IsSame machine moved
  pub after : Attempt
  pub went : Stepped
  pub of : IsOf old.setup.program moved
  pub step : IsStep (snapshot_of old.versions tree.snapshot) task moved (outer_of old.board (halt_of old.setup.program machine)) (halt_of old.setup.program machine) tree after went
  pub more : List Effect
  pub does : done_by_root after ≡ done_by_root tree ++ more

-- What the root sends by the step is put at once or kept. Where it is at its end and its unit stands where the history left it the
-- attempt is decided on right then, and nothing is put.
abbrev pub StepPosts : Option TaskEnd → Option Ahead → Shared → Name → Name → List Send → List Send → Shared → Type 0
StepPosts None ahead old u root sends more mid = Posts old u root sends more mid
StepPosts (Some ended) (Some h) old u root sends more mid = Posts old u root sends more mid
StepPosts (Some ended) None old u root sends more mid = mid ≡ old

-- It does so, and that comes of it.
pub record TakesStep (old : Shared) (u : Name) (x : Unit) (task : Name) (tree : Attempt) (machine : Evaluation) (found : Given) (new : Shared) : Type 0 where
  pub by : HasStepped old task tree machine
  pub mid : Shared
  pub posts : StepPosts (end_at by.after) (named u old.aheads) old u tree.root (sends_in (done_by_root tree)) (sends_in by.more) mid
  pub comes : AfterStep (record mid { attempts = with_named mid.attempts u by.after }) u x task by.after by.went (end_at by.after) found new

-- a task that goes on takes a step
abbrev pub StepsOn : Shared → Name → Unit → Name → Attempt → Option Evaluation → Given → Shared → Type 0
StepsOn old u x task tree (Some machine) found new = TakesStep old u x task tree machine found new
StepsOn old u x task tree None found new = ⊥

-- What the task comes to, by its machine; where the root is at its end already and was not decided on, that is decided.
abbrev pub TaskGives : Shared → Name → Unit → Name → Attempt → Option TaskEnd → Option Evaluation → Given → Shared → Type 0
TaskGives old u x task tree None machine found new = StepsOn old u x task tree machine found new
TaskGives old u x task tree (Some ended) machine found new = RootGives old u x task tree ended found new
