-- Tasks of attempts that take a step.
use Rattle.std.specs.Prelude.{◌≡◌, ◌≤◌, ◌⊎◌, ℕ, Bool, Err, IfSome, None, Ok, Option, Result, Some, drop, is_some, length, take, false, true, ⊤}
use Rattle.std.specs.declared.alloc.AllocError.{AllocError}
use Rattle.eval_step.specs.Evaluation.{Evaluation, IsAsk, IsAsking, IsOf, IsSame}
use Rattle.world_steps.specs.declared.kept.Kept.{Kept}
use Rattle.attempt_deciding.specs.TaskAt.{IsTaskAt, IsTaskIn}
use Rattle.attempt_steps.specs.declared.tasks.Child.{Child}
use Rattle.attempts_gone.specs.Dropping.{HasAttempt}
use Rattle.attempt_sends.specs.Putting.{ArePosted}
use Rattle.world_steps.specs.Kept.{IsSameBut}
use Rattle.ref_store.specs.Store.{versions_of}
use Rattle.ref_store.specs.Version.{newest}
use Rattle.serial_model.specs.declared.halt.Halt.{Halt}
use Rattle.serial_model.specs.declared.halt.Halt.TheVariants as halt
use Rattle.serial_model.specs.declared.request.Request.TheVariants as request
use Rattle.shared_world.specs.Counts.{age_of}
use Rattle.shared_world.specs.declared.given.Given.{Given}
use Rattle.shared_world.specs.declared.given.Given.TheVariants as given
use Rattle.shared_world.specs.Gave.{GaveTask, gone_with}
use Rattle.shared_world.specs.Returned.{halt_of}
use Rattle.shared_world.specs.rows.Pieces.{ClaimsEnd}
use Rattle.shared_world.specs.Marks.{HasMarks}
use Rattle.shared_world.specs.rows.Sending.{sends_in}
use Rattle.shared_world.specs.rows.Tasks.{AfterStep, Forked, IsMarkedTask, Missing, RootGives, StepPosts}
use Rattle.shared_world.specs.Seen.{done_by_root}
use Rattle.task_fork_join.specs.Stepping.{is_missing}
use Rattle.shared_world.specs.Shared.{Shared}
use Rattle.shared_world.specs.Stands.{Stands}
use Rattle.task_fork_join.specs.Attempt.{Attempt, end_at, machine_of, next_made_at}
use Rattle.task_fork_join.specs.declared.stepped.Stepped.{Stepped}
use Rattle.task_fork_join.specs.declared.stepped.Stepped.TheVariants as stepped
use Rattle.task_fork_join.specs.declared.task_end.TaskEnd.{TaskEnd}
use Rattle.task_fork_join.specs.Step.{IsStep}
use Rattle.unit_table.specs.Board.{HasPlace, IsUnlent, SameClaims, lent_to, piece_at, unit_at}
use Rattle.unit_table.specs.declared.mark.Mark.{Mark}
use Rattle.unit_table.specs.declared.mark.Mark.TheVariants as mark
use Rattle.unit_table.specs.declared.mark.WaitOn.TheVariants as wait
use Rattle.unit_table.specs.declared.mark.Work.{Work}
use Rattle.unit_table.specs.declared.mark.Work.TheVariants as work
use Rattle.unit_table.specs.declared.piece.Piece.{Piece}
use Rattle.unit_table.specs.declared.piece.Piece.TheVariants as piece
use Rattle.unit_table.specs.declared.unit.Unit.{Unit}
use Rattle.value_core.specs.declared.ticket.Ticket.{Ticket}
use Rattle.value_core.specs.declared.value.Value.{Value}
use Rattle.value_core.specs.Named.{Name, Named, named, with_named}
use Rattle.value_core.specs.Placed.{HasPlace as HasOwnerPlace}

-- such a task whose machine was moved to that halt
pub record IsTaskOf (s : Shared) (owner task : Name) (moved : Evaluation) (h : Halt) : Type 0 where
  pub tree : Attempt
  pub task_in : IsTaskIn s owner task tree
  pub machine : Evaluation
  pub kept : machine_of tree task ≡ Some machine
  pub same : IsSame machine moved
  pub program : IsOf s.setup.program moved
  pub halts_so : halt_of s.setup.program machine ≡ h
  pub asking : IsAsk h → IsAsking moved

-- there is room for the child, and nothing stands under its name
pub record IsRoomyChild (k : Kept) (child : Child) : Type 0 where
  pub none : piece_at k.units child.name ≡ None
  pub place : HasPlace k.units child.name
  pub owner_place : HasOwnerPlace child.name k.owners

-- there is room for the child, where there is one, in an attempt of that unit
pub record IsRoomFor (k : Kept) (owner : Name) (child : Child) : Type 0 where
  pub owner_is : child.owner ≡ owner
  pub roomy : IsRoomyChild k child

abbrev pub HasRoomFor : Kept → Name → Option Child → Type 0
HasRoomFor k owner None = ⊤
HasRoomFor k owner (Some child) = IsRoomFor k owner child

-- the child is what the task of the attempt makes next
abbrev pub IsNext : Attempt → Name → Option Child → Type 0
IsNext tree task None = ⊥
IsNext tree task (Some child) = next_made_at tree task ≡ Some child.name

-- where the task asks to fork, it is
abbrev pub IsNextIfForked : Halt → Attempt → Name → Option Child → Type 0
IsNextIfForked (halt.Ask (request.Fork body values) at) tree task child = IsNext tree task child
IsNextIfForked h tree task child = ⊤

-- a child of that name is there
abbrev pub IsCalled : Option Child → Name → Type 0
IsCalled None name = ⊥
IsCalled (Some child) name = child.name ≡ name

-- a step that forked has forked that child
abbrev pub IsOfStep : Option Child → Stepped → Type 0
IsOfStep child (stepped.Forked name) = IsCalled child name
IsOfStep child went = ⊤

-- the attempt of that unit has taken a step, on these refs
pub record HasStepped (refs : Name → Option Value) (owner task : Name) (moved : Evaluation) (outer : Option Value) (h : Halt) (tree : Attempt) (old new : Named Attempt) (went : Stepped) : Type 0 where
  pub after : Attempt
  pub put : new ≡ with_named old owner after
  pub step : IsStep refs task moved outer h tree after went

-- that is a task that can be evaluated again, or that is ready to settle
pub record IsReadyTask (found : Option Piece) : Type 0 where
  pub what : Work
  pub left : (what ≡ work.Eval) ⊎ (what ≡ work.Settle)
  pub is : found ≡ Some (piece.Task (mark.Ready what))

-- For want of memory the history, the refs, the bytes and the end stay, and so does every other piece; the piece is as it was, or
-- it is a task that can be evaluated again or is ready to settle; no claim ends but one on it; each attempt began where it did, and there are
-- no fewer; and the marks are right where they were.
pub record IsWanting (old : Shared) (name : Name) (new : Shared) : Type 0 where
  pub stands : Stands new
  pub here : (piece_at new.board name ≡ piece_at old.board name) ⊎ IsReadyTask (piece_at new.board name)
  pub others : (other : Name) → (other ≡ name → ⊥) → piece_at new.board other ≡ piece_at old.board other
  pub claims : (ticket : Ticket) → (lent_to old.board ticket ≡ Some name → ⊥) → lent_to new.board ticket ≡ lent_to old.board ticket
  pub ages : (u : Name) → age_of new u ≡ age_of old u
  pub no_fewer : length old.attempts ≤ length new.attempts
  pub marks : HasMarks old → HasMarks new
  pub rest : new ≡ record old { attempts = new.attempts; board = new.board }

-- the task is ready for that, and no claim ends but one on it
pub record IsReadied (w : Work) (old : Shared) (task : Name) (new : Shared) : Type 0 where
  pub marked : IsMarkedTask old task (mark.Ready w) new
  pub claims : (ticket : Ticket) → (lent_to old.board ticket ≡ Some task → ⊥) → lent_to new.board ticket ≡ lent_to old.board ticket

-- a task of an attempt of that unit
pub record IsOwned (s : Shared) (task owner : Name) : Type 0 where
  pub at : IsTaskAt s.board task
  pub of : named task s.owners ≡ Some owner
  pub has : HasAttempt s owner

-- the task has that mark, and no claim is on it
pub record TaskMarked (old : Shared) (task : Name) (m : Mark) (new : Shared) : Type 0 where
  pub marked : IsMarkedTask old task m new
  pub unlent : IsUnlent task old.board new.board

-- the child is there, and the task goes on
pub record HasForkedTask (old : Shared) (owner task child : Name) (new : Shared) (found : Given) : Type 0 where
  pub found_is : found ≡ given.Local
  pub forked : Forked old owner task child new
  pub unlent : IsUnlent task old.board new.board

-- what the root of the attempt has sent since it had done so much is put at once, or kept; no claim ends by it
pub record HasPosted (old : Shared) (owner : Name) (before : ℕ) (new : Shared) : Type 0 where
  pub posts : ArePosted old owner before new
  pub claims : SameClaims old.board new.board

-- that is posted, and the task can go on; or for want of memory it can be evaluated again, and nothing is
pub record HasGoneOn (old : Shared) (owner task : Name) (before : ℕ) (new : Shared) (found : Given) : Type 0 where
  pub posted : Shared
  pub is_posted : HasPosted old owner before posted
  pub found_is : found ≡ given.Local
  pub marked : TaskMarked posted task (mark.Ready work.Eval) new

abbrev pub GoesOnOr : Shared → Name → Name → ℕ → Shared → Result Given AllocError → Type 0
GoesOnOr old owner task before new (Ok found) = HasGoneOn old owner task before new found
GoesOnOr old owner task before new (Err e) = TaskMarked old task (mark.Ready work.Eval) new

-- that is posted, and the task waits for the finish of that one; or for want of memory it can be evaluated again, and nothing is
pub record IsWaitingTask (old : Shared) (owner task future : Name) (before : ℕ) (new : Shared) (found : Given) : Type 0 where
  pub posted : Shared
  pub is_posted : HasPosted old owner before posted
  pub found_is : found ≡ given.Waiting (wait.Finish future)
  pub marked : TaskMarked posted task (mark.Waiting (wait.Finish future)) new

abbrev pub TaskWaits : Shared → Name → Name → Name → ℕ → Shared → Result Given AllocError → Type 0
TaskWaits old owner task future before new (Ok found) = IsWaitingTask old owner task future before new found
TaskWaits old owner task future before new (Err e) = TaskMarked old task (mark.Ready work.Eval) new

-- what comes of a ref that the snapshot does not have; or for want of memory nothing changes
pub record HasMissed (old : Shared) (owner task ref : Name) (new : Shared) (found : Given) : Type 0 where
  pub row : (x : Unit) (tree : Attempt) → unit_at old.board owner ≡ Some x → named owner old.attempts ≡ Some tree → Missing old owner x task tree ref (newest (versions_of old.versions ref)) found new
  pub claims : ClaimsEnd (gone_with found old.board new.board task) old new

abbrev pub MissesOr : Shared → Name → Name → Name → Shared → Result Given AllocError → Type 0
MissesOr old owner task ref new (Ok found) = HasMissed old owner task ref new found
MissesOr old owner task ref new (Err e) = IsSameBut old new

-- What the root has done since it had done so much is sent: it is put at once, or kept. Where it is at its end and its unit stands where the
-- history left it, nothing is put.
abbrev pub StepPosted : Shared → Name → ℕ → Shared → Type 0
StepPosted old owner before posted = (tree : Attempt) → named owner old.attempts ≡ Some tree
    → StepPosts (end_at tree) (named owner old.aheads) old owner tree.root (sends_in (take before (done_by_root tree))) (sends_in (drop before (done_by_root tree))) posted

-- what comes of an attempt whose root is at its end; or for want of memory nothing changes
pub record HasDecidedAt (old : Shared) (owner task : Name) (before : ℕ) (new : Shared) (found : Given) : Type 0 where
  pub posted : Shared
  pub posts : StepPosted old owner before posted
  pub row : (x : Unit) (tree : Attempt) (ended : TaskEnd) → unit_at old.board owner ≡ Some x → named owner old.attempts ≡ Some tree → end_at tree ≡ Some ended → RootGives posted owner x task tree ended found new
  pub claims : ClaimsEnd (gone_with found old.board new.board task) old new

abbrev pub DecidesOr : Shared → Name → Name → ℕ → Shared → Result Given AllocError → Type 0
DecidesOr old owner task before new (Ok found) = (tree : Attempt) (ended : TaskEnd) → named owner old.attempts ≡ Some tree → end_at tree ≡ Some ended → HasDecidedAt old owner task before new found
DecidesOr old owner task before new (Err e) = IsSameBut old new

-- the same, but for want of memory the task is ready to settle
abbrev pub DecidedOrWaits : Shared → Name → Name → ℕ → Shared → Result Given AllocError → Type 0
DecidedOrWaits old owner task before new (Ok found) = (tree : Attempt) (ended : TaskEnd) → named owner old.attempts ≡ Some tree → end_at tree ≡ Some ended → HasDecidedAt old owner task before new found
DecidedOrWaits old owner task before new (Err e) = IsReadied work.Settle old task new

-- a step by which a task goes on, or waits for another one
abbrev pub is_onward : Stepped → Bool
is_onward stepped.Now = true
is_onward (stepped.WaitJoin future) = true
is_onward (stepped.Forked child) = false
is_onward (stepped.NotInSnapshot ref) = false
is_onward stepped.Finished = false

-- by another one that does not end it the root of the attempt has done no more than that
abbrev pub HasDoneNoMore : ℕ → Stepped → Attempt → Type 0
HasDoneNoMore before went tree = end_at tree ≡ None → is_onward went ≡ false → length (done_by_root tree) ≡ before

-- the attempt may be undone by it
abbrev pub MayUndo : Shared → Name → Stepped → Type 0
MayUndo s owner went = (is_missing went ≡ true) ⊎ IfSome (named owner s.attempts) (λ tree. true ≡ is_some (end_at tree))

-- what comes of a task that has taken a step, before which the root of the attempt had done so much
pub record HasCome (mid : Shared) (owner task : Name) (before : ℕ) (went : Stepped) (new : Shared) (found : Given) : Type 0 where
  pub posted : Shared
  pub posts : StepPosted mid owner before posted
  pub row : (x : Unit) (tree : Attempt) → unit_at mid.board owner ≡ Some x → named owner mid.attempts ≡ Some tree → AfterStep posted owner x task tree went (end_at tree) found new
  pub claims : ClaimsEnd (gone_with found mid.board new.board task) mid new

-- For want of memory a step that waits for a ref changes nothing else; one that goes on or waits for a finish can be evaluated again; and
-- where the root is at its end, the task is ready to settle.
pub data IsLeft (mid : Shared) (owner task : Name) (went : Stepped) (new : Shared) : Type 0 where
  misses : is_missing went ≡ true → IsSameBut mid new → IsLeft mid owner task went new
  goes : went ≡ stepped.Now → IsReadied work.Eval mid task new → IsLeft mid owner task went new
  again : (future : Name) → went ≡ stepped.WaitJoin future → IsReadied work.Eval mid task new → IsLeft mid owner task went new
  settles : IfSome (named owner mid.attempts) (λ tree. true ≡ is_some (end_at tree)) → IsReadied work.Settle mid task new → IsLeft mid owner task went new

abbrev pub ComesAfter : Shared → Name → Name → ℕ → Stepped → Shared → Result Given AllocError → Type 0
ComesAfter mid owner task before went new (Ok found) = HasCome mid owner task before went new found
ComesAfter mid owner task before went new (Err e) = IsLeft mid owner task went new

-- what a task comes to
abbrev pub TaskCame : Shared → Name → Shared → Result Given AllocError → Type 0
TaskCame old task new (Ok found) = GaveTask old task found new
TaskCame old task new (Err e) = IsWanting old task new
