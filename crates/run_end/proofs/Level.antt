-- Where nothing runs ahead of the history, nothing does after a step.
use Rattle.std.proofs.Common.{◌≡◌, ◌∙◌, ◌==◌, ℕ, List, Bool, true, false, Option, None, Some, cond, refl, ap}
use Rattle.std.specs.Option.{option_map}
use Rattle.actor_mailbox.specs.declared.message.Message.{Message}
use Rattle.actor_mailbox.specs.Messages.{settle_one}
use Rattle.core_syntax.specs.declared.behaviour.Behaviour.{Behaviour}
use Rattle.eval_step.specs.Evaluation.{Evaluation}
use Rattle.ref_store.specs.declared.version.Version.{Version}
use Rattle.ref_store.specs.Store.{versions_of}
use Rattle.ref_store.specs.Version.{newest}
use Rattle.serial_model.specs.declared.actor_state.ActorState.{ActorState}
use Rattle.serial_model.specs.declared.end.End.{End}
use Rattle.serial_model.specs.declared.entry.Entry.{Entry}
use Rattle.serial_model.specs.declared.entry.Entry.TheVariants.{Run, Take}
use Rattle.serial_model.specs.declared.halt.Halt.{Halt}
use Rattle.serial_model.specs.declared.halt.Halt.TheVariants as halt
use Rattle.serial_model.specs.declared.request.Request.TheVariants as request
use Rattle.serial_model.specs.State.{UnitState}
use Rattle.shared_world.specs.declared.given.Given.{Given}
use Rattle.shared_world.proofs.Posting.{IsPosting, posting-rest, step-posting}
use Rattle.shared_world.specs.rows.Pieces.{Ends, EndsBy, Settles}
use Rattle.shared_world.specs.rows.Sending.{sends_in}
use Rattle.shared_world.specs.rows.Tasks as tasks
use Rattle.shared_world.specs.rows.Tasks.{AfterStep, EndGives, Missing, RootGives, StepGives, TaskGives}
use Rattle.shared_world.specs.rows.Turns.{TakesIfAllowed}
use Rattle.shared_world.specs.rows.Undoing.{Aborts, message_left}
use Rattle.shared_world.specs.rows.Units.{Becomes, Derefs, Finishes, ForksIfAllowed, Joins, Selves, Tries, UnitGives}
use Rattle.shared_world.specs.Seen.{done_by_root}
use Rattle.shared_world.specs.Ahead.{Ahead}
use Rattle.shared_world.specs.Shared.{Shared, actor_of, finished_at, ref_now, unit_state}
use Rattle.task_fork_join.specs.Attempt.{Attempt, end_at}
use Rattle.task_fork_join.specs.declared.stepped.Stepped.{Stepped}
use Rattle.task_fork_join.specs.declared.stepped.Stepped.TheVariants as stepped
use Rattle.task_fork_join.specs.declared.task_end.TaskEnd.{TaskEnd}
use Rattle.task_fork_join.specs.declared.task_end.TaskEnd.TheVariants as end
use Rattle.unit_table.specs.declared.unit.Unit.{Unit}
use Rattle.value_core.specs.declared.value.Value.{Value}
use Rattle.value_core.specs.Named.{Name, named, same_name}
use Rattle.lent_pieces.specs.Giving as giving
use Rattle.lent_pieces.specs.Giving.{PieceGave}
use Rattle.run_end.specs.InTurn.{IsLevel}
use Rattle.serial_model.specs.Step.{next_of}

-- Where nothing runs ahead of the history, nothing does after an answer.
module _ (old : Shared) (level : IsLevel old) where
  -- the same runs ahead, and the same is taken
  abbrev IsLike : Shared → Type 0
  IsLike base = (base.aheads ≡ old.aheads) × (base.taken ≡ old.taken)

  still : (new : Shared) → new.aheads ≡ old.aheads → new.taken ≡ old.taken → IsLevel new
  still new aheads taken = record { aheads = λ u. ap (named u) aheads ∙ level.aheads u; taken = λ a. ap (named a) taken ∙ level.taken a }

  settles : (base : Shared) (u : Name) (x : Unit) (after : UnitState) (found : Given) (new : Shared) → IsLike base → Settles base u x after found new → IsLevel new
  settles base u x after found new same row = still new (ap (λ (s : Shared). s.aheads) row.others ∙ same.0) (ap (λ (s : Shared). s.taken) row.others ∙ same.1)

  ends-by : (base : Shared) (entry : Entry) (end : End) (found : Given) (new : Shared) → IsLike base → EndsBy base entry end found new → IsLevel new
  ends-by base entry end found new same row = still new (ap (λ (s : Shared). s.aheads) row.others ∙ same.0) (ap (λ (s : Shared). s.taken) row.others ∙ same.1)

  ends : (base : Shared) (u : Name) (end : End) (found : Given) (new : Shared) → IsLike base → Ends base u end found new → IsLevel new
  ends base u = ends-by base (Run u)

  -- what a unit comes to
  unit-level : (u : Name) (x : Unit) (h : Halt) (found : Given) (new : Shared) → UnitGives old u x h found new → IsLevel new
  unit-level u x (halt.Ask (request.Print text) at) found new row = settles _ u x _ found new (refl, refl) row
  unit-level u x (halt.Ask (request.NewRef v) at) found new row = settles _ u x _ found new (refl, refl) row.settles
  unit-level u x (halt.Ask (request.Deref ref) at) found new row = on (ref_now old.versions ref) row
    where
      on : (v : Option Value) → Derefs old u x v found new → IsLevel new
      on None row = absurd row
      on (Some v) row = settles old u x _ found new (refl, refl) row
  unit-level u x (halt.Ask (request.RefSet ref v) at) found new row = ends old u _ found new (refl, refl) row
  unit-level u x (halt.Ask (request.Fork body values) at) found new row = on (old.made == old.setup.limits.units) row
    where
      on : (full : Bool) → ForksIfAllowed old u x body values full found new → IsLevel new
      on true row = ends old u _ found new (refl, refl) row
      on false row = settles _ u x _ found new (refl, refl) row.settles
  unit-level u x (halt.Ask (request.Join future) at) found new row = on (finished_at old.board future) row
    where
      on : (v : Option Value) → Joins old u x future v found new → IsLevel new
      on None row = still new (ap (λ (s : Shared). s.aheads) row.others) (ap (λ (s : Shared). s.taken) row.others)
      on (Some v) row = settles old u x _ found new (refl, refl) row
  unit-level u x (halt.Ask (request.Dosync body values) at) found new row = on (named u old.attempts) row
    where
      on : (tree : Option Attempt) → Tries old u x body values at tree found new → IsLevel new
      on None row = still new (ap (λ (s : Shared). s.aheads) row.others) (ap (λ (s : Shared). s.taken) row.others)
      on (Some tree) row = absurd row
  unit-level u x (halt.Ask (request.Spawn behaviour state) at) found new row = settles _ u x _ found new (refl, refl) row.settles
  unit-level u x (halt.Ask (request.Send to args) at) found new row = settles _ u x _ found new (refl, refl) row.settles
  unit-level u x (halt.Ask (request.Become behaviour state) at) found new row = on (actor_of x.kind) row
    where
      on : (actor : Option Name) → Becomes old u x behaviour state at actor found new → IsLevel new
      on None row = ends old u _ found new (refl, refl) row
      on (Some actor) row = settles old u x _ found new (refl, refl) row
  unit-level u x (halt.Ask request.SelfActor at) found new row = on (actor_of x.kind) row
    where
      on : (actor : Option Name) → Selves old u x at actor found new → IsLevel new
      on None row = ends old u _ found new (refl, refl) row
      on (Some actor) row = settles old u x _ found new (refl, refl) row
  unit-level u x (halt.Value v) found new row = on (actor_of x.kind) row
    where
      on : (actor : Option Name) → Finishes old u x v actor found new → IsLevel new
      on None row = settles old u x _ found new (refl, refl) row
      on (Some actor) row = settles _ u x _ found new (refl, refl) row.settles
  unit-level u x (halt.Fault failed at) found new row = ends old u _ found new (refl, refl) row
  unit-level u x halt.Spent found new row = ends old u _ found new (refl, refl) row

  -- what a task comes to, where the same runs ahead and is taken
  module _ (base : Shared) (same : IsLike base) where
    aborts : (u : Name) (x : Unit) (tree : Attempt) (ref : Name) (version : ℕ) (found : Given) (new : Shared) → Aborts base u x tree ref version found new → IsLevel new
    aborts u x tree ref version found new row = record {
      aheads = λ v. row.undoes.aheads v ∙ by (row.undoes.gone v) (named v base.aheads) (ap (named v) same.0 ∙ level.aheads v);
      taken = λ a. row.undoes.taken a ∙ ap (message_left row.undoes.gone) (ap (named a) same.1 ∙ level.taken a);
    }
      where
        by : (c : Bool) (kept : Option Ahead) → kept ≡ None → cond c None kept ≡ None
        by true kept none = refl
        by false kept none = none

    end-level : (u : Name) (x : Unit) (tree : Attempt) (ended : TaskEnd) (found : Given) (new : Shared) → EndGives base u x tree ended found new → IsLevel new
    end-level u x tree (end.Value v) found new row = record {
      aheads = λ n. ap (named n) (ap (λ (s : Shared). s.aheads) row.others ∙ same.0) ∙ level.aheads n;
      taken = λ a. row.sends.taken a ∙ ap (option_map (settle_one (same_name tree.root))) (ap (named a) same.1 ∙ level.taken a);
    }
    end-level u x tree (end.Fault failed at) found new row = ends base u _ found new same row
    end-level u x tree end.Spent found new row = ends base u _ found new same row

    root-level : (u : Name) (x : Unit) (task : Name) (tree : Attempt) (ended : TaskEnd) (found : Given) (new : Shared) → RootGives base u x task tree ended found new → IsLevel new
    root-level u x task tree ended found new (tasks.valid level unchanged row) = end-level u x tree ended found new row
    root-level u x task tree ended found new (tasks.conflicts level row) = aborts u x tree row.ref _ found new row.aborts
    root-level u x task tree ended found new (tasks.waits row) = still new (ap (λ (s : Shared). s.aheads) row.marked.others ∙ same.0) (ap (λ (s : Shared). s.taken) row.marked.others ∙ same.1)

    step-level : (u : Name) (x : Unit) (task : Name) (tree : Attempt) (went : Stepped) (found : Given) (new : Shared) → StepGives base u x task tree went found new → IsLevel new
    step-level u x task tree stepped.Now found new row = still new (ap (λ (s : Shared). s.aheads) row.1.others ∙ same.0) (ap (λ (s : Shared). s.taken) row.1.others ∙ same.1)
    step-level u x task tree (stepped.Forked child) found new row = still new (ap (λ (s : Shared). s.aheads) row.1.steps.others ∙ same.0) (ap (λ (s : Shared). s.taken) row.1.steps.others ∙ same.1)
    step-level u x task tree (stepped.WaitJoin future) found new row = still new (ap (λ (s : Shared). s.aheads) row.1.others ∙ same.0) (ap (λ (s : Shared). s.taken) row.1.others ∙ same.1)
    step-level u x task tree (stepped.NotInSnapshot ref) found new row = on (newest (versions_of base.versions ref)) row
      where
        on : (version : Option Version) → Missing base u x task tree ref version found new → IsLevel new
        on None row = still new (ap (λ (s : Shared). s.aheads) row.marked.others ∙ same.0) (ap (λ (s : Shared). s.taken) row.marked.others ∙ same.1)
        on (Some version) row = aborts u x tree ref _ found new row
    step-level u x task tree stepped.Finished found new row = still new (ap (λ (s : Shared). s.aheads) row.1.others ∙ same.0) (ap (λ (s : Shared). s.taken) row.1.others ∙ same.1)

    after-level : (u : Name) (x : Unit) (task : Name) (tree : Attempt) (went : Stepped) (ended : Option TaskEnd) (found : Given) (new : Shared) → AfterStep base u x task tree went ended found new → IsLevel new
    after-level u x task tree went None found new row = step-level u x task tree went found new row
    after-level u x task tree went (Some ended) found new row = root-level u x task tree ended found new row

  task-level : (u : Name) (x : Unit) (task : Name) (tree : Attempt) (ended : Option TaskEnd) (machine : Option Evaluation) (found : Given) (new : Shared) → TaskGives old u x task tree ended machine found new → IsLevel new
  task-level u x task tree None (Some machine) found new row = after-level _ (ap (λ (s : Shared). s.aheads) (posting-rest old row.mid posted), ap (λ (s : Shared). s.taken) (posting-rest old row.mid posted)) u x task row.by.after row.by.went _ found new row.comes
    where
      posted : IsPosting old row.mid
      posted = step-posting (end_at row.by.after) (named u old.aheads) old u tree.root (sends_in (done_by_root tree)) (sends_in row.by.more) row.mid row.posts
  task-level u x task tree None None found new row = absurd row
  task-level u x task tree (Some ended) machine found new row = root-level old (refl, refl) u x task tree ended found new row

  -- what an actor comes to
  actor-level : (a : Name) (actor : ActorState) (m : Message) (rest : List Message) (behaviour : Behaviour) (full : Bool) (found : Given) (new : Shared) → TakesIfAllowed old a actor m rest behaviour full found new → IsLevel new
  actor-level a actor m rest behaviour true found new row = ends-by old (Take a m.sender) _ found new (refl, refl) row
  actor-level a actor m rest behaviour false found new row = still new (ap (λ (s : Shared). s.aheads) row.others) (ap (λ (s : Shared). s.taken) row.others)

  -- so it is for each piece
  pub none-comes : (name : Name) (found : Given) (new : Shared) → PieceGave old name found new → IsLevel new
  none-comes name found new (giving.unit g) = unit-level name g.unit (next_of old.setup (unit_state g.unit)) found new g.gives
  none-comes name found new (giving.task g) = task-level g.owner g.unit name g.tree _ _ found new g.gives
  none-comes name found new (giving.actor g) = actor-level name g.actor.state g.first g.rest g.can.behaviour _ found new g.gives
