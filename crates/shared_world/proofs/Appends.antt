-- What a result that is given back appends to the history.
use Rattle.std.proofs.Common.{◌≡◌, ◌∙◌, ◌++◌, ◌∷◌, ◌==◌, [], ℕ, List, Bool, true, false, Option, None, Some, refl, sym, ap, append-nil}
use Rattle.actor_mailbox.specs.declared.message.Message.{Message}
use Rattle.core_syntax.specs.declared.behaviour.Behaviour.{Behaviour}
use Rattle.eval_step.specs.Evaluation.{Evaluation}
use Rattle.ref_store.specs.declared.version.Version.{Version}
use Rattle.ref_store.specs.Store.{versions_of}
use Rattle.ref_store.specs.Version.{newest}
use Rattle.serial_model.specs.declared.actor_state.ActorState.{ActorState}
use Rattle.serial_model.specs.declared.end.End.{End}
use Rattle.serial_model.specs.declared.entry.Entry.{Entry}
use Rattle.serial_model.specs.declared.entry.Entry.TheVariants.{Run, Take}
use Rattle.serial_model.specs.declared.halt.Halt.{Halt}
use Rattle.serial_model.specs.declared.halt.Halt.TheVariants as halt
use Rattle.serial_model.specs.declared.request.Request.TheVariants as request
use Rattle.serial_model.specs.State.{UnitState}
use Rattle.shared_world.proofs.LeadsDo as led
use Rattle.shared_world.proofs.LeadsDo.{IsLed}
use Rattle.shared_world.proofs.Posting.{IsPosting, step-posting, posting-rest}
use Rattle.shared_world.specs.declared.given.Given.{Given}
use Rattle.shared_world.specs.declared.given.Given.TheVariants as given
use Rattle.shared_world.specs.Later.{Appends, settled_by}
use Rattle.shared_world.specs.rows.Undoing.{Aborts}
use Rattle.shared_world.specs.rows.Pieces.{Ends, EndsBy, Settles}
use Rattle.shared_world.specs.rows.Sending.{sends_in}
use Rattle.shared_world.specs.rows.Tasks as tasks
use Rattle.shared_world.specs.rows.Tasks.{AfterStep, Conflicts, EndGives, IsMarkedTask, Missing, RootGives, StepGives, TaskGives}
use Rattle.shared_world.specs.rows.Turns.{TakesIfAllowed}
use Rattle.shared_world.specs.rows.Units.{Becomes, Derefs, Finishes, ForksIfAllowed, Joins, Selves, Tries, UnitGives}
use Rattle.shared_world.specs.Seen.{done_by_root}
use Rattle.shared_world.specs.Shared.{Shared, actor_of, finished_at, ref_now}
use Rattle.task_fork_join.specs.Attempt.{Attempt, end_at}
use Rattle.task_fork_join.specs.declared.stepped.Stepped.{Stepped}
use Rattle.task_fork_join.specs.declared.stepped.Stepped.TheVariants as stepped
use Rattle.task_fork_join.specs.declared.task_end.TaskEnd.{TaskEnd}
use Rattle.task_fork_join.specs.declared.task_end.TaskEnd.TheVariants as end
use Rattle.unit_table.specs.declared.unit.Unit.{Unit}
use Rattle.value_core.specs.declared.value.Value.{Value}
use Rattle.value_core.specs.Named.{Name, named, with_named}

-- nothing is settled, and the history stays
pub stays : (old new : Shared) (found : Given) → settled_by found ≡ [] → new.setup ≡ old.setup → new.history ≡ old.history → Appends (settled_by found) old new
stays old new found none setup history = record {
  setup = setup;
  history = history ∙ sym (append-nil old.history) ∙ ap (λ es. old.history ++ es) (sym none);
}

-- an entry is settled and appended
adds : (old new : Shared) (found : Given) (entry : Entry) → found ≡ given.Settled entry → new.setup ≡ old.setup → new.history ≡ old.history ++ entry ∷ [] → Appends (settled_by found) old new
adds old new found entry is setup history = record {
  setup = setup;
  history = history ∙ ap (λ es. old.history ++ es) (sym (ap settled_by is));
}

module _ (old : Shared) where
  settles : (base : Shared) (u : Name) (x : Unit) (after : UnitState) (found : Given) (new : Shared) → base.setup ≡ old.setup → base.history ≡ old.history
      → Settles base u x after found new → Appends (settled_by found) old new
  settles base u x after found new setup history row =
      adds old new found (Run u) row.found_is (ap (λ (s : Shared). s.setup) row.others ∙ setup) (ap (λ (s : Shared). s.history) row.others ∙ ap (λ es. es ++ Run u ∷ []) history)

  ends-by : (base : Shared) (entry : Entry) (end : End) (found : Given) (new : Shared) → base.setup ≡ old.setup → base.history ≡ old.history → EndsBy base entry end found new → Appends (settled_by found) old new
  ends-by base entry end found new setup history row =
      adds old new found entry row.found_is (ap (λ (s : Shared). s.setup) row.others ∙ setup) (ap (λ (s : Shared). s.history) row.others ∙ ap (λ es. es ++ entry ∷ []) history)

  ends : (base : Shared) (u : Name) (end : End) (found : Given) (new : Shared) → base.setup ≡ old.setup → base.history ≡ old.history → Ends base u end found new → Appends (settled_by found) old new
  ends base u = ends-by base (Run u)

  -- what a unit comes to
  pub unit-gives : (u : Name) (x : Unit) (h : Halt) (found : Given) (new : Shared) → UnitGives old u x h found new → Appends (settled_by found) old new
  unit-gives u x (halt.Ask (request.Print text) at) found new row = settles _ u x _ found new refl refl row
  unit-gives u x (halt.Ask (request.NewRef v) at) found new row = settles _ u x _ found new refl refl row.settles
  unit-gives u x (halt.Ask (request.Deref ref) at) found new row = on (ref_now old.versions ref) row
    where
      on : (v : Option Value) → Derefs old u x v found new → Appends (settled_by found) old new
      on None row = absurd row
      on (Some v) row = settles old u x _ found new refl refl row
  unit-gives u x (halt.Ask (request.RefSet ref v) at) found new row = ends old u _ found new refl refl row
  unit-gives u x (halt.Ask (request.Fork body values) at) found new row = on (old.made == old.setup.limits.units) row
    where
      on : (full : Bool) → ForksIfAllowed old u x body values full found new → Appends (settled_by found) old new
      on true row = ends old u _ found new refl refl row
      on false row = settles _ u x _ found new refl refl row.settles
  unit-gives u x (halt.Ask (request.Join future) at) found new row = on (finished_at old.board future) row
    where
      on : (v : Option Value) → Joins old u x future v found new → Appends (settled_by found) old new
      on None row = stays old new found (ap settled_by row.found_is) (ap (λ (s : Shared). s.setup) row.others) (ap (λ (s : Shared). s.history) row.others)
      on (Some v) row = settles old u x _ found new refl refl row
  unit-gives u x (halt.Ask (request.Dosync body values) at) found new row = on (named u old.attempts) row
    where
      on : (tree : Option Attempt) → Tries old u x body values at tree found new → Appends (settled_by found) old new
      on None row = stays old new found (ap settled_by row.found_is) (ap (λ (s : Shared). s.setup) row.others) (ap (λ (s : Shared). s.history) row.others)
      on (Some tree) row = absurd row
  unit-gives u x (halt.Ask (request.Spawn behaviour state) at) found new row = settles _ u x _ found new refl refl row.settles
  unit-gives u x (halt.Ask (request.Send to args) at) found new row = settles _ u x _ found new refl refl row.settles
  unit-gives u x (halt.Ask (request.Become behaviour state) at) found new row = on (actor_of x.kind) row
    where
      on : (actor : Option Name) → Becomes old u x behaviour state at actor found new → Appends (settled_by found) old new
      on None row = ends old u _ found new refl refl row
      on (Some actor) row = settles old u x _ found new refl refl row
  unit-gives u x (halt.Ask request.SelfActor at) found new row = on (actor_of x.kind) row
    where
      on : (actor : Option Name) → Selves old u x at actor found new → Appends (settled_by found) old new
      on None row = ends old u _ found new refl refl row
      on (Some actor) row = settles old u x _ found new refl refl row
  unit-gives u x (halt.Value v) found new row = on (actor_of x.kind) row
    where
      on : (actor : Option Name) → Finishes old u x v actor found new → Appends (settled_by found) old new
      on None row = settles old u x _ found new refl refl row
      on (Some actor) row = settles _ u x _ found new refl refl row.settles
  unit-gives u x (halt.Fault failed at) found new row = ends old u _ found new refl refl row
  unit-gives u x halt.Spent found new row = ends old u _ found new refl refl row

  -- what a task comes to, where the world is the same but for its attempts
  module _ (base : Shared) (setup : base.setup ≡ old.setup) (history : base.history ≡ old.history) where
    aborts : (u : Name) (x : Unit) (tree : Attempt) (ref : Name) (version : ℕ) (found : Given) (new : Shared) → Aborts base u x tree ref version found new → Appends (settled_by found) old new
    aborts u x tree ref version found new row =
        stays old new found (ap settled_by row.found_is) (ap (λ (s : Shared). s.setup) row.undoes.others ∙ setup) (ap (λ (s : Shared). s.history) row.undoes.others ∙ history)

    marked : (task : Name) (found : Given) (mid new : Shared) → settled_by found ≡ [] → mid.setup ≡ base.setup → mid.history ≡ base.history → new ≡ record mid { board = new.board } → Appends (settled_by found) old new
    marked task found mid new none same-setup same-history others =
        stays old new found none (ap (λ (s : Shared). s.setup) others ∙ same-setup ∙ setup) (ap (λ (s : Shared). s.history) others ∙ same-history ∙ history)

    end-gives : (u : Name) (x : Unit) (tree : Attempt) (ended : TaskEnd) (found : Given) (new : Shared) → EndGives base u x tree ended found new → Appends (settled_by found) old new
    end-gives u x tree (end.Value v) found new row =
        adds old new found (Run u) row.found_is (ap (λ (s : Shared). s.setup) row.others ∙ setup) (ap (λ (s : Shared). s.history) row.others ∙ ap (λ es. es ++ Run u ∷ []) history)
    end-gives u x tree (end.Fault failed at) found new row = ends base u _ found new setup history row
    end-gives u x tree end.Spent found new row = ends base u _ found new setup history row

    root-gives : (u : Name) (x : Unit) (task : Name) (tree : Attempt) (ended : TaskEnd) (found : Given) (new : Shared) → RootGives base u x task tree ended found new → Appends (settled_by found) old new
    root-gives u x task tree ended found new (tasks.valid level unchanged row) = end-gives u x tree ended found new row
    root-gives u x task tree ended found new (tasks.conflicts level row) = aborts u x tree row.ref _ found new row.aborts
    root-gives u x task tree ended found new (tasks.waits row) = marked task found base new (ap settled_by row.found_is) refl refl row.marked.others

    step-gives : (u : Name) (x : Unit) (task : Name) (tree : Attempt) (went : Stepped) (found : Given) (new : Shared) → StepGives base u x task tree went found new → Appends (settled_by found) old new
    step-gives u x task tree stepped.Now found new row = marked task found base new (ap settled_by row.0) refl refl row.1.others
    step-gives u x task tree (stepped.Forked child) found new row = marked task found (record base { owners = with_named base.owners child u; board = row.1.board }) new (ap settled_by row.0) refl refl row.1.steps.others
    step-gives u x task tree (stepped.WaitJoin future) found new row = marked task found base new (ap settled_by row.0) refl refl row.1.others
    step-gives u x task tree (stepped.NotInSnapshot ref) found new row = on (newest (versions_of base.versions ref)) row
      where
        on : (version : Option Version) → Missing base u x task tree ref version found new → Appends (settled_by found) old new
        on None row = marked task found base new (ap settled_by row.found_is) refl refl row.marked.others
        on (Some version) row = aborts u x tree ref _ found new row
    step-gives u x task tree stepped.Finished found new row = marked task found base new (ap settled_by row.0) refl refl row.1.others

    after-step : (u : Name) (x : Unit) (task : Name) (tree : Attempt) (went : Stepped) (ended : Option TaskEnd) (found : Given) (new : Shared) → AfterStep base u x task tree went ended found new
        → Appends (settled_by found) old new
    after-step u x task tree went None found new row = step-gives u x task tree went found new row
    after-step u x task tree went (Some ended) found new row = root-gives u x task tree ended found new row

  pub task-gives : (u : Name) (x : Unit) (task : Name) (tree : Attempt) (ended : Option TaskEnd) (machine : Option Evaluation) (found : Given) (new : Shared) → TaskGives old u x task tree ended machine found new
      → Appends (settled_by found) old new
  task-gives u x task tree None (Some machine) found new row =
      after-step (record row.mid { attempts = with_named row.mid.attempts u row.by.after }) (ap (λ (s : Shared). s.setup) (posting-rest old row.mid p)) (ap (λ (s : Shared). s.history) (posting-rest old row.mid p)) u x task row.by.after row.by.went (end_at row.by.after) found new row.comes
    where
      p : IsPosting old row.mid
      p = step-posting (end_at row.by.after) (named u old.aheads) old u tree.root (sends_in (done_by_root tree)) (sends_in row.by.more) row.mid row.posts
  task-gives u x task tree None None found new row = absurd row
  task-gives u x task tree (Some ended) machine found new row = root-gives old refl refl u x task tree ended found new row

  -- what an actor comes to
  pub actor-gives : (a : Name) (actor : ActorState) (m : Message) (rest : List Message) (behaviour : Behaviour) (full : Bool) (found : Given) (new : Shared) → TakesIfAllowed old a actor m rest behaviour full found new
      → Appends (settled_by found) old new
  actor-gives a actor m rest behaviour true found new row = ends-by old (Take a m.sender) _ found new refl refl row
  actor-gives a actor m rest behaviour false found new row = adds old new found (Take a m.sender) row.found_is (ap (λ (s : Shared). s.setup) row.others) (ap (λ (s : Shared). s.history) row.others)

-- what a turn comes to that runs ahead, and where one is begun
pub led-appends : (old : Shared) (found : Given) (new : Shared) → IsLed old found new → Appends (settled_by found) old new
led-appends old found new (led.settled entry is setup history attempts) = adds old new found entry is setup history
led-appends old found new (led.stays other is none not_undone setup history attempts) = stays old new found (ap settled_by is ∙ none) setup history
led-appends old found new (led.begun u x m body values at none r) = stays old new found (ap settled_by r.found_is) (ap (λ (s : Shared). s.setup) r.others) (ap (λ (s : Shared). s.history) r.others)
