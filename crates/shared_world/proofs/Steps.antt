-- A step of a task keeps what is kept standing.
use Rattle.std.proofs.Common.{◌≡◌, ◌∙◌, ◌≤◌, Bool, true, false, cond, length, le_refl, List, ◌++◌, refl, sym, ap, subst}
use Rattle.std.specs.Option.{option_and_then}
use Rattle.std.specs.Prelude.{Option, None, Some, IfSome}
use Rattle.core_syntax.specs.WellFormed.{IsWellFormed}
use Rattle.eval_step.specs.Evaluation.{Evaluation, IsOf, IsSame}
use Rattle.ref_store.specs.declared.version.Version.{Version}
use Rattle.serial_model.proofs.evaluation.Carries.{ask-is-there}
use Rattle.serial_model.specs.declared.effect.Effect.{Effect}
use Rattle.serial_model.specs.declared.halt.Halt.{Halt}
use Rattle.serial_model.specs.declared.halt.Halt.TheVariants as halt
use Rattle.serial_model.specs.declared.request.Request.{Request}
use Rattle.serial_model.specs.declared.request.Request.TheVariants as request
use Rattle.serial_model.specs.Carried.{IsThere}
use Rattle.serial_model.specs.Eval.{next}
use Rattle.serial_model.specs.Standing.{Start}
use Rattle.shared_world.proofs.Doing.{does-more, having_done}
use Rattle.shared_world.proofs.Gone.{SeenAs, seen-as}
use Rattle.shared_world.proofs.Live.{no-piece}
use Rattle.shared_world.proofs.ActorPieces.{SameActors, actor_of_piece, actors-put, actors-set}
use Rattle.shared_world.proofs.Standing.{owners-say-nothing, root-in, same-states, under-way}
use Rattle.shared_world.proofs.States.{SameStates, machines-put, task-put, task-set, tasks-set}
use Rattle.shared_world.specs.Returned.{halt_of}
use Rattle.shared_world.specs.rows.Tasks.{Forked, IsMarkedTask, outer_of}
use Rattle.shared_world.specs.Seen.{AttemptSeen, IsSeenAttempt, done_by_root, done_in}
use Rattle.shared_world.specs.Shared.{Shared, finished_at, is_going, state_at}
use Rattle.shared_world.specs.Stands.{IsMachine, IsUnderWay, Stands, start_of}
use Rattle.task_fork_join.proofs.Grown.{HasGrown, steps-grow}
use Rattle.task_fork_join.proofs.Steps.{steps_keep_runs}
use Rattle.task_fork_join.specs.Attempt.{Attempt, going, machine_at, machine_of}
use Rattle.task_fork_join.specs.declared.stepped.Stepped.{Stepped}
use Rattle.task_fork_join.specs.declared.task.Stage.{Stage as KeptStage}
use Rattle.task_fork_join.specs.declared.task.Stage.TheVariants as kept
use Rattle.task_fork_join.specs.declared.task.Task.{Task}
use Rattle.task_fork_join.specs.Running.{HasMachine, IsFinishedAs, IsMachine as IsTaskMachine, IsMove, IsRun, IsThereAt}
use Rattle.task_fork_join.specs.Step.{IsStep, Stays}
use Rattle.txn_snapshot.specs.SnapshotAnswer.{snapshot_of}
use Rattle.unit_table.specs.Board.{Board, actor_at}
use Rattle.unit_table.specs.declared.mark.Mark.{Mark}
use Rattle.unit_table.specs.declared.mark.Mark.TheVariants as mark
use Rattle.unit_table.specs.declared.mark.Work.TheVariants as work
use Rattle.unit_table.specs.declared.piece.Piece.TheVariants as piece
use Rattle.value_core.proofs.NamedLaws.{named-with_named, same_name-equal}
use Rattle.value_core.specs.declared.value.Value.{Value}
use Rattle.value_core.specs.Named.{Name, Named, named, same_name, with_named}
use Rattle.value_core.specs.Place.{Spot}
use Rattle.world_model.specs.rows.Attempts.{with_attempt}
use Rattle.world_model.specs.World as world
use Rattle.world_model.specs.World.{World}

-- a task that has not ended and has that machine
pub record GoesWith (tree : Attempt) (name : Name) (machine : Evaluation) : Type 0 where
  pub task : Task
  pub there : named name tree.tasks ≡ Some task
  pub keeps : machine_at task.stage ≡ Some machine

pub goes-with : (tree : Attempt) (name : Name) (machine : Evaluation) → machine_of tree name ≡ Some machine → GoesWith tree name machine
goes-with tree name machine is = on (named name tree.tasks) refl is
  where
    on : (found : Option Task) → named name tree.tasks ≡ found → option_and_then going found ≡ Some machine → GoesWith tree name machine
    on None there e = cc
    on (Some t) there e = record { task = t; there = there; keeps = e }

-- the machine of a task that has not ended is one of its transaction
machine-of : (start : Start) (stage : KeptStage) (machine : Evaluation) → machine_at stage ≡ Some machine → HasMachine start stage → IsTaskMachine start machine
machine-of start (kept.Going m) machine e is = let same : m ≡ machine = cc in subst (IsTaskMachine start) same is
machine-of start (kept.Closing closing) machine e is = let same : closing.machine ≡ machine = cc in subst (IsTaskMachine start) same is.machine
machine-of start (kept.Ended ended) machine e is = cc

-- a body that is asked for is in the table
there-at : (start : Start) (h : Halt) → ((asked : Request) (at : Spot) → h ≡ halt.Ask asked at → IsThere start.program true asked) → IsThereAt start h
there-at start (halt.Ask asked at) all = all asked at refl
there-at start (halt.Value v) all = tt
there-at start (halt.Fault code at) all = tt
there-at start halt.Spent all = tt

-- the plain task that is asked for has that value
finished-as : (b : Board) (h : Halt) → IsFinishedAs (finished_at b) h (outer_of b h)
finished-as b (halt.Ask (request.Join f) at) = on (finished_at b f) refl
  where
    on : (found : Option Value) → finished_at b f ≡ found → IfSome found (λ v. finished_at b f ≡ Some v)
    on None e = tt
    on (Some v) e = e
finished-as b (halt.Ask (request.Print text) at) = tt
finished-as b (halt.Ask (request.NewRef v) at) = tt
finished-as b (halt.Ask (request.Deref ref) at) = tt
finished-as b (halt.Ask (request.RefSet ref v) at) = tt
finished-as b (halt.Ask (request.Fork body values) at) = tt
finished-as b (halt.Ask (request.Dosync body values) at) = tt
finished-as b (halt.Ask (request.Spawn n args) at) = tt
finished-as b (halt.Ask (request.Send a args) at) = tt
finished-as b (halt.Ask (request.Become n args) at) = tt
finished-as b (halt.Ask request.SelfActor at) = tt
finished-as b (halt.Value v) = tt
finished-as b (halt.Fault code at) = tt
finished-as b halt.Spent = tt

-- an attempt, once a task of it has taken a step
module _ (old : Shared) (formed : IsWellFormed old.setup.program) (u task : Name) (tree : Attempt) (way : IsUnderWay old u tree) where
  abbrev start : Start
  start = start_of old.setup u way.unit way.body way.values

  module _ (machine moved : Evaluation) (is : machine_of tree task ≡ Some machine) (same : IsSame machine moved) (of : IsOf old.setup.program moved) where
    abbrev halts : Halt
    halts = halt_of old.setup.program machine

    with_machine : GoesWith tree task machine
    with_machine = goes-with tree task machine is

    member : IsTaskMachine start machine
    member = machine-of start with_machine.task.stage machine with_machine.keeps (way.runs.members task with_machine.task with_machine.there).machine

    stops : next old.setup.program moved.body moved.values true moved.answers old.setup.limits.fuel ≡ next old.setup.program machine.body machine.values machine.inside machine.answers machine.fuel
    stops =
        let body : moved.body ≡ machine.body = same.task.body in
        let values : moved.values ≡ machine.values = same.task.values in
        let answers : moved.answers ≡ machine.answers = same.answers in
        let inside : machine.inside ≡ true = member.inside in
        let fuel : machine.fuel ≡ old.setup.limits.fuel = member.fuel in cc

    moves : IsMove start moved halts
    moves = record {
      machine = record { inside = same.task.inside ∙ member.inside; fuel = same.task.fuel ∙ member.fuel; of = of };
      halts_so = stops;
      there = there-at start halts (λ asked at e. ask-is-there old.setup.program formed moved.body moved.values true moved.answers old.setup.limits.fuel asked at (stops ∙ e));
    }

    module _ (after : Attempt) (went : Stepped) (step : IsStep (snapshot_of old.versions tree.snapshot) task moved (outer_of old.board halts) halts tree after went) where
      abbrev base : Shared
      base = record old { attempts = with_named old.attempts u after }

      -- it is under way
      pub step-way : IsUnderWay base u after
      step-way = record {
        unit = way.unit;
        there = way.there;
        body = way.body;
        values = way.values;
        at = way.at;
        asks = way.asks;
        runs = subst (λ n. IsRun start way.at (snapshot_of old.versions n) (finished_at old.board) after) (sym step.stays.snapshot)
            (steps_keep_runs start way.at (snapshot_of old.versions tree.snapshot) (finished_at old.board) (snapshot_of old.versions tree.snapshot) tree after task moved (outer_of old.board halts) halts went
            way.runs (record { task = with_machine.task; there = with_machine.there; machine = machine; going = with_machine.keeps; same = same }) moves (finished-as old.board halts) (λ ref. refl) step);
        within = subst (λ n. n ≤ length old.history) (sym step.stays.snapshot) way.within;
      }

      abbrev root : (t : Task) × (named tree.root tree.tasks ≡ Some t)
      root = root-in old u tree way

      -- its root is there, and has done no less
      pub step-grown : HasGrown after.tasks tree.root root.0
      step-grown = steps-grow (snapshot_of old.versions tree.snapshot) task moved (outer_of old.board halts) tree after went with_machine.task with_machine.there halts step.comes tree.root root.0 root.1

      pub done-so : done_by_root after ≡ done_by_root tree ++ step-grown.grown.more
      done-so = ap done_in (ap (λ n. named n after.tasks) step.stays.root ∙ step-grown.there) ∙ step-grown.grown.whole ∙ ap (λ es. es ++ step-grown.grown.more) (sym (ap done_in root.1))

-- what is seen of an attempt once its root has done these, and is not at its end
pub seen-stepped : (versions : Named (List Version)) (tree after : Attempt) (tried : world.Attempt) (es : List Effect) → Stays tree after → IsSeenAttempt versions tree tried → es ≡ done_by_root after → IsSeenAttempt versions after (having_done tried es)
seen-stepped versions tree after tried es stays is done = record {
  root = is.root ∙ sym stays.root;
  snapshot = is.snapshot ∙ sym stays.snapshot;
  store = λ ref. is.store ref ∙ ap (λ n. snapshot_of versions n ref) (sym stays.snapshot);
  reads = is.reads;
  joined = is.joined;
  effects = done;
  ended = refl;
}

-- what is kept stands with that
module _ (old : Shared) (st : Stands old) (on_going : is_going old.end ≡ true) (u task : Name) (tree : Attempt) (there : named u old.attempts ≡ Some tree) (machine moved : Evaluation) (is : machine_of tree task ≡ Some machine) (same : IsSame machine moved)
    (of : IsOf old.setup.program moved) (after : Attempt) (went : Stepped) (step : IsStep (snapshot_of old.versions tree.snapshot) task moved (outer_of old.board (halt_of old.setup.program machine)) (halt_of old.setup.program machine) tree after went) where
  abbrev w : World
  w = st.world

  abbrev after_step : Shared
  after_step = record old { attempts = with_named old.attempts u after }

  abbrev way : IsUnderWay old u tree
  way = st.attempts on_going u tree there

  own : IsUnderWay after_step u after
  own = step-way old st.formed u task tree way machine moved is same of after went step

  -- what the root has done more
  abbrev more : List Effect
  more = (step-grown old st.formed u task tree way machine moved is same of after went step).grown.more

  tried : SeenAs old w u tree
  tried = seen-as old st on_going u tree there

  abbrev w2 : World
  w2 = with_attempt w u (having_done tried.tried (tried.tried.effects ++ more))

  seen : (v : Name) (c : Bool) → AttemptSeen old.versions (cond c (Some after) (named v old.attempts)) (cond c (Some (having_done tried.tried (tried.tried.effects ++ more))) (w.attempts v))
  seen v true = seen-stepped old.versions tree after tried.tried (tried.tried.effects ++ more) step.stays tried.is
      (ap (λ es. es ++ more) tried.is.effects ∙ sym (done-so old st.formed u task tree way machine moved is same of after went step))
  seen v false = st.seen.attempts on_going v

  -- the attempt has taken the step
  pub stepped : Stands after_step
  stepped = record {
    formed = st.formed;
    world = w2;
    is_world = does-more old.setup w st.is_world u tried.tried tried.there more;
    seen = record {
      history = st.seen.history;
      refs = st.seen.refs;
      units = st.seen.units;
      actors = st.seen.actors;
      taken = st.seen.taken;
      mails = st.seen.mails;
      attempts = λ go v. subst (λ f. AttemptSeen old.versions f (w2.attempts v)) (sym (named-with_named v u after old.attempts)) (seen v (same_name v u));
      bytes = st.seen.bytes;
      made = st.seen.made;
      end = st.seen.end;
    };
    machines = st.machines;
    attempts = λ go v other is_there. on v other (same_name v u) refl (sym (named-with_named v u after old.attempts) ∙ is_there);
    numbers = st.numbers;
    aheads = st.aheads;
  }
    where
      on : (v : Name) (other : Attempt) (c : Bool) → same_name v u ≡ c → cond c (Some after) (named v old.attempts) ≡ Some other → IsUnderWay after_step v other
      on v other true is_u e = let so : after ≡ other = cc in subst (λ q. IsUnderWay after_step q other) (sym (same_name-equal v u is_u)) (subst (IsUnderWay after_step u) so own)
      on v other false is_u e = under-way old after_step v other refl refl (λ ref. refl) (λ f val fin. fin) (le_refl (length old.history)) (st.attempts on_going v other e)

-- neither a unit nor an actor stands under the name
abbrev pub NeitherAt : Board → Name → Type 0
NeitherAt b name = (state_at b name ≡ None) × (actor_at b name ≡ None)

-- the mark of a task is nothing to the meaning
pub marked-task : (old : Shared) → Stands old → (task : Name) (m : Mark) (new : Shared) → NeitherAt old.board task → IsMarkedTask old task m new → Stands new
marked-task old st task m new none r = subst Stands (sym r.others)
    (same-states old st new.board (task-set task m old.board new.board none.0 r.set) (actors-set task (piece.Task m) m old.board new.board refl none.1 r.set) (tasks-set (IsMachine old.setup) task m old.board new.board r.set st.machines))

-- and so is a child that is forked
pub forked-task : (old : Shared) → Stands old → (u task child : Name) (new : Shared) → NeitherAt old.board task → Forked old u task child new → Stands new
forked-task old st u task child new none r =
    marked-task (record old { owners = with_named old.owners child u; board = r.board }) (owned (same-states old st r.board same same_actors (machines-put (IsMachine old.setup) child (Some (piece.Task (mark.Ready work.Eval))) old.board r.board (λ z e. cc) r.put st.machines))) task (mark.Ready work.Eval) new
    (same task ∙ none.0, same_actors task ∙ none.1) r.steps
  where
    same : SameStates old.board r.board
    same = task-put child (mark.Ready work.Eval) old.board r.board (no-piece old.board child r.none) r.put

    same_actors : SameActors old.board r.board
    same_actors = actors-put child (Some (piece.Task (mark.Ready work.Eval))) old.board r.board (sym (ap actor_of_piece r.none)) r.put

    owned : Stands (record old { board = r.board }) → Stands (record old { owners = with_named old.owners child u; board = r.board })
    owned stands = owners-say-nothing (record old { board = r.board }) (with_named old.owners child u) stands
