-- How the marks stay right, whatever a task comes to.
use Rattle.std.proofs.Common.{◌≡◌, ◌∙◌, ◌⊎◌, Bool, true, false, cond, inl, inr, refl, sym, ap, subst}
use Rattle.std.specs.Option.{option_and_then, option_map}
use Rattle.std.specs.Prelude.{ℕ, Option, None, Some, if◌then◌else◌, is_some}
use Rattle.actor_mails.specs.Mails.{SameMail, mail_at}
use Rattle.eval_step.specs.Evaluation.{Evaluation, IsSame}
use Rattle.ref_store.specs.declared.version.Version.{Version}
use Rattle.ref_store.specs.Store.{versions_of}
use Rattle.ref_store.specs.Version.{newest}
use Rattle.serial_model.specs.declared.halt.Halt.{Halt}
use Rattle.serial_model.specs.declared.halt.Halt.TheVariants as halt
use Rattle.serial_model.specs.declared.request.Request.TheVariants as request
use Rattle.serial_model.specs.Eval.{next}
use Rattle.serial_model.specs.State.{Setup, UnitState}
use Rattle.shared_world.proofs.ActorPieces.{actor_of_piece}
use Rattle.shared_world.proofs.Besides.{apart-of}
use Rattle.shared_world.proofs.Live.{unit-piece}
use Rattle.shared_world.proofs.MarkedActors.{NoneTaken}
use Rattle.shared_world.proofs.MarkedCommits.{commits-marked}
use Rattle.shared_world.proofs.MarkedGone.{marked-gone}
use Rattle.shared_world.proofs.MarkedSteps.{IsWithChild, forked-not, forked-so, forks_it, marked-step, none-by, says_ended}
use Rattle.shared_world.proofs.MarkedUnits.{ends-going}
use Rattle.shared_world.proofs.Marks.{AreMarkedBut, but-one, marked-set, still-ahead}
use Rattle.shared_world.proofs.MarkedBeside.{HasTasks, IsBase, beside, kept-base, same-tasks}
use Rattle.shared_world.proofs.Posting.{IsPosting, step-posting, posting-rest, posting-step, posting-task, posting-unit}
use Rattle.shared_world.proofs.Sending.{posted-by}
use Rattle.shared_world.proofs.Standing.{root-in}
use Rattle.shared_world.proofs.UndoesMarks.{undoes-marks}
use Rattle.shared_world.proofs.States.{task-set}
use Rattle.shared_world.proofs.Takings.{none-taken}
use Rattle.task_fork_join.proofs.StepShapes.{IsAfter, IsShaped, WaitsPlain, shaped}
use Rattle.shared_world.proofs.Steps.{goes-with}
use Rattle.task_fork_join.proofs.Waits.{KnowsGoing, WaitsAt, halts-same, no-close-misses, no-join-misses, waits-at}
use Rattle.shared_world.specs.declared.given.Given.{Given}
use Rattle.shared_world.specs.Gave.{GaveTask}
use Rattle.shared_world.specs.Marks as marks
use Rattle.shared_world.specs.Marks.{AreMarked, AreMarkedBeside, HangsOn, IsRunningAhead, IsTaskPiece, IsToCome, RootSays, TaskSays, TaskWaits, UnitSays}
use Rattle.shared_world.specs.Returned.{halt_of}
use Rattle.shared_world.specs.rows.Attempts.{AttemptGoes, TasksGo}
use Rattle.shared_world.specs.rows.Undoing.{Aborts}
use Rattle.shared_world.specs.Laws.{IsTried}
use Rattle.shared_world.specs.rows.Commits.{Commits}
use Rattle.shared_world.specs.rows.Pieces.{IsSet, task_gone}
use Rattle.shared_world.specs.rows.Tasks as row
use Rattle.shared_world.specs.rows.Tasks.{AfterStep, EndGives, IsMarkedTask, Missing, RootGives, StepGives, TaskGives, WaitsForTurn, outer_of}
use Rattle.shared_world.specs.rows.Sending.{sends_in}
use Rattle.shared_world.specs.Seen.{done_by_root}
use Rattle.task_fork_join.specs.Stepping.{is_missing}
use Rattle.shared_world.specs.Shared.{Shared, finished_at, finished_by, is_going, unit_state}
use Rattle.shared_world.specs.Stands.{IsUnderWay, Stands, start_of}
use Rattle.task_fork_join.specs.Attempt.{Attempt, end_at, end_by, end_of, going as going_at, machine_at, machine_of}
use Rattle.task_fork_join.specs.declared.stepped.Stepped.{Stepped}
use Rattle.task_fork_join.specs.declared.stepped.Stepped.TheVariants as stepped
use Rattle.task_fork_join.specs.declared.task.Closing.{Closing}
use Rattle.task_fork_join.specs.declared.task.Stage.{Stage}
use Rattle.task_fork_join.specs.declared.task.Stage.TheVariants as kept
use Rattle.task_fork_join.specs.declared.task.Task.{Task}
use Rattle.task_fork_join.specs.declared.task_end.TaskEnd.{TaskEnd}
use Rattle.task_fork_join.specs.declared.task_end.TaskEnd.TheVariants as end
use Rattle.task_fork_join.specs.Joining.{IsGoing, JoinsAt}
use Rattle.task_fork_join.specs.Running.{HasMachine}
use Rattle.task_fork_join.specs.Step.{Comes, IsStep}
use Rattle.txn_snapshot.specs.SnapshotAnswer.{snapshot_of}
use Rattle.unit_table.specs.Board.{Board, piece_at, unit_at}
use Rattle.unit_table.specs.declared.mark.Mark.{Mark}
use Rattle.unit_table.specs.declared.mark.Mark.TheVariants as mark
use Rattle.unit_table.specs.declared.mark.WaitOn.TheVariants as wait
use Rattle.unit_table.specs.declared.mark.Work.TheVariants as work
use Rattle.unit_table.specs.declared.piece.Piece.{Piece}
use Rattle.unit_table.specs.declared.piece.Piece.TheVariants as piece
use Rattle.unit_table.specs.declared.unit.Unit.{Unit as Doing}
use Rattle.unit_table.specs.Piece.{says_finished, unit_in}
use Rattle.value_core.proofs.NamedLaws.{named-here, named-with_named, same_name-equal, same_name-itself}
use Rattle.value_core.specs.declared.value.Value.{Value}
use Rattle.value_core.specs.declared.value.Value.TheVariants as value
use Rattle.task_fork_join.specs.Knowledge.{is_known}
use Rattle.value_core.specs.Named.{Name, named, same_name, with_named}
use Rattle.value_core.specs.Place.{Spot}

going-open : (s : Stage) → IsGoing s → end_of s ≡ None
going-open (kept.Going machine) is = refl
going-open (kept.Closing closing) is = refl
going-open (kept.Ended ended) is = absurd is

-- a task whose machine is kept has not ended
keeps-going : (s : Stage) (machine : Evaluation) → machine_at s ≡ Some machine → IsGoing s
keeps-going (kept.Going m) machine e = tt
keeps-going (kept.Closing closing) machine e = tt
keeps-going (kept.Ended ended) machine e = cc

-- all else stays where an attempt is gone
record IsLeftSo (base new : Shared) : Type 0 where
  setup : new.setup ≡ base.setup
  owners : new.owners ≡ base.owners
  aheads : new.aheads ≡ base.aheads
  taken : new.taken ≡ base.taken
  mails : SameMail base.mails new.mails

-- so it is where but the pieces are the same
left-same : (base new : Shared) → new ≡ record base { board = new.board } → IsLeftSo base new
left-same base new rest = record {
  setup = ap (λ (s : Shared). s.setup) rest;
  owners = ap (λ (s : Shared). s.owners) rest;
  aheads = ap (λ (s : Shared). s.aheads) rest;
  taken = ap (λ (s : Shared). s.taken) rest;
  mails = λ a. ap (λ (s : Shared). mail_at s.mails a) rest;
}

module _ (old : Shared) (marked : AreMarked old) (u : Name) (x : Doing) (tree after : Attempt) (unit_there : unit_at old.board u ≡ Some x) (there : named u old.attempts ≡ Some tree) (tasks : HasTasks old u tree after) (base : Shared) (is_base : IsBase old u after base) where
  -- the attempt is gone
  gone : (new : Shared) (y : Doing) → AttemptGoes base u y after new → IsLeftSo base new → finished_by y.mark ≡ None → (named u new.attempts ≡ None → UnitSays new u y y.mark) → AreMarked new
  gone new y goes left_so unfinished says = marked-gone old new marked u x y tree after unit_there there (record {
    setup = left_so.setup ∙ is_base.setup;
    owners = left_so.owners ∙ is_base.owners;
    aheads = left_so.aheads ∙ is_base.aheads;
    taken = left_so.taken ∙ is_base.taken;
    attempts = left;
    tasks = subst (λ (b : Board). TasksGo u y after b new.board) is_base.board goes.tasks;
    mails = λ a. left_so.mails a ∙ ap (λ m. mail_at m a) is_base.mails;
    only = tasks.only;
    all = tasks.all;
    unfinished = unfinished;
    says = says (left u ∙ ap (λ c. cond c None (named u old.attempts)) (same_name-itself u));
  })
    where
      left : (v : Name) → named v new.attempts ≡ cond (same_name v u) None (named v old.attempts)
      left v = goes.attempts v ∙ on (same_name v u) (is_base.attempts v)
        where
          on : (c : Bool) → named v base.attempts ≡ cond c (Some after) (named v old.attempts) → cond c None (named v base.attempts) ≡ cond c None (named v old.attempts)
          on true e = refl
          on false e = e

  aborts : IsTried base u x after → (ref : Name) (version : ℕ) (found : Given) (new : Shared) → Aborts base u x after ref version found new → AreMarked new
  aborts tried ref version found new r = undoes-marks base new u x after tried (beside old marked u tree after there tasks base is_base) r.undoes

  -- the attempt is gone, and then its effects are there
  commits : NoneTaken base → (v : Value) (found : Given) (new : Shared) → Commits base u x after v found new → AreMarked new
  commits none_taken v found new r = commits-marked u r.log.log.effects after base left new left-marked refl refl refl refl (ap (λ (s : Shared). s.aheads) r.others) refl refl r.acts r.sends nothing none_taken
    where
      left : Shared
      left = record new { board = r.board; mails = base.mails; taken = base.taken }

      left-marked : AreMarked left
      left-marked = gone left r.unit (record { attempts = r.goes.attempts; tasks = r.goes.tasks }) (record {
        setup = ap (λ (s : Shared). s.setup) r.others;
        owners = ap (λ (s : Shared). s.owners) r.others;
        aheads = ap (λ (s : Shared). s.aheads) r.others;
        taken = refl;
        mails = λ a. refl;
      }) (ap finished_by r.stands.mark) (λ none. subst (λ m. UnitSays left u r.unit m) (sym r.stands.mark) none)

      nothing : (a : Name) → piece_at base.board a ≡ None → piece_at r.board a ≡ None
      nothing a none = r.goes.tasks.others a other ∙ ap (λ found. cond (is_some (named a after.tasks)) (task_gone found) found) none ∙ still (is_some (named a after.tasks))
        where
          other : a ≡ u → ⊥
          other same = let no : None ≡ Some (piece.Unit x) = sym none ∙ ap (piece_at base.board) same ∙ ap (λ (b : Board). piece_at b u) is_base.board ∙ unit-piece old.board u x unit_there in cc

          still : (c : Bool) → cond c (task_gone None) None ≡ None
          still true = refl
          still false = refl

  ends : NoneTaken base → (ended : TaskEnd) (found : Given) (new : Shared) → is_going new.end ≡ true → EndGives base u x after ended found new → AreMarked new
  ends none_taken (end.Value v) found new on_going r = commits none_taken v found new r
  ends none_taken (end.Fault failed at) found new on_going r = absurd (ends-going base _ _ found new r on_going)
  ends none_taken end.Spent found new on_going r = absurd (ends-going base _ _ found new r on_going)

  pub roots : IsTried base u x after → (task : Name) (found : Given) (new : Shared) → (WaitsForTurn base u task found new → AreMarked new) → NoneTaken base → (ended : TaskEnd) → is_going new.end ≡ true → RootGives base u x task after ended found new → AreMarked new
  roots tried task found new waits none_taken ended on_going (row.valid level unchanged gives) = ends none_taken ended found new on_going gives
  roots tried task found new waits none_taken ended on_going (row.conflicts level c) = aborts tried c.ref c.conflict.version found new c.aborts
  roots tried task found new waits none_taken ended on_going (row.waits r) = waits r

-- a task of an attempt takes a step, whatever comes of it
module _ (old : Shared) (marked : AreMarked old) (u task : Name) (x : Doing) (tree : Attempt) (m : Mark) (at_task : piece_at old.board task ≡ Some (piece.Task m)) (of : named task old.owners ≡ Some u)
    (unit_there : unit_at old.board u ≡ Some x) (there : named u old.attempts ≡ Some tree) (before : end_at tree ≡ None) (machine moved : Evaluation) (is : machine_of tree task ≡ Some machine) (same : IsSame machine moved) (after : Attempt) (went : Stepped)
    (step : IsStep (snapshot_of old.versions tree.snapshot) task moved (outer_of old.board (halt_of old.setup.program machine)) (halt_of old.setup.program machine) tree after went)
    (st : Stands (record old { attempts = with_named old.attempts u after })) (going : is_going old.end ≡ true) where
  abbrev h : Halt
  h = halt_of old.setup.program machine

  abbrev outer : Option Value
  outer = outer_of old.board h

  in_tree : (t : Task) × (named task tree.tasks ≡ Some t)
  in_tree = let it = goes-with tree task machine is in (it.task, it.there)

  shape : IsShaped tree.tasks task outer h went after.tasks
  shape = shaped _ task moved outer tree after went in_tree.0 in_tree.1 h step.comes

  -- where the task is after the step
  is-after : (w : Stepped) → went ≡ w → IsAfter tree.tasks outer h w shape.after
  is-after w so = subst (λ k. IsAfter tree.tasks outer h k shape.after) so shape.is

  -- it goes on, unless the step ends it
  goes-on : (w : Stepped) → went ≡ w → says_ended w ≡ false → IsGoing shape.after.stage
  goes-on stepped.Now so e = is-after stepped.Now so
  goes-on (stepped.Forked child) so e = is-after (stepped.Forked child) so
  goes-on (stepped.WaitJoin f) so e = (is-after (stepped.WaitJoin f) so).0
  goes-on (stepped.NotInSnapshot ref) so e = is-after (stepped.NotInSnapshot ref) so
  goes-on stepped.Finished so e = cc

  -- then the root, which was not at its end, is not at its end
  not-ended : (w : Stepped) → went ≡ w → says_ended w ≡ false → (ended : TaskEnd) → end_at after ≡ Some ended → ⊥
  not-ended w so still ended is = on (same_name tree.root task) refl
    where
      -- how the root ended, as it is found
      ended-by : (found : Option Task) → named tree.root after.tasks ≡ found → end_by after.escape (option_and_then (λ (t : Task). end_of t.stage) found) ≡ Some ended
      ended-by found e = ap (λ o. end_by after.escape (option_and_then (λ (t : Task). end_of t.stage) o)) (sym (ap (λ q. named q after.tasks) step.stays.root ∙ e)) ∙ is

      goes : (t : Task) → named tree.root after.tasks ≡ Some t → IsGoing t.stage → ⊥
      goes t e going = let no : None ≡ Some ended = sym (ap (end_by after.escape) (going-open t.stage going)) ∙ ended-by (Some t) e in cc

      elsewhere : (tree.root ≡ task → ⊥) → (c : Bool) → forks_it went tree.root ≡ c → ⊥
      elsewhere other true f = let begun = shape.child tree.root (forked-so went tree.root f) other in goes begun.task begun.there begun.going
      elsewhere other false f =
          let inner : option_and_then (λ (t : Task). end_of t.stage) (named tree.root tree.tasks) ≡ None = none-by tree.escape (option_and_then (λ (t : Task). end_of t.stage) (named tree.root tree.tasks)) before in
          let no : None ≡ Some ended = sym (ap (end_by after.escape) inner) ∙ ended-by (named tree.root tree.tasks) (shape.others tree.root other (forked-not went tree.root f)) in cc

      on : (c : Bool) → same_name tree.root task ≡ c → ⊥
      on true f = goes shape.after (ap (λ q. named q after.tasks) (same_name-equal tree.root task f) ∙ shape.here) (goes-on w so still)
      on false f = elsewhere (apart-of tree.root task f) (forks_it went tree.root) refl

  -- where the root is at its end now, no child was forked
  no-fork : (ended : TaskEnd) → end_at after ≡ Some ended → (n : Name) → forks_it went n ≡ false
  no-fork ended is n = on (forks_it went n) refl
    where
      on : (c : Bool) → forks_it went n ≡ c → forks_it went n ≡ false
      on false e = e
      on true e = absurd (not-ended (stepped.Forked n) (forked-so went n e) refl ended is)

  has-tasks : ((n : Name) → forks_it went n ≡ false) → HasTasks old u tree after
  has-tasks none = record {
    root = step.stays.root;
    only = λ n t e. only n t (same_name n task) refl e;
    all = λ n k e. all n k (same_name n task) refl e;
  }
    where
      only : (n : Name) (t : Task) (c : Bool) → same_name n task ≡ c → named n after.tasks ≡ Some t → ((k : Task) × (named n tree.tasks ≡ Some k)) ⊎ (piece_at old.board n ≡ None)
      only n t true e is = inl (in_tree.0, ap (λ q. named q tree.tasks) (same_name-equal n task e) ∙ in_tree.1)
      only n t false e is = inl (t, sym (shape.others n (apart-of n task e) (forked-not went n (none n))) ∙ is)

      all : (n : Name) (k : Task) (c : Bool) → same_name n task ≡ c → named n tree.tasks ≡ Some k → (t : Task) × (named n after.tasks ≡ Some t)
      all n k true e is = (shape.after, ap (λ q. named q after.tasks) (same_name-equal n task e) ∙ shape.here)
      all n k false e is = (k, shape.others n (apart-of n task e) (forked-not went n (none n)) ∙ is)

  abbrev base : Shared
  base = record old { attempts = with_named old.attempts u after }

  tried : IsTried base u x after
  tried = record { stands = st; going = going; there = unit_there; attempt = named-here u after old.attempts }

  attempt-of : (v : Name) → named v base.attempts ≡ cond (same_name v u) (Some after) (named v old.attempts)
  attempt-of v = named-with_named v u after old.attempts

  is-base : IsBase old u after base
  is-base = record { attempts = attempt-of; board = refl; mails = refl; owners = refl; aheads = refl; taken = refl; setup = refl }

  finished-none : (b : Board) (k : Mark) → piece_at b task ≡ Some (piece.Task k) → finished_at b task ≡ None
  finished-none b k e = ap (λ p. option_and_then (λ (k : UnitState). k.finished) (option_map unit_state (option_and_then unit_in p))) e

  -- a root that is at its end is no task that ends without it
  no-root : (s : Shared) → ((v : Name) → named v s.attempts ≡ cond (same_name v u) (Some after) (named v old.attempts)) → end_at after ≡ None → (end_of shape.after.stage ≡ None → ⊥)
      → (v : Name) (some : Attempt) → named v s.attempts ≡ Some some → some.root ≡ task → ⊥
  no-root s attempts unended ended v some at root = on (same_name v u) refl
    where
      on : (c : Bool) → same_name v u ≡ c → ⊥
      on true e =
          let both : Some after ≡ Some some = sym (attempts v ∙ ap (λ c. cond c (Some after) (named v old.attempts)) e) ∙ at in
          let same : after ≡ some = cc in
          let here : named after.root after.tasks ≡ Some shape.after = ap (λ q. named q after.tasks) (ap (λ (a : Attempt). a.root) same ∙ root) ∙ shape.here in
          ended (none-by after.escape (end_of shape.after.stage) (sym (ap (λ o. end_by after.escape (option_and_then (λ (t : Task). end_of t.stage) o)) here) ∙ unended))
      on false e =
          let was = sym (attempts v ∙ ap (λ c. cond c (Some after) (named v old.attempts)) e) ∙ at in
          let in_it = root-in base v some (st.attempts going v some (named-with_named v u after old.attempts ∙ ap (λ c. cond c (Some after) (named v old.attempts)) e ∙ was)) in
          let has = marked.pieces v some was some.root in_it.0 in_it.1 in
          let both : Some u ≡ Some v = sym of ∙ ap (λ q. named q old.owners) (sym root) ∙ has.of in
          let same : u ≡ v = cc in
          apart-of v u e (sym same)

  -- the task has the mark, in what is kept with the step
  sets : (new s : Shared) (k : Mark) → IsSet task (piece.Task k) k s.board new.board → new.attempts ≡ s.attempts → IsLeftSo s new
      → ((v : Name) → named v s.attempts ≡ cond (same_name v u) (Some after) (named v old.attempts)) → named task s.owners ≡ Some u → AreMarkedBut task (says_finished k) s
      → (says_finished k ≡ true → (v : Name) (some : Attempt) → named v s.attempts ≡ Some some → some.root ≡ task → ⊥)
      → HangsOn u k → (end_at after ≡ None → TaskSays new u after.tasks shape.after k) → ((ended : TaskEnd) → end_at after ≡ Some ended → RootSays new u k) → AreMarked new
  sets new s k set attempts left_so at owned but roots hangs says decides = marked-set s new task (piece.Task k) k (record {
    set = set;
    setup = left_so.setup;
    attempts = attempts;
    owners = left_so.owners;
    aheads = λ v other. ap (named v) left_so.aheads;
    leads = still-ahead s new task (ap (named task) left_so.aheads);
    taken = left_so.taken;
    mails = left_so.mails;
    unfinished = λ e. finished-none new.board k set.here;
    no_root = roots;
    stays = λ j e. refl;
    unit = λ y e. cc;
    task = λ j e. let same : k ≡ j = cc in record {
      owner = u;
      of = ap (named task) left_so.owners ∙ owned;
      tree = after;
      attempt = ap (named u) attempts ∙ at u ∙ ap (λ c. cond c (Some after) (named u old.attempts)) (same_name-itself u);
      task = shape.after;
      among = shape.here;
      hangs = subst (HangsOn u) same hangs;
      says = λ unended. subst (λ q. TaskSays new u after.tasks shape.after q) same (says unended);
      decides = λ ended so at_root. subst (RootSays new u) same (decides ended so);
    };
    actor = λ a e. cc;
  }) but

  -- no child was forked
  no-child : (w : Stepped) → went ≡ w → ((n : Name) → forks_it w n ≡ false) → IsWithChild old u went base
  no-child w so none = record {
    setup = refl;
    pieces = λ n. sym (ap (λ c. cond c (Some (piece.Task (mark.Ready work.Eval))) (piece_at old.board n)) (ap (λ k. forks_it k n) so ∙ none n));
    owners = λ n. sym (ap (λ c. cond c (Some u) (named n old.owners)) (ap (λ k. forks_it k n) so ∙ none n));
    none = λ n e. let no : true ≡ false = sym e ∙ ap (λ k. forks_it k n) so ∙ none n in cc;
    aheads = refl;
    taken = refl;
    mails = λ a. refl;
  }

  stepped-base : (w : Stepped) → went ≡ w → ((n : Name) → forks_it w n ≡ false) → (ends : Bool) → (end_at after ≡ None → says_ended w ≡ true → ends ≡ true) → AreMarkedBut task ends base
  stepped-base w so none ends ends_so = marked-step old base marked u task tree after there before outer h went step.stays.root in_tree shape refl (no-child w so none) ends (λ unended e. ends_so unended (sym (ap says_ended so) ∙ e))

  marks-task : (new : Shared) (k : Mark) (w : Stepped) → went ≡ w → ((n : Name) → forks_it w n ≡ false) → (end_at after ≡ None → says_ended w ≡ true → says_finished k ≡ true) → IsMarkedTask base task k new
      → (says_finished k ≡ true → (v : Name) (some : Attempt) → named v base.attempts ≡ Some some → some.root ≡ task → ⊥) → HangsOn u k → (end_at after ≡ None → TaskSays new u after.tasks shape.after k) → ((ended : TaskEnd) → end_at after ≡ Some ended → RootSays new u k) → AreMarked new
  marks-task new k w so none marked_same marked_so roots hangs says decides = sets new base k marked_so.set (ap (λ (s : Shared). s.attempts) marked_so.others) (left-same base new marked_so.others)
      attempt-of of (stepped-base w so none (says_finished k) marked_same) roots hangs says decides

  -- what the task waits for is still to come, and is what it joins
  waits-still : (new : Shared) (f : Name) → went ≡ stepped.WaitJoin f → new.setup ≡ old.setup → IsSet task (piece.Task (mark.Waiting (wait.Finish f))) (mark.Waiting (wait.Finish f)) old.board new.board → TaskWaits new after.tasks shape.after f
  waits-still new f so setup set = record {
    going = (is-after (stepped.WaitJoin f) so).0;
    joins = subst (λ (s : Setup). JoinsAt s.program shape.after shape.after.stage f) (sym setup) (subst (λ (k : Task). JoinsAt old.setup.program k k.stage f) after-is (at.joins old.setup.program (halts-same old.setup.program machine moved same)));
    to_come = on (same_name f task) refl (subst (λ (k : Task). KnowsGoing tree.tasks k f ⊎ WaitsPlain tree.tasks k outer h f) after-is at.way);
  }
    where
      at : WaitsAt tree.tasks task moved outer h f after.tasks
      at = waits-at (snapshot_of old.versions tree.snapshot) task moved outer tree after in_tree.0 in_tree.1 f h (subst (λ w. Comes (snapshot_of old.versions tree.snapshot) task moved outer h tree after w) so step.comes)

      after-is : at.after ≡ shape.after
      after-is = let both : Some at.after ≡ Some shape.after = sym at.here ∙ shape.here in cc

      others : (n : Name) → (n ≡ task → ⊥) → named n after.tasks ≡ named n tree.tasks
      others n other = shape.others n other (λ forked. let no = sym so ∙ forked in cc)

      unfinished : (at : Spot) → h ≡ halt.Ask (request.Join f) at → outer ≡ None → finished_at new.board f ≡ None
      unfinished at asks none = ap (λ o. option_and_then (λ (k : UnitState). k.finished) o) (task-set task (mark.Waiting (wait.Finish f)) old.board new.board (ap (λ p. option_map unit_state (option_and_then unit_in p)) at_task) set f) ∙ sym (ap (outer_of old.board) asks) ∙ none

      on : (c : Bool) → same_name f task ≡ c → KnowsGoing tree.tasks shape.after f ⊎ WaitsPlain tree.tasks shape.after outer h f → IsToCome new.board after.tasks shape.after f
      on true e (inl knows) = marks.task knows.known shape.after (ap (λ q. named q after.tasks) (same_name-equal f task e) ∙ shape.here) (is-after (stepped.WaitJoin f) so).0
      on false e (inl knows) = marks.task knows.known knows.goes.task (others f (apart-of f task e) ∙ knows.goes.there) knows.goes.going
      on true e (inr plain) = by (is_known shape.after.knows f) refl
        where
          by : (d : Bool) → is_known shape.after.knows f ≡ d → IsToCome new.board after.tasks shape.after f
          by true known = marks.task known shape.after (ap (λ q. named q after.tasks) (same_name-equal f task e) ∙ shape.here) (is-after (stepped.WaitJoin f) so).0
          by false unknown = marks.unit (ap (λ d. if d then named f after.tasks else None) unknown) (unfinished plain.at plain.asks plain.none)
      on false e (inr plain) = marks.unit (ap (λ o. if is_known shape.after.knows f then o else None) (others f (apart-of f task e)) ∙ plain.unknown) (unfinished plain.at plain.asks plain.none)

  -- a child was forked
  module _ (new : Shared) (child : Name) (so : went ≡ stepped.Forked child) (f : row.Forked base u task child new) where
    abbrev s : Shared
    s = record base { owners = with_named old.owners child u; board = f.board }

    fork-of : (n : Name) → forks_it went n ≡ same_name n child
    fork-of n = ap (λ k. forks_it k n) so

    owned : named task s.owners ≡ Some u
    owned = named-with_named task child u old.owners ∙ on (same_name task child)
      where
        on : (c : Bool) → cond c (Some u) (named task old.owners) ≡ Some u
        on true = refl
        on false = of

    with-child : IsWithChild old u went s
    with-child = record {
      setup = refl;
      pieces = λ n. stands n (same_name n child) refl ∙ sym (ap (λ c. cond c (Some (piece.Task (mark.Ready work.Eval))) (piece_at old.board n)) (fork-of n));
      owners = λ n. named-with_named n child u old.owners ∙ sym (ap (λ c. cond c (Some u) (named n old.owners)) (fork-of n));
      none = λ n e. ap (piece_at old.board) (same_name-equal n child (sym (fork-of n) ∙ e)) ∙ f.none;
      aheads = refl;
      taken = refl;
      mails = λ a. refl;
    }
      where
        stands : (n : Name) (c : Bool) → same_name n child ≡ c → piece_at f.board n ≡ cond (same_name n child) (Some (piece.Task (mark.Ready work.Eval))) (piece_at old.board n)
        stands n true e = ap (piece_at f.board) (same_name-equal n child e) ∙ f.put.here ∙ sym (ap (λ c. cond c (Some (piece.Task (mark.Ready work.Eval))) (piece_at old.board n)) e)
        stands n false e = f.put.others n (apart-of n child e) ∙ sym (ap (λ c. cond c (Some (piece.Task (mark.Ready work.Eval))) (piece_at old.board n)) e)

    forked : AreMarked new
    forked = sets new s (mark.Ready work.Eval) f.steps.set (ap (λ (k : Shared). k.attempts) f.steps.others) (left-same s new f.steps.others)
        attempt-of owned (marked-step old s marked u task tree after there before outer h went step.stays.root in_tree shape refl with-child false (λ unended e. let no : false ≡ true = sym (ap says_ended so) ∙ e in cc)) (λ e. cc) (λ turn e. cc) (λ unended. is-after (stepped.Forked child) so) (λ ended e. absurd (not-ended (stepped.Forked child) so refl ended e))

  -- the unit for which the task waits runs ahead
  leads-so : (found : Given) (new : Shared) → WaitsForTurn base u task found new → IsRunningAhead new u
  leads-so found new r = record { ahead = r.ahead; leads = ap (λ (s : Shared). named u s.aheads) r.marked.others ∙ r.leads }

  -- a ref is in no snapshot
  misses : (ref : Name) → went ≡ stepped.NotInSnapshot ref → (o : Option Version) (found : Given) (new : Shared) → Missing base u x task after ref o found new → AreMarked new
  misses ref so None found new r = marks-task new (mark.Waiting (wait.Definite u)) (stepped.NotInSnapshot ref) so (λ n. refl) (λ o e. cc) r.marked (λ e. cc) (λ turn e. let same : u ≡ turn = cc in sym same)
      (λ o. record { going = is-after (stepped.NotInSnapshot ref) so; own = refl; leads = leads-so found new r }) (λ ended e. leads-so found new r)
  misses ref so (Some version) found new r = aborts old marked u x tree after unit_there there (has-tasks (λ n. ap (λ w. forks_it w n) so)) base is-base tried ref version.number found new r

  -- what comes of it where the root is not at its end
  comes : (found : Given) (new : Shared) (w : Stepped) → went ≡ w → end_at after ≡ None → StepGives base u x task after w found new → AreMarked new
  comes found new stepped.Now so unended gives = marks-task new (mark.Ready work.Eval) stepped.Now so (λ n. refl) (λ o e. cc) gives.1 (λ e. cc) (λ turn e. cc) (λ o. is-after stepped.Now so) (λ ended e. tt)
  comes found new (stepped.Forked child) so unended gives = forked new child so gives.1
  comes found new (stepped.WaitJoin f) so unended gives = marks-task new (mark.Waiting (wait.Finish f)) (stepped.WaitJoin f) so (λ n. refl) (λ o e. cc) gives.1 (λ e. cc) (λ turn e. cc)
      (λ o. waits-still new f so (ap (λ (s : Shared). s.setup) gives.1.others) gives.1.set) (λ ended e. let no : None ≡ Some ended = sym unended ∙ e in cc)
  comes found new (stepped.NotInSnapshot ref) so unended gives = misses ref so (newest (versions_of old.versions ref)) found new gives
  comes found new stepped.Finished so unended gives = marks-task new (mark.Finished value.Nil) stepped.Finished so (λ n. refl) (λ o e. refl) gives.1 (λ e. no-root base attempt-of unended (is-after stepped.Finished so)) (λ turn e. cc) (λ o. is-after stepped.Finished so) (λ ended e. let no : None ≡ Some ended = sym unended ∙ e in cc)

  -- where the root is at its end nothing is said of a task that is not finished
  ended-marked : (new : Shared) (ended : TaskEnd) → end_at after ≡ Some ended → (k : Mark) → says_finished k ≡ false → HangsOn u k → RootSays new u k → IsMarkedTask base task k new → AreMarked new
  ended-marked new ended is_ended k unfinished hangs decides marked_so = marks-task new k went refl (no-fork ended is_ended) (λ unended e. let no : None ≡ Some ended = sym unended ∙ is_ended in cc) marked_so
      (λ e. let no : true ≡ false = sym e ∙ unfinished in cc) hangs (λ unended. let no : None ≡ Some ended = sym unended ∙ is_ended in cc) (λ other e. decides)

  pub step-marked : (found : Given) (new : Shared) (o : Option TaskEnd) → end_at after ≡ o → is_going new.end ≡ true → AfterStep base u x task after went o found new → AreMarked new
  step-marked found new None unended on_going gives = comes found new went refl unended gives
  step-marked found new (Some ended) is_ended on_going gives = roots old marked u x tree after unit_there there (has-tasks (no-fork ended is_ended)) base is-base tried task found new (λ r. ended-marked new ended is_ended (mark.Waiting (wait.Definite u)) refl (λ turn e. let same : u ≡ turn = cc in sym same) (leads-so found new r) r.marked) (λ a none. none-taken base st a (ap actor_of_piece none)) ended on_going gives

  -- The mark of the task stays for want of memory, where it waits for a ref.
  module _ (new : Shared) (old_st : Stands old) (held : is_missing went ≡ true) (stays : piece_at new.board task ≡ Some (piece.Task m)) (others : (q : Name) → (q ≡ task → ⊥) → piece_at new.board q ≡ piece_at old.board q) (rest : new ≡ record base { board = new.board }) where
    own : IsTaskPiece old task m
    own = marked.tasks task m at_task

    no-end : says_ended went ≡ false
    no-end = by went held
      where
        by : (k : Stepped) → is_missing k ≡ true → says_ended k ≡ false
        by (stepped.WaitJoin f) e = cc
        by (stepped.NotInSnapshot ref) e = refl
        by stepped.Now e = cc
        by (stepped.Forked child) e = cc
        by stepped.Finished e = cc

    mine : own.owner ≡ u
    mine = let both : Some own.owner ≡ Some u = sym own.of ∙ of in cc

    own-tree : own.tree ≡ tree
    own-tree = let both : Some own.tree ≡ Some tree = sym own.attempt ∙ ap (λ q. named q old.attempts) mine ∙ there in cc

    own-task : own.task ≡ in_tree.0
    own-task = let both : Some own.task ≡ Some in_tree.0 = sym own.among ∙ ap (λ (a : Attempt). named task a.tasks) own-tree ∙ in_tree.1 in cc

    says-so : TaskSays old u tree.tasks in_tree.0 m
    says-so =
        subst (λ (k : Task). TaskSays old u tree.tasks k m) own-task
        (subst (λ (a : Attempt). TaskSays old u a.tasks own.task m) own-tree (subst (λ q. TaskSays old q own.tree.tasks own.task m) mine (own.says (ap end_at own-tree ∙ before))))

    goes : IsGoing shape.after.stage
    goes = goes-on went refl no-end

    -- it joined nothing
    no-joins : (f : Name) → JoinsAt old.setup.program in_tree.0 in_tree.0.stage f → ⊥
    no-joins f joins = by went refl held
      where
        under : IsUnderWay old u tree
        under = old_st.attempts going u tree there

        misses-none : (ref : Name) → went ≡ stepped.NotInSnapshot ref → (q : Halt) → h ≡ q → Comes (snapshot_of old.versions tree.snapshot) task moved outer q tree after (stepped.NotInSnapshot ref)
        misses-none ref so q e = subst (λ k. Comes (snapshot_of old.versions tree.snapshot) task moved outer k tree after (stepped.NotInSnapshot ref)) e (subst (λ w. Comes (snapshot_of old.versions tree.snapshot) task moved outer h tree after w) so step.comes)

        -- the machine is that of the task
        keeps : (s : Stage) → in_tree.0.stage ≡ s → machine_at s ≡ Some machine
        keeps s e = ap machine_at (sym e) ∙ sym (ap (option_and_then going_at) in_tree.1) ∙ is

        at-value : (closing : Closing) → in_tree.0.stage ≡ kept.Closing closing → halt_of old.setup.program closing.machine ≡ halt.Value closing.value
        at-value closing e =
            let member = subst (λ s. HasMachine (start_of old.setup u under.unit under.body under.values) s) e (under.runs.members task in_tree.0 in_tree.1).machine in
            ap (λ i. next old.setup.program closing.machine.body closing.machine.values i closing.machine.answers closing.machine.fuel) member.machine.inside
            ∙ ap (next old.setup.program closing.machine.body closing.machine.values true closing.machine.answers) member.machine.fuel
            ∙ member.comes

        stage : (ref : Name) → went ≡ stepped.NotInSnapshot ref → (s : Stage) → in_tree.0.stage ≡ s → JoinsAt old.setup.program in_tree.0 s f → ⊥
        stage ref so (kept.Going m) e asks =
            let both : Some m ≡ Some machine = keeps (kept.Going m) e in
            let one : m ≡ machine = cc in
            no-join-misses (snapshot_of old.versions tree.snapshot) task moved outer tree after in_tree.0 in_tree.1 ref f asks.0 (misses-none ref so _ (ap (halt_of old.setup.program) (sym one) ∙ asks.1))
        stage ref so (kept.Closing closing) e asks =
            let both : Some closing.machine ≡ Some machine = keeps (kept.Closing closing) e in
            let one : closing.machine ≡ machine = cc in
            no-close-misses (snapshot_of old.versions tree.snapshot) task moved outer tree after in_tree.0 in_tree.1 ref closing.value (misses-none ref so _ (ap (halt_of old.setup.program) (sym one) ∙ at-value closing e))
        stage ref so (kept.Ended ended) e asks = absurd asks

        by : (k : Stepped) → went ≡ k → is_missing k ≡ true → ⊥
        by (stepped.WaitJoin g) so e = cc
        by (stepped.NotInSnapshot ref) so e = stage ref so in_tree.0.stage refl joins
        by stepped.Now so e = cc
        by (stepped.Forked child) so e = cc
        by stepped.Finished so e = cc

    no-forks : (n : Name) → forks_it went n ≡ false
    no-forks n = by went held
      where
        by : (k : Stepped) → is_missing k ≡ true → forks_it k n ≡ false
        by (stepped.WaitJoin f) e = cc
        by (stepped.NotInSnapshot ref) e = refl
        by stepped.Now e = cc
        by (stepped.Forked child) e = cc
        by stepped.Finished e = cc

    keeps : (q : Mark) → m ≡ q → says_finished q ≡ false → ((p : Option Piece) → Rattle.unit_table.specs.Piece.beside task q p ≡ p) → HangsOn u q → (end_at after ≡ None → TaskSays new u after.tasks shape.after q) → AreMarked new
    keeps q is_m unfinished plain hangs says = marks-task new q went refl no-forks (λ o e. let no : true ≡ false = sym e ∙ no-end in cc)
        (record { set = record { here = stays ∙ ap (λ k. Some (piece.Task k)) is_m; others = λ n other. others n other ∙ sym (plain (piece_at old.board n)) }; others = rest })
        (λ e. let no : true ≡ false = sym e ∙ unfinished in cc) hangs says (λ ended e. absurd (not-ended went refl no-end ended e))

    pub left-missing : AreMarked new
    left-missing = by m refl says-so
      where
        by : (q : Mark) → m ≡ q → TaskSays old u tree.tasks in_tree.0 q → AreMarked new
        by (mark.Ready work.Eval) e says = keeps (mark.Ready work.Eval) e refl (λ p. refl) (λ turn w. cc) (λ o. goes)
        by (mark.Ready work.Settle) e says = keeps (mark.Ready work.Settle) e refl (λ p. refl) (λ turn w. cc) (λ o. tt)
        by (mark.Ready work.Begin) e says = absurd says
        by (mark.Waiting (wait.Finish f)) e says = absurd (no-joins f says.joins)
        by (mark.Waiting (wait.Definite t)) e says = keeps (mark.Waiting (wait.Definite t)) e refl (λ p. refl) (λ turn w. own.hangs turn (e ∙ w) ∙ mine) (λ o. record { going = goes; own = says.own; leads = still-ahead old new u (ap (λ (s : Shared). named u s.aheads) rest) says.leads })
        by mark.Resting e says = absurd says
        by (mark.Finished v) e says =
            let it = goes-with tree task machine is in
            let both : Some in_tree.0 ≡ Some it.task = sym in_tree.1 ∙ it.there in
            let same : in_tree.0 ≡ it.task = cc in
            absurd (says (going-open in_tree.0.stage (subst (λ (k : Task). IsGoing k.stage) (sym same) (keeps-going it.task.stage machine it.keeps))))
        by mark.Dropped e says = absurd says

  -- It can be evaluated again for want of memory, where it waits for a finish.
  pub left-again : (new : Shared) (f : Name) → went ≡ stepped.WaitJoin f → IsMarkedTask base task (mark.Ready work.Eval) new → AreMarked new
  left-again new f so marked_so = marks-task new (mark.Ready work.Eval) (stepped.WaitJoin f) so (λ n. refl) (λ o e. cc) marked_so (λ e. cc) (λ turn e. cc) (λ o. (is-after (stepped.WaitJoin f) so).0) (λ ended e. tt)

  -- So it can where it goes on, and what its root sent is not put for want of memory.
  pub left-now : (new : Shared) → went ≡ stepped.Now → IsMarkedTask base task (mark.Ready work.Eval) new → AreMarked new
  left-now new so marked_so = marks-task new (mark.Ready work.Eval) stepped.Now so (λ n. refl) (λ o e. cc) marked_so (λ e. cc) (λ turn e. cc) (λ o. is-after stepped.Now so) (λ ended e. tt)

  -- It is ready to settle for want of memory, where the root is at its end.
  pub left-ended : (new : Shared) (ended : TaskEnd) → end_at after ≡ Some ended → IsMarkedTask base task (mark.Ready work.Settle) new → AreMarked new
  left-ended new ended is_ended = ended-marked new ended is_ended (mark.Ready work.Settle) refl (λ turn e. cc) tt

  -- ---- the marks of all but the tasks of the attempt
  -- where it is undone for a ref
  pub missing-beside : (ref : Name) → went ≡ stepped.NotInSnapshot ref → AreMarkedBeside base u
  missing-beside ref so = beside old marked u tree after there (has-tasks (λ n. ap (λ w. forks_it w n) so)) base is-base

  -- and where its root is at its end
  pub ended-beside : (ended : TaskEnd) → end_at after ≡ Some ended → AreMarkedBeside base u
  ended-beside ended is_ended = beside old marked u tree after there (has-tasks (no-fork ended is_ended)) base is-base

-- The mark of a task is set that is not finished: of it nothing is said, or what holds.
pub left-marked : (old : Shared) (marked : AreMarked old) (task : Name) (m : Mark) (at_task : piece_at old.board task ≡ Some (piece.Task m)) (k : Mark) → says_finished k ≡ false → (new : Shared)
    → HangsOn (marked.tasks task m at_task).owner k → (end_at (marked.tasks task m at_task).tree ≡ None → TaskSays new (marked.tasks task m at_task).owner (marked.tasks task m at_task).tree.tasks (marked.tasks task m at_task).task k) → RootSays new (marked.tasks task m at_task).owner k → IsMarkedTask old task k new → AreMarked new
left-marked old marked task m at_task k unended new hangs says decides is = marked-set old new task (piece.Task k) k (record {
  set = is.set;
  setup = ap (λ (s : Shared). s.setup) is.others;
  attempts = ap (λ (s : Shared). s.attempts) is.others;
  owners = ap (λ (s : Shared). s.owners) is.others;
  aheads = λ v other. ap (λ (s : Shared). named v s.aheads) is.others;
  leads = still-ahead old new task (ap (λ (s : Shared). named task s.aheads) is.others);
  taken = ap (λ (s : Shared). s.taken) is.others;
  mails = λ a. ap (λ (s : Shared). mail_at s.mails a) is.others;
  unfinished = λ e. ap (λ p. option_and_then (λ (k : UnitState). k.finished) (option_map unit_state (option_and_then unit_in p))) is.set.here;
  no_root = λ e. let no : true ≡ false = sym e ∙ unended in cc;
  stays = λ j e. refl;
  unit = λ y e. cc;
  task = λ j e. let same : k ≡ j = cc in record {
    owner = own.owner;
    of = ap (λ (s : Shared). named task s.owners) is.others ∙ own.of;
    tree = own.tree;
    attempt = ap (λ (s : Shared). named own.owner s.attempts) is.others ∙ own.attempt;
    task = own.task;
    among = own.among;
    hangs = subst (HangsOn own.owner) same hangs;
    says = λ unended. subst (λ q. TaskSays new own.owner own.tree.tasks own.task q) same (says unended);
    decides = λ ended e at_root. subst (RootSays new own.owner) same decides;
  };
  actor = λ a e. cc;
}) (but-one old task (says_finished k) marked)
  where
    own : IsTaskPiece old task m
    own = marked.tasks task m at_task

-- A task of an attempt whose root is at its end is ready to settle.
pub left-settling : (old : Shared) → AreMarked old → (task : Name) (m : Mark) → piece_at old.board task ≡ Some (piece.Task m) → (new : Shared) → IsMarkedTask old task (mark.Ready work.Settle) new → AreMarked new
left-settling old marked task m at_task new is = left-marked old marked task m at_task (mark.Ready work.Settle) refl new (λ turn e. cc) (λ unended. tt) tt is

-- whatever a task comes to
pub marked-task : (old : Shared) → Stands old → AreMarked old → old.end ≡ None → (name : Name) (found : Given) (new : Shared) → is_going new.end ≡ true → GaveTask old name found new → AreMarked new
marked-task old st marked unended name found new on_going g = on (end_at g.tree) (machine_of g.tree name) refl refl g.gives
  where
    going : is_going old.end ≡ true
    going = ap is_going unended

    -- the mark says nothing there, as the root is at its end
    waits : (ended : TaskEnd) → end_at g.tree ≡ Some ended → WaitsForTurn old g.owner name found new → AreMarked new
    waits ended is r = left-marked old marked name g.mark g.there (mark.Waiting (wait.Definite g.owner)) refl new (λ turn e. let same : g.owner ≡ turn = cc in sym same ∙ sym mine) (λ unended. let no : None ≡ Some ended = sym unended ∙ ap end_at own-tree ∙ is in cc)
        (subst (IsRunningAhead new) (sym mine) (record { ahead = r.ahead; leads = ap (λ (s : Shared). named g.owner s.aheads) r.marked.others ∙ r.leads })) r.marked
      where
        own : IsTaskPiece old name g.mark
        own = marked.tasks name g.mark g.there

        mine : own.owner ≡ g.owner
        mine = let owners : Some own.owner ≡ Some g.owner = sym own.of ∙ g.of in cc

        own-tree : own.tree ≡ g.tree
        own-tree =
            let both : Some own.tree ≡ Some g.tree = sym own.attempt ∙ ap (λ q. named q old.attempts) mine ∙ g.attempt in cc

    on : (ended : Option TaskEnd) (machine : Option Evaluation) → end_at g.tree ≡ ended → machine_of g.tree name ≡ machine → TaskGives old g.owner g.unit name g.tree ended machine found new → AreMarked new
    on None (Some machine) before is r = step-marked r.mid (p.marks marked) g.owner name g.unit g.tree g.mark (posting-task old r.mid p name g.mark g.there)
        (ap (λ (s : Shared). named name s.owners) (posting-rest old r.mid p) ∙ g.of) (posting-unit old r.mid p g.owner ∙ g.unit_there) (ap (λ (s : Shared). named g.owner s.attempts) (posting-rest old r.mid p) ∙ g.attempt) before machine r.by.moved is r.by.same r.by.after r.by.went
        (posting-step old r.mid p name g.tree machine r.by.moved r.by.after r.by.went r.by.step)
        (posted-by old st going g.owner name g.tree g.attempt machine is r.by (end_at r.by.after) (named g.owner old.aheads) r.mid r.posts) (ap (λ (s : Shared). is_going s.end) (posting-rest old r.mid p) ∙ going) found new (end_at r.by.after) refl on_going r.comes
      where
        p : IsPosting old r.mid
        p = step-posting (end_at r.by.after) (named g.owner old.aheads) old g.owner g.tree.root (sends_in (done_by_root g.tree)) (sends_in r.by.more) r.mid r.posts
    on None None before is r = absurd r
    on (Some ended) machine before is r = roots old marked g.owner g.unit g.tree g.tree g.unit_there g.attempt (same-tasks old g.owner g.tree) old (kept-base old g.owner g.tree g.attempt) (record { stands = st; going = going; there = g.unit_there; attempt = g.attempt }) name found new (waits ended before) (λ a none. none-taken old st a (ap actor_of_piece none)) ended on_going r
