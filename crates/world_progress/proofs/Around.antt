-- The attempt of the first unit that is not finished: run on what it has read and on the refs now, its transaction waits for nothing.
use Rattle.std.proofs.Common.{◌≡◌, ◌∙◌, inl, inr, suc, Bool, true, false, cond, [], ◌∷◌, ◌++◌, refl, sym, ap, subst, arith}
use Rattle.std.specs.Option.{IsSome, option_and_then}
use Rattle.std.specs.Prelude.{Option, None, Some, All, take}
use Rattle.serial_model.proofs.Early.{earlier-first, earlier-joined}
use Rattle.serial_model.proofs.runs.Firsts.{IsFirstUnit}
use Rattle.serial_model.proofs.runs.Scope.{EarlyUnit, IsSeenIn, Scope, seen-later}
use Rattle.serial_model.proofs.runs.Scoped.{carries, scope_of, value_of-is}
use Rattle.serial_model.proofs.runs.StepCases.{IsRunning}
use Rattle.serial_model.proofs.runs.Stuck.{replay-sound}
use Rattle.serial_model.proofs.tasks.TaskKeeps.{transactions-keep}
use Rattle.serial_model.proofs.tasks.TaskScope.{IsAround, IsKept, IsWaitedFor, NoFuture}
use Rattle.serial_model.specs.declared.halt.Halt.TheVariants as halt
use Rattle.serial_model.specs.declared.request.Request.TheVariants as request
use Rattle.serial_model.specs.Standing.{Agrees}
use Rattle.serial_model.specs.State.{State, UnitState}
use Rattle.serial_model.specs.Step.{next_of, value_of}
use Rattle.serial_model.specs.Task.{Around, Blocked, Result, root_task}
use Rattle.shared_world.proofs.Standing.{root-in}
use Rattle.shared_world.specs.Marks.{AreMarked, RootSays}
use Rattle.shared_world.specs.Seen.{AttemptSeen, IsSeenAttempt, live_with}
use Rattle.shared_world.specs.Shared.{Shared, finished_at, is_going}
use Rattle.shared_world.specs.Stands.{IsUnderWay, Stands, start_of}
use Rattle.task_fork_join.specs.Attempt.{Attempt, end_at, end_by, end_of}
use Rattle.task_fork_join.specs.declared.task.Stage.{Stage}
use Rattle.task_fork_join.specs.declared.task.Stage.TheVariants as kept
use Rattle.task_fork_join.specs.declared.task.Task.{Task}
use Rattle.task_fork_join.specs.declared.task_end.TaskEnd.{TaskEnd}
use Rattle.task_fork_join.specs.Joining.{IsGoing}
use Rattle.txn_snapshot.specs.SnapshotAnswer.{snapshot_of}
use Rattle.unit_table.specs.Board.{marks_ready, piece_at}
use Rattle.unit_table.specs.declared.mark.Mark.{Mark}
use Rattle.unit_table.specs.declared.mark.Mark.TheVariants as mark
use Rattle.unit_table.specs.declared.mark.WaitOn.TheVariants as wait
use Rattle.unit_table.specs.declared.piece.Piece.TheVariants as piece
use Rattle.value_core.proofs.Within.{Within-weaker}
use Rattle.value_core.specs.declared.value.Value.{Value}
use Rattle.value_core.specs.Named.{Name, is_among, named}
use Rattle.value_core.specs.Within.{Within}
use Rattle.world_model.specs.IsWorld.{IsSnapshot}
use Rattle.world_model.specs.World as world
use Rattle.world_progress.proofs.Now.{kept-value, now, now-going, of-state, sound, value-kept}
use Rattle.world_progress.proofs.Sizes.{size}
use Rattle.world_progress.proofs.Staying.{earlier-stays}
use Rattle.world_progress.proofs.Trees.{HasMark, WorksOrWaits, results, task-mark, task-works}
use Rattle.world_progress.specs.Progress.{HasWork}

module _ (s : Shared) (st : Stands s) (going : is_going s.end ≡ true) (u : Name) (unit : UnitState) (first : IsFirstUnit (now s st).units u unit) where
  abbrev N : State
  N = now s st

  abbrev S : Scope
  S = scope_of N.refs N.actors N.units

  -- it can run
  pub running : IsRunning N u unit
  running = record { going = now-going s st going; there = first.there; unfinished = first.unfinished }

  -- a unit that it knows is finished
  known-over : (f : Name) → EarlyUnit S u unit.made f → IsSome (value_of N f)
  known-over f known = on (named f N.units) refl known.0
    where
      on : (found : Option UnitState) → named f N.units ≡ found → IsSome found → IsSome (option_and_then (λ (x : UnitState). x.finished) found)
      on None is some = some
      on (Some x) is some = first.before f x (earlier-first f u unit.made known.1) is

  -- and its value is kept
  pub known-kept : (f : Name) → EarlyUnit S u unit.made f → finished_at s.board f ≡ None → ⊥
  known-kept f known still = on (value_of N f) refl (known-over f known)
    where
      on : (found : Option Value) → value_of N f ≡ found → IsSome found → ⊥
      on None is some = absurd (cc)
      on (Some v) is some = let no : None ≡ Some v = sym still ∙ value-kept s st f v is in cc

  -- a value that is kept is seen where its unit is early
  value-seen : (f : Name) (v : Value) → EarlyUnit S u unit.made f → finished_at s.board f ≡ Some v → IsSeenIn S u unit.made v
  value-seen f v known is =
      let of = value_of-is N f v (kept-value s st f v is) in
      let seen = ((sound s st).scoped.each_unit f of.unit of.there).finished v of.over in
      seen-later S f u of.unit.made unit.made (λ g early. earlier-joined g f (u ++ unit.made ∷ []) of.unit.made early known.1) v seen

  -- ---- its attempt, where it does not run ahead
  module _ (level : named u s.aheads ≡ None) (tree : Attempt) (has : named u s.attempts ≡ Some tree) where
    abbrev way : IsUnderWay s u tree
    way = st.attempts going u tree has

    -- the unit of the state is the one that is kept
    same_unit : unit ≡ way.unit
    same_unit =
        let its = of-state s st u unit first.there in
        let both : Some its.kept ≡ Some way.unit = sym its.there ∙ way.there in
        let same : its.kept ≡ way.unit = cc in
        its.from ∙ ap (λ h. (live_with h its.kept).from) level ∙ same

    -- what was read as it was, and each other ref as it is now
    abbrev store_at : Bool → Name → Option Value
    store_at read r = cond read (snapshot_of s.versions tree.snapshot r) (named r N.refs)

    -- what its transaction is run with then
    abbrev around : Around
    around = record { program = s.setup.program; fuel = s.setup.limits.fuel; actor = way.unit.actor; store = λ r. store_at (is_among r tree.reads) r; finished = finished_at s.board }

    -- it agrees with what was read
    agrees : Agrees (start_of s.setup u way.unit way.body way.values) (snapshot_of s.versions tree.snapshot) tree.reads (finished_at s.board) around
    agrees = record { program = refl; fuel = refl; actor = refl; store = λ r among. ap (λ b. store_at b r) among; finished_so = λ f v is. is }

    -- the refs at the snapshot are those of an earlier state, and have values with names that are there now
    snapshot-within : (r : Name) (v : Value) → snapshot_of s.versions tree.snapshot r ≡ Some v → Within S.refs S.actors NoFuture v
    snapshot-within r v is = on (st.world.attempts u) refl (subst (λ found. AttemptSeen s.versions found (st.world.attempts u)) has (st.seen.attempts going u))
      where
        by : (tried : world.Attempt) → IsSeenAttempt s.versions tree tried → IsSnapshot s.setup st.world.history N tried → Within S.refs S.actors NoFuture v
        by tried seen snapshot =
            let stays = earlier-stays s.setup st.world.history tried.snapshot snapshot.state N snapshot.replays st.is_world.replays in
            let before = replay-sound s.setup st.formed transactions-keep (take tried.snapshot st.world.history) snapshot.state snapshot.replays in
            let then = scope_of snapshot.state.refs snapshot.state.actors snapshot.state.units in
            Within-weaker then.refs then.actors NoFuture S.refs S.actors NoFuture stays.refs stays.actors (λ f none. none) v
            (before.scoped.each_ref r v (sym (snapshot.refs r) ∙ seen.store r ∙ is))

        on : (tried : Option world.Attempt) → st.world.attempts u ≡ tried → AttemptSeen s.versions (Some tree) tried → Within S.refs S.actors NoFuture v
        on None is seen = absurd seen
        on (Some tried) is seen = by tried seen (st.is_world.snapshots u tried is)

    -- it is within the names that there are
    is_around : IsAround around S.refs S.actors (EarlyUnit S u unit.made)
    is_around = record {
      formed = st.formed;
      refs_there = λ r there. stored r (is_among r tree.reads) refl there;
      refs_hold = λ r v there is. held r v (is_among r tree.reads) is;
      units_hold = λ f v known is. value-seen f v known is;
      actor_there = λ a of. ((sound s st).scoped.each_unit u unit first.there).actor a (ap (λ (x : UnitState). x.actor) same_unit ∙ of);
    }
      where
        stored : (r : Name) (b : Bool) → is_among r tree.reads ≡ b → IsSome (named r N.refs) → IsSome (store_at b r)
        stored r true read there = way.runs.read_there r read
        stored r false unread there = there

        held : (r : Name) (v : Value) (b : Bool) → store_at b r ≡ Some v → Within S.refs S.actors NoFuture v
        held r v true is = snapshot-within r v is
        held r v false is = (sound s st).scoped.each_ref r v is

    -- so are the values that the transaction is begun with
    values-seen : All (IsSeenIn S u unit.made) way.values
    values-seen = carries s.setup st.formed N (sound s st).scoped u unit running (halt.Ask (request.Dosync way.body way.values) way.at) (ap (next_of s.setup) same_unit ∙ way.asks)

    -- its result is not to wait
    not-blocked : (results s u tree way around agrees (λ f. refl) tree.root).outcome ≡ Blocked → ⊥
    not-blocked blocked = known-kept waits.future waits.known waits.unfinished
      where
        root : Name
        root = (start_of s.setup u way.unit way.body way.values).name

        kept_so : IsKept around S.refs S.actors (EarlyUnit S u unit.made) root (root_task around root way.body way.values)
        kept_so = transactions-keep around S.refs S.actors (EarlyUnit S u unit.made) is_around root way.body way.values values-seen

        waits : IsWaitedFor around (EarlyUnit S u unit.made)
        waits = kept_so.waits (ap (λ (r : Result). r.outcome) (sym (way.runs.runs.stand around agrees).root) ∙ ap (λ n. (results s u tree way around agrees (λ f. refl) n).outcome) (sym way.runs.root) ∙ blocked)

    -- ---- so something can be done with one of its tasks
    module _ (marks : AreMarked s) where
      -- the root is at its end
      decided : (ended : TaskEnd) → end_at tree ≡ Some ended → HasWork s
      decided ended at_end = by p.mark p.there (p.decides ended at_end refl)
        where
          root : (t : Task) × (named tree.root tree.tasks ≡ Some t)
          root = root-in s u tree way

          p : HasMark s u tree tree.root root.0
          p = task-mark s marks u tree has tree.root root.0 root.1

          by : (m : Mark) → piece_at s.board tree.root ≡ Some (piece.Task m) → RootSays s u m → HasWork s
          by (mark.Ready w) is says = record { name = tree.root; ready = ap marks_ready is }
          by (mark.Waiting (wait.Finish f)) is says = absurd says
          by (mark.Waiting (wait.Definite turn)) is says = let no : None ≡ Some says.ahead = sym level ∙ says.leads in cc
          by mark.Resting is says = absurd says
          by (mark.Finished v) is says = absurd says
          by mark.Dropped is says = absurd says

      -- it is not
      goes-on : end_at tree ≡ None → HasWork s
      goes-on still = on (task-works s u tree way around agrees (λ f. refl) marks has level still (suc (size (results s u tree way around agrees (λ f. refl) tree.root).known)) tree.root root.0 root.1
          (open_stage root.0.stage (sym (ap (λ found. end_by tree.escape (option_and_then (λ (t : Task). end_of t.stage) found)) root.1) ∙ still)) (omega arith))
        where
          root : (t : Task) × (named tree.root tree.tasks ≡ Some t)
          root = root-in s u tree way

          open_stage : (stage : Stage) → end_by tree.escape (end_of stage) ≡ None → IsGoing stage
          open_stage (kept.Going machine) is = tt
          open_stage (kept.Closing closing) is = tt
          open_stage (kept.Ended ended) is = cc

          on : WorksOrWaits s u tree way around agrees (λ f. refl) tree.root → HasWork s
          on (inl work) = work
          on (inr waits) = absurd (not-blocked waits)

      -- wherever it is
      pub attempt-works : HasWork s
      attempt-works = on (end_at tree) refl
        where
          on : (ended : Option TaskEnd) → end_at tree ≡ ended → HasWork s
          on None is = goes-on is
          on (Some ended) is = decided ended is
