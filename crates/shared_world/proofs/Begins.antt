-- An attempt that begins keeps what is kept standing.
use Rattle.std.proofs.Common.{◌≡◌, ◌∙◌, ◌≤◌, Bool, true, false, cond, length, le_refl, List, [], refl, sym, ap, ap₂, subst}
use Rattle.std.specs.Option.{option_and_then, option_map}
use Rattle.std.specs.Prelude.{None, Some}
use Rattle.core_syntax.specs.declared.node_id.NodeId.{NodeId}
use Rattle.serial_model.specs.declared.halt.Halt.TheVariants as halt
use Rattle.serial_model.specs.declared.request.Request.TheVariants as request
use Rattle.serial_model.specs.State.{UnitState}
use Rattle.serial_model.specs.Step.{next_made, next_of}
use Rattle.shared_world.proofs.Leading.{ahead-still, none-tried, now-kept, seen-same}
use Rattle.shared_world.proofs.Live.{no-piece}
use Rattle.shared_world.proofs.ActorPieces.{SameActors, actor_of_piece, actors-put, actors-set, unit-no-actor}
use Rattle.shared_world.proofs.Standing.{now-is-newest, under-way}
use Rattle.shared_world.proofs.States.{SameStates, machines-put, machines-set, task-put, unit-set}
use Rattle.shared_world.specs.declared.given.Given.{Given}
use Rattle.shared_world.specs.rows.Attempts.{BeginsMarked}
use Rattle.shared_world.specs.Seen.{AttemptSeen, IsSeenAttempt, done_in, live_with}
use Rattle.shared_world.specs.Shared.{Shared, finished_at, is_going, state_at, unit_state}
use Rattle.shared_world.specs.Stands.{IsMachine, IsUnderWay, Stands, start_of}
use Rattle.task_fork_join.proofs.Begins.{new_attempts_run}
use Rattle.task_fork_join.specs.Attempt.{Attempt}
use Rattle.txn_snapshot.specs.SnapshotAnswer.{snapshot_of}
use Rattle.txn_snapshot.specs.SnapshotTask.{SnapshotTask}
use Rattle.unit_table.specs.declared.mark.Mark.{Mark}
use Rattle.unit_table.specs.declared.mark.Mark.TheVariants as mark
use Rattle.unit_table.specs.declared.mark.Work.TheVariants as work
use Rattle.unit_table.specs.declared.piece.Piece.TheVariants as piece
use Rattle.unit_table.specs.declared.unit.Unit.{Unit}
use Rattle.value_core.proofs.NamedLaws.{named-with_named, same_name-equal, same_name-itself}
use Rattle.value_core.specs.declared.value.Value.{Value}
use Rattle.value_core.specs.Named.{Name, named, same_name, with_named}
use Rattle.value_core.specs.Place.{Spot}
use Rattle.world_model.proofs.Kept.{gave-keeps}
use Rattle.world_model.specs.Gave as row
use Rattle.world_model.specs.rows.Attempts.{with_attempt}
use Rattle.world_model.specs.World as world
use Rattle.world_model.specs.World.{LiveUnit, World}

module _ (old : Shared) (st : Stands old) (u : Name) (x : Unit) (on_going : old.end ≡ None) (is_there : state_at old.board u ≡ Some (unit_state x)) (unfinished : (unit_state x).finished ≡ None) where
  abbrev w : World
  w = st.world

  abbrev unit : UnitState
  unit = unit_state x

  pub begins : (m : Mark) (body : NodeId) (values : List Value) (at : Spot) → next_of old.setup unit ≡ halt.Ask (request.Dosync body values) at → named u old.attempts ≡ None
      → (found : Given) (new : Shared) → BeginsMarked old u x m body values at found new → Stands new
  begins m body values at asks none found new r = subst Stands (sym (r.others ∙ ap (λ all. record old { attempts = all; owners = new.owners; board = new.board }) r.attempts)) (record {
    formed = st.formed;
    world = with_attempt w u tried;
    is_world = gave-keeps old.setup st.formed w (with_attempt w u tried) None st.is_world (row.begins_attempt u live tried (record {
      there = st.seen.units u ∙ ap (option_map (live_with (named u old.aheads))) is_there;
      none = none-tried old st going u none;
      asks = subst (λ (k : UnitState). next_of old.setup k ≡ halt.Ask (request.Dosync body values) at) (sym now) asks;
      root = ap (next_made u) (sym now);
      unfinished = ap (λ (k : UnitState). k.finished) now ∙ unfinished;
      snapshot = ap length (sym st.seen.history);
      store = refl;
      reads = refl;
      joined = refl;
      effects = refl;
      ended = refl;
    }));
    seen = record {
      history = st.seen.history;
      refs = st.seen.refs;
      units = λ q. seen-same old st new.board q (same q);
      actors = λ a. st.seen.actors a ∙ sym (same_actors a);
      taken = st.seen.taken;
      mails = st.seen.mails;
      attempts = λ go v. subst (λ f. AttemptSeen old.versions f (cond (same_name v u) (Some tried) (w.attempts v))) (sym (named-with_named v u r.tree old.attempts)) (seen v (same_name v u));
      bytes = st.seen.bytes;
      made = st.seen.made;
      end = st.seen.end;
    };
    machines = machines-set (IsMachine old.setup) u r.waits.unit m r.board new.board r.waits.stands.machine r.waits.set
        (machines-put (IsMachine old.setup) (next_made u unit) (Some (piece.Task (mark.Ready work.Eval))) old.board r.board (λ z e. cc) r.root st.machines);
    attempts = λ go v tree there. way v tree (same_name v u) refl (sym (named-with_named v u r.tree old.attempts) ∙ there);
    numbers = st.numbers;
    aheads = λ v h leads. ahead-still old.board new.board v h (same v) (st.aheads v h leads);
  })
    where
      going : is_going old.end ≡ true
      going = ap is_going on_going

      live : LiveUnit
      live = live_with (named u old.aheads) unit

      now : live.now ≡ unit
      now = now-kept (named u old.aheads) unit

      tried : world.Attempt
      tried = record { root = next_made u unit; at = at; body = body; values = values; snapshot = length old.history; store = w.refs; reads = []; joined = []; effects = []; ended = None }

      same : SameStates old.board new.board
      same q = unit-set u r.waits.unit m r.board new.board r.waits.set q ∙ on (same_name q u) refl ∙ task-put (next_made u unit) (mark.Ready work.Eval) old.board r.board (no-piece old.board (next_made u unit) r.none) r.root q
        where
          kept : state_at r.board u ≡ Some unit
          kept = task-put (next_made u unit) (mark.Ready work.Eval) old.board r.board (no-piece old.board (next_made u unit) r.none) r.root u ∙ is_there

          on : (c : Bool) → same_name q u ≡ c → cond c (Some (unit_state r.waits.unit)) (state_at r.board q) ≡ state_at r.board q
          on true e = ap (λ k. Some k) r.waits.stands.state ∙ sym (ap (state_at r.board) (same_name-equal q u e) ∙ kept)
          on false e = refl

      same_actors : SameActors old.board new.board
      same_actors a =
          actors-set u (piece.Unit r.waits.unit) m r.board new.board refl (put u ∙ unit-no-actor old.board u unit is_there) r.waits.set a ∙ put a
        where
          put : SameActors old.board r.board
          put = actors-put (next_made u unit) (Some (piece.Task (mark.Ready work.Eval))) old.board r.board (sym (ap actor_of_piece r.none)) r.root

      new-seen : IsSeenAttempt old.versions r.tree tried
      new-seen = record {
        root = sym r.fresh.new.root_is;
        snapshot = sym r.fresh.new.snapshot_is;
        store = λ ref. st.seen.refs ref ∙ sym (ap (λ n. snapshot_of old.versions n ref) r.fresh.new.snapshot_is ∙ now-is-newest (length old.history) old.versions st.numbers ref);
        reads = refl;
        joined = refl;
        effects = sym (ap done_in (ap₂ (λ n tasks. named n tasks) r.fresh.new.root_is r.fresh.new.alone.tasks_are ∙ ap (λ c. cond c (Some r.fresh.new.alone.task) None) (same_name-itself (next_made u unit))) ∙ ap (λ (l : SnapshotTask). l.log.effects) r.fresh.new.alone.log_is);
        ended = refl;
      }

      seen : (v : Name) (c : Bool) → AttemptSeen old.versions (cond c (Some r.tree) (named v old.attempts)) (cond c (Some tried) (w.attempts v))
      seen v true = new-seen
      seen v false = st.seen.attempts going v

      after : Shared
      after = record old { attempts = with_named old.attempts u r.tree; owners = new.owners; board = new.board }

      own : IsUnderWay after u r.tree
      own = record {
        unit = unit;
        there = same u ∙ is_there;
        body = body;
        values = values;
        at = at;
        asks = asks;
        runs = new_attempts_run (start_of old.setup u unit body values) at (snapshot_of old.versions r.tree.snapshot) (finished_at new.board) r.fresh.machine (length old.history) r.tree r.fresh.root_machine r.fresh.new;
        within = subst (λ n. n ≤ length old.history) (sym r.fresh.new.snapshot_is) (le_refl (length old.history));
      }

      way : (v : Name) (tree : Attempt) (c : Bool) → same_name v u ≡ c → cond c (Some r.tree) (named v old.attempts) ≡ Some tree → IsUnderWay after v tree
      way v tree true is_u e = let so : r.tree ≡ tree = cc in subst (λ q. IsUnderWay after q tree) (sym (same_name-equal v u is_u)) (subst (IsUnderWay after u) so own)
      way v tree false is_u e =
          under-way old after v tree refl (same v) (λ ref. refl) (λ f val is. ap (option_and_then (λ (k : UnitState). k.finished)) (same f) ∙ is) (le_refl (length old.history)) (st.attempts going v tree e)
