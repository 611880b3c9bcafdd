-- What a unit comes to keeps what is kept standing.
use Rattle.std.proofs.Common.{◌≡◌, ◌∙◌, ◌≤◌, ℕ, suc, ◌==◌, Bool, true, false, cond, length, length-append, List, [], ◌∷◌, ◌++◌, refl, sym, ap, subst, arith}
use Rattle.std.specs.Option.{option_and_then}
use Rattle.std.specs.Prelude.{Option, None, Some, is_some}
use Rattle.actor_mailbox.specs.declared.message.Message.{Message}
use Rattle.actor_mails.specs.Mails.{Mail, mail_at}
use Rattle.core_syntax.specs.declared.node_id.NodeId.{NodeId}
use Rattle.ref_store.proofs.StoreLaws.{above_committed, read_below}
use Rattle.ref_store.specs.declared.version.Version.{Version}
use Rattle.ref_store.specs.Store.{IsAbove, committed}
use Rattle.serial_model.specs.declared.end.End.{End}
use Rattle.serial_model.specs.declared.end.End.TheVariants as ending
use Rattle.serial_model.specs.declared.entry.Entry.TheVariants.{Run}
use Rattle.serial_model.specs.declared.halt.Halt.{Halt}
use Rattle.serial_model.specs.declared.halt.Halt.TheVariants as halt
use Rattle.serial_model.specs.declared.request.Request.TheVariants as request
use Rattle.serial_model.specs.declared.actor_state.ActorState.{ActorState}
use Rattle.serial_model.specs.State.{UnitState, new_unit}
use Rattle.serial_model.specs.Step.{after_turn, answered, becoming, idle, next_made, next_of, with_made}
use Rattle.shared_world.specs.declared.given.Given.{Given}
use Rattle.shared_world.specs.rows.Pieces.{Ends, IsMarkedUnit, IsSet, IsUnitAt, Settles, mark_after}
use Rattle.shared_world.specs.rows.Actors.{Sends, Spawns, actor_mark, actor_with, roused_unless}
use Rattle.shared_world.specs.rows.Units.{Becomes, Derefs, Finishes, ForksIfAllowed, Joins, Selves, Tries, UnitGives}
use Rattle.shared_world.proofs.ActorPieces.{SameActors, actor-no-unit, actor-put, actor_of_piece, actors-put, actors-set, not-same, roused-same, unit-no-actor}
use Rattle.shared_world.specs.Shared.{Shared, actor_of, finished_at, is_going, ref_now, state_at, unit_state}
use Rattle.shared_world.specs.Stands.{IsMachine, Stands}
use Rattle.shared_world.proofs.Leading.{ahead-still, asks-no-attempt, finished-is-level, leads-apart, level-there, live_on, none-leads, seen-here, seen-same}
use Rattle.shared_world.proofs.Live.{no-piece}
use Rattle.shared_world.specs.Ahead.{Ahead}
use Rattle.shared_world.proofs.Standing.{Grows, above-next, ended, one-version, same-states, stands-next}
use Rattle.shared_world.proofs.States.{EachMachine, SameStates, machines-put, machines-set, roused-is, roused-state, states-put, unit-put, unit-set}
use Rattle.task_fork_join.specs.Attempt.{Attempt}
use Rattle.txn_snapshot.specs.SnapshotAnswer.{snapshot_of}
use Rattle.unit_table.specs.Board.{Board, actor_at, piece_at, unit_at}
use Rattle.unit_table.specs.declared.mark.Mark.{Mark}
use Rattle.unit_table.specs.declared.mark.Mark.TheVariants as mark
use Rattle.unit_table.specs.declared.mark.WaitOn.TheVariants as wait
use Rattle.unit_table.specs.declared.piece.Piece.TheVariants as piece
use Rattle.unit_table.specs.declared.unit.Unit.{Unit}
use Rattle.value_core.proofs.NamedLaws.{same_name-equal}
use Rattle.value_core.specs.declared.value.Value.{Value}
use Rattle.value_core.specs.declared.value.Value.TheVariants as value
use Rattle.value_core.specs.Named.{Name, Named, named, same_name}
use Rattle.value_core.specs.Place.{Spot}
use Rattle.world_model.proofs.Kept.{gave-keeps}
use Rattle.world_model.specs.Gave as row
use Rattle.world_model.specs.Gave.{Gave}
use Rattle.world_model.specs.IsWorld.{IsWorld}
use Rattle.world_model.specs.rows.Effects.{Stands as IsStill, moved_on, new_live}
use Rattle.world_model.specs.rows.Endings as end_row
use Rattle.world_model.specs.rows.Endings.{EndsRun, ended_by}
use Rattle.value_core.specs.declared.code.Code.TheVariants as code
use Rattle.world_model.specs.Message.{settled as message_settled}
use Rattle.world_model.specs.World.{World, put_last, still, with_at}

-- a unit that can do its next effect, and stands where the history left it
pub record IsHere (s : Shared) (u : Name) (unit : UnitState) : Type 0 where
  pub going : s.end ≡ None
  pub there : state_at s.board u ≡ Some unit
  pub unfinished : unit.finished ≡ None
  pub level : named u s.aheads ≡ None

module _ (old : Shared) (st : Stands old) (u : Name) (x : Unit) (here : IsHere old u (unit_state x)) where
  abbrev w : World
  w = st.world

  abbrev unit : UnitState
  unit = unit_state x

  pub is_going_so : is_going old.end ≡ true
  is_going_so = ap is_going here.going

  pub still-here : IsStill old.setup w u (still unit)
  still-here = record {
    going = st.seen.end ∙ here.going;
    there = level-there old st u unit here.level here.there;
    takes = refl;
    held = refl;
    unfinished = here.unfinished;
  }

  -- a unit that asks for no transaction has no attempt
  pub no-attempt : ((body : NodeId) (values : List Value) (at : Spot) → next_of old.setup unit ≡ halt.Ask (request.Dosync body values) at → ⊥) → (tree : Attempt) → named u old.attempts ≡ Some tree → ⊥
  no-attempt other tree is = asks-no-attempt old st is_going_so u unit here.there other tree is

  -- the unit as it is seen, once it has gone on
  pub seen-unit : (after : UnitState) (b : Board) → ((q : Name) → state_at b q ≡ cond (same_name q u) (Some after) (state_at old.board q))
      → (q : Name) → with_at w.units u (Some (still after)) q ≡ live_on old st b q
  seen-unit after b states q = on (same_name q u) refl (states q)
    where
      on : (c : Bool) → same_name q u ≡ c → state_at b q ≡ cond c (Some after) (state_at old.board q) → cond c (Some (still after)) (w.units q) ≡ live_on old st b q
      on true same e = seen-here old st b u q after here.level same e
      on false apart e = seen-same old st b q e

  -- other units stay
  pub apart : (after : UnitState) (b : Board) → ((q : Name) → state_at b q ≡ cond (same_name q u) (Some after) (state_at old.board q))
      → (q : Name) → (q ≡ u → ⊥) → state_at b q ≡ state_at old.board q
  apart after b states q other = states q ∙ on (same_name q u) refl
    where
      on : (c : Bool) → same_name q u ≡ c → cond c (Some after) (state_at old.board q) ≡ state_at old.board q
      on true e = absurd (other (same_name-equal q u e))
      on false e = refl

  -- the unit was not finished, so what is finished stays so
  pub finished-grow : (after : UnitState) (b : Board) → ((q : Name) → state_at b q ≡ cond (same_name q u) (Some after) (state_at old.board q))
      → Grows (finished_at old.board) (finished_at b)
  finished-grow after b states f v is = on (same_name f u) refl (states f)
    where
      on : (c : Bool) → same_name f u ≡ c → state_at b f ≡ cond c (Some after) (state_at old.board f) → finished_at b f ≡ Some v
      on true e so =
          let no : None ≡ Some v = sym here.unfinished ∙ sym (ap (option_and_then (λ (x : UnitState). x.finished)) (ap (state_at old.board) (same_name-equal f u e) ∙ here.there)) ∙ is in cc
      on false e so = ap (option_and_then (λ (x : UnitState). x.finished)) so ∙ is

  -- What changes with the step of a unit that has no attempt: its entry is appended, and where the pieces and the refs stand.
  pub record IsStepped (versions : Named (List Version)) (b : Board) (mails : Mail) (bytes : List ℕ) (made : ℕ) (w2 : World) : Type 0 where
    pub machines : (q : Name) (x : Unit) → unit_at b q ≡ Some x → IsMachine old.setup x.machine
    pub is_world : IsWorld old.setup w2
    pub history : w2.history ≡ old.history ++ Run u ∷ []
    pub refs : (r : Name) → w2.refs r ≡ ref_now versions r
    pub units : (q : Name) → w2.units q ≡ live_on old st b q
    pub actors : (a : Name) → w2.actors a ≡ actor_at b a
    pub taken : (a : Name) → w2.taken a ≡ w.taken a
    pub mails_are : (a : Name) → w2.mails a ≡ mail_at mails a
    pub leading : (v : Name) (h : Ahead) → named v old.aheads ≡ Some h → state_at b v ≡ state_at old.board v
    pub attempts : (v : Name) → w2.attempts v ≡ w.attempts v
    pub bytes_are : w2.bytes ≡ bytes
    pub made_is : w2.made ≡ made
    pub end : w2.end ≡ w.end
    pub stay : (v : Name) (tree : Attempt) → named v old.attempts ≡ Some tree → state_at b v ≡ state_at old.board v
    pub grows : Grows (finished_at old.board) (finished_at b)
    pub reads : (v : Name) (tree : Attempt) → named v old.attempts ≡ Some tree → (r : Name) → snapshot_of versions tree.snapshot r ≡ snapshot_of old.versions tree.snapshot r
    pub numbers : IsAbove (suc (suc (length old.history))) versions

  longer : length old.history ≤ length (old.history ++ Run u ∷ [])
  longer = let long = length-append old.history (Run u ∷ []) in omega (arith, long)

  pub stands-stepped : (versions : Named (List Version)) (b : Board) (mails : Mail) (bytes : List ℕ) (made : ℕ) (w2 : World) → IsStepped versions b mails bytes made w2
      → Stands (record old { history = old.history ++ Run u ∷ []; versions = versions; board = b; mails = mails; bytes = bytes; made = made })
  stands-stepped versions b mails bytes made w2 is =
      stands-next old st (record old { history = old.history ++ Run u ∷ []; versions = versions; board = b; mails = mails; bytes = bytes; made = made }) w2 (record {
        setup = refl;
        is_world = is.is_world;
        history = is.history;
        longer = longer;
        refs = is.refs;
        units = is.units;
        actors = is.actors;
        taken = λ a. is.taken a ∙ st.seen.taken a;
        mails = is.mails_are;
        attempts = refl;
        tried = is.attempts;
        bytes = is.bytes_are;
        made = is.made_is;
        end = is.end ∙ st.seen.end;
        going = refl;
        machines = is.machines;
        stay = is.stay;
        grows = is.grows;
        reads = is.reads;
        numbers = λ r k d in_range. let long = length-append old.history (Run u ∷ []) in let below = is.numbers r k d in_range in omega (arith, long, below);
        aheads = λ v h leads. ahead-still old.board b v h (is.leading v h leads) (st.aheads v h leads);
      })

  -- pieces that are those that were there, but for actors
  pub record IsBase (b : Board) : Type 0 where
    pub states : SameStates old.board b
    pub machines : EachMachine (IsMachine old.setup) b

  same-base : IsBase old.board
  same-base = record { states = λ q. refl; machines = st.machines }

  -- the unit goes on alone, with its entry
  settled : (y : Unit) (after : UnitState) (b0 b : Board) → IsBase b0 → IsUnitAt old.setup x y after (mark_after after.finished) → IsSet u (piece.Unit y) (mark_after after.finished) b0 b
      → (mails : Mail) (versions : Named (List Version)) (bytes : List ℕ) (w2 : World) → IsWorld old.setup w2 → w2.history ≡ old.history ++ Run u ∷ [] → ((r : Name) → w2.refs r ≡ ref_now versions r)
      → ((q : Name) → w2.units q ≡ with_at w.units u (Some (still after)) q) → ((a : Name) → w2.actors a ≡ actor_at b0 a) → ((a : Name) → w2.taken a ≡ w.taken a) → ((a : Name) → w2.mails a ≡ mail_at mails a)
      → ((v : Name) → w2.attempts v ≡ w.attempts v) → w2.bytes ≡ bytes → w2.made ≡ old.made → w2.end ≡ w.end → ((tree : Attempt) → named u old.attempts ≡ Some tree → ⊥)
      → ((v : Name) (tree : Attempt) → named v old.attempts ≡ Some tree → (r : Name) → snapshot_of versions tree.snapshot r ≡ snapshot_of old.versions tree.snapshot r)
      → IsAbove (suc (suc (length old.history))) versions
      → Stands (record old { history = old.history ++ Run u ∷ []; versions = versions; board = b; mails = mails; bytes = bytes })
  settled y after b0 b base at set mails versions bytes w2 is_world history refs units actors taken mails_are attempts bytes_are made_is end none reads numbers =
      stands-stepped versions b mails bytes old.made w2 (record {
        machines = machines-set (IsMachine old.setup) u y (mark_after after.finished) b0 b at.machine set base.machines;
        is_world = is_world;
        history = history;
        refs = refs;
        units = λ q. units q ∙ seen-unit after b states q;
        actors = λ a. actors a ∙ sym (actors-set u (piece.Unit y) (mark_after after.finished) b0 b refl (unit-no-actor b0 u unit (base.states u ∙ here.there)) set a);
        taken = taken;
        mails_are = mails_are;
        leading = λ v h leads. apart after b states v (leads-apart old st u here.level v h leads);
        attempts = attempts;
        bytes_are = bytes_are;
        made_is = made_is;
        end = end;
        stay = λ v tree there. apart after b states v (λ same. none tree (ap (λ n. named n old.attempts) (sym same) ∙ there));
        grows = finished-grow after b states;
        reads = reads;
        numbers = numbers;
      })
    where
      states : (q : Name) → state_at b q ≡ cond (same_name q u) (Some after) (state_at old.board q)
      states q =
          unit-set u y (mark_after after.finished) b0 b set q ∙ ap (λ k. cond (same_name q u) (Some k) (state_at b0 q)) at.state
          ∙ ap (cond (same_name q u) (Some after)) (base.states q)

  -- it goes on so, with nothing but its entry and what it printed
  plain : (after : UnitState) (text : List ℕ) (found : Given) (new : Shared) → Settles (record old { bytes = old.bytes ++ text }) u x after found new
      → IsWorld old.setup (moved_on (record w { bytes = w.bytes ++ text }) u after) → ((body : NodeId) (values : List Value) (at : Spot) → next_of old.setup unit ≡ halt.Ask (request.Dosync body values) at → ⊥) → Stands new
  plain after text found new r is_world other = subst Stands (sym r.others)
      (settled r.unit after old.board new.board same-base r.stands r.set old.mails old.versions (old.bytes ++ text) (moved_on (record w { bytes = w.bytes ++ text }) u after) is_world (ap (λ h. h ++ Run u ∷ []) st.seen.history) st.seen.refs
      (λ q. refl) st.seen.actors (λ a. refl) st.seen.mails (λ v. refl) (ap (λ b. b ++ text) st.seen.bytes) st.seen.made refl (no-attempt other) (λ v tree there r. refl) (above-next (suc (length old.history)) old.versions st.numbers))

  -- it goes on so, with nothing but its entry
  quiet : (after : UnitState) (found : Given) (new : Shared) → Settles old u x after found new → IsWorld old.setup (moved_on w u after)
      → ((body : NodeId) (values : List Value) (at : Spot) → next_of old.setup unit ≡ halt.Ask (request.Dosync body values) at → ⊥) → Stands new
  quiet after found new r is_world other = subst Stands (sym r.others)
      (settled r.unit after old.board new.board same-base r.stands r.set old.mails old.versions old.bytes (moved_on w u after) is_world (ap (λ h. h ++ Run u ∷ []) st.seen.history) st.seen.refs
      (λ q. refl) st.seen.actors (λ a. refl) st.seen.mails (λ v. refl) st.seen.bytes st.seen.made refl (no-attempt other) (λ v tree there r. refl) (above-next (suc (length old.history)) old.versions st.numbers))

  -- a row of the law
  goes : (after : World) → Gave old.setup w (Some (Run u)) after → IsWorld old.setup after
  goes after gave = gave-keeps old.setup st.formed w after (Some (Run u)) st.is_world gave

  derefs : (ref : Name) (at : Spot) → next_of old.setup unit ≡ halt.Ask (request.Deref ref) at → (stored : Option Value) → ref_now old.versions ref ≡ stored
      → (found : Given) (new : Shared) → Derefs old u x stored found new → Stands new
  derefs ref at asks None is found new r = absurd r
  derefs ref at asks (Some v) is found new r =
      quiet (answered unit v) found new r (goes (moved_on w u (answered unit v)) (row.derefs u (still unit) ref at v still-here asks (st.seen.refs ref ∙ is))) (λ body values spot e. let no = sym asks ∙ e in cc)

  -- the unit that is joined, as it is seen
  joined : (f : Name) (v : Value) → finished_at old.board f ≡ Some v → (y : UnitState) × (state_at old.board f ≡ Some y) × (y.finished ≡ Some v)
  joined f v is = on (state_at old.board f) refl is
    where
      on : (found : Option UnitState) → state_at old.board f ≡ found → option_and_then (λ (unit : UnitState). unit.finished) found ≡ Some v → (y : UnitState) × (state_at old.board f ≡ Some y) × (y.finished ≡ Some v)
      on None is e = cc
      on (Some y) is e = (y, is, e)

  -- the unit stands where it did, with another mark
  marks : (m : Mark) (b : Board) → IsMarkedUnit old.setup u x m old.board b → Stands (record old { board = b })
  marks m b r = same-states old st b
      (λ q. unit-set u r.unit m old.board b r.set q ∙ on q (same_name q u) refl) (actors-set u (piece.Unit r.unit) m old.board b refl (unit-no-actor old.board u unit here.there) r.set) (machines-set (IsMachine old.setup) u r.unit m old.board b r.stands.machine r.set st.machines)
    where
      on : (q : Name) (c : Bool) → same_name q u ≡ c → cond c (Some (unit_state r.unit)) (state_at old.board q) ≡ state_at old.board q
      on q true e = ap (λ k. Some k) r.stands.state ∙ sym (ap (state_at old.board) (same_name-equal q u e) ∙ here.there)
      on q false e = refl

  joins : (f : Name) (at : Spot) → next_of old.setup unit ≡ halt.Ask (request.Join f) at → (value : Option Value) → finished_at old.board f ≡ value
      → (found : Given) (new : Shared) → Joins old u x f value found new → Stands new
  joins f at asks None is found new r = subst Stands (sym r.others) (marks (mark.Waiting (wait.Finish f)) new.board r.marked)
  joins f at asks (Some v) is found new r =
      let y = joined f v is in
      quiet (answered unit v) found new r (goes (moved_on w u (answered unit v)) (row.joins u (still unit) f (still y.0) at v still-here asks (level-there old st f y.0 (finished-is-level old st f v is) y.1) refl y.2)) (λ body values spot e. let no = sym asks ∙ e in cc)

  makes-ref : (v : Value) (at : Spot) → next_of old.setup unit ≡ halt.Ask (request.NewRef v) at → (found : Given) (new : Shared)
      → UnitGives old u x (halt.Ask (request.NewRef v) at) found new → Stands new
  makes-ref v at asks found new r = subst Stands (sym r.settles.others)
      (settled r.settles.unit after old.board new.board same-base r.settles.stands r.settles.set old.mails versions old.bytes after_world is_world (ap (λ h. h ++ Run u ∷ []) st.seen.history) (one-version old st n v)
      (λ q. refl) st.seen.actors (λ a. refl) st.seen.mails (λ v. refl) st.seen.bytes st.seen.made refl (no-attempt (λ body values spot e. let no = sym asks ∙ e in cc))
      (λ q tree there ref. let way = st.attempts is_going_so q tree there in let within = way.within in read_below old.versions ((n, v) ∷ []) (suc (length old.history)) tree.snapshot tt (omega (arith, within)) ref)
      (above_committed old.versions versions ((n, v) ∷ []) (suc (length old.history)) tt refl st.numbers (suc (suc (length old.history))) (omega arith)))
    where
      n : Name
      n = next_made u unit

      after : UnitState
      after = answered (with_made unit) (value.Ref n)

      versions : Named (List Version)
      versions = committed old.versions ((n, v) ∷ []) (suc (length old.history))

      after_world : World
      after_world = moved_on (record w { refs = with_at w.refs n (Some v) }) u after

      is_world : IsWorld old.setup after_world
      is_world = goes after_world (row.makes_ref u (still unit) v at still-here asks)

  -- the run ends
  ends : (e : End) (found : Given) (new : Shared) → Ends old u e found new → EndsRun old.setup w (Run u) e → Stands new
  ends e found new r end = subst Stands (sym r.others) (ended old st (Run u) e new.board r.pieces (goes (ended_by w (Run u) e) (row.ends (Run u) e end)))

  forks : (body : NodeId) (values : List Value) (at : Spot) → next_of old.setup unit ≡ halt.Ask (request.Fork body values) at → (full : Bool) → (old.made == old.setup.limits.units) ≡ full
      → (found : Given) (new : Shared) → ForksIfAllowed old u x body values full found new → Stands new
  forks body values at asks true is found new r = ends ending.UnitsSpent found new r (end_row.full_fork u (still unit) body values at still-here asks (ap (λ n. n == old.setup.limits.units) st.seen.made ∙ is))
  forks body values at asks false is found new r = subst Stands (sym r.settles.others)
      (stands-stepped old.versions new.board old.mails old.bytes (suc old.made) after_world (record {
        machines = machines-set (IsMachine old.setup) u r.settles.unit (mark_after after.finished) r.board new.board r.settles.stands.machine r.settles.set
            (machines-put (IsMachine old.setup) child (Some (piece.Unit r.child)) old.board r.board (λ z e. let same : r.child ≡ z = cc in subst (λ (k : Unit). IsMachine old.setup k.machine) same r.begins.machine) r.put st.machines);
        is_world = goes after_world (row.forks u (still unit) body values at still-here asks (ap (λ n. n == old.setup.limits.units) st.seen.made ∙ is));
        history = ap (λ h. h ++ Run u ∷ []) st.seen.history;
        refs = st.seen.refs;
        units = λ q. live q (same_name q u) (same_name q child) refl refl (states q);
        actors = λ a. st.seen.actors a ∙ sym (actors a);
        taken = λ a. refl;
        mails_are = st.seen.mails;
        leading = λ v h leads. led v h leads (same_name v u) (same_name v child) refl refl (states v);
        attempts = λ v. refl;
        bytes_are = st.seen.bytes;
        made_is = ap suc st.seen.made;
        end = refl;
        stay = λ v tree there. stays v tree there (same_name v u) (same_name v child) refl refl (states v);
        grows = λ f v is. grown f v is (same_name f u) (same_name f child) refl refl (states f);
        reads = λ v tree there r. refl;
        numbers = above-next (suc (length old.history)) old.versions st.numbers;
      }))
    where
      child : Name
      child = next_made u unit

      after : UnitState
      after = answered (with_made unit) (value.Future child)

      after_world : World
      after_world = moved_on (record w { units = with_at w.units child (Some (new_live body values)); made = suc w.made }) u after

      states : (q : Name) → state_at new.board q ≡ cond (same_name q u) (Some after) (cond (same_name q child) (Some (new_unit None body values)) (state_at old.board q))
      states q =
          unit-set u r.settles.unit (mark_after after.finished) r.board new.board r.settles.set q
          ∙ ap (λ k. cond (same_name q u) (Some k) (state_at r.board q)) r.settles.stands.state
          ∙ ap (cond (same_name q u) (Some after)) (unit-put child r.child old.board r.board r.put q ∙ ap (λ k. cond (same_name q child) (Some k) (state_at old.board q)) r.begins.state)

      actors : SameActors old.board new.board
      actors a =
          actors-set u (piece.Unit r.settles.unit) (mark_after after.finished) r.board new.board refl (put u ∙ unit-no-actor old.board u unit here.there) r.settles.set a ∙ put a
        where
          put : SameActors old.board r.board
          put = actors-put child (Some (piece.Unit r.child)) old.board r.board (sym (ap actor_of_piece r.none)) r.put

      no-child : state_at old.board child ≡ None
      no-child = no-piece old.board child r.none

      live : (q : Name) (c d : Bool) → same_name q u ≡ c → same_name q child ≡ d → state_at new.board q ≡ cond c (Some after) (cond d (Some (new_unit None body values)) (state_at old.board q))
          → cond c (Some (still after)) (cond d (Some (new_live body values)) (w.units q)) ≡ live_on old st new.board q
      live q true d is_u is_child e = seen-here old st new.board u q after here.level is_u e
      live q false true is_u is_child e = seen-here old st new.board child q (new_unit None body values) (none-leads old st child no-child) is_child e
      live q false false is_u is_child e = seen-same old st new.board q e

      led : (v : Name) (h : Ahead) → named v old.aheads ≡ Some h → (c d : Bool) → same_name v u ≡ c → same_name v child ≡ d
          → state_at new.board v ≡ cond c (Some after) (cond d (Some (new_unit None body values)) (state_at old.board v)) → state_at new.board v ≡ state_at old.board v
      led v h leads true d is_u is_child e = absurd (leads-apart old st u here.level v h leads (same_name-equal v u is_u))
      led v h leads false true is_u is_child e = absurd (leads-apart old st child (none-leads old st child no-child) v h leads (same_name-equal v child is_child))
      led v h leads false false is_u is_child e = e

      stays : (v : Name) (tree : Attempt) → named v old.attempts ≡ Some tree → (c d : Bool) → same_name v u ≡ c → same_name v child ≡ d
          → state_at new.board v ≡ cond c (Some after) (cond d (Some (new_unit None body values)) (state_at old.board v)) → state_at new.board v ≡ state_at old.board v
      stays v tree is_there true d is_u is_child e = absurd (no-attempt (λ body values spot k. let no = sym asks ∙ k in cc) tree (ap (λ n. named n old.attempts) (sym (same_name-equal v u is_u)) ∙ is_there))
      stays v tree is_there false true is_u is_child e =
          let way = st.attempts is_going_so v tree is_there in
          let no : None ≡ Some way.unit = sym no-child ∙ ap (state_at old.board) (sym (same_name-equal v child is_child)) ∙ way.there in cc
      stays v tree is_there false false is_u is_child e = e

      grown : (f : Name) (v : Value) → finished_at old.board f ≡ Some v → (c d : Bool) → same_name f u ≡ c → same_name f child ≡ d
          → state_at new.board f ≡ cond c (Some after) (cond d (Some (new_unit None body values)) (state_at old.board f)) → finished_at new.board f ≡ Some v
      grown f v is true d is_u is_child e =
          let no : None ≡ Some v = sym here.unfinished ∙ sym (ap (option_and_then (λ (k : UnitState). k.finished)) (ap (state_at old.board) (same_name-equal f u is_u) ∙ here.there)) ∙ is in cc
      grown f v is false true is_u is_child e =
          let no : None ≡ Some v = sym (ap (option_and_then (λ (k : UnitState). k.finished)) (ap (state_at old.board) (same_name-equal f child is_child) ∙ no-child)) ∙ is in cc
      grown f v is false false is_u is_child e = ap (option_and_then (λ (k : UnitState). k.finished)) e ∙ is

  sends : (to : Name) (args : List Value) (at : Spot) → next_of old.setup unit ≡ halt.Ask (request.Send to args) at → (found : Given) (new : Shared) → Sends old u x to args found new → Stands new
  sends to args at asks found new r = subst Stands (sym r.settles.others)
      (settled r.settles.unit after r.board new.board base r.settles.stands r.settles.set r.mails old.versions old.bytes after_world
      (goes after_world (row.sends u (still unit) to args at still-here asks)) (ap (λ h. h ++ Run u ∷ []) st.seen.history) st.seen.refs
      (λ q. refl) (λ a. st.seen.actors a ∙ sym (actors a)) (λ a. refl) (λ a. mails a (same_name a to) refl) (λ v. refl) st.seen.bytes st.seen.made refl
      (no-attempt (λ body values spot e. let no = sym asks ∙ e in cc)) (λ v tree there r. refl) (above-next (suc (length old.history)) old.versions st.numbers))
    where
      after : UnitState
      after = answered unit value.Nil

      message : Message
      message = message_settled u args

      after_world : World
      after_world = moved_on (record w { mails = put_last w to message }) u after

      base : IsBase r.board
      base = record {
        states = states-put to (roused_unless (is_some (named to old.taken)) (piece_at old.board to)) old.board r.board (roused-state (is_some (named to old.taken)) (piece_at old.board to)) r.rouses;
        machines = machines-put (IsMachine old.setup) to (roused_unless (is_some (named to old.taken)) (piece_at old.board to)) old.board r.board (λ z e. st.machines to z (sym (roused-is (is_some (named to old.taken)) (piece_at old.board to)) ∙ e)) r.rouses st.machines;
      }

      actors : SameActors old.board r.board
      actors = actors-put to (roused_unless (is_some (named to old.taken)) (piece_at old.board to)) old.board r.board (roused-same (is_some (named to old.taken)) (piece_at old.board to)) r.rouses

      mails : (a : Name) (c : Bool) → same_name a to ≡ c → cond c (w.mails to ++ message ∷ []) (w.mails a) ≡ mail_at r.mails a
      mails a true e = ap (λ ms. ms ++ message ∷ []) (st.seen.mails to) ∙ sym r.mailed.here ∙ ap (mail_at r.mails) (sym (same_name-equal a to e))
      mails a false e = st.seen.mails a ∙ sym (r.mailed.others a (not-same a to e))

  spawns : (behaviour : ℕ) (state : List Value) (at : Spot) → next_of old.setup unit ≡ halt.Ask (request.Spawn behaviour state) at → (found : Given) (new : Shared) → Spawns old u x behaviour state found new → Stands new
  spawns behaviour state at asks found new r = subst Stands (sym r.settles.others)
      (settled r.settles.unit after r.board new.board base r.settles.stands r.settles.set old.mails old.versions old.bytes after_world
      (goes after_world (row.spawns u (still unit) behaviour state at still-here asks)) (ap (λ h. h ++ Run u ∷ []) st.seen.history) st.seen.refs
      (λ q. refl) (λ a. actors a (same_name a n) (actor-put n (record { state = idle behaviour state; mark = actor_mark false (mail_at old.mails n) }) old.board r.board r.put a)) (λ a. refl) st.seen.mails (λ v. refl) st.seen.bytes st.seen.made refl
      (no-attempt (λ body values spot e. let no = sym asks ∙ e in cc)) (λ v tree there r. refl) (above-next (suc (length old.history)) old.versions st.numbers))
    where
      n : Name
      n = next_made u unit

      after : UnitState
      after = answered (with_made unit) (value.Actor n)

      after_world : World
      after_world = moved_on (record w { actors = with_at w.actors n (Some (idle behaviour state)) }) u after

      base : IsBase r.board
      base = record {
        states = states-put n (Some (actor_with (idle behaviour state) (mail_at old.mails n))) old.board r.board (sym (no-piece old.board n r.none)) r.put;
        machines = machines-put (IsMachine old.setup) n (Some (actor_with (idle behaviour state) (mail_at old.mails n))) old.board r.board (λ z e. cc) r.put st.machines;
      }

      actors : (a : Name) (c : Bool) → actor_at r.board a ≡ cond c (Some (idle behaviour state)) (actor_at old.board a) → cond c (Some (idle behaviour state)) (w.actors a) ≡ actor_at r.board a
      actors a true e = sym e
      actors a false e = st.seen.actors a ∙ sym e

  becomes : (behaviour : ℕ) (state : List Value) (at : Spot) → next_of old.setup unit ≡ halt.Ask (request.Become behaviour state) at → (actor : Option Name) → unit.actor ≡ actor → (found : Given) (new : Shared)
      → Becomes old u x behaviour state at actor found new → Stands new
  becomes behaviour state at asks None is found new r = ends (ending.Fault code.NoTurn at u) found new r (end_row.no_turn u (still unit) behaviour state at still-here asks is)
  becomes behaviour state at asks (Some a) is found new r =
      quiet (answered (becoming unit behaviour state) value.Nil) found new r (goes (moved_on w u (answered (becoming unit behaviour state) value.Nil)) (row.becomes u (still unit) behaviour state at a still-here asks is)) (λ body values spot e. let no = sym asks ∙ e in cc)

  selves : (at : Spot) → next_of old.setup unit ≡ halt.Ask request.SelfActor at → (actor : Option Name) → unit.actor ≡ actor → (found : Given) (new : Shared) → Selves old u x at actor found new → Stands new
  selves at asks None is found new r = ends (ending.Fault code.NoTurn at u) found new r (end_row.no_self u (still unit) at still-here asks is)
  selves at asks (Some a) is found new r =
      quiet (answered unit (value.Actor a)) found new r (goes (moved_on w u (answered unit (value.Actor a))) (row.selves u (still unit) at a still-here asks is)) (λ body values spot e. let no = sym asks ∙ e in cc)

  finishes : (v : Value) → next_of old.setup unit ≡ halt.Value v → (actor : Option Name) → unit.actor ≡ actor → (found : Given) (new : Shared) → Finishes old u x v actor found new → Stands new
  finishes v asks None is found new r =
      quiet (record unit { finished = Some v }) found new r (goes (moved_on w u (record unit { finished = Some v })) (row.finishes u (still unit) v still-here asks is)) (λ body values spot e. let no = sym asks ∙ e in cc)
  finishes v asks (Some a) is found new r = subst Stands (sym r.settles.others)
      (settled r.settles.unit after r.board new.board base r.settles.stands r.settles.set old.mails old.versions old.bytes after_world
      (goes after_world (row.finishes_turn u a (still unit) r.actor.state v still-here asks is (st.seen.actors a ∙ ap actor_of_piece r.there))) (ap (λ h. h ++ Run u ∷ []) st.seen.history) st.seen.refs
      (λ q. refl) (λ q. actors q (same_name q a) (actor-put a (record { state = free; mark = actor_mark free.busy (mail_at old.mails a) }) old.board r.board r.freed q)) (λ q. refl) st.seen.mails (λ q. refl) st.seen.bytes st.seen.made refl
      (no-attempt (λ body values spot e. let no = sym asks ∙ e in cc)) (λ q tree there k. refl) (above-next (suc (length old.history)) old.versions st.numbers))
    where
      free : ActorState
      free = after_turn unit.becomes r.actor.state

      after : UnitState
      after = record unit { finished = Some v }

      after_world : World
      after_world = record (moved_on w u after) { actors = with_at w.actors a (Some free) }

      base : IsBase r.board
      base = record {
        states = states-put a (Some (actor_with free (mail_at old.mails a))) old.board r.board (sym (actor-no-unit old.board a r.actor r.there)) r.freed;
        machines = machines-put (IsMachine old.setup) a (Some (actor_with free (mail_at old.mails a))) old.board r.board (λ z e. cc) r.freed st.machines;
      }

      actors : (q : Name) (c : Bool) → actor_at r.board q ≡ cond c (Some free) (actor_at old.board q) → cond c (Some free) (w.actors q) ≡ actor_at r.board q
      actors q true e = sym e
      actors q false e = st.seen.actors q ∙ sym e

  -- what a unit comes to keeps what is kept standing
  pub unit-keeps : (h : Halt) → next_of old.setup unit ≡ h → (found : Given) (new : Shared) → UnitGives old u x h found new
      → ((found_attempt : Option Attempt) → named u old.attempts ≡ found_attempt → (body : NodeId) (values : List Value) (at : Spot) → next_of old.setup unit ≡ halt.Ask (request.Dosync body values) at
      → Tries old u x body values at found_attempt found new → Stands new) → Stands new
  unit-keeps (halt.Ask (request.Print text) at) asks found new r tries = plain (answered unit value.Nil) text found new r (goes (moved_on (record w { bytes = w.bytes ++ text }) u (answered unit value.Nil)) (row.prints u (still unit) text at still-here asks)) (λ body values spot e. let no = sym asks ∙ e in cc)
  unit-keeps (halt.Ask (request.NewRef v) at) asks found new r tries = makes-ref v at asks found new r
  unit-keeps (halt.Ask (request.Deref ref) at) asks found new r tries = derefs ref at asks (ref_now old.versions ref) refl found new r
  unit-keeps (halt.Ask (request.RefSet ref v) at) asks found new r tries = ends (ending.Fault code.NoTransaction at u) found new r (end_row.ref_set u (still unit) ref v at still-here asks)
  unit-keeps (halt.Ask (request.Fork body values) at) asks found new r tries = forks body values at asks (old.made == old.setup.limits.units) refl found new r
  unit-keeps (halt.Ask (request.Join f) at) asks found new r tries = joins f at asks (finished_at old.board f) refl found new r
  unit-keeps (halt.Ask (request.Dosync body values) at) asks found new r tries = tries (named u old.attempts) refl body values at asks r
  unit-keeps (halt.Ask (request.Spawn b state) at) asks found new r tries = spawns b state at asks found new r
  unit-keeps (halt.Ask (request.Send to args) at) asks found new r tries = sends to args at asks found new r
  unit-keeps (halt.Ask (request.Become b state) at) asks found new r tries = becomes b state at asks (actor_of x.kind) refl found new r
  unit-keeps (halt.Ask request.SelfActor at) asks found new r tries = selves at asks (actor_of x.kind) refl found new r
  unit-keeps (halt.Value v) asks found new r tries = finishes v asks (actor_of x.kind) refl found new r
  unit-keeps (halt.Fault failed at) asks found new r tries = ends (ending.Fault failed at u) found new r (end_row.fault u (still unit) failed at still-here asks)
  unit-keeps halt.Spent asks found new r tries = ends (ending.Spent u) found new r (end_row.spent u (still unit) still-here asks)
