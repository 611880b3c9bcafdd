-- What settles of a turn that runs ahead keeps what is kept standing: its begin, or the first request that it holds.
use Rattle.std.proofs.Common.{◌≡◌, ◌∙◌, ◌≤◌, ◌==◌, ℕ, suc, Bool, true, false, cond, length, List, [], ◌∷◌, ◌++◌, refl, sym, ap, ap₂, subst, arith}
use Rattle.std.specs.Option.{option_and_then, option_map}
use Rattle.std.specs.Prelude.{◌||◌, Option, None, Some, is_some}
use Rattle.actor_mailbox.specs.Messages.{definite as definite_of, passes}
use Rattle.actor_mails.specs.Mails.{mail_at}
use Rattle.core_syntax.specs.declared.node_id.NodeId.{NodeId}
use Rattle.eval_step.specs.Evaluation.{Evaluation}
use Rattle.ref_store.proofs.StoreLaws.{above_committed, read_below}
use Rattle.ref_store.specs.Store.{IsAbove, committed}
use Rattle.serial_model.specs.declared.actor_state.ActorState.{ActorState}
use Rattle.serial_model.specs.declared.end.End.TheVariants as ending
use Rattle.serial_model.specs.declared.entry.Entry.{Entry}
use Rattle.serial_model.specs.declared.entry.Entry.TheVariants.{Run, Take}
use Rattle.serial_model.specs.declared.request.Request.{Request}
use Rattle.serial_model.specs.declared.request.Request.TheVariants as request
use Rattle.serial_model.specs.State.{UnitState, new_unit}
use Rattle.serial_model.specs.Step.{idle, next_made}
use Rattle.shared_world.proofs.ActorPieces.{SameActors, actor-no-unit, actor-put, actor_of_piece, actors-put, not-same, roused-same}
use Rattle.shared_world.proofs.Leading.{none-leads, seen-here, seen-same}
use Rattle.shared_world.proofs.Lefts.{IsFirstHeld, first-held}
use Rattle.shared_world.proofs.Live.{no-piece}
use Rattle.shared_world.proofs.Standing.{above-next, ended, one-version}
use Rattle.shared_world.proofs.States.{EachMachine, SameStates, machines-put, roused-is, roused-state, states-put, unit-put}
use Rattle.shared_world.specs.Ahead.{Ahead}
use Rattle.shared_world.specs.declared.given.Given.{Given}
use Rattle.shared_world.specs.rows.Pieces.{Ends}
use Rattle.shared_world.specs.rows.Leading as lead
use Rattle.shared_world.specs.rows.Actors.{actor_mark, actor_with, roused_unless}
use Rattle.shared_world.specs.rows.Leading.{ForksHeld, SendsHeld, SettlesBegin, SpawnsHeld, TakeSettles, TakeSettlesIfAllowed, leads_on, left_after, mark_settles, settles_now}
use Rattle.shared_world.specs.Seen.{left_at, live_with, one_or_none}
use Rattle.shared_world.specs.Shared.{Shared, finished_by, is_going, ref_now, state_at, unit_state}
use Rattle.shared_world.specs.Stands.{IsMachine, Stands}
use Rattle.task_fork_join.specs.Attempt.{Attempt}
use Rattle.txn_snapshot.specs.SnapshotAnswer.{snapshot_of}
use Rattle.unit_table.specs.Board.{actor_at, lent_at, piece_at, unit_at}
use Rattle.unit_table.specs.declared.mark.Mark.{Mark}
use Rattle.unit_table.specs.declared.mark.Mark.TheVariants as mark
use Rattle.unit_table.specs.declared.mark.Work.TheVariants as work
use Rattle.unit_table.specs.declared.piece.Actor.{Actor}
use Rattle.unit_table.specs.declared.piece.Piece.{Piece}
use Rattle.unit_table.specs.declared.piece.Piece.TheVariants as piece
use Rattle.unit_table.specs.declared.unit.Unit.{Unit}
use Rattle.unit_table.specs.Piece.{unit_in}
use Rattle.value_core.proofs.NamedLaws.{same_name-equal, same_name-itself}
use Rattle.value_core.specs.declared.value.Value.{Value}
use Rattle.value_core.specs.Named.{Name, made_by, named, same_name}
use Rattle.world_model.proofs.Kept.{gave-keeps}
use Rattle.world_model.specs.Ahead.{RunsAhead}
use Rattle.world_model.specs.Gave as row
use Rattle.world_model.specs.Gave.{Gave}
use Rattle.world_model.specs.IsWorld.{IsWorld}
use Rattle.world_model.specs.rows.Effects.{SettlesHeld, effect_settled, fork_settled, held_rest, new_live, print_settled, has_put, ref_settled, send_settled, settled_mail, settled_taken, spawn_settled}
use Rattle.world_model.specs.rows.Endings as end_row
use Rattle.world_model.specs.rows.Endings.{ended_by}
use Rattle.world_model.specs.rows.Turns.{SettlesTake, begun_turn, busy_with, take_settled}
use Rattle.world_model.specs.Message.{settle_or_put, settled}
use Rattle.world_model.specs.World.{LiveUnit, World, is_ahead, with_at}
use Rattle.shared_world.proofs.Leads.{IsBase as IsBaseOf, lead-settles as settles-of, live-is as live-of, runs as runs-of, within as within-of}

-- whether a mark says that a unit is finished does not change where it is ready to settle
settles-mark : (lent : Bool) (m : Mark) → finished_by (mark_settles lent m) ≡ finished_by m
settles-mark true (mark.Ready work.Eval) = refl
settles-mark false (mark.Ready work.Eval) = refl
settles-mark true (mark.Ready work.Settle) = refl
settles-mark false (mark.Ready work.Settle) = refl
settles-mark true (mark.Ready work.Begin) = refl
settles-mark false (mark.Ready work.Begin) = refl
settles-mark lent (mark.Waiting on) = refl
settles-mark lent mark.Resting = refl
settles-mark lent (mark.Finished v) = refl
settles-mark lent mark.Dropped = refl

pub same-unit : (lent : Bool) (found : Option Piece) → option_map unit_state (option_and_then unit_in (option_map (settles_now lent) found)) ≡ option_map unit_state (option_and_then unit_in found)
same-unit lent None = refl
same-unit lent (Some (piece.Unit x)) = ap (λ o. Some (record (unit_state x) { finished = o })) (settles-mark lent x.mark)
same-unit lent (Some (piece.Task m)) = refl
same-unit lent (Some (piece.Actor a)) = refl

pub same-actor : (lent : Bool) (found : Option Piece) → actor_of_piece (option_map (settles_now lent) found) ≡ actor_of_piece found
same-actor lent None = refl
same-actor lent (Some (piece.Unit x)) = refl
same-actor lent (Some (piece.Task m)) = refl
same-actor lent (Some (piece.Actor a)) = refl

pub machine-of : (P : Evaluation → Type 0) (lent : Bool) (found : Option Piece) (z : Unit) → option_and_then unit_in (option_map (settles_now lent) found) ≡ Some z → ((y : Unit) → option_and_then unit_in found ≡ Some y → P y.machine) → P z.machine
machine-of P lent None z e all = cc
machine-of P lent (Some (piece.Unit x)) z e all = let same : record x { mark = mark_settles lent x.mark } ≡ z = cc in subst (λ (k : Unit). P k.machine) same (all x refl)
machine-of P lent (Some (piece.Task m)) z e all = cc
machine-of P lent (Some (piece.Actor a)) z e all = cc

module _ (old : Shared) (st : Stands old) (on_going : old.end ≡ None) (u : Name) (x : Unit) (there : unit_at old.board u ≡ Some x) (h : Ahead) (leads : named u old.aheads ≡ Some h) where
  abbrev w : World
  w = st.world

  abbrev unit : UnitState
  unit = unit_state x

  abbrev live : LiveUnit
  live = live_with (Some h) unit

  live-is : w.units u ≡ Some live
  live-is = live-of old st on_going u x there h leads

  runs : RunsAhead old.setup u (left_at h unit) h.held unit
  runs = runs-of old st on_going u x there h leads

  within : h.answers ≤ length unit.answers
  within = within-of old st on_going u x there h leads

  abbrev IsBase : Shared → Entry → Ahead → World → Type 0
  IsBase base entry left w2 = IsBaseOf old st on_going u x there h leads base entry left w2

  -- ---- the first request that a definite turn holds
  module _ (definite : h.takes ≡ None) (r : Request) (rest : List Request) (held_is : h.held ≡ r ∷ rest) where
    first : IsFirstHeld old.setup u h unit r rest
    first = first-held old.setup u h unit r rest (subst (λ rs. RunsAhead old.setup u (left_at h unit) rs unit) held_is runs)

    abbrev left : Ahead
    left = left_after h r rest

    abbrev after : UnitState
    after = left_at left unit

    settles-held : SettlesHeld w u live r rest after
    settles-held = record { going = st.seen.end ∙ on_going; there = live-is; takes = definite; held = held_is; gives = first.gives }

    -- the turn as it is seen then
    seen-left : held_rest live rest after ≡ live_with (leads_on left) unit
    seen-left = on rest first.runs
      where
        on : (rs : List Request) → RunsAhead old.setup u after rs unit → record live { from = after; held = rs } ≡ live_with (leads_on (left_after h r rs)) unit
        on [] same = ap₂ (λ from takes. record { from = from; now = unit; takes = takes; held = [] }) same definite
        on (k ∷ ks) _ = ap (λ takes. record { from = after; now = unit; takes = takes; held = k ∷ ks }) definite

    within-left : (k : Ahead) → leads_on left ≡ Some k → k.answers ≤ length unit.answers
    within-left k = on rest
      where
        on : (rs : List Request) → leads_on (left_after h r rs) ≡ Some k → k.answers ≤ length unit.answers
        on [] e = cc
        on (q ∷ qs) e = let so : left_after h r (q ∷ qs) ≡ k = cc in subst (λ (j : Ahead). j.answers ≤ length unit.answers) so first.within

    holds-left : (k : Ahead) → leads_on left ≡ Some k → is_ahead (live_with (Some k) unit) ≡ true
    holds-left k = on rest
      where
        on : (rs : List Request) → leads_on (left_after h r rs) ≡ Some k → is_ahead (live_with (Some k) unit) ≡ true
        on [] e = cc
        on (q ∷ qs) e = let so : left_after h r (q ∷ qs) ≡ k = cc in subst (λ (j : Ahead). is_ahead (live_with (Some j) unit) ≡ true) so refl

    -- a row of the law
    goes : (w2 : World) → Gave old.setup w (Some (Run u)) w2 → IsWorld old.setup w2
    goes w2 gave = gave-keeps old.setup st.formed w w2 (Some (Run u)) st.is_world gave

    -- the pieces stay, and so do mail and what is taken
    abbrev in_place : Shared → World → Type 0
    in_place base w2 = (base ≡ record old { versions = base.versions; bytes = base.bytes }) × (w2 ≡ record (effect_settled w u live rest after) { refs = w2.refs; bytes = w2.bytes })

    quiet-base : (base : Shared) (w2 : World) → in_place base w2 → Gave old.setup w (Some (Run u)) w2 → ((q : Name) → w2.refs q ≡ ref_now base.versions q) → w2.bytes ≡ base.bytes
        → ((v : Name) (tree : Attempt) → named v old.attempts ≡ Some tree → (q : Name) → snapshot_of base.versions tree.snapshot q ≡ snapshot_of old.versions tree.snapshot q)
        → IsAbove (suc (suc (length old.history))) base.versions → IsBase base (Run u) left w2
    quiet-base base w2 place gave refs bytes reads numbers = record {
      setup = ap (λ (s : Shared). s.setup) place.0;
      history = ap (λ (s : Shared). s.history) place.0;
      attempts = ap (λ (s : Shared). s.attempts) place.0;
      aheads = ap (λ (s : Shared). s.aheads) place.0;
      end = ap (λ (s : Shared). s.end) place.0;
      stay = λ q k at. ap (λ (s : Shared). state_at s.board q) place.0 ∙ at;
      machines = subst (λ b. EachMachine (IsMachine old.setup) b) (sym (ap (λ (s : Shared). s.board) place.0)) st.machines;
      reads = reads;
      numbers = numbers;
      is_world = goes w2 gave;
      history_is = ap (λ (k : World). k.history) place.1 ∙ ap (λ es. es ++ Run u ∷ []) st.seen.history;
      refs = refs;
      units = λ q. ap (λ (k : World). k.units q) place.1 ∙ ap₂ (λ here there. cond (same_name q u) (Some here) there) seen-left (st.seen.units q) ∙ ap (λ b. cond (same_name q u) (Some (live_with (leads_on left) unit)) (option_map (live_with (named q old.aheads)) (state_at b q))) (sym (ap (λ (s : Shared). s.board) place.0));
      actors = λ a. ap (λ (k : World). k.actors a) place.1 ∙ st.seen.actors a ∙ sym (ap (λ (s : Shared). actor_at s.board a) place.0);
      taken = λ a. ap (λ (k : World). k.taken a) place.1 ∙ st.seen.taken a ∙ sym (ap (λ (s : Shared). one_or_none (named a s.taken)) place.0);
      mails = λ a. ap (λ (k : World). k.mails a) place.1 ∙ st.seen.mails a ∙ sym (ap (λ (s : Shared). mail_at s.mails a) place.0);
      tried = λ v. ap (λ (k : World). k.attempts v) place.1;
      bytes = bytes;
      made = ap (λ (k : World). k.made) place.1 ∙ st.seen.made ∙ sym (ap (λ (s : Shared). s.made) place.0);
      end_is = ap (λ (k : World). k.end) place.1 ∙ st.seen.end ∙ sym (ap (λ (s : Shared). s.end) place.0);
      within = within-left;
      holds = holds-left;
    }

  -- what it does, once it is settled: the bytes, or nothing but its answer
  pub settles-print : (text : List ℕ) (rest : List Request) (definite : h.takes ≡ None) (held_is : h.held ≡ request.Print text ∷ rest)
      → IsBase (record old { bytes = old.bytes ++ text }) (Run u) (left_after h (request.Print text) rest) (print_settled w u live rest (left_at (left_after h (request.Print text) rest) unit) text)
  settles-print text rest definite held_is =
      quiet-base definite (request.Print text) rest held_is (record old { bytes = old.bytes ++ text }) (print_settled w u live rest (after definite (request.Print text) rest held_is) text) (refl, refl)
      (row.settles_print u live text rest (after definite (request.Print text) rest held_is) (settles-held definite (request.Print text) rest held_is)) st.seen.refs (ap (λ b. b ++ text) st.seen.bytes)
      (λ v tree at q. refl) (above-next (suc (length old.history)) old.versions st.numbers)

  pub settles-become : (behaviour : ℕ) (state : List Value) (rest : List Request) (definite : h.takes ≡ None) (held_is : h.held ≡ request.Become behaviour state ∷ rest)
      → IsBase old (Run u) (left_after h (request.Become behaviour state) rest) (effect_settled w u live rest (left_at (left_after h (request.Become behaviour state) rest) unit))
  settles-become behaviour state rest definite held_is =
      let r = request.Become behaviour state in
      quiet-base definite r rest held_is old (effect_settled w u live rest (after definite r rest held_is)) (refl, refl)
      (row.settles_become u live behaviour state rest (after definite r rest held_is) (settles-held definite r rest held_is)) st.seen.refs st.seen.bytes
      (λ v tree at q. refl) (above-next (suc (length old.history)) old.versions st.numbers)

  pub settles-self : (rest : List Request) (definite : h.takes ≡ None) (held_is : h.held ≡ request.SelfActor ∷ rest)
      → IsBase old (Run u) (left_after h request.SelfActor rest) (effect_settled w u live rest (left_at (left_after h request.SelfActor rest) unit))
  settles-self rest definite held_is =
      quiet-base definite request.SelfActor rest held_is old (effect_settled w u live rest (after definite request.SelfActor rest held_is)) (refl, refl)
      (row.settles_self u live rest (after definite request.SelfActor rest held_is) (settles-held definite request.SelfActor rest held_is)) st.seen.refs st.seen.bytes
      (λ v tree at q. refl) (above-next (suc (length old.history)) old.versions st.numbers)

  -- a new ref
  pub settles-ref : (v : Value) (rest : List Request) (definite : h.takes ≡ None) (held_is : h.held ≡ request.NewRef v ∷ rest)
      → IsBase (record old { versions = committed old.versions ((next_made u (left_at h unit), v) ∷ []) (suc (length old.history)) }) (Run u) (left_after h (request.NewRef v) rest)
      (ref_settled w u live rest (left_at (left_after h (request.NewRef v) rest) unit) v)
  settles-ref v rest definite held_is =
      let r = request.NewRef v in
      let n = next_made u (left_at h unit) in
      let versions = committed old.versions ((n, v) ∷ []) (suc (length old.history)) in
      quiet-base definite r rest held_is (record old { versions = versions }) (ref_settled w u live rest (after definite r rest held_is) v) (refl, refl)
      (row.settles_ref u live v rest (after definite r rest held_is) (settles-held definite r rest held_is)) (one-version old st n v) st.seen.bytes
      (λ q tree at k. let way = st.attempts (ap is_going on_going) q tree at in let inside = way.within in read_below old.versions ((n, v) ∷ []) (suc (length old.history)) tree.snapshot tt (omega (arith, inside)) k)
      (above_committed old.versions versions ((n, v) ∷ []) (suc (length old.history)) tt refl st.numbers (suc (suc (length old.history))) (omega arith))

  -- a new actor
  pub settles-spawn : (behaviour : ℕ) (state : List Value) (rest : List Request) (definite : h.takes ≡ None) (held_is : h.held ≡ request.Spawn behaviour state ∷ rest)
      (base : Shared) → SpawnsHeld old (next_made u (left_at h unit)) behaviour state base
      → IsBase base (Run u) (left_after h (request.Spawn behaviour state) rest) (spawn_settled w u live rest (left_at (left_after h (request.Spawn behaviour state) rest) unit) behaviour state)
  settles-spawn behaviour state rest definite held_is base is = record {
    setup = ap (λ (s : Shared). s.setup) is.others;
    history = ap (λ (s : Shared). s.history) is.others;
    attempts = ap (λ (s : Shared). s.attempts) is.others;
    aheads = ap (λ (s : Shared). s.aheads) is.others;
    end = ap (λ (s : Shared). s.end) is.others;
    stay = λ q k at. states q ∙ at;
    machines = machines-put (IsMachine old.setup) n (Some (actor_with (idle behaviour state) (mail_at old.mails n))) old.board base.board (λ z e. cc) is.put st.machines;
    reads = λ v tree at q. ap (λ (s : Shared). snapshot_of s.versions tree.snapshot q) is.others;
    numbers = subst (λ versions. IsAbove (suc (suc (length old.history))) versions) (sym (ap (λ (s : Shared). s.versions) is.others)) (above-next (suc (length old.history)) old.versions st.numbers);
    is_world = goes definite r rest held_is (spawn_settled w u live rest (after definite r rest held_is) behaviour state) (row.settles_spawn u live behaviour state rest (after definite r rest held_is) (settles-held definite r rest held_is));
    history_is = ap (λ es. es ++ Run u ∷ []) st.seen.history;
    refs = λ q. st.seen.refs q ∙ sym (ap (λ (s : Shared). ref_now s.versions q) is.others);
    units = λ q. ap₂ (λ here there. cond (same_name q u) (Some here) there) (seen-left definite r rest held_is) (st.seen.units q ∙ sym (ap (option_map (live_with (named q old.aheads))) (states q)));
    actors = λ a. actors a (same_name a n) (actor-put n (record { state = idle behaviour state; mark = actor_mark false (mail_at old.mails n) }) old.board base.board is.put a);
    taken = λ a. st.seen.taken a ∙ sym (ap (λ (s : Shared). one_or_none (named a s.taken)) is.others);
    mails = λ a. st.seen.mails a ∙ sym (ap (λ (s : Shared). mail_at s.mails a) is.others);
    tried = λ v. refl;
    bytes = st.seen.bytes ∙ sym (ap (λ (s : Shared). s.bytes) is.others);
    made = st.seen.made ∙ sym (ap (λ (s : Shared). s.made) is.others);
    end_is = st.seen.end ∙ sym (ap (λ (s : Shared). s.end) is.others);
    within = within-left definite r rest held_is;
    holds = holds-left definite r rest held_is;
  }
    where
      r : Request
      r = request.Spawn behaviour state

      n : Name
      n = next_made u (left_at h unit)

      states : SameStates old.board base.board
      states = states-put n (Some (actor_with (idle behaviour state) (mail_at old.mails n))) old.board base.board (sym (no-piece old.board n is.none)) is.put

      actors : (a : Name) (c : Bool) → actor_at base.board a ≡ cond c (Some (idle behaviour state)) (actor_at old.board a) → cond c (Some (idle behaviour state)) (w.actors a) ≡ actor_at base.board a
      actors a true e = sym e
      actors a false e = st.seen.actors a ∙ sym e

  -- a new unit
  pub settles-fork : (body : NodeId) (values : List Value) (rest : List Request) (definite : h.takes ≡ None) (held_is : h.held ≡ request.Fork body values ∷ rest) → (old.made == old.setup.limits.units) ≡ false
      → (base : Shared) → ForksHeld old (next_made u (left_at h unit)) body values base
      → IsBase base (Run u) (left_after h (request.Fork body values) rest) (fork_settled w u live rest (left_at (left_after h (request.Fork body values) rest) unit) body values)
  settles-fork body values rest definite held_is room base is = record {
    setup = ap (λ (s : Shared). s.setup) is.others;
    history = ap (λ (s : Shared). s.history) is.others;
    attempts = ap (λ (s : Shared). s.attempts) is.others;
    aheads = ap (λ (s : Shared). s.aheads) is.others;
    end = ap (λ (s : Shared). s.end) is.others;
    stay = λ q k at. stays q k at (same_name q child) refl (states q);
    machines = machines-put (IsMachine old.setup) child (Some (piece.Unit is.child)) old.board base.board (λ z e. let same : is.child ≡ z = cc in subst (λ (k : Unit). IsMachine old.setup k.machine) same is.begins.machine) is.put st.machines;
    reads = λ v tree at q. ap (λ (s : Shared). snapshot_of s.versions tree.snapshot q) is.others;
    numbers = subst (λ versions. IsAbove (suc (suc (length old.history))) versions) (sym (ap (λ (s : Shared). s.versions) is.others)) (above-next (suc (length old.history)) old.versions st.numbers);
    is_world = goes definite r rest held_is (fork_settled w u live rest (after definite r rest held_is) body values) (row.settles_fork u live body values rest (after definite r rest held_is) (ap (λ n. n == old.setup.limits.units) st.seen.made ∙ room) (settles-held definite r rest held_is));
    history_is = ap (λ es. es ++ Run u ∷ []) st.seen.history;
    refs = λ q. st.seen.refs q ∙ sym (ap (λ (s : Shared). ref_now s.versions q) is.others);
    units = λ q. ap₂ (λ here there. cond (same_name q u) (Some here) there) (seen-left definite r rest held_is) (seen-child q (same_name q child) refl (states q));
    actors = λ a. st.seen.actors a ∙ sym (actors-put child (Some (piece.Unit is.child)) old.board base.board (sym (ap actor_of_piece is.none)) is.put a);
    taken = λ a. st.seen.taken a ∙ sym (ap (λ (s : Shared). one_or_none (named a s.taken)) is.others);
    mails = λ a. st.seen.mails a ∙ sym (ap (λ (s : Shared). mail_at s.mails a) is.others);
    tried = λ v. refl;
    bytes = st.seen.bytes ∙ sym (ap (λ (s : Shared). s.bytes) is.others);
    made = ap suc st.seen.made ∙ sym (ap (λ (s : Shared). s.made) is.others);
    end_is = st.seen.end ∙ sym (ap (λ (s : Shared). s.end) is.others);
    within = within-left definite r rest held_is;
    holds = holds-left definite r rest held_is;
  }
    where
      r : Request
      r = request.Fork body values

      child : Name
      child = next_made u (left_at h unit)

      no-child : state_at old.board child ≡ None
      no-child = no-piece old.board child is.none

      states : (q : Name) → state_at base.board q ≡ cond (same_name q child) (Some (new_unit None body values)) (state_at old.board q)
      states q = unit-put child is.child old.board base.board is.put q ∙ ap (λ k. cond (same_name q child) (Some k) (state_at old.board q)) is.begins.state

      stays : (q : Name) (k : UnitState) → state_at old.board q ≡ Some k → (c : Bool) → same_name q child ≡ c → state_at base.board q ≡ cond c (Some (new_unit None body values)) (state_at old.board q) → state_at base.board q ≡ Some k
      stays q k at true e so = let no : None ≡ Some k = sym no-child ∙ ap (state_at old.board) (sym (same_name-equal q child e)) ∙ at in cc
      stays q k at false e so = so ∙ at

      seen-child : (q : Name) (c : Bool) → same_name q child ≡ c → state_at base.board q ≡ cond c (Some (new_unit None body values)) (state_at old.board q)
          → cond c (Some (new_live body values)) (w.units q) ≡ option_map (live_with (named q old.aheads)) (state_at base.board q)
      seen-child q true e so = seen-here old st base.board child q (new_unit None body values) (none-leads old st child no-child) e so
      seen-child q false e so = seen-same old st base.board q so

  -- ---- its begin
  module _ (a : Name) (begun : h.takes ≡ Some a) (g : SettlesBegin old u x h a) where
    abbrev actor_then : ActorState
    actor_then = g.actor.state

    abbrev begin : Entry
    begin = Take a g.message.sender

    abbrev begin_left : Ahead
    begin_left = record h { takes = None }

    settles-take : SettlesTake old.setup w a live g.message actor_then
    settles-take = record {
      going = st.seen.end ∙ on_going;
      actor_there = st.seen.actors a ∙ ap actor_of_piece g.there;
      there = ap w.units (sym g.called) ∙ live-is;
      takes = begun;
      took = st.seen.taken a ∙ ap one_or_none g.took;
      definite = g.definite;
    }

    -- the turn as it is seen then
    seen-begun : begun_turn live ≡ live_with (leads_on begin_left) unit
    seen-begun = on h.held runs
      where
        on : (rs : List Request) → RunsAhead old.setup u (left_at h unit) rs unit → record live { takes = None; held = rs } ≡ live_with (leads_on (record h { takes = None; held = rs })) unit
        on [] same = ap (λ from. record { from = from; now = unit; takes = None; held = [] }) same
        on (k ∷ ks) _ = refl

    within-begun : (k : Ahead) → leads_on begin_left ≡ Some k → k.answers ≤ length unit.answers
    within-begun k = on h.held
      where
        on : (rs : List Request) → leads_on (record h { takes = None; held = rs }) ≡ Some k → k.answers ≤ length unit.answers
        on [] e = cc
        on (q ∷ qs) e = let so : record h { takes = None; held = q ∷ qs } ≡ k = cc in subst (λ (j : Ahead). j.answers ≤ length unit.answers) so within

    holds-begun : (k : Ahead) → leads_on begin_left ≡ Some k → is_ahead (live_with (Some k) unit) ≡ true
    holds-begun k = on h.held
      where
        on : (rs : List Request) → leads_on (record h { takes = None; held = rs }) ≡ Some k → is_ahead (live_with (Some k) unit) ≡ true
        on [] e = cc
        on (q ∷ qs) e = let so : record h { takes = None; held = q ∷ qs } ≡ k = cc in subst (λ (j : Ahead). is_ahead (live_with (Some j) unit) ≡ true) so refl

    module _ (found : Given) (new : Shared) where
      take-goes : (old.made == old.setup.limits.units) ≡ false → TakeSettles old u x h a g.actor g.message found new → Stands new
      take-goes room r = settles-of old st on_going u x there h leads base begin begin_left w2 (record {
        setup = refl;
        history = refl;
        attempts = refl;
        aheads = refl;
        end = refl;
        stay = λ q k at. states q ∙ at;
        machines = machines-put (IsMachine old.setup) a (Some (piece.Actor busy)) old.board r.board (λ z e. cc) r.busy st.machines;
        reads = λ v tree at q. refl;
        numbers = above-next (suc (length old.history)) old.versions st.numbers;
        is_world = gave-keeps old.setup st.formed w w2 (Some begin) st.is_world (row.settles_take a live g.message actor_then settles-take (ap (λ n. n == old.setup.limits.units) st.seen.made ∙ room));
        history_is = ap (λ es. es ++ begin ∷ []) st.seen.history;
        refs = st.seen.refs;
        units = λ q.
            ap (λ n. with_at w.units n (Some (begun_turn live)) q) (sym g.called)
            ∙ ap₂ (λ here there. cond (same_name q u) (Some here) there) seen-begun (st.seen.units q ∙ sym (ap (option_map (live_with (named q old.aheads))) (states q)));
        actors = λ q. actors q (same_name q a) (actor-put a busy old.board r.board r.busy q);
        taken = λ q. takes q (same_name q a) (r.takes q);
        mails = st.seen.mails;
        tried = λ v. refl;
        bytes = st.seen.bytes;
        made = ap suc st.seen.made;
        end_is = st.seen.end;
        within = within-begun;
        holds = holds-begun;
      }) found new r.settles
        where
          busy : Actor
          busy = record { state = busy_with actor_then; mark = mark.Resting }

          base : Shared
          base = record old { board = r.board; taken = r.taken; made = suc old.made }

          w2 : World
          w2 = take_settled w a live g.message actor_then

          states : SameStates old.board r.board
          states = states-put a (Some (piece.Actor busy)) old.board r.board (sym (actor-no-unit old.board a g.actor g.there)) r.busy

          actors : (q : Name) (c : Bool) → actor_at r.board q ≡ cond c (Some (busy_with actor_then)) (actor_at old.board q) → cond c (Some (busy_with actor_then)) (w.actors q) ≡ actor_at r.board q
          actors q true e = sym e
          actors q false e = st.seen.actors q ∙ sym e

          takes : (q : Name) (c : Bool) → named q r.taken ≡ cond c None (named q old.taken) → cond c [] (w.taken q) ≡ one_or_none (named q r.taken)
          takes q true e = sym (ap one_or_none e)
          takes q false e = st.seen.taken q ∙ sym (ap one_or_none e)

      pub begin-settles : (full : Bool) → (old.made == old.setup.limits.units) ≡ full → TakeSettlesIfAllowed old u x h a g.actor g.message full found new → Stands new
      begin-settles true is r = subst Stands (sym r.others)
          (ended old st begin ending.UnitsSpent new.board r.pieces
          (gave-keeps old.setup st.formed w (ended_by w begin ending.UnitsSpent) (Some begin) st.is_world
          (row.ends begin ending.UnitsSpent (end_row.full_held_take a live g.message actor_then settles-take (ap (λ n. n == old.setup.limits.units) st.seen.made ∙ is)))))
      begin-settles false is r = take-goes is r

  -- a send that was held
  pub settles-send : (to : Name) (args : List Value) (rest : List Request) (definite : h.takes ≡ None) (held_is : h.held ≡ request.Send to args ∷ rest) (base : Shared) → SendsHeld old u to args base
      → IsBase base (Run u) (left_after h (request.Send to args) rest) (send_settled w u live rest (left_at (left_after h (request.Send to args) rest) unit) to args)
  settles-send to args rest definite held_is base sends = by sends
    where
      r : Request
      r = request.Send to args

      w2 : World
      w2 = send_settled w u live rest (after definite r rest held_is) to args

      -- pieces, mail and what is taken change alone
      with-base : base ≡ record old { taken = base.taken; mails = base.mails; board = base.board } → SameStates old.board base.board → SameActors old.board base.board → EachMachine (IsMachine old.setup) base.board
          → ((a : Name) → w2.taken a ≡ one_or_none (named a base.taken)) → ((a : Name) → w2.mails a ≡ mail_at base.mails a) → IsBase base (Run u) (left_after h r rest) w2
      with-base others states actors machines taken mails = record {
        setup = ap (λ (s : Shared). s.setup) others;
        history = ap (λ (s : Shared). s.history) others;
        attempts = ap (λ (s : Shared). s.attempts) others;
        aheads = ap (λ (s : Shared). s.aheads) others;
        end = ap (λ (s : Shared). s.end) others;
        stay = λ q k at. states q ∙ at;
        machines = machines;
        reads = λ v tree at q. ap (λ (s : Shared). snapshot_of s.versions tree.snapshot q) others;
        numbers = subst (λ versions. IsAbove (suc (suc (length old.history))) versions) (sym (ap (λ (s : Shared). s.versions) others)) (above-next (suc (length old.history)) old.versions st.numbers);
        is_world = goes definite r rest held_is w2 (row.settles_send u live to args rest (after definite r rest held_is) (settles-held definite r rest held_is));
        history_is = ap (λ es. es ++ Run u ∷ []) st.seen.history;
        refs = λ q. st.seen.refs q ∙ sym (ap (λ (s : Shared). ref_now s.versions q) others);
        units = λ q. ap₂ (λ here there. cond (same_name q u) (Some here) there) (seen-left definite r rest held_is) (st.seen.units q ∙ sym (ap (option_map (live_with (named q old.aheads))) (states q)));
        actors = λ a. st.seen.actors a ∙ sym (actors a);
        taken = taken;
        mails = mails;
        tried = λ v. refl;
        bytes = st.seen.bytes ∙ sym (ap (λ (s : Shared). s.bytes) others);
        made = st.seen.made ∙ sym (ap (λ (s : Shared). s.made) others);
        end_is = st.seen.end ∙ sym (ap (λ (s : Shared). s.end) others);
        within = within-left definite r rest held_is;
        holds = holds-left definite r rest held_is;
      }

      by : SendsHeld old u to args base → IsBase base (Run u) (left_after h r rest) w2
      by (lead.taken m actor took on actor_there changed ready others) =
          with-base (others ∙ ap (λ ms. record old { taken = base.taken; mails = ms; board = base.board }) (sym (ap (λ (s : Shared). s.mails) others)))
          (states-put turn now old.board base.board (same-unit lent (piece_at old.board turn)) ready)
          (actors-put turn now old.board base.board (same-actor lent (piece_at old.board turn)) ready)
          (machines-put (IsMachine old.setup) turn now old.board base.board (λ z e. machine-of (IsMachine old.setup) lent (piece_at old.board turn) z e (st.machines turn)) ready st.machines)
          (λ a. takes a (same_name a to) refl (changed a))
          (λ a. mails a (same_name a to) refl)
        where
          turn : Name
          turn = made_by to actor.turns

          lent : Bool
          lent = is_some (lent_at old.board turn)

          now : Option Piece
          now = option_map (settles_now lent) (piece_at old.board turn)

          is_taken : w.taken to ≡ m ∷ []
          is_taken = st.seen.taken to ∙ ap one_or_none took

          passes_so : has_put u (m ∷ []) ≡ true
          passes_so = ap (λ d. passes (same_name u) d || false) on ∙ ap (λ c. c || false) (same_name-itself u)

          takes : (a : Name) (c : Bool) → same_name a to ≡ c → named a base.taken ≡ cond c (Some (definite_of m)) (named a old.taken)
              → cond c (settled_taken u (settled u args) (w.taken to)) (w.taken a) ≡ one_or_none (named a base.taken)
          takes a true e is =
              ap (settled_taken u (settled u args)) is_taken
              ∙ ap (λ c. cond c (settle_or_put (same_name u) (settled u args) (m ∷ [])) (m ∷ [])) passes_so
              ∙ ap (λ c. cond c (definite_of m ∷ []) (m ∷ settled u args ∷ [])) (ap (passes (same_name u)) on ∙ same_name-itself u)
              ∙ sym (ap one_or_none is)
          takes a false e is = st.seen.taken a ∙ sym (ap one_or_none is)

          mails : (a : Name) (c : Bool) → same_name a to ≡ c → cond c (settled_mail u (settled u args) (w.taken to) (w.mails to)) (w.mails a) ≡ mail_at base.mails a
          mails a true e =
              ap (λ ms. settled_mail u (settled u args) ms (w.mails to)) is_taken
              ∙ ap (λ c. cond c (w.mails to) (settle_or_put (same_name u) (settled u args) (w.mails to))) passes_so
              ∙ st.seen.mails to ∙ ap (λ n. mail_at old.mails n) (sym (same_name-equal a to e)) ∙ sym (ap (λ (s : Shared). mail_at s.mails a) others)
          mails a false e = st.seen.mails a ∙ sym (ap (λ (s : Shared). mail_at s.mails a) others)
      by (lead.mailed none mailed rouses others) =
          with-base (others ∙ ap (λ ts. record old { taken = ts; mails = base.mails; board = base.board }) (sym (ap (λ (s : Shared). s.taken) others)))
          (states-put to (roused_unless begun (piece_at old.board to)) old.board base.board (roused-state begun (piece_at old.board to)) rouses)
          (actors-put to (roused_unless begun (piece_at old.board to)) old.board base.board (roused-same begun (piece_at old.board to)) rouses)
          (machines-put (IsMachine old.setup) to (roused_unless begun (piece_at old.board to)) old.board base.board (λ z e. st.machines to z (sym (roused-is begun (piece_at old.board to)) ∙ e)) rouses st.machines)
          (λ a. takes a (same_name a to) refl)
          (λ a. mails a (same_name a to) refl)
        where
          begun : Bool
          begun = is_some (named to old.taken)

          none_so : has_put u (w.taken to) ≡ false
          none_so = ap (has_put u) (st.seen.taken to) ∙ none

          takes : (a : Name) (c : Bool) → same_name a to ≡ c → cond c (settled_taken u (settled u args) (w.taken to)) (w.taken a) ≡ one_or_none (named a base.taken)
          takes a true e =
              ap (λ c. cond c (settle_or_put (same_name u) (settled u args) (w.taken to)) (w.taken to)) none_so
              ∙ st.seen.taken to ∙ ap (λ n. one_or_none (named n old.taken)) (sym (same_name-equal a to e)) ∙ sym (ap (λ (s : Shared). one_or_none (named a s.taken)) others)
          takes a false e = st.seen.taken a ∙ sym (ap (λ (s : Shared). one_or_none (named a s.taken)) others)

          mails : (a : Name) (c : Bool) → same_name a to ≡ c → cond c (settled_mail u (settled u args) (w.taken to) (w.mails to)) (w.mails a) ≡ mail_at base.mails a
          mails a true e =
              ap (λ c. cond c (w.mails to) (settle_or_put (same_name u) (settled u args) (w.mails to))) none_so
              ∙ ap (settle_or_put (same_name u) (settled u args)) (st.seen.mails to) ∙ sym mailed.here ∙ ap (mail_at base.mails) (sym (same_name-equal a to e))
          mails a false e = st.seen.mails a ∙ sym (mailed.others a (not-same a to e))

  -- a fork where the limit allows no unit more
  pub fork-ends : (body : NodeId) (values : List Value) (rest : List Request) (definite : h.takes ≡ None) (held_is : h.held ≡ request.Fork body values ∷ rest) → (old.made == old.setup.limits.units) ≡ true
      → (found : Given) (new : Shared) → Ends old u ending.UnitsSpent found new → Stands new
  fork-ends body values rest definite held_is full found new r = subst Stands (sym r.others)
      (ended old st (Run u) ending.UnitsSpent new.board r.pieces
      (goes definite (request.Fork body values) rest held_is (ended_by w (Run u) ending.UnitsSpent)
      (row.ends (Run u) ending.UnitsSpent (end_row.full_held_fork u live body values rest (after definite (request.Fork body values) rest held_is) (settles-held definite (request.Fork body values) rest held_is) (ap (λ n. n == old.setup.limits.units) st.seen.made ∙ full)))))
