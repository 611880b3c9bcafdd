-- A turn that an actor begins keeps what is kept standing.
use Rattle.std.proofs.Common.{◌≡◌, ◌∙◌, ◌≤◌, ◌==◌, suc, Bool, true, false, cond, length, length-append, [], ◌∷◌, ◌++◌, refl, sym, ap, subst, arith}
use Rattle.std.specs.Option.{option_and_then}
use Rattle.std.specs.Prelude.{Option, None, Some}
use Rattle.actor_mails.specs.Mails.{mail_at}
use Rattle.serial_model.specs.declared.actor_state.ActorState.{ActorState}
use Rattle.serial_model.specs.declared.end.End.TheVariants as ending
use Rattle.serial_model.specs.declared.entry.Entry.{Entry}
use Rattle.serial_model.specs.declared.entry.Entry.TheVariants.{Take}
use Rattle.serial_model.specs.State.{UnitState, new_unit}
use Rattle.shared_world.proofs.ActorPieces.{actor-no-unit, actor-put, actor_of_piece, actors-put, not-same}
use Rattle.shared_world.proofs.Leading.{live_on, none-leads, seen-here, seen-same, ahead-still}
use Rattle.shared_world.proofs.Live.{no-piece}
use Rattle.shared_world.proofs.Standing.{ended, under-way}
use Rattle.shared_world.proofs.States.{SameStates, machines-put, states-put, unit-put}
use Rattle.shared_world.specs.declared.given.Given.{Given}
use Rattle.shared_world.specs.rows.Turns.{GaveActor, TakesIfAllowed}
use Rattle.shared_world.specs.Seen.{one_or_none}
use Rattle.shared_world.specs.Shared.{Shared, finished_at, state_at}
use Rattle.shared_world.specs.Stands.{IsMachine, Stands}
use Rattle.unit_table.specs.Board.{actor_at, piece_at}
use Rattle.unit_table.specs.declared.mark.Mark.TheVariants as mark
use Rattle.unit_table.specs.declared.piece.Actor.{Actor}
use Rattle.unit_table.specs.declared.piece.Piece.TheVariants as piece
use Rattle.unit_table.specs.declared.unit.Unit.{Unit}
use Rattle.value_core.proofs.NamedLaws.{same_name-equal}
use Rattle.value_core.specs.declared.value.Value.{Value}
use Rattle.value_core.specs.Named.{Name, made_by, same_name}
use Rattle.world_model.proofs.Kept.{gave-keeps}
use Rattle.world_model.specs.Gave as row
use Rattle.world_model.specs.rows.Endings as end_row
use Rattle.world_model.specs.rows.Endings.{ended_by}
use Rattle.world_model.specs.rows.Turns.{BeginsAhead, begun_turn, busy_with, live_turn, taken_now}
use Rattle.world_model.specs.World.{World, still}

module _ (old : Shared) (st : Stands old) (on_going : old.end ≡ None) (a : Name) (found : Given) (new : Shared) (g : GaveActor old a found new) where
  abbrev w : World
  w = st.world

  abbrev actor : ActorState
  actor = g.actor.state

  abbrev turn : Name
  turn = made_by a actor.turns

  abbrev entry : Entry
  entry = Take a g.first.sender

  begins : BeginsAhead old.setup w a turn g.first g.rest actor g.can.behaviour
  begins = record {
    there = st.seen.actors a ∙ ap actor_of_piece g.there;
    idle = g.can.idle;
    behaves = g.can.behaves;
    free = st.seen.taken a ∙ ap one_or_none g.can.free;
    front = st.seen.mails a ∙ g.mail;
    called = refl;
  }

  going : w.end ≡ None
  going = st.seen.end ∙ on_going

  -- the turn, as it begins
  abbrev begun : UnitState
  begun = new_unit (Some a) g.can.behaviour.body (actor.state ++ g.first.args)

  takes : (full : Bool) → (old.made == old.setup.limits.units) ≡ full → TakesIfAllowed old a actor g.first g.rest g.can.behaviour full found new → Stands new
  takes true is r = subst Stands (sym r.others)
      (ended old st entry ending.UnitsSpent new.board r.pieces
      (gave-keeps old.setup st.formed w (ended_by w entry ending.UnitsSpent) (Some entry) st.is_world
      (row.ends entry ending.UnitsSpent (end_row.full_take a g.first g.rest actor g.can.behaviour begins going g.can.definite (ap (λ n. n == old.setup.limits.units) st.seen.made ∙ is)))))
  takes false is r = subst Stands (sym r.others) (record {
    formed = st.formed;
    world = after_world;
    is_world = gave-keeps old.setup st.formed w after_world (Some entry) st.is_world
        (row.takes a g.first g.rest actor g.can.behaviour begins going g.can.definite (ap (λ n. n == old.setup.limits.units) st.seen.made ∙ is));
    seen = record {
      history = ap (λ h. h ++ entry ∷ []) st.seen.history;
      refs = st.seen.refs;
      units = λ q. units q (same_name q turn) refl (states q);
      actors = λ q. actors q (same_name q a) (actor-put a busy old.board r.board r.busy q);
      taken = st.seen.taken;
      mails = λ q. mails q (same_name q a) refl;
      attempts = st.seen.attempts;
      bytes = st.seen.bytes;
      made = ap suc st.seen.made;
      end = st.seen.end;
    };
    machines = machines-put (IsMachine old.setup) turn (Some (piece.Unit r.turn)) r.board new.board (λ z e. let same : r.turn ≡ z = cc in subst (λ (k : Unit). IsMachine old.setup k.machine) same r.begins.machine) r.put
        (machines-put (IsMachine old.setup) a (Some (piece.Actor busy)) old.board r.board (λ z e. cc) r.busy st.machines);
    attempts = λ go v tree there.
        under-way old after v tree refl (apart v (st.attempts go v tree there).unit (st.attempts go v tree there).there) (λ q. refl) grows longer (st.attempts go v tree there);
    numbers = λ q k d in_range. let long = length-append old.history (entry ∷ []) in let below = st.numbers q k d in_range in omega (arith, long, below);
    aheads = λ v h leads. ahead-still old.board new.board v h (apart v (st.aheads v h leads).unit (st.aheads v h leads).there) (st.aheads v h leads);
  })
    where
      busy : Actor
      busy = record { state = busy_with actor; mark = mark.Resting }

      after_world : World
      after_world = taken_now w a (begun_turn (live_turn a actor g.can.behaviour g.first)) g.first g.rest actor

      after : Shared
      after = record old { history = old.history ++ entry ∷ []; board = new.board; mails = new.mails; made = suc old.made }

      longer : length old.history ≤ length (old.history ++ entry ∷ [])
      longer = let long = length-append old.history (entry ∷ []) in omega (arith, long)

      same : SameStates old.board r.board
      same = states-put a (Some (piece.Actor busy)) old.board r.board (sym (actor-no-unit old.board a g.actor g.there)) r.busy

      states : (q : Name) → state_at new.board q ≡ cond (same_name q turn) (Some begun) (state_at old.board q)
      states q =
          unit-put turn r.turn r.board new.board r.put q ∙ ap (λ k. cond (same_name q turn) (Some k) (state_at r.board q)) r.begins.state
          ∙ ap (cond (same_name q turn) (Some begun)) (same q)

      units : (q : Name) (c : Bool) → same_name q turn ≡ c → state_at new.board q ≡ cond c (Some begun) (state_at old.board q) → cond c (Some (still begun)) (w.units q) ≡ live_on old st new.board q
      units q true same e = seen-here old st new.board turn q begun (none-leads old st turn (no-piece old.board turn r.none)) same e
      units q false apart e = seen-same old st new.board q e

      -- the turn has a name of its own
      other : turn ≡ a → ⊥
      other is_it = let no : None ≡ Some (piece.Actor g.actor) = sym r.none ∙ ap (piece_at old.board) is_it ∙ g.there in cc

      no-turn : actor_at r.board turn ≡ None
      no-turn = ap actor_of_piece (r.busy.others turn other) ∙ ap actor_of_piece r.none

      actors : (q : Name) (c : Bool) → actor_at r.board q ≡ cond c (Some (busy_with actor)) (actor_at old.board q) → cond c (Some (busy_with actor)) (w.actors q) ≡ actor_at new.board q
      actors q true e = sym (actors-put turn (Some (piece.Unit r.turn)) r.board new.board (sym no-turn) r.put q ∙ e)
      actors q false e = st.seen.actors q ∙ sym (actors-put turn (Some (piece.Unit r.turn)) r.board new.board (sym no-turn) r.put q ∙ e)

      mails : (q : Name) (c : Bool) → same_name q a ≡ c → cond c g.rest (w.mails q) ≡ mail_at new.mails q
      mails q true e = sym r.mailed.here ∙ ap (mail_at new.mails) (sym (same_name-equal q a e))
      mails q false e = st.seen.mails q ∙ sym (r.mailed.others q (not-same q a e))

      apart : (v : Name) (k : UnitState) → state_at old.board v ≡ Some k → state_at new.board v ≡ state_at old.board v
      apart v k there = on (same_name v turn) refl (states v)
        where
          on : (c : Bool) → same_name v turn ≡ c → state_at new.board v ≡ cond c (Some begun) (state_at old.board v) → state_at new.board v ≡ state_at old.board v
          on true e so = let no : None ≡ Some k = sym (no-piece old.board turn r.none) ∙ ap (state_at old.board) (sym (same_name-equal v turn e)) ∙ there in cc
          on false e so = so

      grows : (f : Name) (v : Value) → finished_at old.board f ≡ Some v → finished_at new.board f ≡ Some v
      grows f v is_v = on (state_at old.board f) refl is_v
        where
          on : (found_state : Option UnitState) → state_at old.board f ≡ found_state → option_and_then (λ (k : UnitState). k.finished) found_state ≡ Some v → finished_at new.board f ≡ Some v
          on None e so = cc
          on (Some k) e so = ap (option_and_then (λ (k : UnitState). k.finished)) (apart f k e ∙ e) ∙ so

-- what an actor comes to keeps what is kept standing
pub actor-gave : (old : Shared) → Stands old → old.end ≡ None → (a : Name) (found : Given) (new : Shared) → GaveActor old a found new → Stands new
actor-gave old st on_going a found new g = takes old st on_going a found new g (old.made == old.setup.limits.units) refl g.gives
