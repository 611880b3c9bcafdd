-- A turn that is begun ahead of the history keeps what is kept standing.
use Rattle.std.proofs.Common.{◌≡◌, ◌∙◌, Bool, true, false, cond, length, le_refl, [], ◌∷◌, ◌++◌, refl, sym, ap, ap₂, subst, arith}
use Rattle.std.specs.Option.{option_and_then, option_map}
use Rattle.std.specs.Prelude.{Option, None, Some}
use Rattle.actor_mails.specs.Mails.{mail_at}
use Rattle.serial_model.specs.declared.actor_state.ActorState.{ActorState}
use Rattle.serial_model.specs.State.{UnitState, new_unit}
use Rattle.shared_world.proofs.ActorPieces.{actor-no-unit, actor-put, actor_of_piece, actors-put, not-same}
use Rattle.shared_world.proofs.Leading.{ahead-still}
use Rattle.shared_world.proofs.Live.{no-piece}
use Rattle.shared_world.proofs.Standing.{stands-next}
use Rattle.shared_world.proofs.States.{SameStates, machines-put, states-put, unit-put}
use Rattle.shared_world.specs.Ahead.{Ahead}
use Rattle.shared_world.specs.declared.given.Given.{Given}
use Rattle.shared_world.specs.rows.Leading.{GaveTentative, begun_by}
use Rattle.shared_world.specs.Seen.{live_with, one_or_none}
use Rattle.shared_world.specs.Shared.{Shared, finished_at, is_going, state_at}
use Rattle.shared_world.specs.Stands.{IsAheadAt, IsMachine, Stands}
use Rattle.unit_table.specs.Board.{actor_at, piece_at}
use Rattle.unit_table.specs.declared.mark.Mark.TheVariants as mark
use Rattle.unit_table.specs.declared.piece.Actor.{Actor}
use Rattle.unit_table.specs.declared.piece.Piece.TheVariants as piece
use Rattle.unit_table.specs.declared.unit.Unit.{Unit}
use Rattle.value_core.proofs.NamedLaws.{same_name-equal}
use Rattle.value_core.specs.declared.value.Value.{Value}
use Rattle.value_core.specs.Named.{Name, made_by, named, same_name}
use Rattle.world_model.proofs.Kept.{gave-keeps}
use Rattle.world_model.specs.Gave as row
use Rattle.world_model.specs.rows.Turns.{BeginsAhead, begun_ahead, live_turn}
use Rattle.world_model.specs.World.{World}

module _ (old : Shared) (st : Stands old) (on_going : old.end ≡ None) (a : Name) (found : Given) (new : Shared) (g : GaveTentative old a found new) where
  abbrev w : World
  w = st.world

  abbrev actor : ActorState
  actor = g.actor.state

  abbrev turn : Name
  turn = made_by a actor.turns

  -- the turn, as it begins
  abbrev begun : UnitState
  begun = new_unit (Some a) g.behaviour.body (actor.state ++ g.first.args)

  begins : BeginsAhead old.setup w a turn g.first g.rest actor g.behaviour
  begins = record {
    there = st.seen.actors a ∙ ap actor_of_piece g.there;
    idle = g.idle;
    behaves = g.behaves;
    free = st.seen.taken a ∙ ap one_or_none g.free;
    front = st.seen.mails a ∙ g.mail;
    called = refl;
  }

  abbrev w2 : World
  w2 = begun_ahead w a turn g.first g.rest (live_turn a actor g.behaviour g.first)

  abbrev resting : Actor
  resting = record { state = actor; mark = mark.Resting }

  same : SameStates old.board g.takes.board
  same = states-put a (Some (piece.Actor resting)) old.board g.takes.board (sym (actor-no-unit old.board a g.actor g.there)) g.takes.rests

  states : (q : Name) → state_at new.board q ≡ cond (same_name q turn) (Some begun) (state_at old.board q)
  states q =
      unit-put turn g.takes.turn g.takes.board new.board g.takes.put q ∙ ap (λ k. cond (same_name q turn) (Some k) (state_at g.takes.board q)) g.takes.begins.state
      ∙ ap (cond (same_name q turn) (Some begun)) (same q)

  -- the turn has a name of its own
  other : turn ≡ a → ⊥
  other is_it = let no : None ≡ Some (piece.Actor g.actor) = sym g.takes.none ∙ ap (piece_at old.board) is_it ∙ g.there in cc

  no-turn : actor_at g.takes.board turn ≡ None
  no-turn = ap actor_of_piece (g.takes.rests.others turn other) ∙ ap actor_of_piece g.takes.none

  actors : (q : Name) → actor_at new.board q ≡ actor_at old.board q
  actors q = actors-put turn (Some (piece.Unit g.takes.turn)) g.takes.board new.board (sym no-turn) g.takes.put q ∙ on (same_name q a) refl (actor-put a resting old.board g.takes.board g.takes.rests q)
    where
      on : (c : Bool) → same_name q a ≡ c → actor_at g.takes.board q ≡ cond c (Some actor) (actor_at old.board q) → actor_at g.takes.board q ≡ actor_at old.board q
      on true e so = so ∙ sym (ap (actor_at old.board) (same_name-equal q a e) ∙ ap actor_of_piece g.there)
      on false e so = so

  -- what stood there does
  apart : (v : Name) (k : UnitState) → state_at old.board v ≡ Some k → state_at new.board v ≡ state_at old.board v
  apart v k there = on (same_name v turn) refl (states v)
    where
      on : (c : Bool) → same_name v turn ≡ c → state_at new.board v ≡ cond c (Some begun) (state_at old.board v) → state_at new.board v ≡ state_at old.board v
      on true e so = let no : None ≡ Some k = sym (no-piece old.board turn g.takes.none) ∙ ap (state_at old.board) (sym (same_name-equal v turn e)) ∙ there in cc
      on false e so = so

  pub begun-keeps : Stands new
  begun-keeps = subst Stands (sym g.takes.others) (stands-next old st (record old { board = new.board; mails = new.mails; taken = new.taken; aheads = new.aheads }) w2 (record {
    setup = refl;
    is_world = gave-keeps old.setup st.formed w w2 None st.is_world (row.takes_ahead a g.first g.rest actor g.behaviour begins g.tentative);
    history = st.seen.history;
    longer = le_refl (length old.history);
    refs = st.seen.refs;
    units = λ q. units q (same_name q turn) (g.takes.aheads q) (states q);
    actors = λ q. st.seen.actors q ∙ sym (actors q);
    taken = λ q. taken q (same_name q a) (g.takes.taken q);
    mails = λ q. mails q (same_name q a) refl;
    attempts = refl;
    tried = λ v. refl;
    bytes = st.seen.bytes;
    made = st.seen.made;
    end = st.seen.end;
    going = refl;
    machines = machines-put (IsMachine old.setup) turn (Some (piece.Unit g.takes.turn)) g.takes.board new.board (λ z e. let one : g.takes.turn ≡ z = cc in subst (λ (k : Unit). IsMachine old.setup k.machine) one g.takes.begins.machine) g.takes.put
        (machines-put (IsMachine old.setup) a (Some (piece.Actor resting)) old.board g.takes.board (λ z e. cc) g.takes.rests st.machines);
    stay = λ v tree at. let way = st.attempts (ap is_going on_going) v tree at in apart v way.unit way.there;
    grows = grows;
    reads = λ v tree at q. refl;
    numbers = st.numbers;
    aheads = λ v k at. aheads v k (same_name v turn) refl (sym (g.takes.aheads v) ∙ at);
  }))
    where
      units : (q : Name) (c : Bool) → named q new.aheads ≡ cond c (Some (begun_by a)) (named q old.aheads) → state_at new.board q ≡ cond c (Some begun) (state_at old.board q)
          → cond c (Some (live_turn a actor g.behaviour g.first)) (w.units q) ≡ option_map (live_with (named q new.aheads)) (state_at new.board q)
      units q true is so = sym (ap₂ (λ k state. option_map (live_with k) state) is so)
      units q false is so = st.seen.units q ∙ sym (ap₂ (λ k state. option_map (live_with k) state) is so)

      taken : (q : Name) (c : Bool) → named q new.taken ≡ cond c (Some g.first) (named q old.taken) → cond c (g.first ∷ []) (w.taken q) ≡ one_or_none (named q new.taken)
      taken q true is = sym (ap one_or_none is)
      taken q false is = st.seen.taken q ∙ sym (ap one_or_none is)

      mails : (q : Name) (c : Bool) → same_name q a ≡ c → cond c g.rest (w.mails q) ≡ mail_at new.mails q
      mails q true e = sym g.takes.mailed.here ∙ ap (mail_at new.mails) (sym (same_name-equal q a e))
      mails q false e = st.seen.mails q ∙ sym (g.takes.mailed.others q (not-same q a e))

      grows : (f : Name) (v : Value) → finished_at old.board f ≡ Some v → finished_at new.board f ≡ Some v
      grows f v at = on (state_at old.board f) refl at
        where
          on : (found_state : Option UnitState) → state_at old.board f ≡ found_state → option_and_then (λ (k : UnitState). k.finished) found_state ≡ Some v → finished_at new.board f ≡ Some v
          on None e so = cc
          on (Some k) e so = ap (option_and_then (λ (k : UnitState). k.finished)) (apart f k e ∙ e) ∙ so

      aheads : (v : Name) (k : Ahead) (c : Bool) → same_name v turn ≡ c → cond c (Some (begun_by a)) (named v old.aheads) ≡ Some k → IsAheadAt new.board v k
      aheads v k true e so =
          let one : begun_by a ≡ k = cc in
          subst (IsAheadAt new.board v) one (record { unit = begun; there = states v ∙ ap (λ c. cond c (Some begun) (state_at old.board v)) e; unfinished = refl; within = omega arith; holds = refl })
      aheads v k false e so = ahead-still old.board new.board v k (apart v (st.aheads v k so).unit (st.aheads v k so).there) (st.aheads v k so)
