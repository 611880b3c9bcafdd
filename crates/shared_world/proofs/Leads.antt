-- What a turn comes to that runs ahead keeps what is kept standing.
use Rattle.std.proofs.Common.{◌≡◌, ◌∙◌, ◌≤◌, ◌⊎◌, suc, Bool, true, false, cond, append-nil, length, length-append, le_refl, List, [], ◌∷◌, ◌++◌, inl, inr, refl, sym, ap, ap₂, subst, arith}
use Rattle.std.specs.Option.{option_and_then, option_map}
use Rattle.std.specs.Prelude.{Option, None, Some, drop, is_some, map}
use Rattle.actor_mailbox.specs.declared.message.Message.{Message}
use Rattle.actor_mails.specs.Mails.{mail_at}
use Rattle.ref_store.specs.Store.{IsAbove}
use Rattle.serial_model.specs.declared.actor_state.ActorState.{ActorState}
use Rattle.serial_model.specs.declared.entry.Entry.{Entry}
use Rattle.serial_model.specs.declared.halt.Halt.TheVariants as halt
use Rattle.serial_model.specs.declared.request.Request.{Request}
use Rattle.serial_model.specs.declared.request.Request.TheVariants as request
use Rattle.serial_model.specs.Sends.{sends_to}
use Rattle.serial_model.specs.State.{UnitState}
use Rattle.serial_model.specs.Step.{next_of}
use Rattle.shared_world.proofs.ActorPieces.{SameActors, actor_of_piece, actors-put, not-same, roused-same, same-pieces-actors, unit-no-actor}
use Rattle.shared_world.proofs.Leading.{ahead-still, asks-no-attempt, none-tried}
use Rattle.shared_world.proofs.Lefts.{after-finished, after-longer, left-still, no-dosync}
use Rattle.shared_world.proofs.Live.{state-there}
use Rattle.shared_world.proofs.Standing.{Grows, stands-next}
use Rattle.shared_world.proofs.States.{EachMachine, SameStates, machines-put, machines-same, roused-is, roused-state, same-pieces, states-put, unit-put}
use Rattle.shared_world.specs.Ahead.{Ahead}
use Rattle.shared_world.specs.declared.given.Given.{Given}
use Rattle.shared_world.specs.rows.Leading as lead
use Rattle.shared_world.specs.rows.Actors.{roused_unless}
use Rattle.shared_world.specs.rows.Leading.{HoldsOn, IsChanged, LeadHolds, LeadSettles, Puts, SendsAhead, WaitsDefinite, beside_left, kept_of_turn, leads_on}
use Rattle.shared_world.specs.Seen.{left_at, live_with, one_or_none}
use Rattle.shared_world.specs.Shared.{Shared, finished_at, is_going, ref_now, state_at, unit_state}
use Rattle.shared_world.specs.Stands.{IsAheadAt, IsMachine, Stands}
use Rattle.task_fork_join.specs.Attempt.{Attempt}
use Rattle.txn_snapshot.specs.SnapshotAnswer.{snapshot_of}
use Rattle.unit_table.specs.Board.{Board, IsPutAt, actor_at, piece_at, unit_at}
use Rattle.unit_table.specs.declared.piece.Piece.{Piece}
use Rattle.unit_table.specs.declared.piece.Piece.TheVariants as piece
use Rattle.unit_table.specs.declared.unit.Unit.{Unit}
use Rattle.unit_table.specs.Piece.{unit_in}
use Rattle.value_core.proofs.NamedLaws.{same_name-equal, same_name-itself}
use Rattle.value_core.specs.declared.value.Value.{Value}
use Rattle.value_core.specs.Named.{Name, Named, named, same_name}
use Rattle.value_core.specs.Place.{Spot}
use Rattle.world_model.proofs.Kept.{gave-keeps}
use Rattle.world_model.specs.Ahead.{RunsAhead}
use Rattle.world_model.specs.Gave as row
use Rattle.world_model.specs.IsWorld.{IsWorld}
use Rattle.world_model.specs.rows.Effects.{held_more, mails_held, with_held}
use Rattle.world_model.specs.StandsFor.{LiveStands, UnitStands}
use Rattle.world_model.specs.Message.{tentative, unsettled}
use Rattle.world_model.specs.World.{LiveUnit, World, attempt_sends, held_sends, is_ahead, is_empty, is_some as is_there, kept_sends, put_last, with_at}

-- requests that are asked for at once are the same
asked-same : (r k : Request) (at spot : Spot) → halt.Ask r at ≡ halt.Ask k spot → r ≡ k
asked-same r k at spot e = cc

-- who holds one effect more holds something
ahead-more : (takes : Option Name) (held : List Request) (r : Request) (from now : UnitState) → is_ahead (record { from = from; now = now; takes = takes; held = held ++ r ∷ [] }) ≡ true
ahead-more (Some a) held r from now = refl
ahead-more None [] r from now = refl
ahead-more None (k ∷ ks) r from now = refl

pub beside-unit : (u : Name) (o : Option Ahead) (p : Option Piece) → option_and_then unit_in (beside_left u o p) ≡ option_and_then unit_in p
beside-unit u (Some k) p = refl
beside-unit u None None = refl
beside-unit u None (Some (piece.Unit y)) = refl
beside-unit u None (Some (piece.Task m)) = refl
beside-unit u None (Some (piece.Actor a)) = refl

-- the meaning sees the pieces beside a turn as it did, whether or not that runs ahead still
beside-state : (u : Name) (o : Option Ahead) (p : Option Piece) → option_map unit_state (option_and_then unit_in (beside_left u o p)) ≡ option_map unit_state (option_and_then unit_in p)
beside-state u o p = ap (option_map unit_state) (beside-unit u o p)

pub beside-actor : (u : Name) (o : Option Ahead) (p : Option Piece) → actor_of_piece (beside_left u o p) ≡ actor_of_piece p
beside-actor u (Some k) p = refl
beside-actor u None None = refl
beside-actor u None (Some (piece.Unit y)) = refl
beside-actor u None (Some (piece.Task m)) = refl
beside-actor u None (Some (piece.Actor a)) = refl

-- a turn that runs ahead, with the run of it going on
module _ (old : Shared) (st : Stands old) (on_going : old.end ≡ None) (u : Name) (x : Unit) (there : unit_at old.board u ≡ Some x) (h : Ahead) (leads : named u old.aheads ≡ Some h) where
  abbrev w : World
  w = st.world

  abbrev unit : UnitState
  unit = unit_state x

  pub kept : state_at old.board u ≡ Some unit
  kept = state-there old.board u x there

  abbrev live : LiveUnit
  live = live_with (Some h) unit

  pub live-is : w.units u ≡ Some live
  live-is = st.seen.units u ∙ ap (option_map (live_with (named u old.aheads))) kept ∙ ap (λ k. Some (live_with k unit)) leads

  ahead-is : IsAheadAt old.board u h
  ahead-is = st.aheads u h leads

  unit-same : ahead-is.unit ≡ unit
  unit-same = let both : Some ahead-is.unit ≡ Some unit = sym ahead-is.there ∙ kept in cc

  pub unfinished : unit.finished ≡ None
  unfinished = ap (λ (k : UnitState). k.finished) (sym unit-same) ∙ ahead-is.unfinished

  pub within : h.answers ≤ length unit.answers
  within = subst (λ (k : UnitState). h.answers ≤ length k.answers) unit-same ahead-is.within

  holds-so : is_ahead live ≡ true
  holds-so = subst (λ (k : UnitState). is_ahead (live_with (Some h) k) ≡ true) unit-same ahead-is.holds

  -- from where the history left it, by what it holds, to where it is
  pub runs : RunsAhead old.setup u (left_at h unit) h.held unit
  runs = on h.takes (named u st.is_world.state.units) (subst (λ found. UnitStands old.setup w.actors w.taken u found (named u st.is_world.state.units)) live-is (st.is_world.stands.units u))
    where
      on : (takes : Option Name) (found : Option UnitState) → LiveStands old.setup w.actors w.taken u live takes found → RunsAhead old.setup u (left_at h unit) h.held unit
      on None None is = absurd is
      on None (Some k) is = is.1
      on (Some a) None is = is.runs
      on (Some a) (Some k) is = absurd is

  -- ---- the turn is another one, and all others are as they were
  module _ (y : Unit) (b new : Board) (put : IsPutAt u (Some (piece.Unit y)) b new) (same : SameStates old.board b) where
    states-put-so : (q : Name) → state_at new q ≡ cond (same_name q u) (Some (unit_state y)) (state_at old.board q)
    states-put-so q = unit-put u y b new put q ∙ ap (cond (same_name q u) (Some (unit_state y))) (same q)

    apart-so : (q : Name) → (q ≡ u → ⊥) → state_at new q ≡ state_at old.board q
    apart-so q other = states-put-so q ∙ on (same_name q u) refl
      where
        on : (c : Bool) → same_name q u ≡ c → cond c (Some (unit_state y)) (state_at old.board q) ≡ state_at old.board q
        on true e = absurd (other (same_name-equal q u e))
        on false e = refl

    here-so : state_at new u ≡ Some (unit_state y)
    here-so = states-put-so u ∙ ap (λ c. cond c (Some (unit_state y)) (state_at old.board u)) (same_name-itself u)

    -- what was finished is so still, since the turn was not
    grows-so : Grows (finished_at old.board) (finished_at new)
    grows-so f v is = on (same_name f u) refl
      where
        on : (c : Bool) → same_name f u ≡ c → finished_at new f ≡ Some v
        on true e = let no : None ≡ Some v = sym unfinished ∙ sym (ap (option_and_then (λ (k : UnitState). k.finished)) (ap (state_at old.board) (same_name-equal f u e) ∙ kept)) ∙ is in cc
        on false e = ap (option_and_then (λ (k : UnitState). k.finished)) (apart-so f (not-same f u e)) ∙ is

    actors-so : SameActors old.board b → SameActors old.board new
    actors-so before a = actors-put u (Some (piece.Unit y)) b new (sym (before u ∙ unit-no-actor old.board u unit kept)) put a ∙ before a

    machines-so : IsMachine old.setup y.machine → EachMachine (IsMachine old.setup) b → EachMachine (IsMachine old.setup) new
    machines-so is before = machines-put (IsMachine old.setup) u (Some (piece.Unit y)) b new (λ z e. let one : y ≡ z = cc in subst (λ (k : Unit). IsMachine old.setup k.machine) one is) put before

    -- the units as they are seen, where the turn is seen so
    units-so : (aheads : Named Ahead) (found : Option Ahead) → IsChanged u found old.aheads aheads → (q : Name) → with_at w.units u (Some (live_with found (unit_state y))) q ≡ option_map (live_with (named q aheads)) (state_at new q)
    units-so aheads found changed q = on (same_name q u) (changed q) (states-put-so q)
      where
        on : (c : Bool) → named q aheads ≡ cond c found (named q old.aheads) → state_at new q ≡ cond c (Some (unit_state y)) (state_at old.board q)
            → cond c (Some (live_with found (unit_state y))) (w.units q) ≡ option_map (live_with (named q aheads)) (state_at new q)
        on true is at = sym (ap₂ (λ k found_state. option_map (live_with k) found_state) is at)
        on false is at = st.seen.units q ∙ sym (ap₂ (λ k found_state. option_map (live_with k) found_state) is at)

    -- and what runs ahead
    aheads-so : (aheads : Named Ahead) (found : Option Ahead) → IsChanged u found old.aheads aheads → ((k : Ahead) → found ≡ Some k → IsAheadAt new u k)
        → (v : Name) (k : Ahead) → named v aheads ≡ Some k → IsAheadAt new v k
    aheads-so aheads found changed own v k is = on (same_name v u) refl (sym (changed v) ∙ is)
      where
        on : (c : Bool) → same_name v u ≡ c → cond c found (named v old.aheads) ≡ Some k → IsAheadAt new v k
        on true e so = subst (λ n. IsAheadAt new n k) (sym (same_name-equal v u e)) (own k so)
        on false e so = ahead-still old.board new v k (apart-so v (not-same v u e)) (st.aheads v k so)

  -- ---- Waiting: the mark alone, and that it waits
  pub waits-definite : (found : Given) (new : Shared) → WaitsDefinite old u x h found new → Stands new
  waits-definite found new r = subst Stands (sym r.others) (stands-next old st (record old { board = new.board; aheads = new.aheads }) w (record {
    setup = refl;
    is_world = st.is_world;
    history = st.seen.history;
    longer = le_refl (length old.history);
    refs = st.seen.refs;
    units = λ q. same-world q (same_name q u) refl ∙ units-so r.unit old.board new.board r.put (λ n. refl) new.aheads (Some (record h { waits = true })) r.aheads q;
    actors = λ a. st.seen.actors a ∙ sym (actors-so r.unit old.board new.board r.put (λ n. refl) (λ n. refl) a);
    taken = st.seen.taken;
    mails = st.seen.mails;
    attempts = refl;
    tried = λ v. refl;
    bytes = st.seen.bytes;
    made = st.seen.made;
    end = st.seen.end;
    going = refl;
    machines = machines-so r.unit old.board new.board r.put (λ n. refl) r.stands.machine st.machines;
    stay = λ v tree is. same v (same_name v u) refl;
    grows = grows-so r.unit old.board new.board r.put (λ n. refl);
    reads = λ v tree is k. refl;
    numbers = st.numbers;
    aheads = aheads-so r.unit old.board new.board r.put (λ n. refl) new.aheads (Some (record h { waits = true })) r.aheads own;
  }))
    where
      here : state_at new.board u ≡ Some unit
      here = here-so r.unit old.board new.board r.put (λ n. refl) ∙ ap (λ k. Some k) r.stands.state

      same : (q : Name) (c : Bool) → same_name q u ≡ c → state_at new.board q ≡ state_at old.board q
      same q true e = ap (state_at new.board) (same_name-equal q u e) ∙ here ∙ sym (ap (state_at old.board) (same_name-equal q u e) ∙ kept)
      same q false e = apart-so r.unit old.board new.board r.put (λ n. refl) q (not-same q u e)

      same-world : (q : Name) (c : Bool) → same_name q u ≡ c → w.units q ≡ cond c (Some (live_with (Some (record h { waits = true })) (unit_state r.unit))) (w.units q)
      same-world q true e = ap w.units (same_name-equal q u e) ∙ live-is ∙ ap (λ k. Some (live_with (Some h) k)) (sym r.stands.state)
      same-world q false e = refl

      own : (k : Ahead) → Some (record h { waits = true }) ≡ Some k → IsAheadAt new.board u k
      own k e = let so : record h { waits = true } ≡ k = cc in subst (IsAheadAt new.board u) so (record { unit = unit; there = here; unfinished = unfinished; within = within; holds = holds-so })

  -- ---- Held: the turn has its answer, and the mailboxes are those of the base
  module _ (r : Request) (at : Spot) (asks : next_of old.setup unit ≡ halt.Ask r at) (base : Shared) (base_is : base ≡ record old { mails = base.mails; board = base.board })
      (same : SameStates old.board base.board) (same_actors : SameActors old.board base.board) (machines : EachMachine (IsMachine old.setup) base.board)
      (mails : (b : Name) → mails_held w u r b ≡ mail_at base.mails b) where
    abbrev more : Ahead → Ahead
    more k = record k { held = k.held ++ r ∷ []; waits = false }

    pub holds-on : (found : Given) (new : Shared) → HoldsOn base u x h r found new → Stands new
    holds-on found new g = subst Stands (sym (g.others ∙ ap (λ (s : Shared). record s { board = new.board; aheads = new.aheads }) base_is))
        (stands-next old st (record old { mails = base.mails; board = new.board; aheads = new.aheads }) (held_more w u live r g.after (mails_held w u r)) (record {
          setup = refl;
          is_world = gave-keeps old.setup st.formed w (held_more w u live r g.after (mails_held w u r)) None st.is_world (row.holds u live r at g.after (record {
            there = live-is;
            runs_ahead = holds-so;
            held = record { asks = asks; gives = g.gives; unfinished = unfinished };
          }));
          history = st.seen.history;
          longer = le_refl (length old.history);
          refs = st.seen.refs;
          units = λ q. ap (λ k. with_at w.units u (Some k) q) seen ∙ units-so g.unit base.board new.board g.put same new.aheads (Some (more h)) changed q;
          actors = λ a. st.seen.actors a ∙ sym (actors-so g.unit base.board new.board g.put same same_actors a);
          taken = st.seen.taken;
          mails = mails;
          attempts = refl;
          tried = λ v. refl;
          bytes = st.seen.bytes;
          made = st.seen.made;
          end = st.seen.end;
          going = refl;
          machines = machines-so g.unit base.board new.board g.put same (subst (λ (s : Shared). IsMachine s.setup g.unit.machine) base_is g.stands.machine) machines;
          stay = λ v tree is. apart-so g.unit base.board new.board g.put same v (λ is_u. none tree (ap (λ n. named n old.attempts) (sym is_u) ∙ is));
          grows = grows-so g.unit base.board new.board g.put same;
          reads = λ v tree is k. refl;
          numbers = st.numbers;
          aheads = aheads-so g.unit base.board new.board g.put same new.aheads (Some (more h)) changed own;
        }))
      where
        none : (tree : Attempt) → named u old.attempts ≡ Some tree → ⊥
        none = asks-no-attempt old st (ap is_going on_going) u unit kept (λ body values spot e. no-dosync u unit r g.after g.gives body values (asked-same r (request.Dosync body values) at spot (sym asks ∙ e)))

        changed : IsChanged u (Some (more h)) old.aheads new.aheads
        changed = subst (λ (s : Shared). IsChanged u (Some (more h)) s.aheads new.aheads) base_is g.aheads

        seen : with_held live r g.after ≡ live_with (Some (more h)) (unit_state g.unit)
        seen = ap₂ (λ from now. record live { from = from; now = now; held = h.held ++ r ∷ [] })
            (sym (left-still h unit g.after u r (h.held ++ r ∷ []) within g.gives) ∙ ap (left_at (more h)) (sym g.stands.state)) (sym g.stands.state)

        here : state_at new.board u ≡ Some g.after
        here = here-so g.unit base.board new.board g.put same ∙ ap (λ k. Some k) g.stands.state

        own : (k : Ahead) → Some (more h) ≡ Some k → IsAheadAt new.board u k
        own k e = let so : more h ≡ k = cc in subst (IsAheadAt new.board u) so (record {
          unit = g.after;
          there = here;
          unfinished = after-finished u unit r g.after g.gives ∙ unfinished;
          within = after-longer u unit r g.after h.answers g.gives within;
          holds = ahead-more h.takes h.held r (left_at (more h) g.after) g.after;
        })

  -- ---- a send that is held is put or kept
  module _ (to : Name) (args : List Value) (at : Spot) (asks : next_of old.setup unit ≡ halt.Ask (request.Send to args) at) where
    abbrev message : Message
    message = tentative u u args

    none : (tree : Attempt) → named u old.attempts ≡ Some tree → ⊥
    none = asks-no-attempt old st (ap is_going on_going) u unit kept (λ body values spot e. let no = sym asks ∙ e in cc)

    no-tree : named u old.attempts ≡ None
    no-tree = on (named u old.attempts) refl
      where
        on : (found : Option Attempt) → named u old.attempts ≡ found → found ≡ None
        on None is = refl
        on (Some tree) is = absurd (none tree is)

    -- those that are kept
    kept-so : kept_sends w u to ≡ kept_of_turn old u h to
    kept-so =
        ap₂ (λ ms all. drop (length (unsettled u ms)) all) (ap₂ (λ taken mail. taken ++ mail) (st.seen.taken to) (st.seen.mails to))
        (ap₂ (λ found tried. held_sends u to found ++ attempt_sends u to tried) live-is (none-tried old st (ap is_going on_going) u no-tree)
        ∙ append-nil (map (tentative u u) (sends_to to h.held)))

    abbrev put_at : Option ActorState → List Message → Name → List Message
    put_at found kept_ones = cond (is_there found) (cond (is_empty kept_ones) (put_last w to message) w.mails) w.mails

    held-at : (b : Name) → mails_held w u (request.Send to args) b ≡ put_at (actor_at old.board to) (kept_of_turn old u h to) b
    held-at b = ap₂ (λ found ms. put_at found ms b) (st.seen.actors to) kept-so

    pub sends-ahead : (found : Given) (new : Shared) → SendsAhead old u x h to args found new → Stands new
    sends-ahead found new g = by g.puts
      where
        base : Shared
        base = record old { mails = g.mails; board = g.board }

        by : Puts old u h to args g.mails g.board → Stands new
        by (lead.put actor actor_there none_kept mailed rouses) =
            holds-on (request.Send to args) at asks base refl
            (states-put to (roused_unless begun (piece_at old.board to)) old.board g.board (roused-state begun (piece_at old.board to)) rouses)
            (actors-put to (roused_unless begun (piece_at old.board to)) old.board g.board (roused-same begun (piece_at old.board to)) rouses)
            (machines-put (IsMachine old.setup) to (roused_unless begun (piece_at old.board to)) old.board g.board (λ z e. st.machines to z (sym (roused-is begun (piece_at old.board to)) ∙ e)) rouses st.machines)
            (λ b. held-at b ∙ ap₂ (λ f ms. put_at f ms b) actor_there none_kept ∙ here b (same_name b to) refl)
            found new g.holds
          where
            begun : Bool
            begun = is_some (named to old.taken)

            here : (b : Name) (c : Bool) → same_name b to ≡ c → cond c (w.mails to ++ message ∷ []) (w.mails b) ≡ mail_at g.mails b
            here b true e = ap (λ ms. ms ++ message ∷ []) (st.seen.mails to) ∙ sym mailed.here ∙ ap (mail_at g.mails) (sym (same_name-equal b to e))
            here b false e = st.seen.mails b ∙ sym (mailed.others b (not-same b to e))
        by (lead.keep why same pieces) =
            holds-on (request.Send to args) at asks base refl (same-pieces old.board g.board pieces) (same-pieces-actors old.board g.board pieces) (machines-same (IsMachine old.setup) old.board g.board pieces st.machines)
            (λ b. held-at b ∙ kept-all b why ∙ st.seen.mails b ∙ sym (same b)) found new g.holds
          where
            kept-all : (b : Name) → (actor_at old.board to ≡ None) ⊎ (kept_of_turn old u h to ≡ [] → ⊥) → put_at (actor_at old.board to) (kept_of_turn old u h to) b ≡ w.mails b
            kept-all b (inl gone) = ap (λ f. put_at f (kept_of_turn old u h to) b) gone
            kept-all b (inr some) = on (actor_at old.board to) (kept_of_turn old u h to) some
              where
                on : (f : Option ActorState) (ms : List Message) → (ms ≡ [] → ⊥) → put_at f ms b ≡ w.mails b
                on None ms not = refl
                on (Some actor) [] not = absurd (not refl)
                on (Some actor) (m ∷ ms) not = refl

  -- what the turn holds
  pub lead-holds : (r : Request) (at : Spot) → next_of old.setup unit ≡ halt.Ask r at → (found : Given) (new : Shared) → LeadHolds old u x h r found new → Stands new
  lead-holds (request.Send to args) at asks found new g = sends-ahead to args at asks found new g
  lead-holds (request.Print text) at asks found new g = holds-on (request.Print text) at asks old refl (λ q. refl) (λ a. refl) st.machines st.seen.mails found new g
  lead-holds (request.NewRef v) at asks found new g = holds-on (request.NewRef v) at asks old refl (λ q. refl) (λ a. refl) st.machines st.seen.mails found new g
  lead-holds (request.Deref ref) at asks found new g = holds-on (request.Deref ref) at asks old refl (λ q. refl) (λ a. refl) st.machines st.seen.mails found new g
  lead-holds (request.RefSet ref v) at asks found new g = holds-on (request.RefSet ref v) at asks old refl (λ q. refl) (λ a. refl) st.machines st.seen.mails found new g
  lead-holds (request.Fork body values) at asks found new g = holds-on (request.Fork body values) at asks old refl (λ q. refl) (λ a. refl) st.machines st.seen.mails found new g
  lead-holds (request.Join future) at asks found new g = holds-on (request.Join future) at asks old refl (λ q. refl) (λ a. refl) st.machines st.seen.mails found new g
  lead-holds (request.Dosync body values) at asks found new g = holds-on (request.Dosync body values) at asks old refl (λ q. refl) (λ a. refl) st.machines st.seen.mails found new g
  lead-holds (request.Spawn behaviour state) at asks found new g = holds-on (request.Spawn behaviour state) at asks old refl (λ q. refl) (λ a. refl) st.machines st.seen.mails found new g
  lead-holds (request.Become behaviour state) at asks found new g = holds-on (request.Become behaviour state) at asks old refl (λ q. refl) (λ a. refl) st.machines st.seen.mails found new g
  lead-holds request.SelfActor at asks found new g = holds-on request.SelfActor at asks old refl (λ q. refl) (λ a. refl) st.machines st.seen.mails found new g

  -- ---- Settled: the entry is appended to what the base is, and the turn stands where it did
  -- what the base has beside what was there
  pub record IsBase (base : Shared) (entry : Entry) (left : Ahead) (w2 : World) : Type 0 where
    pub setup : base.setup ≡ old.setup
    pub history : base.history ≡ old.history
    pub attempts : base.attempts ≡ old.attempts
    pub aheads : base.aheads ≡ old.aheads
    pub end : base.end ≡ old.end
    pub stay : (q : Name) (k : UnitState) → state_at old.board q ≡ Some k → state_at base.board q ≡ Some k
    pub machines : EachMachine (IsMachine old.setup) base.board
    pub reads : (v : Name) (tree : Attempt) → named v old.attempts ≡ Some tree → (r : Name) → snapshot_of base.versions tree.snapshot r ≡ snapshot_of old.versions tree.snapshot r
    pub numbers : IsAbove (suc (suc (length old.history))) base.versions
    pub is_world : IsWorld old.setup w2
    pub history_is : w2.history ≡ old.history ++ entry ∷ []
    pub refs : (r : Name) → w2.refs r ≡ ref_now base.versions r
    pub units : (q : Name) → w2.units q ≡ cond (same_name q u) (Some (live_with (leads_on left) unit)) (option_map (live_with (named q old.aheads)) (state_at base.board q))
    pub actors : (a : Name) → w2.actors a ≡ actor_at base.board a
    pub taken : (a : Name) → w2.taken a ≡ one_or_none (named a base.taken)
    pub mails : (a : Name) → w2.mails a ≡ mail_at base.mails a
    pub tried : (v : Name) → w2.attempts v ≡ w.attempts v
    pub bytes : w2.bytes ≡ base.bytes
    pub made : w2.made ≡ base.made
    pub end_is : w2.end ≡ base.end
    pub within : (k : Ahead) → leads_on left ≡ Some k → k.answers ≤ length unit.answers
    pub holds : (k : Ahead) → leads_on left ≡ Some k → is_ahead (live_with (Some k) unit) ≡ true

  module _ (base : Shared) (entry : Entry) (left : Ahead) (w2 : World) (is : IsBase base entry left w2) (found : Given) (new : Shared) (g : LeadSettles base u x left entry found new) where
    state-so : (q : Name) → state_at new.board q ≡ state_at base.board q
    state-so q = on (same_name q u) refl
      where
        on : (c : Bool) → same_name q u ≡ c → state_at new.board q ≡ state_at base.board q
        on true e = ap (state_at new.board) (same_name-equal q u e) ∙ ap (λ p. option_map unit_state (option_and_then unit_in p)) g.here ∙ ap (λ k. Some k) g.stands.state ∙ sym (ap (state_at base.board) (same_name-equal q u e) ∙ is.stay u unit kept)
        on false e = ap (λ p. option_map unit_state (option_and_then unit_in p)) (g.beside q (not-same q u e)) ∙ beside-state u (leads_on left) (piece_at base.board q)

    actor-so : (q : Name) → actor_at new.board q ≡ actor_at base.board q
    actor-so q = on (same_name q u) refl
      where
        on : (c : Bool) → same_name q u ≡ c → actor_at new.board q ≡ actor_at base.board q
        on true e = ap (actor_at new.board) (same_name-equal q u e) ∙ ap actor_of_piece g.here ∙ sym (ap (actor_at base.board) (same_name-equal q u e) ∙ unit-no-actor base.board u unit (is.stay u unit kept))
        on false e = ap actor_of_piece (g.beside q (not-same q u e)) ∙ beside-actor u (leads_on left) (piece_at base.board q)

    machine-so : EachMachine (IsMachine old.setup) new.board
    machine-so q z at = on (same_name q u) refl
      where
        on : (c : Bool) → same_name q u ≡ c → IsMachine old.setup z.machine
        on true e =
            let both : Some g.unit ≡ Some z = sym (ap (unit_at new.board) (same_name-equal q u e) ∙ ap (option_and_then unit_in) g.here) ∙ at in
            let same : g.unit ≡ z = cc in subst (λ (k : Unit). IsMachine old.setup k.machine) same (subst (λ of. IsMachine of g.unit.machine) is.setup g.stands.machine)
        on false e = is.machines q z (sym (ap (option_and_then unit_in) (g.beside q (not-same q u e)) ∙ beside-unit u (leads_on left) (piece_at base.board q)) ∙ at)

    stays-so : (q : Name) (k : UnitState) → state_at old.board q ≡ Some k → state_at new.board q ≡ Some k
    stays-so q k at = state-so q ∙ is.stay q k at

    -- units that are there are as they were
    same-there : (q : Name) (k : UnitState) → state_at old.board q ≡ Some k → state_at new.board q ≡ state_at old.board q
    same-there q k at = stays-so q k at ∙ sym at

    changed : IsChanged u (leads_on left) old.aheads new.aheads
    changed = subst (λ all. IsChanged u (leads_on left) all new.aheads) is.aheads g.aheads

    units-seen : (q : Name) → w2.units q ≡ option_map (live_with (named q new.aheads)) (state_at new.board q)
    units-seen q = is.units q ∙ on (same_name q u) refl (changed q)
      where
        on : (c : Bool) → same_name q u ≡ c → named q new.aheads ≡ cond c (leads_on left) (named q old.aheads)
            → cond c (Some (live_with (leads_on left) unit)) (option_map (live_with (named q old.aheads)) (state_at base.board q)) ≡ option_map (live_with (named q new.aheads)) (state_at new.board q)
        on true e to = sym (ap₂ (λ k state. option_map (live_with k) state) to (ap (state_at new.board) (same_name-equal q u e) ∙ stays-so u unit kept))
        on false e to = ap₂ (λ k state. option_map (live_with k) state) (sym to) (sym (state-so q))

    aheads-there : (v : Name) (k : Ahead) → named v new.aheads ≡ Some k → IsAheadAt new.board v k
    aheads-there v k at = on (same_name v u) refl (sym (changed v) ∙ at)
      where
        on : (c : Bool) → same_name v u ≡ c → cond c (leads_on left) (named v old.aheads) ≡ Some k → IsAheadAt new.board v k
        on true e so = record {
          unit = unit;
          there = ap (state_at new.board) (same_name-equal v u e) ∙ stays-so u unit kept;
          unfinished = unfinished;
          within = is.within k so;
          holds = is.holds k so;
        }
        on false e so = ahead-still old.board new.board v k (same-there v (st.aheads v k so).unit (st.aheads v k so).there) (st.aheads v k so)

    grows-there : Grows (finished_at old.board) (finished_at new.board)
    grows-there f v at = on (state_at old.board f) refl at
      where
        on : (found_state : Option UnitState) → state_at old.board f ≡ found_state → option_and_then (λ (k : UnitState). k.finished) found_state ≡ Some v → finished_at new.board f ≡ Some v
        on None e so = cc
        on (Some k) e so = ap (option_and_then (λ (k : UnitState). k.finished)) (stays-so f k e) ∙ so

    longer-so : length old.history ≤ length (base.history ++ entry ∷ [])
    longer-so = let long = length-append base.history (entry ∷ []) in let same = ap length is.history in omega (arith, long, same)

    pub lead-settles : Stands new
    lead-settles = subst Stands (sym g.others) (stands-next old st (record base { history = base.history ++ entry ∷ []; board = new.board; aheads = new.aheads }) w2 (record {
      setup = is.setup;
      is_world = is.is_world;
      history = is.history_is ∙ ap (λ es. es ++ entry ∷ []) (sym is.history);
      longer = longer-so;
      refs = is.refs;
      units = units-seen;
      actors = λ a. is.actors a ∙ sym (actor-so a);
      taken = is.taken;
      mails = is.mails;
      attempts = is.attempts;
      tried = is.tried;
      bytes = is.bytes;
      made = is.made;
      end = is.end_is;
      going = is.end;
      machines = machine-so;
      stay = λ v tree at. let way = st.attempts (ap is_going on_going) v tree at in same-there v way.unit way.there;
      grows = grows-there;
      reads = is.reads;
      numbers = λ r k d in_range. let long = length-append base.history (entry ∷ []) in let same = ap length is.history in let below = is.numbers r k d in_range in omega (arith, long, same, below);
      aheads = aheads-there;
    }))
