-- Settled, where a definite unit that holds nothing does its next effect at once, finishes, or ends the run.
use Rattle.std.proofs.Common.{◌≡◌, ◌∙◌, ℕ, suc, ◌==◌, Bool, true, false, cond, List, [], ◌∷◌, ◌++◌, refl, sym, ap, subst}
use Rattle.std.specs.Option.{option_and_then}
use Rattle.std.specs.Prelude.{Option, None, Some, if◌then◌else◌}
use Rattle.value_core.proofs.NamedLaws.{named-with_named, same_name-equal}
use Rattle.value_core.specs.Named.{Name, named, with_named, same_name, made_by}
use Rattle.value_core.specs.Place.{Spot}
use Rattle.value_core.specs.declared.value.Value.TheVariants as value
use Rattle.value_core.specs.declared.value.Value.{Value}
use Rattle.core_syntax.specs.declared.node_id.NodeId.{NodeId}
use Rattle.serial_model.proofs.runs.Made.{IsMade}
use Rattle.serial_model.specs.Ahead.{of_turn, self_of}
use Rattle.serial_model.specs.State.{Setup, UnitState, State, new_unit}
use Rattle.serial_model.specs.Step.{step, goes_on, next_of, next_made, with_unit, gets_if_there, answered, with_made, becoming, idle, spawned, queue_of, ended, released, after_turn, gives}
use Rattle.serial_model.specs.declared.actor_state.ActorState.{ActorState}
use Rattle.serial_model.specs.declared.answer.Answer.TheVariants as answer
use Rattle.serial_model.specs.declared.end.End.TheVariants as end
use Rattle.serial_model.specs.declared.end.End.{End}
use Rattle.serial_model.specs.declared.entry.Entry.TheVariants.{Run}
use Rattle.serial_model.specs.declared.entry.Entry.{Entry}
use Rattle.serial_model.specs.declared.halt.Halt.TheVariants as halt
use Rattle.serial_model.specs.declared.halt.Halt.{Halt}
use Rattle.serial_model.specs.declared.request.Request.TheVariants as request
use Rattle.serial_model.specs.declared.request.Request.{Request}
use Rattle.actor_mailbox.specs.declared.message.Message.{Message}
use Rattle.world_model.specs.StandsFor.{UnitStands, QueueStands, AttemptStands, LiveStands, HasBegun, TakenStands, StandsFor}
use Rattle.world_model.specs.World.{LiveUnit, Attempt, World, with_at, line, held_sends, attempt_sends, still}
use Rattle.world_model.specs.rows.Effects.{Stands, moved_on, new_live}
use Rattle.world_model.specs.rows.Endings.{ended_by}
use Rattle.world_model.proofs.records.Elsewhere.{with-bytes, with-ref, with-actor, with-child}
use Rattle.world_model.proofs.records.Frames.{at-other, IsMoved, unit-moves, taken-again}
use Rattle.world_model.proofs.records.Names.{new-actor, new-unit}
use Rattle.world_model.proofs.records.SettledUnits.{settled-unit, holds-nothing}
use Rattle.world_model.proofs.records.Steps.{Settles, step-runs}

abbrev is_dosync : Request → Bool
is_dosync (request.Dosync body values) = true
is_dosync _ = false

-- the unit moves on in the world and in the state; it has no attempt
pub moves-on : (setup : Setup) (w : World) (s : State) (u : Name) (x : LiveUnit) (after : UnitState) (history : List Entry) → StandsFor setup w s → w.units u ≡ Some x → x.takes ≡ None → x.held ≡ [] → w.attempts u ≡ None
    → StandsFor setup (record w { history = history; units = with_at w.units u (Some (still after)) }) (with_unit s u after)
moves-on setup w s u x after history st there takes held none = record {
  refs = st.refs;
  units = λ q. subst (λ found. UnitStands setup w.actors w.taken q (with_at w.units u (Some (still after)) q) found) (sym (named-with_named q u after s.units)) (unit q (same_name q u) refl);
  actors = st.actors;
  turns = λ b. taken-again w.actors w.actors w.units b u (still after) (w.taken b) (w.taken b)
      (λ y is takes_b. let both : Some y ≡ Some x = sym is ∙ there in let same : y ≡ x = cc in let no : Some b ≡ None = sym takes_b ∙ ap (λ (z : LiveUnit). z.takes) same ∙ takes in cc) (λ o is. is) (λ e. e) (st.turns b);
  queues = λ b v. subst (λ p. QueueStands v (line w b) p (queue_of s.queues b v)) (ap (λ h. h ++ attempt_sends v b (w.attempts v)) (same b v (same_name v u) refl)) (st.queues b v);
  attempts = λ v. attempt v (same_name v u) refl;
  bytes = st.bytes;
  made = st.made;
  end = st.end;
}
  where
    unit : (q : Name) (c : Bool) → same_name q u ≡ c → UnitStands setup w.actors w.taken q (cond c (Some (still after)) (w.units q)) (cond c (Some after) (named q s.units))
    unit q true e = (refl, refl)
    unit q false e = st.units q

    same : (b v : Name) (c : Bool) → same_name v u ≡ c → held_sends v b (w.units v) ≡ held_sends v b (cond c (Some (still after)) (w.units v))
    same b v true e = ap (held_sends v b) (ap w.units (same_name-equal v u e) ∙ there) ∙ ap (λ rs. held_sends v b (Some (record { from = x.from; now = x.now; takes = x.takes; held = rs }))) held
    same b v false e = refl

    attempt : (v : Name) (c : Bool) → same_name v u ≡ c → AttemptStands setup v (cond c (Some (still after)) (w.units v)) (w.attempts v)
    attempt v true e = rw (ap w.attempts (same_name-equal v u e) ∙ none) tt
    attempt v false e = st.attempts v

module _ (setup : Setup) (w : World) (s : State) (u : Name) (x : LiveUnit) (st : StandsFor setup w s) (row : Stands setup w u x) where
  pub same : x.from ≡ x.now
  same = holds-nothing setup u x.from x.now x.held row.held (settled-unit setup w s u x st row.there row.takes).runs

  pub there : named u s.units ≡ Some x.now
  there = (settled-unit setup w s u x st row.there row.takes).there ∙ ap (λ unit. Some unit) same

  pub steps : (end : Halt) → next_of setup x.now ≡ end → step setup s (Run u) ≡ goes_on setup s u x.now end
  steps end is = step-runs setup s u x.now (record { going = sym st.end ∙ row.going; there = there; unfinished = row.unfinished }) ∙ ap (goes_on setup s u x.now) is

  -- what is no transaction has no attempt
  quiet_at : (r : Request) (at : Spot) (found : Option Attempt) → next_of setup x.now ≡ halt.Ask r at → is_dosync r ≡ false → AttemptStands setup u (Some x) found → found ≡ None
  quiet_at r at None asks plain stands = refl
  quiet_at r at (Some attempt) asks plain stands =
      let both : halt.Ask (request.Dosync attempt.body attempt.values) attempt.at ≡ halt.Ask r at = sym stands.asks ∙ asks in
      let is : request.Dosync attempt.body attempt.values ≡ r = cc in
      let no : true ≡ false = ap is_dosync is ∙ plain in cc

  pub quiet : (r : Request) (at : Spot) → next_of setup x.now ≡ halt.Ask r at → is_dosync r ≡ false → w.attempts u ≡ None
  quiet r at asks plain = quiet_at r at (w.attempts u) asks plain (subst (λ live. AttemptStands setup u live (w.attempts u)) row.there (st.attempts u))

  quiet_end : (found : Option Attempt) (end : Halt) → next_of setup x.now ≡ end → ((r : Request) (at : Spot) → end ≡ halt.Ask r at → ⊥) → AttemptStands setup u (Some x) found → found ≡ None
  quiet_end None end is not stands = refl
  quiet_end (Some attempt) end is not stands = absurd (not (request.Dosync attempt.body attempt.values) attempt.at (sym is ∙ stands.asks))

  -- ---- a plain deref, and a plain join
  pub derefs : (ref : Name) (at : Spot) (v : Value) → next_of setup x.now ≡ halt.Ask (request.Deref ref) at → w.refs ref ≡ Some v → Settles setup s (Run u) (moved_on w u (answered x.now v))
  derefs ref at v asks found = record {
    after = with_unit s u (answered x.now v);
    steps = steps (halt.Ask (request.Deref ref) at) asks ∙ ap (gets_if_there s u x.now) (sym (st.refs ref) ∙ found);
    stands = moves-on setup w s u x (answered x.now v) (w.history ++ Run u ∷ []) st row.there row.takes row.held (quiet (request.Deref ref) at asks refl);
  }

  pub joins : (f : Name) (y : LiveUnit) (at : Spot) (v : Value) → next_of setup x.now ≡ halt.Ask (request.Join f) at → w.units f ≡ Some y → y.takes ≡ None → y.from.finished ≡ Some v
      → Settles setup s (Run u) (moved_on w u (answered x.now v))
  joins f y at v asks other takes over = record {
    after = with_unit s u (answered x.now v);
    steps = steps (halt.Ask (request.Join f) at) asks ∙ ap (gets_if_there s u x.now) (ap (option_and_then (λ (unit : UnitState). unit.finished)) (settled-unit setup w s f y st other takes).there ∙ over);
    stands = moves-on setup w s u x (answered x.now v) (w.history ++ Run u ∷ []) st row.there row.takes row.held (quiet (request.Join f) at asks refl);
  }

  -- ---- an effect: elsewhere, and then the unit moves on
  pub prints : (text : List ℕ) (at : Spot) → next_of setup x.now ≡ halt.Ask (request.Print text) at → Settles setup s (Run u) (moved_on (record w { bytes = w.bytes ++ text }) u (answered x.now value.Nil))
  prints text at asks = record {
    after = with_unit (record s { bytes = s.bytes ++ text }) u (answered x.now value.Nil);
    steps = steps (halt.Ask (request.Print text) at) asks;
    stands = moves-on setup (record w { bytes = w.bytes ++ text }) (record s { bytes = s.bytes ++ text }) u x (answered x.now value.Nil) (w.history ++ Run u ∷ []) (with-bytes setup w s st text) row.there row.takes row.held
        (quiet (request.Print text) at asks refl);
  }

  pub new-ref : (v : Value) (at : Spot) → next_of setup x.now ≡ halt.Ask (request.NewRef v) at
      → Settles setup s (Run u) (moved_on (record w { refs = with_at w.refs (next_made u x.now) (Some v) }) u (answered (with_made x.now) (value.Ref (next_made u x.now))))
  new-ref v at asks =
      let after = answered (with_made x.now) (value.Ref (next_made u x.now)) in
      record {
        after = with_unit (record s { refs = with_named s.refs (next_made u x.now) v }) u after;
        steps = steps (halt.Ask (request.NewRef v) at) asks;
        stands = moves-on setup _ _ u x after (w.history ++ Run u ∷ []) (with-ref setup w s st (next_made u x.now) v) row.there row.takes row.held (quiet (request.NewRef v) at asks refl);
      }

  pub spawns : IsMade s → (behaviour : ℕ) (state : List Value) (at : Spot) → next_of setup x.now ≡ halt.Ask (request.Spawn behaviour state) at
      → Settles setup s (Run u) (moved_on (record w { actors = with_at w.actors (next_made u x.now) (Some (idle behaviour state)) }) u (answered (with_made x.now) (value.Actor (next_made u x.now))))
  spawns made behaviour state at asks =
      let after = answered (with_made x.now) (value.Actor (next_made u x.now)) in
      record {
        after = with_unit (spawned s (next_made u x.now) behaviour state) u after;
        steps = steps (halt.Ask (request.Spawn behaviour state) at) asks;
        stands = moves-on setup _ _ u x after (w.history ++ Run u ∷ []) (with-actor setup w s st (next_made u x.now) (idle behaviour state) (new-actor setup w s st made u x x.now row.there there)) row.there row.takes row.held
            (quiet (request.Spawn behaviour state) at asks refl);
      }

  pub forks : IsMade s → (body : NodeId) (values : List Value) (at : Spot) → next_of setup x.now ≡ halt.Ask (request.Fork body values) at → (w.made == setup.limits.units) ≡ false
      → Settles setup s (Run u) (moved_on (record w { units = with_at w.units (next_made u x.now) (Some (new_live body values)); made = suc w.made }) u (answered (with_made x.now) (value.Future (next_made u x.now))))
  forks made body values at asks room =
      let child = next_made u x.now in
      let after = answered (with_made x.now) (value.Future child) in
      let none = new-unit setup w s st made u x x.now row.there there in
      let s1 = record s { units = with_named s.units child (new_unit None body values); made = suc s.made } in
      record {
        after = with_unit s1 u after;
        steps = steps (halt.Ask (request.Fork body values) at) asks ∙ ap (λ full. Some (if full then ended s end.UnitsSpent else with_unit s1 u after)) (ap (λ n. n == setup.limits.units) (sym st.made) ∙ room);
        stands = moves-on setup (record w { units = with_at w.units child (Some (new_live body values)); made = suc w.made }) s1 u x after (w.history ++ Run u ∷ []) (with-child setup w s st child body values none)
            (at-other w.units child u (Some (new_live body values)) (apart none) ∙ row.there) row.takes row.held (quiet (request.Fork body values) at asks refl);
      }
    where
      apart : w.units (next_made u x.now) ≡ None → same_name u (next_made u x.now) ≡ false
      apart none = on (same_name u (next_made u x.now)) refl
        where
          on : (c : Bool) → same_name u (next_made u x.now) ≡ c → c ≡ false
          on false e = refl
          on true e = let no : Some x ≡ None = sym row.there ∙ ap w.units (same_name-equal u (next_made u x.now) e) ∙ none in cc

  pub becomes : (behaviour : ℕ) (state : List Value) (at : Spot) (actor : Name) → next_of setup x.now ≡ halt.Ask (request.Become behaviour state) at → x.now.actor ≡ Some actor
      → Settles setup s (Run u) (moved_on w u (answered (becoming x.now behaviour state) value.Nil))
  becomes behaviour state at actor asks of = record {
    after = with_unit s u (answered (becoming x.now behaviour state) value.Nil);
    steps = steps (halt.Ask (request.Become behaviour state) at) asks ∙ ap (λ actor. Some (gives s u (becoming x.now behaviour state) at (of_turn actor (answer.Value value.Nil)))) of;
    stands = moves-on setup w s u x (answered (becoming x.now behaviour state) value.Nil) (w.history ++ Run u ∷ []) st row.there row.takes row.held (quiet (request.Become behaviour state) at asks refl);
  }

  pub selves : (at : Spot) (actor : Name) → next_of setup x.now ≡ halt.Ask request.SelfActor at → x.now.actor ≡ Some actor → Settles setup s (Run u) (moved_on w u (answered x.now (value.Actor actor)))
  selves at actor asks of = record {
    after = with_unit s u (answered x.now (value.Actor actor));
    steps = steps (halt.Ask request.SelfActor at) asks ∙ ap (λ actor. Some (gives s u x.now at (self_of actor))) of;
    stands = moves-on setup w s u x (answered x.now (value.Actor actor)) (w.history ++ Run u ∷ []) st row.there row.takes row.held (quiet request.SelfActor at asks refl);
  }

  -- ---- its value: a main or a plain task
  pub ends-plain : (v : Value) → next_of setup x.now ≡ halt.Value v → x.now.actor ≡ None → Settles setup s (Run u) (moved_on w u (record x.now { finished = Some v }))
  ends-plain v is plain = record {
    after = with_unit s u (record x.now { finished = Some v });
    steps = steps (halt.Value v) is ∙ ap (λ actor. Some (released actor (with_unit s u (record x.now { finished = Some v })) x.now.becomes)) plain;
    stands = moves-on setup w s u x (record x.now { finished = Some v }) (w.history ++ Run u ∷ []) st row.there row.takes row.held
        (quiet_end (w.attempts u) (halt.Value v) is (λ r at e. cc) (subst (λ live. AttemptStands setup u live (w.attempts u)) row.there (st.attempts u)));
  }

-- a busy actor has no begun turn
pub busy-free : (setup : Setup) (w : World) (s : State) (a : Name) (actor : ActorState) → StandsFor setup w s → w.actors a ≡ Some actor → actor.busy ≡ true → w.taken a ≡ []
busy-free setup w s a actor st there busy = free (w.taken a) (st.turns a)
  where
    free : (ms : List Message) → TakenStands w.actors w.units a ms → ms ≡ []
    free [] t = refl
    free (m ∷ ms) t = begun t.turn.takes t.takes (named (made_by a t.actor.turns) s.units) (subst (λ live. UnitStands setup w.actors w.taken (made_by a t.actor.turns) live (named (made_by a t.actor.turns) s.units)) t.begun (st.units (made_by a t.actor.turns)))
      where
        begun : (takes : Option Name) → takes ≡ Some a → (found : Option UnitState) → LiveStands setup w.actors w.taken (made_by a t.actor.turns) t.turn takes found → m ∷ ms ≡ []
        begun None e found stands = cc
        begun (Some b) e (Some unit) stands = absurd stands
        begun (Some b) e None stands =
            let names : b ≡ a = cc in
            let both : Some stands.actor ≡ Some actor = sym stands.there ∙ ap w.actors names ∙ there in
            let is : stands.actor ≡ actor = cc in
            let no : false ≡ true = sym stands.idle ∙ ap (λ (o : ActorState). o.busy) is ∙ busy in cc

-- ---- its value: a turn, whose actor is busy and then idle
module _ (setup : Setup) (w : World) (s : State) (u a : Name) (x : LiveUnit) (actor : ActorState) (v : Value) (st : StandsFor setup w s) (row : Stands setup w u x) where
  abbrev ends_w : World
  ends_w = record (moved_on w u (record x.now { finished = Some v })) { actors = with_at w.actors a (Some (after_turn x.now.becomes actor)) }

  -- an actor whose turn ends has no begun turn
  idle-again : w.actors a ≡ Some actor → actor.busy ≡ true → StandsFor setup (record w { actors = with_at w.actors a (Some (after_turn x.now.becomes actor)) }) (record s { actors = with_named s.actors a (after_turn x.now.becomes actor) })
  idle-again there busy = record {
    refs = st.refs;
    units = λ q. unit-moves setup w.actors (with_at w.actors a (Some (after_turn x.now.becomes actor))) w.taken w.taken q (w.units q) (named q s.units) (λ b o n is called took. moves b o n is took) (st.units q);
    actors = λ b. ap (cond (same_name b a) (Some (after_turn x.now.becomes actor))) (st.actors b) ∙ sym (named-with_named b a (after_turn x.now.becomes actor) s.actors);
    turns = λ b. turns b (w.taken b) refl (st.turns b);
    queues = st.queues;
    attempts = st.attempts;
    bytes = st.bytes;
    made = st.made;
    end = st.end;
  }
    where
      none : w.taken a ≡ []
      none = busy-free setup w s a actor st there busy

      moves : (b : Name) (o : ActorState) (n : Message) → w.actors b ≡ Some o → w.taken b ≡ n ∷ [] → IsMoved (with_at w.actors a (Some (after_turn x.now.becomes actor))) w.taken b o n
      moves b o n is took = on (same_name b a) refl
        where
          on : (c : Bool) → same_name b a ≡ c → IsMoved (with_at w.actors a (Some (after_turn x.now.becomes actor))) w.taken b o n
          on true e = let no : n ∷ [] ≡ [] = sym took ∙ ap w.taken (same_name-equal b a e) ∙ none in cc
          on false e = record { moved = n; there = at-other w.actors a b (Some (after_turn x.now.becomes actor)) e ∙ is; took = took; args = refl }

      turns : (b : Name) (ms : List Message) → w.taken b ≡ ms → TakenStands w.actors w.units b ms → TakenStands (with_at w.actors a (Some (after_turn x.now.becomes actor))) w.units b ms
      turns b [] is t = tt
      turns b (m ∷ ms) is t = on (same_name b a) refl
        where
          on : (c : Bool) → same_name b a ≡ c → HasBegun (with_at w.actors a (Some (after_turn x.now.becomes actor))) w.units b
          on true e = let no : m ∷ ms ≡ [] = sym is ∙ ap w.taken (same_name-equal b a e) ∙ none in cc
          on false e = record { actor = t.actor; turn = t.turn; there = at-other w.actors a b (Some (after_turn x.now.becomes actor)) e ∙ t.there; begun = t.begun; takes = t.takes }

  pub ends-turn : next_of setup x.now ≡ halt.Value v → x.now.actor ≡ Some a → w.actors a ≡ Some actor → actor.busy ≡ true → Settles setup s (Run u) ends_w
  ends-turn is of there busy = record {
    after = record (with_unit s u (record x.now { finished = Some v })) { actors = with_named s.actors a (after_turn x.now.becomes actor) };
    steps = steps setup w s u x st row (halt.Value v) is ∙ ap (λ actor. Some (released actor (with_unit s u (record x.now { finished = Some v })) x.now.becomes)) of
        ∙ ap (λ found. Some (freed found)) (sym (st.actors a) ∙ there);
    stands = moves-on setup (record w { actors = with_at w.actors a (Some (after_turn x.now.becomes actor)) }) (record s { actors = with_named s.actors a (after_turn x.now.becomes actor) }) u x (record x.now { finished = Some v }) (w.history ++ Run u ∷ [])
        (idle-again there busy) row.there row.takes row.held
        (quiet_end setup w s u x st row (w.attempts u) (halt.Value v) is (λ r at e. cc) (subst (λ live. AttemptStands setup u live (w.attempts u)) row.there (st.attempts u)));
  }
    where
      freed : Option ActorState → State
      freed None = with_unit s u (record x.now { finished = Some v })
      freed (Some o) = record (with_unit s u (record x.now { finished = Some v })) { actors = with_named s.actors a (after_turn x.now.becomes o) }

-- ---- whatever ends the run
pub ends : (setup : Setup) (w : World) (s : State) (entry : Entry) (end : End) → StandsFor setup w s → step setup s entry ≡ Some (ended s end) → Settles setup s entry (ended_by w entry end)
ends setup w s entry end st stepped = record {
  after = ended s end;
  steps = stepped;
  stands = record { refs = st.refs; units = st.units; actors = st.actors; turns = st.turns; queues = st.queues; attempts = st.attempts; bytes = st.bytes; made = st.made; end = refl };
}
