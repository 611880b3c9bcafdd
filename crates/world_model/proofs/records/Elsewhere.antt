-- What an effect does elsewhere than at its unit: the world and the state change alike.
use Rattle.std.proofs.Common.{◌≡◌, ◌∙◌, ℕ, suc, Bool, true, false, cond, List, [], ◌∷◌, ◌++◌, refl, sym, ap, subst}
use Rattle.std.specs.Prelude.{None, Some}
use Rattle.value_core.proofs.NamedLaws.{named-with_named, same_name-equal}
use Rattle.value_core.specs.Named.{Name, named, with_named, same_name}
use Rattle.value_core.specs.declared.value.Value.{Value}
use Rattle.core_syntax.specs.declared.node_id.NodeId.{NodeId}
use Rattle.serial_model.specs.State.{Setup, State, new_unit}
use Rattle.serial_model.specs.Step.{queue_of}
use Rattle.serial_model.specs.declared.actor_state.ActorState.{ActorState}
use Rattle.actor_mailbox.specs.declared.message.Message.{Message}
use Rattle.world_model.specs.StandsFor.{TakenStands, UnitStands, QueueStands, AttemptStands, StandsFor}
use Rattle.world_model.specs.World.{World, with_at, line, held_sends, attempt_sends}
use Rattle.world_model.specs.rows.Effects.{new_live}
use Rattle.world_model.proofs.records.Frames.{no-attempt, unit-moves, taken-again}

module _ (setup : Setup) (w : World) (s : State) (st : StandsFor setup w s) where
  pub with-bytes : (text : List ℕ) → StandsFor setup (record w { bytes = w.bytes ++ text }) (record s { bytes = s.bytes ++ text })
  with-bytes text = record {
    refs = st.refs;
    units = st.units;
    actors = st.actors;
    turns = st.turns;
    queues = st.queues;
    attempts = st.attempts;
    bytes = ap (λ b. b ++ text) st.bytes;
    made = st.made;
    end = st.end;
  }

  pub with-ref : (r : Name) (v : Value) → StandsFor setup (record w { refs = with_at w.refs r (Some v) }) (record s { refs = with_named s.refs r v })
  with-ref r v = record {
    refs = λ q. ap (cond (same_name q r) (Some v)) (st.refs q) ∙ sym (named-with_named q r v s.refs);
    units = st.units;
    actors = st.actors;
    turns = st.turns;
    queues = st.queues;
    attempts = st.attempts;
    bytes = st.bytes;
    made = st.made;
    end = st.end;
  }

  -- a new actor
  pub with-actor : (c : Name) (o : ActorState) → named c s.actors ≡ None → StandsFor setup (record w { actors = with_at w.actors c (Some o) }) (record s { actors = with_named s.actors c o })
  with-actor c o none = record {
    refs = st.refs;
    units = λ q. unit-moves setup w.actors (with_at w.actors c (Some o)) w.taken w.taken q (w.units q) (named q s.units) (λ b p n there called took. record { moved = n; there = old b p there; took = took; args = refl }) (st.units q);
    actors = λ b. ap (cond (same_name b c) (Some o)) (st.actors b) ∙ sym (named-with_named b c o s.actors);
    turns = λ a. turns a (w.taken a) (st.turns a);
    queues = st.queues;
    attempts = st.attempts;
    bytes = st.bytes;
    made = st.made;
    end = st.end;
  }
    where
      old : (b : Name) (p : ActorState) → w.actors b ≡ Some p → with_at w.actors c (Some o) b ≡ Some p
      old b p there = on (same_name b c) refl
        where
          on : (d : Bool) → same_name b c ≡ d → cond d (Some o) (w.actors b) ≡ Some p
          on true e = let no : Some p ≡ None = sym there ∙ ap w.actors (same_name-equal b c e) ∙ st.actors c ∙ none in cc
          on false e = there

      turns : (a : Name) (ms : List Message) → TakenStands w.actors w.units a ms → TakenStands (with_at w.actors c (Some o)) w.units a ms
      turns a [] t = tt
      turns a (m ∷ ms) t = record { actor = t.actor; turn = t.turn; there = old a t.actor t.there; begun = t.begun; takes = t.takes }

  -- a new plain unit
  pub with-child : (c : Name) (body : NodeId) (values : List Value) → w.units c ≡ None
      → StandsFor setup (record w { units = with_at w.units c (Some (new_live body values)); made = suc w.made }) (record s { units = with_named s.units c (new_unit None body values); made = suc s.made })
  with-child c body values none = record {
    refs = st.refs;
    units = λ q. subst (λ found. UnitStands setup w.actors w.taken q (with_at w.units c (Some (new_live body values)) q) found) (sym (named-with_named q c (new_unit None body values) s.units)) (unit q (same_name q c) refl);
    actors = st.actors;
    turns = λ a. taken-again w.actors w.actors w.units a c (new_live body values) (w.taken a) (w.taken a) (λ x there. let no : Some x ≡ None = sym there ∙ none in cc) (λ o there. there) (λ e. e) (st.turns a);
    queues = λ b v. subst (λ p. QueueStands v (line w b) p (queue_of s.queues b v)) (ap (λ h. h ++ attempt_sends v b (w.attempts v)) (same b v (same_name v c) refl)) (st.queues b v);
    attempts = λ v. attempt v (same_name v c) refl;
    bytes = st.bytes;
    made = ap suc st.made;
    end = st.end;
  }
    where
      unit : (q : Name) (d : Bool) → same_name q c ≡ d → UnitStands setup w.actors w.taken q (cond d (Some (new_live body values)) (w.units q)) (cond d (Some (new_unit None body values)) (named q s.units))
      unit q true e = (refl, refl)
      unit q false e = st.units q

      same : (b v : Name) (d : Bool) → same_name v c ≡ d → held_sends v b (w.units v) ≡ held_sends v b (cond d (Some (new_live body values)) (w.units v))
      same b v true e = ap (held_sends v b) (ap w.units (same_name-equal v c e) ∙ none)
      same b v false e = refl

      attempt : (v : Name) (d : Bool) → same_name v c ≡ d → AttemptStands setup v (cond d (Some (new_live body values)) (w.units v)) (w.attempts v)
      attempt v true e = rw (no-attempt setup v (w.units v) (w.attempts v) (st.attempts v) (ap w.units (same_name-equal v c e) ∙ none)) tt
      attempt v false e = st.attempts v

  -- an end, and a longer history
  pub with-history : (history : _) → StandsFor setup (record w { history = history }) s
  with-history history = record { refs = st.refs; units = st.units; actors = st.actors; turns = st.turns; queues = st.queues; attempts = st.attempts; bytes = st.bytes; made = st.made; end = st.end }
