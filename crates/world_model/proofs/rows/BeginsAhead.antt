-- Held, where a turn is begun: nothing of what the world stands for changes.
use Rattle.std.proofs.Common.{◌≡◌, ◌∙◌, Bool, true, false, cond, List, [], ◌∷◌, ◌++◌, refl, sym, ap, ap₂, subst₂}
use Rattle.std.specs.Prelude.{None, Some}
use Rattle.value_core.proofs.NamedLaws.{same_name-equal}
use Rattle.value_core.specs.Named.{Name, named, same_name, made_by}
use Rattle.core_syntax.specs.declared.behaviour.Behaviour.{Behaviour}
use Rattle.serial_model.proofs.runs.Made.{IsMade}
use Rattle.serial_model.specs.State.{Setup, State}
use Rattle.serial_model.specs.Step.{queue_of}
use Rattle.serial_model.specs.declared.actor_state.ActorState.{ActorState}
use Rattle.actor_mailbox.specs.declared.message.Message.{Message}
use Rattle.world_model.specs.StandsFor.{UnitStands, QueueStands, AttemptStands, TakenStands, StandsFor}
use Rattle.world_model.specs.World.{World, with_at, held_sends, attempt_sends}
use Rattle.world_model.specs.rows.Turns.{BeginsAhead, live_turn, begun_ahead}
use Rattle.world_model.proofs.records.Frames.{at-here, at-other, no-unit, no-attempt, IsMoved, unit-moves, taken-again}
use Rattle.world_model.proofs.records.Names.{new-turn}

module _ (setup : Setup) (w : World) (s : State) (a u : Name) (m : Message) (ms : List Message) (actor : ActorState) (behaviour : Behaviour) (st : StandsFor setup w s)
    (made : IsMade s) (row : BeginsAhead setup w a u m ms actor behaviour) where
  fresh : w.units u ≡ None
  fresh = ap w.units row.called ∙ new-turn setup w s st made a actor row.there row.free

  pub begins-ahead : StandsFor setup (begun_ahead w a u m ms (live_turn a actor behaviour m)) s
  begins-ahead = record {
    refs = st.refs;
    units = λ q. unit q (same_name q u) refl;
    actors = st.actors;
    queues = λ b v. subst₂ (λ l p. QueueStands v l p (queue_of s.queues b v)) (line_same b (same_name b a) refl) (ap (λ h. h ++ attempt_sends v b (w.attempts v)) (held_same b v (same_name v u) refl)) (st.queues b v);
    attempts = λ v. attempt v (same_name v u) refl;
    bytes = st.bytes;
    made = st.made;
    end = st.end;
    turns = λ b. turns b (same_name b a) refl;
  }
    where
      none : named u s.units ≡ None
      none = no-unit setup w.actors w.taken u (w.units u) (named u s.units) (st.units u) fresh

      moves : (b : Name) (other : ActorState) (message : Message) → w.actors b ≡ Some other → w.taken b ≡ message ∷ [] → IsMoved w.actors (with_at w.taken a (m ∷ [])) b other message
      moves b other message there took = on (same_name b a) refl
        where
          on : (c : Bool) → same_name b a ≡ c → IsMoved w.actors (with_at w.taken a (m ∷ [])) b other message
          on true e = let no : message ∷ [] ≡ [] = sym took ∙ ap w.taken (same_name-equal b a e) ∙ row.free in cc
          on false e = record { moved = message; there = there; took = at-other w.taken a b (m ∷ []) e ∙ took; args = refl }

      turns : (b : Name) (c : Bool) → same_name b a ≡ c → TakenStands w.actors (with_at w.units u (Some (live_turn a actor behaviour m))) b (cond c (m ∷ []) (w.taken b))
      turns b true e =
          let same : b ≡ a = same_name-equal b a e in
          record {
            actor = actor;
            turn = live_turn a actor behaviour m;
            there = ap w.actors same ∙ row.there;
            begun = ap (with_at w.units u (Some (live_turn a actor behaviour m))) (ap (λ n. made_by n actor.turns) same ∙ sym row.called) ∙ at-here w.units u (Some (live_turn a actor behaviour m));
            takes = ap (λ n. Some n) (sym same);
          }
      turns b false e = taken-again w.actors w.actors w.units b u (live_turn a actor behaviour m) (w.taken b) (w.taken b) (λ x there. let no : Some x ≡ None = sym there ∙ fresh in cc) (λ o there. there) (λ e. e) (st.turns b)

      unit : (q : Name) (c : Bool) → same_name q u ≡ c → UnitStands setup w.actors (with_at w.taken a (m ∷ [])) q (cond c (Some (live_turn a actor behaviour m)) (w.units q)) (named q s.units)
      unit q true e =
          let same : q ≡ u = same_name-equal q u e in
          rw (ap (λ n. named n s.units) same ∙ none) (record {
            actor = actor;
            behaviour = behaviour;
            message = m;
            there = row.there;
            idle = row.idle;
            behaves = row.behaves;
            called = same ∙ row.called;
            took = at-here w.taken a (m ∷ []);
            starts = refl;
            runs = refl;
          })
      unit q false e = unit-moves setup w.actors w.actors w.taken (with_at w.taken a (m ∷ [])) q (w.units q) (named q s.units) (λ b other message there called took. moves b other message there took) (st.units q)

      line_same : (b : Name) (c : Bool) → same_name b a ≡ c → w.taken b ++ w.mails b ≡ cond c (m ∷ []) (w.taken b) ++ cond c ms (w.mails b)
      line_same b true e = let same = same_name-equal b a e in ap₂ (λ t l. t ++ l) (ap w.taken same ∙ row.free) (ap w.mails same ∙ row.front)
      line_same b false e = refl

      held_same : (b v : Name) (c : Bool) → same_name v u ≡ c → held_sends v b (w.units v) ≡ held_sends v b (cond c (Some (live_turn a actor behaviour m)) (w.units v))
      held_same b v true e = ap (held_sends v b) (ap w.units (same_name-equal v u e) ∙ fresh)
      held_same b v false e = refl

      attempt : (v : Name) (c : Bool) → same_name v u ≡ c → AttemptStands setup v (cond c (Some (live_turn a actor behaviour m)) (w.units v)) (w.attempts v)
      attempt v true e = rw (no-attempt setup v (w.units v) (w.attempts v) (st.attempts v) (ap w.units (same_name-equal v u e) ∙ fresh)) tt
      attempt v false e = st.attempts v
