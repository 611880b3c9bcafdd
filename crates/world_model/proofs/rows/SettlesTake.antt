-- Settled, where it is a Take.
use Rattle.std.proofs.Common.{◌≡◌, ◌∙◌, suc, ◌==◌, Bool, true, false, cond, [], ◌∷◌, ◌++◌, refl, sym, ap, ap₂, subst, subst₂}
use Rattle.std.specs.List.{slice_get}
use Rattle.std.specs.Prelude.{Option, None, Some}
use Rattle.value_core.proofs.NamedLaws.{named-with_named, same_name-equal, same_name-itself}
use Rattle.value_core.specs.Named.{Name, named, same_name, made_by}
use Rattle.serial_model.proofs.runs.StepCases.{IsTaking, begun}
use Rattle.serial_model.specs.State.{Setup, UnitState, State, new_unit}
use Rattle.serial_model.specs.Step.{step, ended, queue_of}
use Rattle.serial_model.specs.declared.actor_state.ActorState.{ActorState}
use Rattle.serial_model.specs.declared.end.End.TheVariants as end
use Rattle.serial_model.specs.declared.entry.Entry.TheVariants.{Take}
use Rattle.world_model.specs.Ahead.{RunsAhead}
use Rattle.actor_mailbox.specs.declared.message.Message.{Message}
use Rattle.world_model.specs.StandsFor.{IsBegunTurn, LiveStands, UnitStands, QueueStands, IsAttempt, AttemptStands, TakenStands, StandsFor}
use Rattle.world_model.specs.World.{LiveUnit, Attempt, World, line, sends, held_sends, attempt_sends}
use Rattle.world_model.specs.rows.Turns.{SettlesTake, take_settled, begun_turn, busy_with}
use Rattle.world_model.proofs.lists.Queues.{IsTaken, queue-takes, queue-takes-other}
use Rattle.world_model.proofs.records.Frames.{at-here, at-other, IsMoved, unit-moves, taken-again}
use Rattle.world_model.proofs.records.Sends.{sends-tentative}
use Rattle.world_model.proofs.records.Steps.{Settles, step-takes-full, step-takes, queue-set}

-- the unit's record is the same but for its Take
pub attempt-same : (setup : Setup) (u : Name) (x y : LiveUnit) (found : Option Attempt) → x.now ≡ y.now → AttemptStands setup u (Some x) found → AttemptStands setup u (Some y) found
attempt-same setup u x y None same stands = tt
attempt-same setup u x y (Some at) same stands = subst (λ now. IsAttempt setup u (record { from = y.from; now = now; takes = y.takes; held = y.held }) at) same
    (record { asks = stands.asks; root = stands.root; unfinished = stands.unfinished; end = stands.end })

module _ (setup : Setup) (w : World) (s : State) (a : Name) (x : LiveUnit) (m : Message) (actor : ActorState) (st : StandsFor setup w s) (row : SettlesTake setup w a x m actor) where
  abbrev u : Name
  u = made_by a actor.turns

  here : LiveStands setup w.actors w.taken u x (Some a) (named u s.units)
  here = subst (λ takes. LiveStands setup w.actors w.taken u x takes (named u s.units)) row.takes
      (subst (λ live. UnitStands setup w.actors w.taken u live (named u s.units)) row.there (st.units u))

  turn : IsBegunTurn setup w.actors w.taken u x a
  turn = on (named u s.units) here
    where
      on : (found : Option UnitState) → LiveStands setup w.actors w.taken u x (Some a) found → IsBegunTurn setup w.actors w.taken u x a
      on None t = t
      on (Some unit) t = absurd t

  same_actor : turn.actor ≡ actor
  same_actor = let both : Some turn.actor ≡ Some actor = sym turn.there ∙ row.actor_there in cc

  same_message : turn.message ≡ m
  same_message = let both : turn.message ∷ [] ≡ m ∷ [] = sym turn.took ∙ row.took in cc

  whole_line : line w a ≡ m ∷ w.mails a
  whole_line = ap (λ t. t ++ w.mails a) row.took

  takes : IsTaken m.sender m (w.mails a) (sends w m.sender a) (queue_of s.queues a m.sender)
  takes = queue-takes m.sender m (w.mails a) (sends w m.sender a) (queue_of s.queues a m.sender) (same_name-itself m.sender) row.definite (sends-tentative w m.sender a)
      (subst (λ l. QueueStands m.sender l (sends w m.sender a) (queue_of s.queues a m.sender)) whole_line (st.queues a m.sender))

  taking : IsTaking setup s a m.sender actor turn.behaviour m.args takes.rest
  taking = record {
    going = sym st.end ∙ row.going;
    there = sym (st.actors a) ∙ row.actor_there;
    idle = subst (λ (o : ActorState). o.busy ≡ false) same_actor turn.idle;
    waits = takes.first;
    behaves = subst (λ (o : ActorState). slice_get setup.program.behaviours o.behaviour ≡ Some turn.behaviour) same_actor turn.behaves;
  }

  abbrev unit : UnitState
  unit = new_unit (Some a) turn.behaviour.body (actor.state ++ m.args)

  starts : unit ≡ x.from
  starts = sym (turn.starts ∙ ap₂ (λ (o : ActorState) (n : Message). new_unit (Some a) turn.behaviour.body (o.state ++ n.args)) same_actor same_message)

  abbrev after : State
  after = begun s a m.sender actor turn.behaviour m.args takes.rest

  abbrev w2 : World
  w2 = take_settled w a x m actor

  moves : (q : Name) → same_name q u ≡ false → (b : Name) (o : ActorState) (n : Message) → w.actors b ≡ Some o → q ≡ made_by b o.turns → w.taken b ≡ n ∷ [] → IsMoved w2.actors w2.taken b o n
  moves q apart b o n there called took = on (same_name b a) refl
    where
      on : (c : Bool) → same_name b a ≡ c → IsMoved w2.actors w2.taken b o n
      on true e =
          let same : b ≡ a = same_name-equal b a e in
          let both : Some o ≡ Some actor = sym there ∙ ap w.actors same ∙ row.actor_there in
          let is : o ≡ actor = cc in
          let name : q ≡ u = called ∙ ap (λ n. made_by n o.turns) same ∙ ap (λ (p : ActorState). made_by a p.turns) is in
          let no : same_name q u ≡ true = ap (λ n. same_name n u) name ∙ same_name-itself u in cc
      on false e = record {
        moved = n;
        there = at-other w.actors a b (Some (busy_with actor)) e ∙ there;
        took = at-other w.taken a b [] e ∙ took;
        args = refl;
      }

  units : (q : Name) (c : Bool) → same_name q u ≡ c → UnitStands setup w2.actors w2.taken q (cond c (Some (begun_turn x)) (w.units q)) (cond c (Some unit) (named q s.units))
  units q true e = (starts, subst (λ n. RunsAhead setup n x.from x.held x.now) (sym (same_name-equal q u e)) turn.runs)
  units q false e = unit-moves setup w.actors w2.actors w.taken w2.taken q (w.units q) (named q s.units) (moves q e) (st.units q)

  held_same : (b v : Name) (c : Bool) → same_name v u ≡ c → held_sends v b (w.units v) ≡ held_sends v b (cond c (Some (begun_turn x)) (w.units v))
  held_same b v true e = ap (held_sends v b) (ap w.units (same_name-equal v u e) ∙ row.there)
  held_same b v false e = refl

  sends_same : (b v : Name) → sends w v b ≡ sends w2 v b
  sends_same b v = ap (λ h. h ++ attempt_sends v b (w.attempts v)) (held_same b v (same_name v u) refl)

  line_here : w.mails a ≡ line w2 a
  line_here = sym (ap (λ t. t ++ w.mails a) (at-here w.taken a []))

  line_other : (b : Name) → same_name b a ≡ false → line w b ≡ line w2 b
  line_other b e = sym (ap (λ t. t ++ w.mails b) (at-other w.taken a b [] e))

  queues : (b v : Name) → QueueStands v (line w2 b) (sends w2 v b) (queue_of after.queues b v)
  queues = queue-set s.queues a m.sender takes.rest (λ b v queue. QueueStands v (line w2 b) (sends w2 v b) queue)
      (subst₂ (λ l p. QueueStands m.sender l p takes.rest) line_here (sends_same a m.sender) takes.stands)
      (λ v apart. subst₂ (λ l p. QueueStands v l p (queue_of s.queues a v)) line_here (sends_same a v)
      (queue-takes-other v m (w.mails a) (sends w v a) (queue_of s.queues a v) apart (subst (λ l. QueueStands v l (sends w v a) (queue_of s.queues a v)) whole_line (st.queues a v))))
      (λ b v apart. subst₂ (λ l p. QueueStands v l p (queue_of s.queues b v)) (line_other b apart) (sends_same b v) (st.queues b v))

  attempt : (v : Name) (c : Bool) → same_name v u ≡ c → AttemptStands setup v (cond c (Some (begun_turn x)) (w.units v)) (w.attempts v)
  attempt v true e = attempt-same setup v x (begun_turn x) (w.attempts v) refl (subst (λ live. AttemptStands setup v live (w.attempts v)) (ap w.units (same_name-equal v u e) ∙ row.there) (st.attempts v))
  attempt v false e = st.attempts v

  actors : (b : Name) → w2.actors b ≡ named b after.actors
  actors b = ap (cond (same_name b a) (Some (busy_with actor))) (st.actors b) ∙ sym (named-with_named b a (busy_with actor) s.actors)

  turns : (b : Name) (c : Bool) → same_name b a ≡ c → TakenStands w2.actors w2.units b (cond c [] (w.taken b))
  turns b true e = tt
  turns b false e = taken-again w.actors w2.actors w.units b u (begun_turn x) (w.taken b) (w.taken b)
      (λ y there takes.
      let both : Some y ≡ Some x = sym there ∙ row.there in
      let same : y ≡ x = cc in
      let names : Some b ≡ Some a = sym takes ∙ ap (λ (z : LiveUnit). z.takes) same ∙ row.takes in
      let is : b ≡ a = cc in
      let no : same_name b a ≡ true = ap (λ n. same_name n a) is ∙ same_name-itself a in absurd (differ (sym no ∙ e)))
      (λ o there. at-other w.actors a b (Some (busy_with actor)) e ∙ there) (λ e. e) (st.turns b)
    where
      differ : true ≡ false → ⊥
      differ e = cc

  pub full-take : (w.made == setup.limits.units) ≡ true → step setup s (Take a m.sender) ≡ Some (ended s end.UnitsSpent)
  full-take full = step-takes-full setup s a m.sender actor turn.behaviour m.args takes.rest taking (ap (λ n. n == setup.limits.units) (sym st.made) ∙ full)

  pub settles-take : (w.made == setup.limits.units) ≡ false → Settles setup s (Take a m.sender) (take_settled w a x m actor)
  settles-take room = record {
    after = after;
    steps = step-takes setup s a m.sender actor turn.behaviour m.args takes.rest taking (ap (λ n. n == setup.limits.units) (sym st.made) ∙ room);
    stands = record {
      refs = st.refs;
      units = λ q. subst (λ found. UnitStands setup w2.actors w2.taken q (w2.units q) found) (sym (named-with_named q u unit s.units)) (units q (same_name q u) refl);
      actors = actors;
      queues = queues;
      attempts = λ v. attempt v (same_name v u) refl;
      bytes = st.bytes;
      made = ap suc st.made;
      end = st.end;
      turns = λ b. turns b (same_name b a) refl;
    };
  }
