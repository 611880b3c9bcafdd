-- Aborted: what depends on an attempt is gone, and the world stands for what it stood for.
use Rattle.std.proofs.Common.{◌≡◌, ◌∙◌, Bool, true, false, cond, List, [], ◌∷◌, ◌++◌, map, refl, sym, ap, ap₂, subst, subst₂}
use Rattle.std.specs.Prelude.{Option, None, Some, not}
use Rattle.value_core.specs.Named.{Name, named, made_by}
use Rattle.serial_model.specs.State.{Setup, UnitState, State}
use Rattle.serial_model.specs.Step.{queue_of}
use Rattle.serial_model.specs.declared.actor_state.ActorState.{ActorState}
use Rattle.actor_mailbox.specs.declared.message.Message.{Message}
use Rattle.actor_mailbox.specs.Messages.{passes, stays, without}
use Rattle.serial_model.specs.Sends.{sends_to, effects_to}
use Rattle.world_model.specs.Message.{tentative}
use Rattle.world_model.specs.StandsFor.{LiveStands, UnitStands, QueueStands, AttemptStands, TakenStands, StandsFor}
use Rattle.world_model.specs.World.{LiveUnit, Attempt, World, line, sends, held_sends, attempt_sends}
use Rattle.world_model.specs.rows.Undone.{unless_gone, undone}
use Rattle.world_model.proofs.lists.Lists.{Each, each-map, filter-append, without-others, without-all}
use Rattle.world_model.proofs.lists.Queues.{queue-drops}
use Rattle.world_model.proofs.records.Frames.{IsMoved, unit-moves}
use Rattle.world_model.proofs.records.Sends.{sends-each}

-- a set of names that can go: what depends on one of them is among them
pub record IsGone (w : World) (gone : Name → Bool) : Type 0 where
  -- a turn whose Take is held is gone exactly where its message depends on what is gone
  pub turns : (a : Name) (actor : ActorState) (m : Message) → w.actors a ≡ Some actor → w.taken a ≡ m ∷ [] → passes gone m.depends ≡ gone (made_by a actor.turns)
  -- no other unit is
  pub units : (v : Name) (x : LiveUnit) → w.units v ≡ Some x → x.takes ≡ None → gone v ≡ false
  -- the attempt of a turn that is gone is gone
  pub attempts : (v : Name) (tried : Attempt) → w.attempts v ≡ Some tried → gone v ≡ true → gone tried.root ≡ true

module _ (setup : Setup) (w : World) (s : State) (gone : Name → Bool) (st : StandsFor setup w s) (row : IsGone w gone) where
  abbrev w2 : World
  w2 = undone w gone

  moves : (q : Name) → gone q ≡ false → (b : Name) (o : ActorState) (n : Message) → w.actors b ≡ Some o → q ≡ made_by b o.turns → w.taken b ≡ n ∷ [] → IsMoved w2.actors w2.taken b o n
  moves q kept b o n there called took =
      let not : passes gone n.depends ≡ false = row.turns b o n there took ∙ ap gone (sym called) ∙ kept in
      record { moved = n; there = there; took = ap (without gone) took ∙ without-others gone (n ∷ []) (not, tt); args = refl }

  -- a unit that is gone is not in the state
  none : (q : Name) (live : Option LiveUnit) (found : Option UnitState) → gone q ≡ true → w.units q ≡ live → UnitStands setup w.actors w.taken q live found → UnitStands setup w2.actors w2.taken q None found
  none q None None is there stands = tt
  none q None (Some unit) is there stands = absurd stands
  none q (Some x) found is there stands = on x.takes refl found stands
    where
      on : (takes : Option Name) → x.takes ≡ takes → (found : Option UnitState) → LiveStands setup w.actors w.taken q x takes found → UnitStands setup w2.actors w2.taken q None found
      on None e found stands = let no : gone q ≡ false = row.units q x there e in absurd (true_false (sym is ∙ no))
        where
          true_false : true ≡ false → ⊥
          true_false e = cc
      on (Some a) e None stands = tt
      on (Some a) e (Some unit) stands = absurd stands

  unit : (q : Name) (c : Bool) → gone q ≡ c → UnitStands setup w2.actors w2.taken q (cond c None (w.units q)) (named q s.units)
  unit q true e = none q (w.units q) (named q s.units) e refl (st.units q)
  unit q false e = unit-moves setup w.actors w2.actors w.taken w2.taken q (w.units q) (named q s.units) (moves q e) (st.units q)

  all_gone : (v : Name) (b : Name) → gone v ≡ true → Each (λ m. passes gone m.depends ≡ true) (sends w v b)
  all_gone v b is = sends-each w v b (λ m. passes gone m.depends ≡ true) (λ x args there. is) (λ at args there. row.attempts v at there is)

  held_stays : (v b : Name) (live : Option LiveUnit) → gone v ≡ false → without gone (held_sends v b live) ≡ held_sends v b live
  held_stays v b None not = refl
  held_stays v b (Some x) not = without-others gone (map (tentative v v) (sends_to b x.held)) (each-map (λ m. passes gone m.depends ≡ false) (tentative v v) (sends_to b x.held) (λ args. not))

  attempt_stays : (v b : Name) (found : Option Attempt) → without gone (attempt_sends v b found) ≡ attempt_sends v b (unless_gone gone found)
  attempt_stays v b None = refl
  attempt_stays v b (Some at) = on (gone at.root) refl
    where
      on : (c : Bool) → gone at.root ≡ c → without gone (map (tentative v at.root) (effects_to b at.effects)) ≡ attempt_sends v b (cond c None (Some at))
      on true e = without-all gone (map (tentative v at.root) (effects_to b at.effects)) (each-map (λ m. passes gone m.depends ≡ true) (tentative v at.root) (effects_to b at.effects) (λ args. e))
      on false e = without-others gone (map (tentative v at.root) (effects_to b at.effects)) (each-map (λ m. passes gone m.depends ≡ false) (tentative v at.root) (effects_to b at.effects) (λ args. e))

  no_attempt : (v b : Name) (found : Option Attempt) → gone v ≡ true → w.attempts v ≡ found → attempt_sends v b (unless_gone gone found) ≡ []
  no_attempt v b None is there = refl
  no_attempt v b (Some at) is there = rw (row.attempts v at there is) refl

  sends_stay : (v b : Name) (c : Bool) → gone v ≡ c → without gone (sends w v b) ≡ held_sends v b (cond c None (w.units v)) ++ attempt_sends v b (unless_gone gone (w.attempts v))
  sends_stay v b true e = without-all gone (sends w v b) (all_gone v b e) ∙ sym (no_attempt v b (w.attempts v) e refl)
  sends_stay v b false e = filter-append (stays gone) (held_sends v b (w.units v)) (attempt_sends v b (w.attempts v)) ∙ ap₂ (λ h t. h ++ t) (held_stays v b (w.units v) e) (attempt_stays v b (w.attempts v))

  attempt : (v : Name) (found : Option Attempt) → w.attempts v ≡ found → AttemptStands setup v (w.units v) found → AttemptStands setup v (w2.units v) (unless_gone gone found)
  attempt v None there stands = tt
  attempt v (Some at) there stands = on (gone at.root) refl (gone v) refl
    where
      on : (c : Bool) → gone at.root ≡ c → (d : Bool) → gone v ≡ d → AttemptStands setup v (cond d None (w.units v)) (cond c None (Some at))
      on true e d de = tt
      on false e true de = absurd (no (sym (row.attempts v at there de) ∙ e))
        where
          no : true ≡ false → ⊥
          no e = cc
      on false e false de = stands

  turns : (a : Name) (ms : List Message) → w.taken a ≡ ms → TakenStands w.actors w.units a ms → TakenStands w2.actors w2.units a (without gone ms)
  turns a [] is stands = tt
  turns a (m ∷ ms) is t = on (passes gone m.depends) refl
    where
      only : ms ≡ []
      only = took (subst (λ takes. LiveStands setup w.actors w.taken (made_by a t.actor.turns) t.turn takes (named (made_by a t.actor.turns) s.units)) t.takes
          (subst (λ live. UnitStands setup w.actors w.taken (made_by a t.actor.turns) live (named (made_by a t.actor.turns) s.units)) t.begun (st.units (made_by a t.actor.turns))))
        where
          took : LiveStands setup w.actors w.taken (made_by a t.actor.turns) t.turn (Some a) (named (made_by a t.actor.turns) s.units) → ms ≡ []
          took stands = at (named (made_by a t.actor.turns) s.units) stands
            where
              at : (found : Option UnitState) → LiveStands setup w.actors w.taken (made_by a t.actor.turns) t.turn (Some a) found → ms ≡ []
              at None b = let both : m ∷ ms ≡ b.message ∷ [] = sym is ∙ b.took in cc
              at (Some other) stands = absurd stands

      on : (p : Bool) → passes gone m.depends ≡ p → TakenStands w2.actors w2.units a (cond (not p) (m ∷ without gone ms) (without gone ms))
      on true e = rw only tt
      on false e = record {
        actor = t.actor;
        turn = t.turn;
        there = t.there;
        begun = ap (λ c. cond c None (w.units (made_by a t.actor.turns))) (sym (row.turns a t.actor m t.there (is ∙ ap (λ ns. m ∷ ns) only)) ∙ e) ∙ t.begun;
        takes = t.takes;
      }

  pub undone-stands : StandsFor setup (undone w gone) s
  undone-stands = record {
    refs = st.refs;
    units = λ q. unit q (gone q) refl;
    actors = st.actors;
    queues = λ b v. subst₂ (λ l p. QueueStands v l p (queue_of s.queues b v)) (filter-append (stays gone) (w.taken b) (w.mails b)) (sends_stay v b (gone v) refl) (queue-drops v gone (line w b) (sends w v b) (queue_of s.queues b v) (st.queues b v));
    attempts = λ v. attempt v (w.attempts v) refl (st.attempts v);
    bytes = st.bytes;
    made = st.made;
    end = st.end;
    turns = λ a. turns a (w.taken a) refl (st.turns a);
  }
