-- finish: what is not settled goes, and the world stands for what it stood for.
use Rattle.std.proofs.Common.{◌≡◌, ◌∙◌, true, [], ◌++◌, refl, sym, ap, subst}
use Rattle.std.specs.Prelude.{Option, None, Some}
use Rattle.value_core.specs.Named.{Name, named}
use Rattle.serial_model.specs.State.{Setup, UnitState, State}
use Rattle.serial_model.specs.Step.{queue_of}
use Rattle.actor_mailbox.specs.Messages.{without}
use Rattle.world_model.specs.StandsFor.{LiveStands, UnitStands, QueueStands, StandsFor}
use Rattle.world_model.specs.World.{LiveUnit, World, line, sends, held_sends}
use Rattle.world_model.specs.rows.Undone.{reset, reset_live, reset_unit}
use Rattle.world_model.proofs.lists.Lists.{without-all}
use Rattle.world_model.proofs.lists.Queues.{queue-drops}
use Rattle.world_model.proofs.records.Sends.{sends-tentative}

module _ (setup : Setup) (w : World) (s : State) (st : StandsFor setup w s) where
  unit_stands : (q : Name) (live : Option LiveUnit) (found : Option UnitState) → UnitStands setup w.actors w.taken q live found → UnitStands setup w.actors (λ a. []) q (reset_unit live) found
  unit_stands q None None stands = tt
  unit_stands q None (Some unit) stands = absurd stands
  unit_stands q (Some x) found stands = on x.takes found stands
    where
      on : (takes : Option Name) (found : Option UnitState) → LiveStands setup w.actors w.taken q x takes found → UnitStands setup w.actors (λ a. []) q (reset_live x takes) found
      on None None stands = absurd stands
      on None (Some unit) stands = (stands.0, refl)
      on (Some a) None stands = tt
      on (Some a) (Some unit) stands = absurd stands

  none : (q b : Name) (live : Option LiveUnit) → held_sends q b (reset_unit live) ≡ []
  none q b None = refl
  none q b (Some x) = on x.takes
    where
      on : (takes : Option Name) → held_sends q b (reset_live x takes) ≡ []
      on None = refl
      on (Some a) = refl

  pub reset-stands : StandsFor setup (reset w) s
  reset-stands = record {
    refs = st.refs;
    units = λ q. unit_stands q (w.units q) (named q s.units) (st.units q);
    actors = st.actors;
    turns = λ a. tt;
    queues = λ b v. subst (λ p. QueueStands v (without (λ on. true) (line w b)) p (queue_of s.queues b v))
        (without-all (λ on. true) (sends w v b) (sends-tentative w v b) ∙ sym (ap (λ h. h ++ []) (none v b (w.units v))))
        (queue-drops v (λ on. true) (line w b) (sends w v b) (queue_of s.queues b v) (st.queues b v));
    attempts = λ v. tt;
    bytes = st.bytes;
    made = st.made;
    end = st.end;
  }
