-- Settled, where a definite unit that holds nothing sends.
use Rattle.std.proofs.Common.{◌≡◌, ◌∙◌, true, cond, List, [], ◌∷◌, ◌++◌, append_assoc, refl, sym, ap, ap₂, subst}
use Rattle.std.specs.Prelude.{None, Some}
use Rattle.value_core.proofs.NamedLaws.{same_name-itself}
use Rattle.value_core.specs.Named.{Name, same_name}
use Rattle.value_core.specs.Place.{Spot}
use Rattle.value_core.specs.declared.value.Value.TheVariants as value
use Rattle.value_core.specs.declared.value.Value.{Value}
use Rattle.serial_model.specs.State.{Setup, State}
use Rattle.serial_model.specs.Step.{next_of, with_unit, answered, sent, queue_of}
use Rattle.serial_model.specs.declared.entry.Entry.TheVariants.{Run}
use Rattle.serial_model.specs.declared.halt.Halt.TheVariants as halt
use Rattle.serial_model.specs.declared.request.Request.TheVariants as request
use Rattle.world_model.specs.Message.{settled}
use Rattle.world_model.specs.StandsFor.{QueueStands, StandsFor}
use Rattle.world_model.specs.World.{LiveUnit, World, line, sends, held_sends, attempt_sends, put_last}
use Rattle.world_model.specs.rows.Effects.{Stands, moved_on}
use Rattle.world_model.proofs.lists.Queues.{queue-sends, queue-others}
use Rattle.world_model.proofs.records.Steps.{Settles, queue-set}
use Rattle.world_model.proofs.rows.MovesOn.{moves-on, quiet, steps}

-- the message comes last in its mailbox, and last in its queue
pub with-message : (setup : Setup) (w : World) (s : State) (u to : Name) (args : List Value) → StandsFor setup w s → sends w u to ≡ [] → StandsFor setup (record w { mails = put_last w to (settled u args) }) (sent s to u args)
with-message setup w s u to args st none = record {
  refs = st.refs;
  units = st.units;
  actors = st.actors;
  turns = st.turns;
  queues = queue-set s.queues to u (queue_of s.queues to u ++ args ∷ []) (λ b v queue. QueueStands v (w.taken b ++ put_last w to (settled u args) b) (sends w v b) queue)
      (at_receiver u (queue_of s.queues to u ++ args ∷ []) (subst (λ p. QueueStands u (line w to ++ settled u args ∷ []) p (queue_of s.queues to u ++ args ∷ [])) (sym none)
      (queue-sends u (line w to) (queue_of s.queues to u) args (subst (λ p. QueueStands u (line w to) p (queue_of s.queues to u)) none (st.queues to u)))))
      (λ v apart. at_receiver v (queue_of s.queues to v) (queue-others v (line w to) (settled u args ∷ []) (sends w v to) (queue_of s.queues to v) (apart, tt) (st.queues to v)))
      (λ b v apart. subst (λ l. QueueStands v l (sends w v b) (queue_of s.queues b v)) (sym (ap (λ c. w.taken b ++ cond c (w.mails to ++ settled u args ∷ []) (w.mails b)) apart)) (st.queues b v));
  attempts = st.attempts;
  bytes = st.bytes;
  made = st.made;
  end = st.end;
}
  where
    at_receiver : (v : Name) (queue : List (List Value)) → QueueStands v (line w to ++ settled u args ∷ []) (sends w v to) queue → QueueStands v (w.taken to ++ put_last w to (settled u args) to) (sends w v to) queue
    at_receiver v queue stands = subst (λ l. QueueStands v l (sends w v to) queue)
        (append_assoc (w.taken to) (w.mails to) (settled u args ∷ []) ∙ ap (λ c. w.taken to ++ cond c (w.mails to ++ settled u args ∷ []) (w.mails to)) (sym (same_itself))) stands
      where
        same_itself : same_name to to ≡ true
        same_itself = same_name-itself to

pub sends-now : (setup : Setup) (w : World) (s : State) (u : Name) (x : LiveUnit) (to : Name) (args : List Value) (at : Spot) → StandsFor setup w s → Stands setup w u x → next_of setup x.now ≡ halt.Ask (request.Send to args) at
    → Settles setup s (Run u) (moved_on (record w { mails = put_last w to (settled u args) }) u (answered x.now value.Nil))
sends-now setup w s u x to args at st row asks =
    let alone = quiet setup w s u x st row (request.Send to args) at asks refl in
    record {
      after = with_unit (sent s to u args) u (answered x.now value.Nil);
      steps = steps setup w s u x st row (halt.Ask (request.Send to args) at) asks;
      stands = moves-on setup (record w { mails = put_last w to (settled u args) }) (sent s to u args) u x (answered x.now value.Nil) (w.history ++ Run u ∷ [])
          (with-message setup w s u to args st (none alone)) row.there row.takes row.held alone;
    }
  where
    none : w.attempts u ≡ None → sends w u to ≡ []
    none alone = ap₂ (λ live found. held_sends u to live ++ attempt_sends u to found) row.there alone ∙ ap (λ rs. held_sends u to (Some (record { from = x.from; now = x.now; takes = x.takes; held = rs })) ++ []) row.held
