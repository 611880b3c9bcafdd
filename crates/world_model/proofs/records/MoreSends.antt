-- A unit has one unsettled send more, or none, and its other sends are as they were.
use Rattle.std.proofs.Common.{◌≡◌, ◌∙◌, Bool, true, false, cond, List, [], ◌∷◌, ◌++◌, append_assoc, refl, sym, ap, subst}
use Rattle.value_core.proofs.NamedLaws.{same_name-equal, same_name-itself}
use Rattle.value_core.specs.Named.{Name, same_name}
use Rattle.serial_model.specs.State.{Setup, State}
use Rattle.serial_model.specs.Step.{queue_of}
use Rattle.actor_mailbox.specs.declared.message.Message.{Message}
use Rattle.world_model.specs.StandsFor.{QueueStands, StandsFor}
use Rattle.world_model.specs.World.{World, line, sends, kept_sends, put_last}
use Rattle.world_model.proofs.lists.Queues.{queue-puts, queue-keeps, queue-others, queue-kept}
use Rattle.world_model.proofs.records.Sends.{sends-tentative}

module _ (setup : Setup) (w : World) (s : State) (u : Name) (st : StandsFor setup w s) (after : Name → Name → List Message) (more : Name → List Message)
    (own : (b : Name) → sends w u b ++ more b ≡ after u b) (other : (b v : Name) → same_name v u ≡ false → sends w v b ≡ after v b) where
  -- no line changes: what is new is kept
  pub kept-line : (b v : Name) → QueueStands v (line w b) (after v b) (queue_of s.queues b v)
  kept-line b v = on (same_name v u) refl
    where
      on : (c : Bool) → same_name v u ≡ c → QueueStands v (line w b) (after v b) (queue_of s.queues b v)
      on true e = subst (λ n. QueueStands n (line w b) (after n b) (queue_of s.queues b n)) (sym (same_name-equal v u e))
          (subst (λ p. QueueStands u (line w b) p (queue_of s.queues b u)) (own b) (queue-keeps u (line w b) (sends w u b) (more b) (queue_of s.queues b u) (st.queues b u)))
      on false e = subst (λ p. QueueStands v (line w b) p (queue_of s.queues b v)) (other b v e) (st.queues b v)

  -- the new send is put last
  pub put-line : (to : Name) (m : Message) → m.sender ≡ u → more to ≡ m ∷ [] → kept_sends w u to ≡ [] → (b v : Name) → QueueStands v (w.taken b ++ put_last w to m b) (after v b) (queue_of s.queues b v)
  put-line to m sender new none b v = queue (same_name b to) refl
    where
      Stands : Name → Name → List Message → Type 0
      Stands b v l = QueueStands v l (after v b) (queue_of s.queues b v)

      mine : QueueStands u (line w to ++ m ∷ []) (after u to) (queue_of s.queues to u)
      mine = subst (λ p. QueueStands u (line w to ++ m ∷ []) p (queue_of s.queues to u)) (ap (λ l. sends w u to ++ l) (sym new) ∙ own to)
          (queue-puts u (line w to) (sends w u to) m (queue_of s.queues to u) (ap (same_name u) sender ∙ same_name-itself u) (st.queues to u)
          (sym (queue-kept u (line w to) (sends w u to) (queue_of s.queues to u) (sends-tentative w u to) (st.queues to u)) ∙ none))

      at_receiver : (c : Bool) → same_name v u ≡ c → QueueStands v (line w to ++ m ∷ []) (after v to) (queue_of s.queues to v)
      at_receiver true e = subst (λ n. QueueStands n (line w to ++ m ∷ []) (after n to) (queue_of s.queues to n)) (sym (same_name-equal v u e)) mine
      at_receiver false e = queue-others v (line w to) (m ∷ []) (after v to) (queue_of s.queues to v) (ap (same_name v) sender ∙ e, tt) (kept-line to v)

      queue : (p : Bool) → same_name b to ≡ p → QueueStands v (w.taken b ++ cond p (w.mails to ++ m ∷ []) (w.mails b)) (after v b) (queue_of s.queues b v)
      queue true e = subst (λ n. QueueStands v (w.taken n ++ (w.mails to ++ m ∷ [])) (after v n) (queue_of s.queues n v)) (sym (same_name-equal b to e))
          (subst (λ l. QueueStands v l (after v to) (queue_of s.queues to v)) (append_assoc (w.taken to) (w.mails to) (m ∷ [])) (at_receiver (same_name v u) refl))
      queue false e = kept-line b v
