-- Began and Local: an attempt begins, and its root does more.
use Rattle.std.proofs.Common.{◌≡◌, ◌∙◌, Bool, true, false, cond, List, [], ◌∷◌, ◌++◌, map, append_assoc, append-nil, refl, sym, ap, subst, subst₂}
use Rattle.std.specs.Prelude.{Option, None, Some}
use Rattle.value_core.proofs.NamedLaws.{same_name-equal, same_name-itself}
use Rattle.value_core.specs.Named.{Name, same_name}
use Rattle.value_core.specs.declared.value.Value.{Value}
use Rattle.serial_model.specs.State.{Setup, State}
use Rattle.serial_model.specs.Step.{queue_of}
use Rattle.serial_model.specs.declared.effect.Effect.{Effect}
use Rattle.serial_model.specs.declared.effect.What.TheVariants as what
use Rattle.serial_model.specs.declared.effect.What.{What}
use Rattle.actor_mailbox.specs.declared.message.Message.{Message}
use Rattle.serial_model.specs.Sends.{what_sends, effects_to}
use Rattle.world_model.specs.Message.{tentative}
use Rattle.world_model.specs.StandsFor.{QueueStands, IsEnd, IsAttempt, AttemptStands, StandsFor}
use Rattle.world_model.specs.World.{LiveUnit, AttemptEnd, Attempt, World, line, sends, kept_sends, held_sends, attempt_sends, put_last, is_empty, is_some}
use Rattle.world_model.specs.rows.Attempts.{Begins, Learns, learned, with_attempt, with_done, done_more, mails_done, does_local, local}
use Rattle.world_model.proofs.lists.Lists.{map-append, flat_map-append}
use Rattle.world_model.proofs.records.Frames.{at-here}
use Rattle.world_model.proofs.records.MoreSends.{kept-line, put-line}

pub begins : (setup : Setup) (w : World) (s : State) (u : Name) (x : LiveUnit) (at : Attempt) → StandsFor setup w s → Begins setup w u x at → StandsFor setup (with_attempt w u at) s
begins setup w s u x at st row = record {
  refs = st.refs;
  units = st.units;
  actors = st.actors;
  turns = st.turns;
  queues = λ b v. subst (λ p. QueueStands v (line w b) p (queue_of s.queues b v)) (ap (λ l. held_sends v b (w.units v) ++ l) (same b v (same_name v u) refl)) (st.queues b v);
  attempts = λ v. attempt v (same_name v u) refl;
  bytes = st.bytes;
  made = st.made;
  end = st.end;
}
  where
    same : (b v : Name) (c : Bool) → same_name v u ≡ c → attempt_sends v b (w.attempts v) ≡ attempt_sends v b (cond c (Some at) (w.attempts v))
    same b v true e = ap (attempt_sends v b) (ap w.attempts (same_name-equal v u e) ∙ row.none) ∙ sym (ap (λ es. map (tentative v at.root) (effects_to b es)) row.effects)
    same b v false e = refl

    is : IsAttempt setup u x at
    is = record { asks = row.asks; root = row.root; unfinished = row.unfinished; end = subst (IsEnd setup x.now.actor at) (sym row.ended) tt }

    attempt : (v : Name) (c : Bool) → same_name v u ≡ c → AttemptStands setup v (w.units v) (cond c (Some at) (w.attempts v))
    attempt v true e = subst (λ n. AttemptStands setup n (w.units n) (Some at)) (sym (same_name-equal v u e)) (subst (λ live. AttemptStands setup u live (Some at)) (sym row.there) is)
    attempt v false e = st.attempts v

module _ (setup : Setup) (w : World) (s : State) (u : Name) (at : Attempt) (e : Effect) (st : StandsFor setup w s) (there : w.attempts u ≡ Some at) where
  after : (Name → List Message) → Name → Name → List Message
  after mails v b = sends (done_more w u at e mails) v b

  -- whatever the mailboxes come to be
  pub does-with : (mails : Name → List Message) → ((b v : Name) → QueueStands v (w.taken b ++ mails b) (sends (done_more w u at e mails) v b) (queue_of s.queues b v)) → StandsFor setup (done_more w u at e mails) s
  does-with mails queues = record {
    refs = st.refs;
    units = st.units;
    actors = st.actors;
    turns = st.turns;
    queues = queues;
    attempts = λ v. attempt v (same_name v u) refl;
    bytes = st.bytes;
    made = st.made;
    end = st.end;
  }
    where
      more : (live : Option LiveUnit) → AttemptStands setup u live (Some at) → AttemptStands setup u live (Some (with_done at e))
      more None stands = absurd stands
      more (Some x) stands = record { asks = stands.asks; root = stands.root; unfinished = stands.unfinished; end = tt }

      attempt : (v : Name) (c : Bool) → same_name v u ≡ c → AttemptStands setup v (w.units v) (cond c (Some (with_done at e)) (w.attempts v))
      attempt v true is = subst (λ n. AttemptStands setup n (w.units n) (Some (with_done at e))) (sym (same_name-equal v u is)) (more (w.units u) (subst (AttemptStands setup u (w.units u)) there (st.attempts u)))
      attempt v false is = st.attempts v

  own : (mails : Name → List Message) (b : Name) → sends w u b ++ map (tentative u at.root) (what_sends b e.what) ≡ sends (done_more w u at e mails) u b
  own mails b =
      append_assoc (held_sends u b (w.units u)) (attempt_sends u b (w.attempts u)) (map (tentative u at.root) (what_sends b e.what))
      ∙ ap (λ l. held_sends u b (w.units u) ++ l)
      (ap (λ found. attempt_sends u b found ++ map (tentative u at.root) (what_sends b e.what)) there
      ∙ sym (map-append (tentative u at.root) (effects_to b at.effects) (what_sends b e.what))
      ∙ ap (map (tentative u at.root)) (ap (λ l. effects_to b at.effects ++ l) (sym (append-nil (what_sends b e.what))) ∙ sym (flat_map-append (λ (e : Effect). what_sends b e.what) at.effects (e ∷ [])))
      ∙ ap (attempt_sends u b) (sym (at-here w.attempts u (Some (with_done at e)))))

  other : (mails : Name → List Message) (b v : Name) → same_name v u ≡ false → sends w v b ≡ sends (done_more w u at e mails) v b
  other mails b v not = sym (ap (λ c. held_sends v b (w.units v) ++ attempt_sends v b (cond c (Some (with_done at e)) (w.attempts v))) not)

  keeps : StandsFor setup (done_more w u at e w.mails) s
  keeps = does-with w.mails (kept-line setup w s u st (λ v b. sends (done_more w u at e w.mails) v b) (λ b. map (tentative u at.root) (what_sends b e.what)) (own w.mails) (other w.mails))

  pub does-local : StandsFor setup (does_local w u at e) s
  does-local = on e.what refl
    where
      nil : (ms : List Message) → is_empty ms ≡ true → ms ≡ []
      nil [] is = refl
      nil (m ∷ ms) is = cc

      send : (to : Name) (args : List Value) → e.what ≡ what.Send to args → (p q : Bool) → is_empty (kept_sends w u to) ≡ q
          → StandsFor setup (done_more w u at e (cond p (cond q (put_last w to (tentative u at.root args)) w.mails) w.mails)) s
      send to args is false q none = keeps
      send to args is true false none = keeps
      send to args is true true none =
          let mails = put_last w to (tentative u at.root args) in
          does-with mails (put-line setup w s u st (λ v b. sends (done_more w u at e mails) v b) (λ b. map (tentative u at.root) (what_sends b e.what)) (own mails) (other mails)
          to (tentative u at.root args) refl (ap (λ w. map (tentative u at.root) (what_sends to w)) is ∙ ap (λ c. map (tentative u at.root) (cond c (args ∷ []) [])) (same_name-itself to)) (nil (kept_sends w u to) none))

      on : (did : What) → e.what ≡ did → StandsFor setup (done_more w u at e (mails_done w u at did)) s
      on (what.Send to args) is = send to args is (is_some (w.actors to)) (is_empty (kept_sends w u to)) refl
      on (what.Bytes text) is = keeps
      on (what.Spawn actor behaviour state) is = keeps
      on (what.Become behaviour state) is = keeps

-- a step's effects, one after another
pub locals : (setup : Setup) (w : World) (s : State) (u : Name) (at : Attempt) (es : List Effect) → StandsFor setup w s → w.attempts u ≡ Some at → StandsFor setup (local w u at es) s
locals setup w s u at [] st there = st
locals setup w s u at (e ∷ es) st there = locals setup (does_local w u at e) s u (with_done at e) es (does-local setup w s u at e st there) (at-here w.attempts u (Some (with_done at e)))

-- an attempt is the same but for what it knows
pub learns : (setup : Setup) (w : World) (s : State) (u : Name) (x : LiveUnit) (at : Attempt) (reads : List Name) (joined : List (Name × Value)) (ended : Option AttemptEnd) → StandsFor setup w s → Learns setup w u x at reads joined ended
    → StandsFor setup (with_attempt w u (learned at reads joined ended)) s
learns setup w s u x at reads joined ended st row = record {
  refs = st.refs;
  units = st.units;
  actors = st.actors;
  turns = st.turns;
  queues = λ b v. subst (λ p. QueueStands v (line w b) p (queue_of s.queues b v)) (ap (λ l. held_sends v b (w.units v) ++ l) (same b v (same_name v u) refl)) (st.queues b v);
  attempts = λ v. attempt v (same_name v u) refl;
  bytes = st.bytes;
  made = st.made;
  end = st.end;
}
  where
    new : Attempt
    new = learned at reads joined ended

    same : (b v : Name) (c : Bool) → same_name v u ≡ c → attempt_sends v b (w.attempts v) ≡ attempt_sends v b (cond c (Some (learned at reads joined ended)) (w.attempts v))
    same b v true e = ap (attempt_sends v b) (ap w.attempts (same_name-equal v u e) ∙ row.attempt)
    same b v false e = refl

    old : IsAttempt setup u x at
    old = subst₂ (λ live found. AttemptStands setup u live found) row.there row.attempt (st.attempts u)

    is : IsAttempt setup u x (learned at reads joined ended)
    is = record { asks = old.asks; root = old.root; unfinished = old.unfinished; end = row.end }

    attempt : (v : Name) (c : Bool) → same_name v u ≡ c → AttemptStands setup v (w.units v) (cond c (Some (learned at reads joined ended)) (w.attempts v))
    attempt v true e = subst (λ n. AttemptStands setup n (w.units n) (Some (learned at reads joined ended))) (sym (same_name-equal v u e)) (subst (λ live. AttemptStands setup u live (Some (learned at reads joined ended))) (sym row.there) is)
    attempt v false e = st.attempts v
