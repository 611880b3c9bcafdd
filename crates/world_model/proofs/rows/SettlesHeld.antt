-- Settled, where it is the first held effect of a definite turn.
use Rattle.std.proofs.Common.{◌≡◌, ◌∙◌, ℕ, Bool, true, false, cond, List, [], ◌∷◌, ◌++◌, map, append_assoc, refl, sym, ap, ap₂, subst, subst₂}
use Rattle.std.specs.Prelude.{◌||◌, Some}
use Rattle.value_core.proofs.NamedLaws.{named-with_named, same_name-equal, same_name-itself}
use Rattle.value_core.specs.Named.{Name, named, with_named, same_name}
use Rattle.value_core.specs.Place.{Spot}
use Rattle.value_core.specs.declared.value.Value.TheVariants as value
use Rattle.value_core.specs.declared.value.Value.{Value}
use Rattle.serial_model.proofs.runs.Made.{IsMade}
use Rattle.serial_model.specs.State.{Setup, UnitState, State, Queues}
use Rattle.serial_model.specs.Step.{step, goes_on, does, queue_of, with_queue, with_unit, answered}
use Rattle.serial_model.specs.declared.actor_state.ActorState.{ActorState}
use Rattle.serial_model.specs.declared.entry.Entry.TheVariants.{Run}
use Rattle.serial_model.specs.declared.entry.Entry.{Entry}
use Rattle.serial_model.specs.declared.request.Request.TheVariants as request
use Rattle.serial_model.specs.declared.request.Request.{Request}
use Rattle.world_model.specs.Ahead.{IsHeld, RunsAhead}
use Rattle.actor_mailbox.specs.declared.message.Message.{Message}
use Rattle.actor_mailbox.specs.Messages.{is_from, passes, definite}
use Rattle.serial_model.specs.Sends.{request_sends, sends_to}
use Rattle.world_model.specs.Message.{settled, tentative, settle_or_put}
use Rattle.world_model.specs.StandsFor.{UnitStands, QueueStands, AttemptStands, StandsFor}
use Rattle.world_model.specs.World.{LiveUnit, World, with_at, line, sends, held_sends, attempt_sends}
use Rattle.world_model.specs.rows.Effects.{SettlesHeld, held_rest, has_put, settled_taken, settled_mail, print_settled, send_settled}
use Rattle.world_model.proofs.lists.Lists.{Each, each-to, map-append}
use Rattle.world_model.proofs.lists.Queues.{queue-settles-first, queue-settles-first-other}
use Rattle.world_model.proofs.records.Frames.{at-here, at-other, IsMoved, unit-moves, taken-again}
use Rattle.world_model.proofs.records.Sends.{own-sends}
use Rattle.world_model.proofs.records.SettledUnits.{settled-unit}
use Rattle.world_model.proofs.records.Steps.{Settles, step-runs, queue-set}
use Rattle.world_model.proofs.rows.SettlesTake.{attempt-same}

some_same : {X : Type 0} (a b : X) → Some a ≡ Some b → a ≡ b
some_same a b e = cc

-- the unit of the state, what it asks for and where it is then
pub record IsNext (setup : Setup) (s : State) (u : Name) (x : LiveUnit) (r : Request) (rest : List Request) (after : UnitState) : Type 0 where
  pub at : Spot
  pub there : named u s.units ≡ Some x.from
  pub held : IsHeld setup u x.from r at after
  pub runs : RunsAhead setup u after rest x.now

pub is-next : (setup : Setup) (w : World) (s : State) (u : Name) (x : LiveUnit) (r : Request) (rest : List Request) (after : UnitState) → StandsFor setup w s → SettlesHeld w u x r rest after
    → IsNext setup s u x r rest after
is-next setup w s u x r rest after st row =
    let is = settled-unit setup w s u x st row.there row.takes in
    let runs : RunsAhead setup u x.from (r ∷ rest) x.now = subst (λ rs. RunsAhead setup u x.from rs x.now) row.held is.runs in
    let same : runs.1 ≡ after = some_same runs.1 after (sym runs.2.gives ∙ row.gives) in
    record { at = runs.0; there = is.there; held = subst (IsHeld setup u x.from r runs.0) same runs.2; runs = subst (λ unit. RunsAhead setup u unit rest x.now) same runs.3 }

module _ (setup : Setup) (w : World) (s : State) (u : Name) (x : LiveUnit) (r : Request) (rest : List Request) (after : UnitState) (st : StandsFor setup w s) (row : SettlesHeld w u x r rest after) (is : IsNext setup s u x r rest after) where
  pub settles-steps : step setup s (Run u) ≡ does setup s u x.from is.at r
  settles-steps = step-runs setup s u x.from (record { going = sym st.end ∙ row.going; there = is.there; unfinished = is.held.unfinished }) ∙ ap (goes_on setup s u x.from) is.held.asks

  -- the unit has its answer, whatever lines and queues come to be
  abbrev answers_in : List Entry → (Name → List Message) → (Name → List Message) → List ℕ → World
  answers_in history taken mails bytes = record w { history = history; units = with_at w.units u (Some (held_rest x rest after)); taken = taken; mails = mails; bytes = bytes }

  pub answers-with : (history : List Entry) (taken mails : Name → List Message) (queues : Queues) (bytes wbytes : List ℕ) → wbytes ≡ bytes → ((b : Name) → w.taken b ≡ [] → taken b ≡ [])
      → ((b : Name) (o : ActorState) (n : Message) → w.actors b ≡ Some o → w.taken b ≡ n ∷ [] → IsMoved w.actors taken b o n)
      → ((b v : Name) → QueueStands v (taken b ++ mails b) (sends (answers_in history taken mails wbytes) v b) (queue_of queues b v))
      → StandsFor setup (answers_in history taken mails wbytes) (record s { units = with_named s.units u after; queues = queues; bytes = bytes })
  answers-with history taken mails queues bytes wbytes same empty moves stands = record {
    refs = st.refs;
    units = λ q. subst (λ found. UnitStands setup w.actors taken q (with_at w.units u (Some (held_rest x rest after)) q) found) (sym (named-with_named q u after s.units)) (unit q (same_name q u) refl);
    actors = st.actors;
    queues = stands;
    attempts = λ v. attempt v (same_name v u) refl;
    bytes = same;
    made = st.made;
    end = st.end;
    turns = λ b. taken-again w.actors w.actors w.units b u (held_rest x rest after) (w.taken b) (taken b) (λ y there takes. ap (λ (z : LiveUnit). z.takes) (some_same x y (sym row.there ∙ there)) ∙ takes) (λ o there. there) (empty b) (st.turns b);
  }
    where
      unit : (q : Name) (c : Bool) → same_name q u ≡ c → UnitStands setup w.actors taken q (cond c (Some (held_rest x rest after)) (w.units q)) (cond c (Some after) (named q s.units))
      unit q true e = rw row.takes ((refl, subst (λ n. RunsAhead setup n after rest x.now) (sym (same_name-equal q u e)) is.runs))
      unit q false e = unit-moves setup w.actors w.actors w.taken taken q (w.units q) (named q s.units) (λ b o n there called took. moves b o n there took) (st.units q)

      attempt : (v : Name) (c : Bool) → same_name v u ≡ c → AttemptStands setup v (cond c (Some (held_rest x rest after)) (w.units v)) (w.attempts v)
      attempt v true e = attempt-same setup v x (held_rest x rest after) (w.attempts v) refl (subst (λ live. AttemptStands setup v live (w.attempts v)) (ap w.units (same_name-equal v u e) ∙ row.there) (st.attempts v))
      attempt v false e = st.attempts v

  -- a unit's sends, without the first held effect
  pub sends-after : (b v : Name) (c : Bool) → same_name v u ≡ c → sends w v b ≡ cond c (map (tentative u u) (request_sends b r)) [] ++ (held_sends v b (cond c (Some (held_rest x rest after)) (w.units v)) ++ attempt_sends v b (w.attempts v))
  sends-after b v false e = refl
  sends-after b v true e = subst (λ n. sends w n b ≡ map (tentative u u) (request_sends b r) ++ (map (tentative n n) (sends_to b rest) ++ attempt_sends n b (w.attempts n))) (sym (same_name-equal v u e))
      (ap (λ h. h ++ attempt_sends u b (w.attempts u)) (ap (held_sends u b) row.there ∙ ap (λ rs. map (tentative u u) (sends_to b rs)) row.held ∙ map-append (tentative u u) (request_sends b r) (sends_to b rest))
      ∙ append_assoc (map (tentative u u) (request_sends b r)) (map (tentative u u) (sends_to b rest)) (attempt_sends u b (w.attempts u)))

  -- an effect that is no send
  pub answers : (history : List Entry) (bytes wbytes : List ℕ) → wbytes ≡ bytes → ((b : Name) → request_sends b r ≡ [])
      → StandsFor setup (answers_in history w.taken w.mails wbytes) (record s { units = with_named s.units u after; bytes = bytes })
  answers history bytes wbytes same none = answers-with history w.taken w.mails s.queues bytes wbytes same (λ b e. e) (λ b o n there took. record { moved = n; there = there; took = took; args = refl })
      (λ b v. subst (λ p. QueueStands v (line w b) p (queue_of s.queues b v)) (sends-after b v (same_name v u) refl ∙ ap (λ h. h ++ sends (answers_in history w.taken w.mails wbytes) v b) (no b (same_name v u))) (st.queues b v))
    where
      no : (b : Name) (c : Bool) → cond c (map (tentative u u) (request_sends b r)) [] ≡ []
      no b true = ap (map (tentative u u)) (none b)
      no b false = refl

-- a held print
pub settles-print : (setup : Setup) (w : World) (s : State) (u : Name) (x : LiveUnit) (text : List ℕ) (rest : List Request) (after : UnitState) → StandsFor setup w s → SettlesHeld w u x (request.Print text) rest after
    → Settles setup s (Run u) (print_settled w u x rest after text)
settles-print setup w s u x text rest after st row =
    let is = is-next setup w s u x (request.Print text) rest after st row in
    let same : after ≡ answered x.from value.Nil = sym (some_same (answered x.from value.Nil) after row.gives) in
    record {
      after = record s { units = with_named s.units u after; bytes = s.bytes ++ text };
      steps = settles-steps setup w s u x (request.Print text) rest after st row is ∙ ap (λ unit. Some (with_unit (record s { bytes = s.bytes ++ text }) u unit)) (sym same);
      stands = answers setup w s u x (request.Print text) rest after st row is (w.history ++ Run u ∷ []) (s.bytes ++ text) (w.bytes ++ text) (ap (λ b. b ++ text) st.bytes) (λ b. refl);
    }

-- ---- a held send
-- the line after the first message that depends on the turn is settled in its place
pub line-first : (u : Name) (l : Message) (taken mails : List Message) → settled_taken u l taken ++ settled_mail u l taken mails ≡ settle_or_put (same_name u) l (taken ++ mails)
line-first u l [] mails = refl
line-first u l (m ∷ ms) mails = on (passes (same_name u) m.depends) refl (line-first u l ms mails)
  where
    on : (p : Bool) → passes (same_name u) m.depends ≡ p → settled_taken u l ms ++ settled_mail u l ms mails ≡ settle_or_put (same_name u) l (ms ++ mails)
        → cond (p || has_put u ms) (cond p (definite m ∷ ms) (m ∷ settle_or_put (same_name u) l ms)) (m ∷ ms) ++ cond (p || has_put u ms) mails (settle_or_put (same_name u) l mails)
        ≡ cond p (definite m ∷ (ms ++ mails)) (m ∷ settle_or_put (same_name u) l (ms ++ mails))
    on true e rest = refl
    on false e rest = within (has_put u ms) refl rest
      where
        within : (h : Bool) → has_put u ms ≡ h → cond h (settle_or_put (same_name u) l ms) ms ++ cond h mails (settle_or_put (same_name u) l mails) ≡ settle_or_put (same_name u) l (ms ++ mails)
            → cond h (m ∷ settle_or_put (same_name u) l ms) (m ∷ ms) ++ cond h mails (settle_or_put (same_name u) l mails) ≡ m ∷ settle_or_put (same_name u) l (ms ++ mails)
        within true he rest = ap (λ (zs : List Message). m ∷ zs) rest
        within false he rest = ap (λ (zs : List Message). m ∷ zs) rest

turned : (f p : Bool) → (f ≡ false → p ≡ false) → p ≡ true → f ≡ true
turned true p h e = refl
turned false p h e = let no : p ≡ false = h refl in cc

module _ (setup : Setup) (w : World) (s : State) (u : Name) (x : LiveUnit) (to : Name) (args : List Value) (rest : List Request) (after : UnitState) (st : StandsFor setup w s) (made : IsMade s) (row : SettlesHeld w u x (request.Send to args) rest after) where
  is : IsNext setup s u x (request.Send to args) rest after
  is = is-next setup w s u x (request.Send to args) rest after st row

  abbrev w2 : World
  w2 = send_settled w u x rest after to args

  abbrev s2 : State
  s2 = record s { units = with_named s.units u after; queues = with_queue s.queues to u (queue_of s.queues to u ++ args ∷ []) }

  owners : Each (λ m. same_name u m.sender ≡ false → passes (same_name u) m.depends ≡ false) (line w to)
  owners = own-sends setup w s st made to u x row.there

  -- at the receiver
  here : line w2 to ≡ settle_or_put (same_name u) (settled u args) (line w to)
  here = ap₂ (λ t l. t ++ l) (at-here w.taken to (settled_taken u (settled u args) (w.taken to))) (at-here w.mails to (settled_mail u (settled u args) (w.taken to) (w.mails to))) ∙ line-first u (settled u args) (w.taken to) (w.mails to)

  elsewhere : (b : Name) → same_name b to ≡ false → line w b ≡ line w2 b
  elsewhere b e = sym (ap₂ (λ t l. t ++ l) (at-other w.taken to b (settled_taken u (settled u args) (w.taken to)) e) (at-other w.mails to b (settled_mail u (settled u args) (w.taken to) (w.mails to)) e))

  own : QueueStands u (line w2 to) (sends w2 u to) (queue_of s.queues to u ++ args ∷ [])
  own = subst (λ l. QueueStands u l (sends w2 u to) (queue_of s.queues to u ++ args ∷ [])) (sym here)
      (queue-settles-first u (same_name u) (line w to) (sends w2 u to) (queue_of s.queues to u) args (same_name-itself u)
      (each-to (λ m. same_name u m.sender ≡ false → passes (same_name u) m.depends ≡ false) (λ m. passes (same_name u) m.depends ≡ true → is_from u m ≡ true) (line w to)
      (λ m h. turned (same_name u m.sender) (passes (same_name u) m.depends) h) owners)
      (subst (λ p. QueueStands u (line w to) p (queue_of s.queues to u)) first (st.queues to u)))
    where
      first : sends w u to ≡ tentative u u args ∷ sends w2 u to
      first = sends-after setup w s u x (request.Send to args) rest after st row is to u true (same_name-itself u)
          ∙ ap₂ (λ c d. map (tentative u u) (cond c (args ∷ []) []) ++ (held_sends u to (cond d (Some (held_rest x rest after)) (w.units u)) ++ attempt_sends u to (w.attempts u))) (same_name-itself to) (sym (same_name-itself u))

  others : (v : Name) → same_name v u ≡ false → QueueStands v (line w2 to) (sends w2 v to) (queue_of s.queues to v)
  others v e = subst₂ (λ l p. QueueStands v l p (queue_of s.queues to v)) (sym here) (sym (ap (λ c. held_sends v to (cond c (Some (held_rest x rest after)) (w.units v)) ++ attempt_sends v to (w.attempts v)) e))
      (queue-settles-first-other u v (same_name u) (line w to) (sends w v to) (queue_of s.queues to v) args e
      (each-to (λ m. same_name u m.sender ≡ false → passes (same_name u) m.depends ≡ false) (λ m. passes (same_name u) m.depends ≡ true → is_from v m ≡ false) (line w to)
      (λ m h p. ap (same_name v) (sym (same_name-equal u m.sender (turned (same_name u m.sender) (passes (same_name u) m.depends) h p))) ∙ e) owners)
      (st.queues to v))

  away : (b v : Name) → same_name b to ≡ false → QueueStands v (line w2 b) (sends w2 v b) (queue_of s.queues b v)
  away b v e = subst₂ (λ l p. QueueStands v l p (queue_of s.queues b v)) (elsewhere b e)
      (sends-after setup w s u x (request.Send to args) rest after st row is b v (same_name v u) refl ∙ ap (λ h. h ++ sends w2 v b) (no (same_name v u)))
      (st.queues b v)
    where
      no : (c : Bool) → cond c (map (tentative u u) (cond (same_name b to) (args ∷ []) [])) [] ≡ []
      no true = ap (λ d. map (tentative u u) (cond d (args ∷ []) [])) e
      no false = refl

  moves : (b : Name) (o : ActorState) (n : Message) → w.actors b ≡ Some o → w.taken b ≡ n ∷ [] → IsMoved w.actors w2.taken b o n
  moves b o n there took = on (same_name b to) refl
    where
      one : (p : Bool) → passes (same_name u) n.depends ≡ p → IsMoved w.actors (λ q. settled_taken u (settled u args) (n ∷ [])) b o n
      one true e = record { moved = definite n; there = there; took = ap (λ p. cond (p || false) (cond p (definite n ∷ []) (n ∷ settled u args ∷ [])) (n ∷ [])) e; args = refl }
      one false e = record { moved = n; there = there; took = ap (λ p. cond (p || false) (cond p (definite n ∷ []) (n ∷ settled u args ∷ [])) (n ∷ [])) e; args = refl }

      on : (c : Bool) → same_name b to ≡ c → IsMoved w.actors w2.taken b o n
      on true e =
          let to_one = one (passes (same_name u) n.depends) refl in
          let same : w.taken to ≡ n ∷ [] = ap w.taken (sym (same_name-equal b to e)) ∙ took in
          record { moved = to_one.moved; there = there; took = ap (λ c. cond c (settled_taken u (settled u args) (w.taken to)) (w.taken b)) e ∙ ap (settled_taken u (settled u args)) same ∙ to_one.took; args = to_one.args }
      on false e = record { moved = n; there = there; took = at-other w.taken to b (settled_taken u (settled u args) (w.taken to)) e ∙ took; args = refl }

  empty : (b : Name) → w.taken b ≡ [] → w2.taken b ≡ []
  empty b none = on (same_name b to) refl
    where
      on : (c : Bool) → same_name b to ≡ c → cond c (settled_taken u (settled u args) (w.taken to)) (w.taken b) ≡ []
      on true e = ap (settled_taken u (settled u args)) (ap w.taken (sym (same_name-equal b to e)) ∙ none)
      on false e = none

  pub settles-send : Settles setup s (Run u) (send_settled w u x rest after to args)
  settles-send =
      let same : after ≡ answered x.from value.Nil = sym (some_same (answered x.from value.Nil) after row.gives) in
      record {
        after = s2;
        steps = settles-steps setup w s u x (request.Send to args) rest after st row is
            ∙ ap (λ unit. Some (with_unit (record s { queues = with_queue s.queues to u (queue_of s.queues to u ++ args ∷ []) }) u unit)) (sym same);
        stands = answers-with setup w s u x (request.Send to args) rest after st row is (w.history ++ Run u ∷ []) w2.taken w2.mails s2.queues s.bytes w.bytes st.bytes empty moves
            (queue-set s.queues to u (queue_of s.queues to u ++ args ∷ []) (λ b v queue. QueueStands v (line w2 b) (sends w2 v b) queue) own others away);
      }
