-- How an actor begins a turn.
use Rattle.std.proofs.Common.{◌≡◌, ◌∙◌, ◌⊎◌, inl, inr, get_or, ◌<◌, ◌≤◌, ℕ, suc, Bool, true, false, List, [], ◌∷◌, ◌++◌, refl, sym, ap, subst, Option, Some, None, length, arith}
use Rattle.std.specs.Prelude.{◌==◌, if◌then◌else◌}
use Rattle.std.specs.Option.{option_map, option_and_then}
use Rattle.std.specs.List.{slice_get}
use Rattle.value_core.specs.declared.value.Value.{Value}
use Rattle.core_syntax.specs.declared.node_id.NodeId.{NodeId}
use Rattle.serial_model.specs.declared.actor_state.ActorState.{ActorState}
use Rattle.value_core.specs.Named.{Name, Named, named, with_named, IsChanged}
use Rattle.serial_model.specs.State.{Setup, State, new_unit}
use Rattle.serial_model.specs.Step.{queue_of, with_queue, with_unit, take_step, begins_turn, ended}
use Rattle.core_syntax.specs.declared.behaviour.Behaviour.{Behaviour}
use Rattle.serial_model.specs.declared.end.End.TheVariants as end
use Rattle.std.proofs.lemmas.Option.{slice_get_cases}
use Rattle.serial_machine.specs.declared.now.Now.{Now}
use Rattle.serial_machine.specs.Now.{state_after, IsNow, Comes, IsTurn, BeginsTurn, turn_begun, Steps, IsStepped}
use Rattle.actor_queues.specs.Waiting.{has_first, IsTaken}
use Rattle.serial_machine.specs.Actors.{turning, idle_of}
use Rattle.serial_units.specs.Units.{AreUnits}

module _ (setup : Setup) (before : List ℕ) (actor sender : Name) where
  -- the first message is taken
  pub took : (old mid : Now) (s : State) (m message : List Value) (messages : List (List Value)) → IsNow setup before old s → mid ≡ record old { queues = mid.queues }
      → IsTaken old.queues actor sender (queue_of old.queues actor sender) (mid.queues) (Some m)
      → queue_of s.queues actor sender ≡ message ∷ messages → (m ≡ message) × IsNow setup before mid (record s { queues = with_queue s.queues actor sender messages })
  took old mid s m message messages at others taken waits =
      let held : queue_of old.queues actor sender ≡ message ∷ messages = subst (λ (t : State). queue_of t.queues actor sender ≡ message ∷ messages) (sym at.is) waits in
      let is = subst (λ (q : List (List Value)). IsTaken old.queues actor sender q (mid.queues) (Some m)) held taken in (
        some_same m message is.0,
        record {
          is = ap (state_after before) others ∙ ap (λ q. record (state_after before old) { queues = q }) is.1 ∙ ap (λ (t : State). record t { queues = with_queue t.queues actor sender messages }) at.is;
          units = subst (λ (n : Now). AreUnits setup n.units) (sym others) at.units;
        },
      )
    where
      some_same : {X : Type 0} (x y : X) → Some x ≡ Some y → x ≡ y
      some_same x y e = cc

  -- the actor is busy
  pub busied : (mid new : Now) (t : State) (acting : ActorState) → IsNow setup before mid t → new ≡ record mid { actors = new.actors }
      → IsChanged actor mid.actors.entries new.actors.entries (λ a b. b ≡ turning a) → named actor t.actors ≡ Some acting
      → IsNow setup before new (record t { actors = with_named t.actors actor (turning acting) })
  busied mid new t acting at others changed there =
      let held : named actor mid.actors.entries ≡ Some acting = subst (λ (u : State). named actor u.actors ≡ Some acting) (sym at.is) there in
      let to = changed acting held in
      record {
        is = ap (state_after before) others ∙ ap (λ acts. record (state_after before mid) { actors = acts }) (to.put ∙ ap (with_named mid.actors.entries actor) to.related)
            ∙ ap (λ (u : State). record u { actors = with_named u.actors actor (turning acting) }) at.is;
        units = subst (λ (n : Now). AreUnits setup n.units) (sym others) at.units;
      }

some_same : {X : Type 0} (x y : X) → Some x ≡ Some y → x ≡ y
some_same x y e = cc

-- a message is taken, a unit begins, and the actor is busy
pub begun_turn : (setup : Setup) (actor sender : Name) (old mid started new : Now) (name turner : Name) (body : NodeId) (state values m : List Value) → mid ≡ record old { queues = mid.queues }
    → IsTaken old.queues actor sender (queue_of old.queues actor sender) (mid.queues) (Some m) → values ≡ state ++ m → turner ≡ actor
    → Comes setup mid started (λ s. with_unit (record s { made = suc s.made }) name (new_unit (Some turner) body values)) → new ≡ record started { actors = new.actors }
    → IsChanged actor started.actors.entries new.actors.entries (λ a b. b ≡ turning a)
    → ((acting : ActorState) → named actor old.actors.entries ≡ Some acting → IsTurn acting actor name body state setup.program) → BeginsTurn setup old new actor sender
begun_turn setup actor sender old mid started new name turner body state values m others taken same_values same_turner comes more changed turns before s acting b message messages at there waits behaves =
    let t = took setup before actor sender old mid s m message messages at others taken waits in
    let fin = busied setup before actor sender started new (with_unit (record s { queues = with_queue s.queues actor sender messages; made = suc s.made }) name (new_unit (Some turner) body values)) acting
    (comes before (record s { queues = with_queue s.queues actor sender messages }) t.1) more changed there in
    let turn = turns acting (subst (λ (u : State). named actor u.actors ≡ Some acting) (sym at.is) there) in
    subst (λ (n : Name). G n actor b (acting.state ++ message)) turn.name_is
    (subst (λ (a : Name). G name a b (acting.state ++ message)) same_turner
    (subst (λ (x : NodeId). G name turner x (acting.state ++ message)) (some_same body b (sym turn.body_is ∙ behaves))
    (subst (λ (v : List Value). G name turner body v) (same_values ∙ ap (λ vs. vs ++ m) turn.state_is ∙ ap (λ vs. acting.state ++ vs) t.0) fin)))
  where
    G : Name → Name → NodeId → List Value → Type 0
    G n a x v = IsNow setup before new (record (with_unit (record s { queues = with_queue s.queues actor sender messages; made = suc s.made }) n (new_unit (Some a) x v)) { actors = with_named s.actors actor (turning acting) })

-- what a take does to a state
abbrev pub takes : Setup → Name → Name → State → Option State
takes setup actor sender s = option_and_then (take_step setup s actor sender) (named actor s.actors)

-- an idle actor
pub record IsIdle (actors : Named ActorState) (actor : Name) (behaviour : ℕ) : Type 0 where
  pub acting : ActorState
  pub there : named actor actors ≡ Some acting
  pub idle : acting.busy ≡ false
  pub same : acting.behaviour ≡ behaviour

pub idle_there : (actors : Named ActorState) (actor : Name) (behaviour : ℕ) → option_and_then idle_of (named actor actors) ≡ Some behaviour → IsIdle actors actor behaviour
idle_there actors actor behaviour is = on (named actor actors) refl is
  where
    on : (o : Option ActorState) → named actor actors ≡ o → option_and_then idle_of o ≡ Some behaviour → IsIdle actors actor behaviour
    on None there is = cc
    on (Some a) there is = free a.busy refl is
      where
        free : (b : Bool) → a.busy ≡ b → (if b then None else Some a.behaviour) ≡ Some behaviour → IsIdle actors actor behaviour
        free true busy is = cc
        free false idle is = record { acting = a; there = there; idle = idle; same = some_same a.behaviour behaviour is }

module _ (setup : Setup) (actor sender : Name) (old : Now) where
  -- an actor that is not there, or busy, begins no turn
  pub not_idle : option_and_then idle_of (named actor old.actors.entries) ≡ None → Steps setup old old false (takes setup actor sender)
  not_idle none before s at = on (named actor s.actors) (subst (λ (t : State). option_and_then idle_of (named actor t.actors) ≡ None) at.is none)
    where
      on : (o : Option ActorState) → option_and_then idle_of o ≡ None → IsStepped setup before old s (option_and_then (take_step setup s actor sender) o) false
      on None is = at
      on (Some a) is = free a.busy is
        where
          free : (b : Bool) → (if b then None else Some a.behaviour) ≡ None
              → IsStepped setup before old s (if b then None else begins_turn setup s actor sender a (queue_of s.queues actor sender)) false
          free true is = at
          free false is = cc

  -- an idle one does what the first message says
  module _ (behaviour : ℕ) (idle : option_and_then idle_of (named actor old.actors.entries) ≡ Some behaviour) where
    pub by_idle : (new : Now) (done : Bool) → ((before : List ℕ) (s : State) (acting : ActorState) → IsNow setup before old s → named actor s.actors ≡ Some acting → acting.behaviour ≡ behaviour
        → IsStepped setup before new s (begins_turn setup s actor sender acting (queue_of s.queues actor sender)) done) → Steps setup old new done (takes setup actor sender)
    by_idle new done step before s at =
        let it = idle_there old.actors.entries actor behaviour idle in
        let there : named actor s.actors ≡ Some it.acting = subst (λ (t : State). named actor t.actors ≡ Some it.acting) at.is it.there in
        subst (λ (o : Option ActorState). IsStepped setup before new s (option_and_then (take_step setup s actor sender) o) done) (sym there)
        (subst (λ (b : Bool). IsStepped setup before new s (if b then None else begins_turn setup s actor sender it.acting (queue_of s.queues actor sender)) done) (sym it.idle)
        (step before s it.acting at there it.same))

    -- without a message there is no turn
    pub no_message : has_first (queue_of old.queues actor sender) ≡ false → Steps setup old old false (takes setup actor sender)
    no_message none = by_idle old false (λ before s acting at there same.
        on before s acting at (queue_of s.queues actor sender) (subst (λ (t : State). has_first (queue_of t.queues actor sender) ≡ false) at.is none))
      where
        on : (before : List ℕ) (s : State) (acting : ActorState) → IsNow setup before old s → (q : List (List Value)) → has_first q ≡ false → IsStepped setup before old s (begins_turn setup s actor sender acting q) false
        on before s acting at [] is = at
        on before s acting at (m ∷ ms) is = cc

    -- without a behaviour there is none
    pub no_behaviour : slice_get setup.program.behaviours behaviour ≡ None → Steps setup old old false (takes setup actor sender)
    no_behaviour none = by_idle old false (λ before s acting at there same. on before s acting at (ap (slice_get setup.program.behaviours) same ∙ none) (queue_of s.queues actor sender))
      where
        on : (before : List ℕ) (s : State) (acting : ActorState) → IsNow setup before old s → slice_get setup.program.behaviours acting.behaviour ≡ None → (q : List (List Value))
            → IsStepped setup before old s (begins_turn setup s actor sender acting q) false
        on before s acting at none [] = at
        on before s acting at none (m ∷ ms) = rw none at

    module _ (behaves : Behaviour) (known : slice_get setup.program.behaviours behaviour ≡ Some behaves) (waits : has_first (queue_of old.queues actor sender) ≡ true) where
      -- what a turn comes to is what comes of its first message
      pub by_first : (new : Now) → ((before : List ℕ) (s : State) (acting : ActorState) (m : List Value) (ms : List (List Value)) → IsNow setup before old s → named actor s.actors ≡ Some acting → queue_of s.queues actor sender ≡ m ∷ ms
          → slice_get setup.program.behaviours acting.behaviour ≡ Some behaves
          → IsNow setup before new (if s.made == setup.limits.units then ended s end.UnitsSpent else turn_begun actor sender acting behaves.body m ms s))
          → Steps setup old new true (takes setup actor sender)
      by_first new step = by_idle new true (λ before s acting at there same.
          on before s acting at there (ap (slice_get setup.program.behaviours) same ∙ known) (queue_of s.queues actor sender) refl (subst (λ (t : State). has_first (queue_of t.queues actor sender) ≡ true) at.is waits))
        where
          on : (before : List ℕ) (s : State) (acting : ActorState) → IsNow setup before old s → named actor s.actors ≡ Some acting → slice_get setup.program.behaviours acting.behaviour ≡ Some behaves
              → (q : List (List Value)) → queue_of s.queues actor sender ≡ q → has_first q ≡ true → IsStepped setup before new s (begins_turn setup s actor sender acting q) true
          on before s acting at there is [] held has = cc
          on before s acting at there is (m ∷ ms) held has = rw is (step before s acting m ms at there held is)

      pub units_spent : (new : Now) → (old.made == setup.limits.units) ≡ true → Comes setup old new (λ s. ended s end.UnitsSpent) → Steps setup old new true (takes setup actor sender)
      units_spent new full comes = by_first new (λ before s acting m ms at there held is.
          subst (λ (b : Bool). IsNow setup before new (if b then ended s end.UnitsSpent else turn_begun actor sender acting behaves.body m ms s))
          (sym (subst (λ (t : State). (t.made == setup.limits.units) ≡ true) at.is full)) (comes before s at))

      pub turn_begins : (new : Now) → (old.made == setup.limits.units) ≡ false → BeginsTurn setup old new actor sender → Steps setup old new true (takes setup actor sender)
      turn_begins new more begins = by_first new (λ before s acting m ms at there held is.
          subst (λ (b : Bool). IsNow setup before new (if b then ended s end.UnitsSpent else turn_begun actor sender acting behaves.body m ms s))
          (sym (subst (λ (t : State). (t.made == setup.limits.units) ≡ false) at.is more))
          (begins before s acting behaves.body m ms at there held (ap (option_map (λ behaviour. behaviour.body)) is)))

-- a behaviour of the table, and one past it
pub within : {X : Type 0} (xs : List X) (k : ℕ) → k < length xs → (x : X) × (slice_get xs k ≡ Some x)
within {X} xs k less = on (slice_get_cases xs k).1
  where
    on : ((x : X) × (k < length xs) × (slice_get xs k ≡ Some x) × (get_or xs k x ≡ x)) ⊎ ((length xs ≤ k) × (slice_get xs k ≡ None)) → (x : X) × (slice_get xs k ≡ Some x)
    on (inl is) = (is.0, is.2)
    on (inr past) = let far = past.0 in absurd (omega (arith, far, less))

pub past_it : {X : Type 0} (xs : List X) (k : ℕ) → length xs ≤ k → slice_get xs k ≡ None
past_it {X} xs k more = on (slice_get_cases xs k).1
  where
    on : ((x : X) × (k < length xs) × (slice_get xs k ≡ Some x) × (get_or xs k x ≡ x)) ⊎ ((length xs ≤ k) × (slice_get xs k ≡ None)) → slice_get xs k ≡ None
    on (inl is) = let near = is.1 in absurd (omega (arith, near, more))
    on (inr past) = past.1
