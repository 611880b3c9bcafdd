-- No state is stuck: in a state that a history replays to, the entry that one thread settles next is enabled.
use Rattle.std.proofs.Common.{◌≡◌, ◌∙◌, ◌⊎◌, inl, inr, ℕ, ◌<◌, Bool, true, false, cond, List, [], ◌∷◌, length, refl, sym, ap, subst, get_or, ◌≤◌, arith}
use Rattle.std.specs.Prelude.{Option, None, Some}
use Rattle.std.specs.List.{slice_get}
use Rattle.std.specs.Option.{IsSome, option_and_then, option_map, option_or, unwrap_or}
use Rattle.std.proofs.lemmas.Option.{slice_get_cases}
use Rattle.value_core.specs.Futures.{holds_future}
use Rattle.value_core.specs.Place.{Spot}
use Rattle.value_core.specs.declared.code.Code.TheVariants as code
use Rattle.value_core.specs.declared.value.Value.{Value}
use Rattle.value_core.proofs.Within.{ref_within, future_within}
use Rattle.core_syntax.specs.declared.behaviour.Behaviour.{Behaviour}
use Rattle.core_syntax.specs.WellFormed.{IsWellFormed}
use Rattle.serial_model.specs.declared.actor_state.ActorState.{ActorState}
use Rattle.serial_model.specs.declared.end.End.{End}
use Rattle.serial_model.specs.declared.end.End.TheVariants.{Done}
use Rattle.serial_model.specs.declared.entry.Entry.{Entry}
use Rattle.serial_model.specs.declared.entry.Entry.TheVariants.{Run}
use Rattle.serial_model.specs.declared.halt.Halt.{Halt}
use Rattle.serial_model.specs.declared.halt.Halt.TheVariants as halt
use Rattle.serial_model.specs.declared.request.Request.{Request}
use Rattle.serial_model.specs.declared.request.Request.TheVariants as request
use Rattle.serial_model.specs.First.{first_of, first_unit, first_message, unless_over}
use Rattle.serial_model.specs.Laws.{IsQuiet}
use Rattle.value_core.specs.Named.{Name, Named, named, made_by}
use Rattle.serial_model.specs.Replay.{replay, IsOver, set, still}
use Rattle.serial_model.specs.State.{Setup, UnitState, Queues, State}
use Rattle.serial_model.specs.Step.{step, around, next_of, next_made, does, goes_on, gets_if_there, value_of, after_transaction, unit_step, run_step, take_step, begins_turn, queue_of, if_unfinished, unless_ended}
use Rattle.serial_model.specs.Task as task
use Rattle.serial_model.specs.Task.{Result, root_outcome, root_task}
use Rattle.serial_model.proofs.Early.{earlier-first}
use Rattle.serial_model.proofs.runs.Firsts.{IsFirstUnit, first_unit-is, first_unit-none, first_message-is, first_sender-is, first_of-none}
use Rattle.serial_model.proofs.runs.Made.{IsMade, opening-made, step-made}
use Rattle.value_core.proofs.NamedLaws.{Each}
use Rattle.serial_model.proofs.runs.Ordered.{IsOrdered, opening-ordered, step-ordered}
use Rattle.serial_model.proofs.runs.Scope.{Scope, EarlyUnit}
use Rattle.serial_model.proofs.runs.Scoped.{IsScoped, scope_of, opening-scoped, step-scoped, carries, transaction-kept}
use Rattle.serial_model.proofs.runs.StepCases.{IsRunning, replay-keeps}
use Rattle.serial_model.proofs.tasks.TaskScope.{IsKept, TransactionsKeep}

not_past : {X : Type 0} (xs : List X) (k : ℕ) → k < length xs → slice_get xs k ≡ None → ⊥
not_past {X} xs k less none = on (slice_get_cases xs k).1
  where
    on : ((x : X) × (k < length xs) × (slice_get xs k ≡ Some x) × (get_or xs k x ≡ x)) ⊎ ((length xs ≤ k) × (slice_get xs k ≡ None)) → ⊥
    on (inl within) = let found = within.2 in cc
    on (inr past) = let far = past.0 in omega arith

-- what holds of each state that a history replays to
pub record IsSound (setup : Setup) (s : State) : Type 0 where
  pub ordered : IsOrdered s
  pub scoped : IsScoped setup s
  pub made : IsMade s

pub replay-sound : (setup : Setup) → IsWellFormed setup.program → TransactionsKeep → (entries : List Entry) (s : State) → replay setup entries ≡ Some s → IsSound setup s
replay-sound setup formed keep entries s is =
    replay-keeps setup (IsSound setup) (record { ordered = opening-ordered setup; scoped = opening-scoped setup; made = opening-made setup })
    (λ a b entry sound stepped. record {
      ordered = step-ordered setup a b entry sound.ordered stepped;
      scoped = step-scoped setup formed keep a b entry sound.scoped stepped;
      made = step-made setup formed keep a b entry sound.scoped sound.made stepped;
    }) entries s is

module _ (setup : Setup) (formed : IsWellFormed setup.program) (keep : TransactionsKeep) (s : State) (sound : IsSound setup s) (going : s.end ≡ None) where
  abbrev S : Scope
  S = scope_of s.refs s.actors s.units

  -- ---- the first unit that is not finished
  module _ (name : Name) (unit : UnitState) (first : IsFirstUnit s.units name unit) where
    running : IsRunning s name unit
    running = record { going = going; there = first.there; unfinished = first.unfinished }

    -- a unit that it knows is finished
    known_over : (future : Name) → EarlyUnit S name unit.made future → IsSome (value_of s future)
    known_over future known = on (named future s.units) refl known.0
      where
        on : (found : Option UnitState) → named future s.units ≡ found → IsSome found → IsSome (option_and_then (λ u. u.finished) found)
        on None is some = some
        on (Some u) is some = first.before future u (earlier-first future name unit.made known.1) is

    found_goes : (found : Option Value) → IsSome found → IsSome (gets_if_there s name unit found)
    found_goes None some = some
    found_goes (Some v) some = refl

    transaction_goes : (at : Spot) (result : Result) (outcome : task.Outcome) → result.outcome ≡ outcome → IsKept (around setup s unit) S.refs S.actors (EarlyUnit S name unit.made) (next_made name unit) result
        → IsSome (after_transaction s name unit result.log (root_outcome at outcome))
    transaction_goes at result (task.Value v) out kept = on (holds_future v)
      where
        on : (holds : Bool) → IsSome (after_transaction s name unit result.log (cond holds (task.Fault code.FutureEscapes at) (task.Value v)))
        on true = refl
        on false = refl
    transaction_goes at result (task.Fault failed place) out kept = refl
    transaction_goes at result task.Spent out kept = refl
    transaction_goes at result task.Blocked out kept =
        let waits = kept.waits out in
        let over = known_over waits.future waits.known in
        let none : value_of s waits.future ≡ None = waits.unfinished in
        absurd (no_value (value_of s waits.future) over none)
      where
        no_value : (found : Option Value) → IsSome found → found ≡ None → ⊥
        no_value None some none = cc
        no_value (Some v) some none = cc

    does_goes : (asked : Request) (at : Spot) → next_of setup unit ≡ halt.Ask asked at → IsSome (does setup s name unit at asked)
    does_goes (request.Print text) at asks = refl
    does_goes (request.NewRef v) at asks = refl
    does_goes (request.Deref ref) at asks =
        found_goes (named ref s.refs) (ref_within S.refs S.actors (EarlyUnit S name unit.made) ref (carries setup formed s sound.scoped name unit running (halt.Ask (request.Deref ref) at) asks))
    does_goes (request.RefSet ref v) at asks = refl
    does_goes (request.Fork body values) at asks = refl
    does_goes (request.Join future) at asks =
        found_goes (value_of s future)
        (known_over future (future_within S.refs S.actors (EarlyUnit S name unit.made) future (carries setup formed s sound.scoped name unit running (halt.Ask (request.Join future) at) asks)))
    does_goes (request.Dosync body values) at asks =
        let result = root_task (around setup s unit) (next_made name unit) body values in
        transaction_goes at result result.outcome refl (transaction-kept setup formed s sound.scoped name unit running keep body values at asks)
    does_goes (request.Spawn behaviour state) at asks = refl
    does_goes (request.Send actor message) at asks = refl
    does_goes (request.Become behaviour state) at asks = refl
    does_goes request.SelfActor at asks = refl

    goes : (end : Halt) → next_of setup unit ≡ end → IsSome (goes_on setup s name unit end)
    goes (halt.Ask asked at) asks = does_goes asked at asks
    goes (halt.Value v) is = refl
    goes (halt.Fault failed at) is = refl
    goes halt.Spent is = refl

    unit_goes : IsSome (run_step setup s name)
    unit_goes =
        let open_goes = subst (λ finished. IsSome (if_unfinished finished (goes_on setup s name unit (next_of setup unit)))) (sym first.unfinished) (goes (next_of setup unit) refl) in
        subst (λ found. IsSome (option_and_then (unit_step setup s name) found)) (sym first.there) open_goes

  -- ---- the first message, where all units are finished
  module _ (over : Each (λ name unit. IsSome unit.finished) s.units) (actor sender : Name) (message : List Value) (messages : List (List Value)) where
    no_turn : (state : ActorState) → named actor s.actors ≡ Some state → state.busy ≡ true → ⊥
    no_turn state there busy =
        let turn = sound.made.busy actor state there busy in finished turn.unit.finished turn.unfinished (over (made_by actor turn.number) turn.unit turn.there)
      where
        finished : (found : Option Value) → found ≡ None → IsSome found → ⊥
        finished None none some = cc
        finished (Some v) none some = cc

    turns : (state : ActorState) → named actor s.actors ≡ Some state → IsSome (begins_turn setup s actor sender state (message ∷ messages))
    turns state there = on (slice_get setup.program.behaviours state.behaviour) refl
      where
        on : (found : Option Behaviour) → slice_get setup.program.behaviours state.behaviour ≡ found → IsSome (begins_turn setup s actor sender state (message ∷ messages))
        on None none = absurd (not_past setup.program.behaviours state.behaviour (sound.scoped.each_actor actor state there).there none)
        on (Some behaviour) is = rw is refl

    takes : (state : ActorState) (busy : Bool) → named actor s.actors ≡ Some state → state.busy ≡ busy → queue_of s.queues actor sender ≡ message ∷ messages
        → IsSome (cond busy None (begins_turn setup s actor sender state (queue_of s.queues actor sender)))
    takes state true there busy waits = absurd (no_turn state there busy)
    takes state false there busy waits = rw waits (turns state there)

    message_goes : IsSome (named actor s.actors) → queue_of s.queues actor sender ≡ message ∷ messages → IsSome (option_and_then (take_step setup s actor sender) (named actor s.actors))
    message_goes there waits = on (named actor s.actors) refl there
      where
        on : (found : Option ActorState) → named actor s.actors ≡ found → IsSome found → IsSome (option_and_then (take_step setup s actor sender) found)
        on None is some = some
        on (Some state) is some = takes state state.busy is refl waits

-- the actor of a queue is there
queue_actor : (setup : Setup) (s : State) → IsSound setup s → (actor : Name) (mail : Named (List (List Value))) → named actor s.queues ≡ Some mail → IsSome (named actor s.actors)
queue_actor setup s sound actor mail there = (sound.scoped.each_queue actor mail there).actor

queue_read : (queues : Queues) (actor sender : Name) (mail : Named (List (List Value))) (queue : List (List Value)) → named actor queues ≡ Some mail → named sender mail ≡ Some queue
    → queue_of queues actor sender ≡ queue
queue_read queues actor sender mail queue there found =
    ap (λ o. unwrap_or (option_and_then (named sender) o) []) there ∙ ap (λ o. unwrap_or o []) found

-- in a sound state the entry that one thread settles next is enabled
pub sound-is-enabled : (setup : Setup) → IsWellFormed setup.program → TransactionsKeep → (s : State) (entry : Entry) → IsSound setup s → first_of s ≡ Some entry → IsSome (step setup s entry)
unfolding step
sound-is-enabled setup formed keep s entry sound is = ending s.end refl is
  where
    going_on : s.end ≡ None → (unit : Option Name) → first_unit s.units ≡ unit → option_or (option_map (λ name. Run name) unit) (first_message s.queues) ≡ Some entry → IsSome (step setup s entry)
    going_on going (Some name) unit_is found =
        let same : Run name ≡ entry = cc in
        let first = first_unit-is s.units name sound.ordered.unit_names unit_is in
        let goes = unit_goes setup formed keep s sound going name first.0 first.1 in
        subst (λ e. IsSome (step setup s e)) same (subst (λ end. IsSome (unless_ended end (run_step setup s name))) (sym going) goes)
    going_on going None no_unit found =
        let over = first_unit-none s.units no_unit in
        let first = first_message-is s.queues entry sound.ordered.queue_names found in
        let mail = sound.scoped.each_queue first.actor first.mail first.there in
        let sender = first_sender-is first.mail first.sender mail.rises first.first in
        let waits = queue_read s.queues first.actor first.sender first.mail sender.queue first.there sender.there ∙ sender.waiting.is in
        let goes = message_goes setup formed keep s sound going over first.actor first.sender sender.waiting.message sender.waiting.messages mail.actor waits in
        subst (λ e. IsSome (step setup s e)) (sym first.is)
        (subst (λ end. IsSome (unless_ended end (option_and_then (take_step setup s first.actor first.sender) (named first.actor s.actors)))) (sym going) goes)

    ending : (end : Option End) → s.end ≡ end
        → unless_over end (option_or (option_map (λ name. Run name) (first_unit s.units)) (first_message s.queues)) ≡ Some entry → IsSome (step setup s entry)
    ending None going found = going_on going (first_unit s.units) refl found
    ending (Some end) over found = cc

-- in a state that a history replays to, the entry that one thread settles next is enabled
pub first-is-enabled : TransactionsKeep → (setup : Setup) → IsWellFormed setup.program → (entries : List Entry) (s : State) (entry : Entry)
    → replay setup entries ≡ Some s → first_of s ≡ Some entry → IsSome (step setup s entry)
first-is-enabled keep setup formed entries s entry is first = sound-is-enabled setup formed keep s entry (replay-sound setup formed keep entries s is) first

-- where no end is set and nothing is enabled, all units are finished and all queues are empty
pub nothing-waits : TransactionsKeep → (setup : Setup) → IsWellFormed setup.program → (entries : List Entry) (s : State) → replay setup entries ≡ Some s → s.end ≡ None → ((entry : Entry) → step setup s entry ≡ None) → IsQuiet s
nothing-waits keep setup formed entries s is going all_still = on (first_of s) refl all_still
  where
    on : (first : Option Entry) → first_of s ≡ first → ((entry : Entry) → step setup s entry ≡ None) → IsQuiet s
    on None none all_still = first_of-none s going none
    on (Some entry) first all_still =
        let enabled = first-is-enabled keep setup formed entries s entry is first in
        let none = all_still entry in
        absurd (no_step (step setup s entry) enabled none)
      where
        no_step : (next : Option State) → IsSome next → next ≡ None → ⊥
        no_step None some none = cc
        no_step (Some t) some none = cc
