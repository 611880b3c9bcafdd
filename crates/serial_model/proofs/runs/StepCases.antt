-- What an entry that is enabled does, row by row: a predicate on states that each row leads to holds of the state after the step.
use Rattle.std.proofs.Common.{◌≡◌, ℕ, suc, ◌+◌, ◌==◌, Bool, true, false, List, [], ◌∷◌, ◌++◌, length, refl, subst, arith}
use Rattle.std.specs.Prelude.{Option, None, Some, if◌then◌else◌}
use Rattle.std.specs.List.{slice_get}
use Rattle.std.specs.Option.{option_and_then, option_map}
use Rattle.value_core.specs.Futures.{holds_future}
use Rattle.value_core.specs.Place.{Spot}
use Rattle.value_core.specs.declared.code.Code.TheVariants as code
use Rattle.value_core.specs.declared.value.Value.{Value}
use Rattle.value_core.specs.declared.value.Value.TheVariants as value
use Rattle.core_syntax.specs.declared.behaviour.Behaviour.{Behaviour}
use Rattle.core_syntax.specs.declared.node_id.NodeId.{NodeId}
use Rattle.serial_model.specs.declared.actor_state.ActorState.{ActorState}
use Rattle.serial_model.specs.declared.answer.Answer.TheVariants as answer
use Rattle.serial_model.specs.declared.end.End.{End}
use Rattle.serial_model.specs.declared.end.End.TheVariants as end
use Rattle.serial_model.specs.declared.entry.Entry.{Entry}
use Rattle.serial_model.specs.declared.entry.Entry.TheVariants.{Run, Take}
use Rattle.serial_model.specs.declared.halt.Halt.{Halt}
use Rattle.serial_model.specs.declared.halt.Halt.TheVariants as halt
use Rattle.serial_model.specs.declared.request.Request.{Request}
use Rattle.serial_model.specs.declared.request.Request.TheVariants as request
use Rattle.serial_model.specs.Ahead.{of_turn, self_of}
use Rattle.value_core.specs.Named.{Name, named, with_named, made_by}
use Rattle.serial_model.specs.Replay.{replay_from, replay}
use Rattle.serial_model.specs.State.{Setup, UnitState, State, opening, new_unit}
use Rattle.serial_model.specs.Step.{step, with_unit, gets, next_made, with_made, ended, fails, queue_of, with_queue, sent, spawned, becoming, gives, value_of, around, commits, after_transaction, gets_if_there, if_allowed, does, finishes, goes_on, next_of, if_unfinished, unit_step, run_step, begins_turn, take_step, unless_ended}
use Rattle.serial_model.specs.Task as task
use Rattle.serial_model.specs.Task.{Result, root_outcome, root_task}

-- the unit is there and not finished, and no end is set
pub record IsRunning (s : State) (name : Name) (unit : UnitState) : Type 0 where
  pub going : s.end ≡ None
  pub there : named name s.units ≡ Some unit
  pub unfinished : unit.finished ≡ None

-- the idle actor is there, a message waits for it, and its behaviour is there
pub record IsTaking (setup : Setup) (s : State) (name sender : Name) (actor : ActorState) (behaviour : Behaviour) (message : List Value) (messages : List (List Value)) : Type 0 where
  pub going : s.end ≡ None
  pub there : named name s.actors ≡ Some actor
  pub idle : actor.busy ≡ false
  pub waits : queue_of s.queues name sender ≡ message ∷ messages
  pub behaves : slice_get setup.program.behaviours actor.behaviour ≡ Some behaviour

-- a fork that the limit allows
abbrev pub forked : State → Name → UnitState → NodeId → List Value → State
forked s name unit body values =
    gets (with_unit (record s { made = suc s.made }) (next_made name unit) (new_unit None body values)) name (with_made unit) (value.Future (next_made name unit))

-- a turn that the limit allows
abbrev pub begun : State → Name → Name → ActorState → Behaviour → List Value → List (List Value) → State
begun s name sender actor behaviour message messages =
    record (with_unit (record s { made = suc s.made }) (made_by name actor.turns) (new_unit (Some name) behaviour.body (actor.state ++ message))) {
      actors = with_named s.actors name (record actor { turns = suc actor.turns; busy = true });
      queues = with_queue s.queues name sender messages;
    }

-- what holds of the state after each row that a running unit's next effect may be
pub record RunRows (setup : Setup) (s : State) (P : State → Type 0) (name : Name) (unit : UnitState) : Type 0 where
  pub prints : (text : List ℕ) (at : Spot) → next_of setup unit ≡ halt.Ask (request.Print text) at → P (gets (record s { bytes = s.bytes ++ text }) name unit value.Nil)
  pub new_ref : (v : Value) (at : Spot) → next_of setup unit ≡ halt.Ask (request.NewRef v) at
      → P (gets (record s { refs = with_named s.refs (next_made name unit) v }) name (with_made unit) (value.Ref (next_made name unit)))
  pub derefs : (ref : Name) (at : Spot) (v : Value) → next_of setup unit ≡ halt.Ask (request.Deref ref) at → named ref s.refs ≡ Some v → P (gets s name unit v)
  pub forks : (body : NodeId) (values : List Value) (at : Spot) → next_of setup unit ≡ halt.Ask (request.Fork body values) at
      → (s.made == setup.limits.units) ≡ false → P (forked s name unit body values)
  pub joins : (future : Name) (at : Spot) (v : Value) → next_of setup unit ≡ halt.Ask (request.Join future) at → value_of s future ≡ Some v → P (gets s name unit v)
  pub commits : (body : NodeId) (values : List Value) (at : Spot) (result : Result) (v : Value) → next_of setup unit ≡ halt.Ask (request.Dosync body values) at
      → root_task (around setup s unit) (next_made name unit) body values ≡ result → result.outcome ≡ task.Value v → holds_future v ≡ false
      → P (commits s name unit result.log v)
  pub spawns : (behaviour : ℕ) (state : List Value) (at : Spot) → next_of setup unit ≡ halt.Ask (request.Spawn behaviour state) at
      → P (gets (spawned s (next_made name unit) behaviour state) name (with_made unit) (value.Actor (next_made name unit)))
  pub sends : (actor : Name) (message : List Value) (at : Spot) → next_of setup unit ≡ halt.Ask (request.Send actor message) at → P (gets (sent s actor name message) name unit value.Nil)
  pub becomes : (behaviour : ℕ) (state : List Value) (at : Spot) (actor : Name) → next_of setup unit ≡ halt.Ask (request.Become behaviour state) at → unit.actor ≡ Some actor
      → P (gets s name (becoming unit behaviour state) value.Nil)
  pub selves : (at : Spot) (actor : Name) → next_of setup unit ≡ halt.Ask request.SelfActor at → unit.actor ≡ Some actor → P (gets s name unit (value.Actor actor))
  pub finishes : (v : Value) → next_of setup unit ≡ halt.Value v → P (finishes s name unit v)

-- and after each row
pub record StepRows (setup : Setup) (s : State) (P : State → Type 0) : Type 0 where
  pub ends : s.end ≡ None → (end : End) → P (ended s end)
  pub runs : (name : Name) (unit : UnitState) → IsRunning s name unit → RunRows setup s P name unit
  pub begins : (name sender : Name) (actor : ActorState) (behaviour : Behaviour) (message : List Value) (messages : List (List Value))
      → IsTaking setup s name sender actor behaviour message messages → (s.made == setup.limits.units) ≡ false → P (begun s name sender actor behaviour message messages)

some_is : (P : State → Type 0) (a b : State) → Some a ≡ Some b → P a → P b
some_is P a b e p = let same : a ≡ b = cc in subst P same p

is_allowed : (setup : Setup) (s : State) (P : State → Type 0) (make : State → State) → P (ended s end.UnitsSpent) → ((s.made == setup.limits.units) ≡ false → P (make (record s { made = suc s.made })))
    → P (if_allowed setup s make)
is_allowed setup s P make spent made = on (s.made == setup.limits.units) refl
  where
    on : (full : Bool) → (s.made == setup.limits.units) ≡ full → P (if full then ended s end.UnitsSpent else make (record s { made = suc s.made }))
    on true is = spent
    on false is = made is

is_found : (s : State) (P : State → Type 0) (name : Name) (unit : UnitState) (found : Option Value) (t : State) → gets_if_there s name unit found ≡ Some t
    → ((v : Value) → found ≡ Some v → P (gets s name unit v)) → P t
is_found s P name unit None t is row = cc
is_found s P name unit (Some v) t is row = some_is P (gets s name unit v) t is (row v refl)

-- an answer for turns alone: the run ends, or it is given
is_of_turn : (s : State) (P : State → Type 0) (name : Name) (unit : UnitState) (at : Spot) (actor : Option Name) (v : Value)
    → P (fails s name code.NoTurn at) → ((other : Name) → actor ≡ Some other → P (gets s name unit v)) → P (gives s name unit at (of_turn actor (answer.Value v)))
is_of_turn s P name unit at None v fails row = fails
is_of_turn s P name unit at (Some actor) v fails row = row actor refl

is_self : (s : State) (P : State → Type 0) (name : Name) (unit : UnitState) (at : Spot) (actor : Option Name)
    → P (fails s name code.NoTurn at) → ((other : Name) → actor ≡ Some other → P (gets s name unit (value.Actor other))) → P (gives s name unit at (self_of actor))
is_self s P name unit at None fails row = fails
is_self s P name unit at (Some actor) fails row = row actor refl

after_cases : (setup : Setup) (s : State) (P : State → Type 0) (name : Name) (unit : UnitState) (at : Spot) (result : Result) (outcome : task.Outcome) (t : State)
    → ((end : End) → P (ended s end)) → result.outcome ≡ outcome
    → ((v : Value) → result.outcome ≡ task.Value v → holds_future v ≡ false → P (commits s name unit result.log v))
    → after_transaction s name unit result.log (root_outcome at outcome) ≡ Some t → P t
after_cases setup s P name unit at result (task.Value v) t ends out row is = on (holds_future v) refl is
  where
    on : (holds : Bool) → holds_future v ≡ holds → after_transaction s name unit result.log (if holds then task.Fault code.FutureEscapes at else task.Value v) ≡ Some t → P t
    on true held e = some_is P (fails s name code.FutureEscapes at) t e (ends (end.Fault code.FutureEscapes at name))
    on false held e = some_is P (commits s name unit result.log v) t e (row v out held)
after_cases setup s P name unit at result (task.Fault failed place) t ends out row is = some_is P (fails s name failed place) t is (ends (end.Fault failed place name))
after_cases setup s P name unit at result task.Spent t ends out row is = some_is P (ended s (end.Spent name)) t is (ends (end.Spent name))
after_cases setup s P name unit at result task.Blocked t ends out row is = cc

does_cases : (setup : Setup) (s : State) (P : State → Type 0) (name : Name) (unit : UnitState) (asked : Request) (at : Spot) (t : State)
    → ((end : End) → P (ended s end)) → RunRows setup s P name unit → next_of setup unit ≡ halt.Ask asked at → does setup s name unit at asked ≡ Some t → P t
does_cases setup s P name unit (request.Print text) at t ends rows asks is = some_is P _ t is (rows.prints text at asks)
does_cases setup s P name unit (request.NewRef v) at t ends rows asks is = some_is P _ t is (rows.new_ref v at asks)
does_cases setup s P name unit (request.Deref ref) at t ends rows asks is = is_found s P name unit (named ref s.refs) t is (λ v found. rows.derefs ref at v asks found)
does_cases setup s P name unit (request.RefSet ref v) at t ends rows asks is = some_is P _ t is (ends (end.Fault code.NoTransaction at name))
does_cases setup s P name unit (request.Fork body values) at t ends rows asks is =
    some_is P _ t is (is_allowed setup s P (λ s. gets (with_unit s (next_made name unit) (new_unit None body values)) name (with_made unit) (value.Future (next_made name unit)))
    (ends end.UnitsSpent) (λ room. rows.forks body values at asks room))
does_cases setup s P name unit (request.Join future) at t ends rows asks is = is_found s P name unit (value_of s future) t is (λ v found. rows.joins future at v asks found)
does_cases setup s P name unit (request.Dosync body values) at t ends rows asks is =
    let result = root_task (around setup s unit) (next_made name unit) body values in
    after_cases setup s P name unit at result result.outcome t ends refl (λ v out held. rows.commits body values at result v asks refl out held) is
does_cases setup s P name unit (request.Spawn behaviour state) at t ends rows asks is = some_is P _ t is (rows.spawns behaviour state at asks)
does_cases setup s P name unit (request.Send actor message) at t ends rows asks is = some_is P _ t is (rows.sends actor message at asks)
does_cases setup s P name unit (request.Become behaviour state) at t ends rows asks is =
    some_is P _ t is (is_of_turn s P name (becoming unit behaviour state) at unit.actor value.Nil
    (ends (end.Fault code.NoTurn at name)) (λ actor of. rows.becomes behaviour state at actor asks of))
does_cases setup s P name unit request.SelfActor at t ends rows asks is =
    some_is P _ t is (is_self s P name unit at unit.actor
    (ends (end.Fault code.NoTurn at name)) (λ actor of. rows.selves at actor asks of))

goes_cases : (setup : Setup) (s : State) (P : State → Type 0) (name : Name) (unit : UnitState) (next : Halt) (t : State)
    → ((end : End) → P (ended s end)) → RunRows setup s P name unit → next_of setup unit ≡ next → goes_on setup s name unit next ≡ Some t → P t
goes_cases setup s P name unit (halt.Ask asked at) t ends rows asks is = does_cases setup s P name unit asked at t ends rows asks is
goes_cases setup s P name unit (halt.Value v) t ends rows asks is = some_is P _ t is (rows.finishes v asks)
goes_cases setup s P name unit (halt.Fault failed at) t ends rows asks is = some_is P _ t is (ends (end.Fault failed at name))
goes_cases setup s P name unit halt.Spent t ends rows asks is = some_is P _ t is (ends (end.Spent name))

run_cases : (setup : Setup) (s : State) (P : State → Type 0) (name : Name) (t : State) → s.end ≡ None → StepRows setup s P → run_step setup s name ≡ Some t → P t
run_cases setup s P name t going rows is = on (named name s.units) refl is
  where
    within : (unit : UnitState) (finished : Option Value) → named name s.units ≡ Some unit → unit.finished ≡ finished → if_unfinished finished (goes_on setup s name unit (next_of setup unit)) ≡ Some t → P t
    within unit None there open_still e = goes_cases setup s P name unit (next_of setup unit) t (rows.ends going) (rows.runs name unit (record { going = going; there = there; unfinished = open_still })) refl e
    within unit (Some v) there over e = cc

    on : (found : Option UnitState) → named name s.units ≡ found → option_and_then (unit_step setup s name) found ≡ Some t → P t
    on None there e = cc
    on (Some unit) there e = within unit unit.finished there refl e

take_cases : (setup : Setup) (s : State) (P : State → Type 0) (name sender : Name) (t : State) → s.end ≡ None → StepRows setup s P
    → option_and_then (take_step setup s name sender) (named name s.actors) ≡ Some t → P t
take_cases setup s P name sender t going rows is = on (named name s.actors) refl is
  where
    turn : (actor : ActorState) (message : List Value) (messages : List (List Value)) → named name s.actors ≡ Some actor → actor.busy ≡ false → queue_of s.queues name sender ≡ message ∷ messages
        → begins_turn setup s name sender actor (message ∷ messages) ≡ Some t → P t
    turn actor message messages there idle waits e = behaving (slice_get setup.program.behaviours actor.behaviour) refl e
      where
        make : Behaviour → State → State
        make behaviour = λ s. record (with_unit s (made_by name actor.turns) (new_unit (Some name) behaviour.body (actor.state ++ message))) {
          actors = with_named s.actors name (record actor { turns = suc actor.turns; busy = true });
          queues = with_queue s.queues name sender messages;
        }

        behaving : (found : Option Behaviour) → slice_get setup.program.behaviours actor.behaviour ≡ found
            → option_map (λ unit. if_allowed setup s (λ s. record (with_unit s (made_by name actor.turns) unit) {
              actors = with_named s.actors name (record actor { turns = suc actor.turns; busy = true });
              queues = with_queue s.queues name sender messages;
            })) (option_map (λ behaviour. new_unit (Some name) behaviour.body (actor.state ++ message)) found) ≡ Some t → P t
        behaving None behaves e = cc
        behaving (Some behaviour) behaves e =
            some_is P _ t e (is_allowed setup s P (λ s. record (with_unit s (made_by name actor.turns) (new_unit (Some name) behaviour.body (actor.state ++ message))) {
              actors = with_named s.actors name (record actor { turns = suc actor.turns; busy = true });
              queues = with_queue s.queues name sender messages;
            }) (rows.ends going end.UnitsSpent)
            (λ room. rows.begins name sender actor behaviour message messages (record { going = going; there = there; idle = idle; waits = waits; behaves = behaves }) room))

    waiting : (actor : ActorState) (queue : List (List Value)) → named name s.actors ≡ Some actor → actor.busy ≡ false → queue_of s.queues name sender ≡ queue
        → begins_turn setup s name sender actor queue ≡ Some t → P t
    waiting actor [] there idle waits e = cc
    waiting actor (message ∷ messages) there idle waits e = turn actor message messages there idle waits e

    within : (actor : ActorState) (busy : Bool) → named name s.actors ≡ Some actor → actor.busy ≡ busy
        → (if busy then None else begins_turn setup s name sender actor (queue_of s.queues name sender)) ≡ Some t → P t
    within actor true there busy e = cc
    within actor false there idle e = waiting actor (queue_of s.queues name sender) there idle refl e

    on : (found : Option ActorState) → named name s.actors ≡ found → option_and_then (take_step setup s name sender) found ≡ Some t → P t
    on None there e = cc
    on (Some actor) there e = within actor actor.busy there refl e

-- what holds after each row holds after the step
pub step-cases : (setup : Setup) (s : State) (P : State → Type 0) (entry : Entry) (t : State) → StepRows setup s P → step setup s entry ≡ Some t → P t
unfolding step
step-cases setup s P (Run name) t rows is = on s.end refl is
  where
    on : (end : Option End) → s.end ≡ end → unless_ended end (run_step setup s name) ≡ Some t → P t
    on None going e = run_cases setup s P name t going rows e
    on (Some end) over e = cc
step-cases setup s P (Take name sender) t rows is = on s.end refl is
  where
    on : (end : Option End) → s.end ≡ end → unless_ended end (option_and_then (take_step setup s name sender) (named name s.actors)) ≡ Some t → P t
    on None going e = take_cases setup s P name sender t going rows e
    on (Some end) over e = cc

-- what holds at the beginning and is kept by each step holds of each state that a history replays to
pub replay-keeps : (setup : Setup) (P : State → Type 0) → P (opening setup) → ((s t : State) (entry : Entry) → P s → step setup s entry ≡ Some t → P t)
    → (entries : List Entry) (s : State) → replay setup entries ≡ Some s → P s
unfolding replay_from
replay-keeps setup P first keeps entries s is = from (opening setup) first entries is
  where
    from : (a : State) → P a → (entries : List Entry) → replay_from setup a entries ≡ Some s → P s
    from a holds [] e = some_is P a s e holds
    from a holds (entry ∷ entries) e = on (step setup a entry) (λ b stepped rest. from b (keeps a b entry holds stepped) entries rest) refl e
      where
        on : (next : Option State) → ((b : State) → step setup a entry ≡ Some b → replay_from setup b entries ≡ Some s → P s)
            → step setup a entry ≡ next → option_and_then (λ t. replay_from setup t entries) next ≡ Some s → P s
        on None go stepped e = cc
        on (Some b) go stepped e = go b stepped e

-- the same with the number of entries
pub replay-counts : (setup : Setup) (P : ℕ → State → Type 0) → P 0 (opening setup) → ((n : ℕ) (s t : State) (entry : Entry) → P n s → step setup s entry ≡ Some t → P (suc n) t)
    → (entries : List Entry) (s : State) → replay setup entries ≡ Some s → P (length entries) s
unfolding replay_from
replay-counts setup P first keeps entries s is = let same : 0 + length entries ≡ length entries = omega arith in subst (λ m. P m s) same (from 0 (opening setup) first entries is)
  where
    from : (n : ℕ) (a : State) → P n a → (entries : List Entry) → replay_from setup a entries ≡ Some s → P (n + length entries) s
    from n a holds [] e = let same : n ≡ n + 0 = omega arith in subst (λ m. P m s) same (some_is (P n) a s e holds)
    from n a holds (entry ∷ entries) e = on (step setup a entry) (λ b stepped rest. from (suc n) b (keeps n a b entry holds stepped) entries rest) refl e
      where
        on : (next : Option State) → ((b : State) → step setup a entry ≡ Some b → replay_from setup b entries ≡ Some s → P (suc n + length entries) s)
            → step setup a entry ≡ next → option_and_then (λ t. replay_from setup t entries) next ≡ Some s → P (n + suc (length entries)) s
        on None go stepped e = cc
        on (Some b) go stepped e = let same : suc n + length entries ≡ n + suc (length entries) = omega arith in subst (λ m. P m s) same (go b stepped e)
