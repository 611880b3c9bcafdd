-- Where a run is.
use Rattle.std.specs.Prelude.{◌≡◌, ℕ, suc, Bool, true, false, List, ◌∷◌, ◌++◌, Option, None, Some}
use Rattle.std.specs.Option.{option_map, option_or}
use Rattle.std.specs.List.{slice_get}
use Rattle.value_core.specs.declared.value.Value.{Value}
use Rattle.core_syntax.specs.declared.node_id.NodeId.{NodeId}
use Rattle.core_syntax.specs.Table.{Table}
use Rattle.serial_model.specs.declared.actor_state.ActorState.{ActorState}
use Rattle.value_core.specs.Named.{Name, named, with_named, made_by}
use Rattle.serial_model.specs.State.{Setup, UnitState, State, new_unit}
use Rattle.serial_model.specs.Step.{with_unit, with_queue, queue_of}
use Rattle.serial_machine.specs.declared.now.Now.{Now}
use Rattle.serial_units.specs.declared.task.Done.{Done}
use Rattle.serial_model.specs.Task.{Result}
use Rattle.serial_units.specs.Task.{outcome_of}
use Rattle.serial_units.specs.declared.unit.Becoming.{Becoming as KeptBecoming}
use Rattle.serial_units.specs.Units.{becoming_of, units_of, AreUnits}
use Rattle.serial_machine.specs.Actors.{turning}

-- the state, where so many bytes were printed before
abbrev pub state_after : List ℕ → Now → State
state_after before now = record {
  refs = now.refs.entries;
  units = units_of now.units;
  actors = now.actors.entries;
  queues = now.queues;
  bytes = before ++ now.text.items;
  made = now.made;
  end = now.end;
}

-- the run is at that state
pub record IsNow (setup : Setup) (before : List ℕ) (now : Now) (s : State) : Type 0 where
  pub is : state_after before now ≡ s
  pub units : AreUnits setup now.units

-- it comes to that state from each
abbrev pub Comes : Setup → Now → Now → (State → State) → Type 0
Comes setup old new after = (before : List ℕ) (s : State) → IsNow setup before old s → IsNow setup before new (after s)

-- with that unit of that name it comes to that state from each
abbrev pub Does : Setup → Name → Now → Now → (State → UnitState → State) → Type 0
Does setup name old new after = (before : List ℕ) (s : State) (unit : UnitState) → IsNow setup before old s → named name s.units ≡ Some unit → IsNow setup before new (after s unit)

-- it comes to the state that is next where one is, and else it stays
abbrev pub IsStepped : Setup → List ℕ → Now → State → Option State → Bool → Type 0
IsStepped setup before new s (Some next) true = IsNow setup before new next
IsStepped setup before new s None false = IsNow setup before new s
IsStepped setup before new s _ _ = ⊥

abbrev pub Tries : Setup → Name → Now → Now → Bool → (State → UnitState → Option State) → Type 0
Tries setup name old new done after =
    (before : List ℕ) (s : State) (unit : UnitState) → IsNow setup before old s → named name s.units ≡ Some unit → IsStepped setup before new s (after s unit) done

abbrev pub Steps : Setup → Now → Now → Bool → (State → Option State) → Type 0
Steps setup old new done after = (before : List ℕ) (s : State) → IsNow setup before old s → IsStepped setup before new s (after s) done

-- the unit with what is to become of its actor, where that is said
abbrev pub turned_into : Option KeptBecoming → UnitState → UnitState
turned_into becomes unit = record unit { becomes = option_or (option_map becoming_of becomes) unit.becomes }

-- the effects come to that state, and to that unit, from each
abbrev pub TakesEffects : Now → Option KeptBecoming → Now → Option KeptBecoming → (State → UnitState → State × UnitState) → Type 0
TakesEffects old becomes new becoming after = (setup : Setup) (before : List ℕ) (s : State) (unit : UnitState) → IsNow setup before old s
    → IsNow setup before new (after s (turned_into becomes unit)).0 × ((after s (turned_into becomes unit)).1 ≡ turned_into becoming unit)

-- the transaction ended so, and did that
pub record IsResult (done : Done) (result : Result) : Type 0 where
  pub end : outcome_of done.end ≡ result.outcome
  pub log : done.task.log ≡ result.log

-- the name, the body and the state of the next turn of an actor
pub record IsTurn (acting : ActorState) (actor name : Name) (body : NodeId) (state : List Value) (table : Table) : Type 0 where
  pub name_is : name ≡ made_by actor acting.turns
  pub body_is : option_map (λ behaviour. behaviour.body) (slice_get table.behaviours acting.behaviour) ≡ Some body
  pub state_is : state ≡ acting.state

-- the state where an actor begins a turn with that body on the first message of a sender
abbrev pub turn_begun : Name → Name → ActorState → NodeId → List Value → List (List Value) → State → State
turn_begun actor sender acting body message messages s = record (with_unit (record s { made = suc s.made }) (made_by actor acting.turns) (new_unit (Some actor) body (acting.state ++ message))) {
  actors = with_named s.actors actor (turning acting);
  queues = with_queue s.queues actor sender messages;
}

-- the actor begins a turn on the first message of that sender
abbrev pub BeginsTurn : Setup → Now → Now → Name → Name → Type 0
BeginsTurn setup old new actor sender = (before : List ℕ) (s : State) (acting : ActorState) (body : NodeId) (message : List Value) (messages : List (List Value)) → IsNow setup before old s
    → named actor s.actors ≡ Some acting → queue_of s.queues actor sender ≡ message ∷ messages
    → option_map (λ behaviour. behaviour.body) (slice_get setup.program.behaviours acting.behaviour) ≡ Some body
    → IsNow setup before new (turn_begun actor sender acting body message messages s)
