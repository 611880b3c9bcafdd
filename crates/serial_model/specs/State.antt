-- The state of a run.
use Rattle.std.specs.Prelude.{ℕ, List, [], ◌∷◌, Option, None}
use Rattle.value_core.specs.declared.value.Value.{Value}
use Rattle.core_syntax.specs.declared.node_id.NodeId.{NodeId}
use Rattle.core_syntax.specs.Table.{Table}
use Rattle.serial_model.specs.declared.actor_state.ActorState.{ActorState}
use Rattle.serial_model.specs.declared.answer.Answer.{Answer}
use Rattle.serial_model.specs.declared.end.End.{End}
use Rattle.serial_model.specs.Limits.{Budget}
use Rattle.value_core.specs.Named.{Name, Named}

-- what a run is of: a program and its limits
pub record Setup : Type 0 where
  pub program : Table
  pub limits : Budget

-- a behaviour by its number, and a state
pub record Becoming : Type 0 where
  pub behaviour : ℕ
  pub state : List Value

-- A unit: the actor whose turn it is, where it is one; its body and values; the answers that it has been given; how many
-- things it has made; what its actor becomes at its end, where that is said; and its value, where it is finished.
pub record UnitState : Type 0 where
  pub actor : Option Name
  pub body : NodeId
  pub values : List Value
  pub answers : List Answer
  pub made : ℕ
  pub becomes : Option Becoming
  pub finished : Option Value

-- the messages that wait for an actor, by the unit that sent them, each in the order in which it was sent
abbrev pub Queues : Type 0
Queues = Named (Named (List (List Value)))

-- refs, units, actors and queues by name; the bytes printed; the number of units made; and the end, where one is set
pub record State : Type 0 where
  pub refs : Named Value
  pub units : Named UnitState
  pub actors : Named ActorState
  pub queues : Queues
  pub bytes : List ℕ
  pub made : ℕ
  pub end : Option End

-- the name of main
abbrev pub main_name : Name
main_name = 0 ∷ []

abbrev pub new_unit : Option Name → NodeId → List Value → UnitState
new_unit actor body values = record { actor = actor; body = body; values = values; answers = []; made = 0; becomes = None; finished = None }

-- main alone
abbrev pub opening : Setup → State
opening setup = record { refs = []; units = (main_name, new_unit None setup.program.main []) ∷ []; actors = []; queues = []; bytes = []; made = 1; end = None }
