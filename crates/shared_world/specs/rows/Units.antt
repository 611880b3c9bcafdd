-- What a unit comes to.
use Rattle.std.specs.Prelude.{◌≡◌, ◌==◌, ◌++◌, ◌∷◌, [], ℕ, List, length, Option, None, Some, suc, Bool, true, false}
use Rattle.core_syntax.specs.declared.node_id.NodeId.{NodeId}
use Rattle.ref_store.specs.Store.{committed, versions_of}
use Rattle.serial_model.specs.declared.end.End.TheVariants as ending
use Rattle.serial_model.specs.declared.halt.Halt.{Halt}
use Rattle.serial_model.specs.declared.halt.Halt.TheVariants as halt
use Rattle.serial_model.specs.declared.request.Request.TheVariants as request
use Rattle.serial_model.specs.State.{new_unit}
use Rattle.serial_model.specs.Step.{answered, becoming, next_made, with_made}
use Rattle.shared_world.specs.declared.given.Given.{Given}
use Rattle.shared_world.specs.declared.given.Given.TheVariants as given
use Rattle.shared_world.specs.rows.Actors.{FinishesTurn, Sends, Spawns}
use Rattle.shared_world.specs.rows.Attempts.{Begins}
use Rattle.shared_world.specs.rows.Pieces.{Ends, IsMarkedUnit, IsUnitAt, Settles}
use Rattle.shared_world.specs.Shared.{actor_of, finished_at, ref_now, Shared, unit_state}
use Rattle.task_fork_join.specs.Attempt.{Attempt}
use Rattle.unit_table.specs.Board.{Board, IsPutAt, piece_at}
use Rattle.unit_table.specs.declared.mark.Mark.TheVariants as mark
use Rattle.unit_table.specs.declared.mark.WaitOn.TheVariants as wait
use Rattle.unit_table.specs.declared.mark.Work.TheVariants as work
use Rattle.unit_table.specs.declared.piece.Piece.TheVariants as piece
use Rattle.unit_table.specs.declared.unit.Unit.{Unit}
use Rattle.value_core.specs.declared.code.Code.TheVariants as code
use Rattle.value_core.specs.declared.value.Value.{Value}
use Rattle.value_core.specs.declared.value.Value.TheVariants as value
use Rattle.value_core.specs.Named.{Name, named}
use Rattle.value_core.specs.Place.{Spot}

-- Waiting: the unit waits for the finish of that one, and all else stays
pub record Waits (old : Shared) (u : Name) (x : Unit) (future : Name) (found : Given) (new : Shared) : Type 0 where
  pub found_is : found ≡ given.Waiting (wait.Finish future)
  pub marked : IsMarkedUnit old.setup u x (mark.Waiting (wait.Finish future)) old.board new.board
  pub others : new ≡ record old { board = new.board }

-- Settled: a ref that had no version has its first, and the unit goes on with it
pub record MakesRef (old : Shared) (u : Name) (x : Unit) (v : Value) (found : Given) (new : Shared) : Type 0 where
  pub none : versions_of old.versions (next_made u (unit_state x)) ≡ []
  pub settles : Settles (record old { versions = committed old.versions ((next_made u (unit_state x), v) ∷ []) (suc (length old.history)) }) u x
      (answered (with_made (unit_state x)) (value.Ref (next_made u (unit_state x)))) found new

-- Settled: a plain unit with that body and those values is there, and the unit goes on with its future
pub record Forks (old : Shared) (u : Name) (x : Unit) (body : NodeId) (values : List Value) (found : Given) (new : Shared) : Type 0 where
  pub none : piece_at old.board (next_made u (unit_state x)) ≡ None
  pub child : Unit
  pub board : Board
  pub begins : IsUnitAt old.setup child child (new_unit None body values) (mark.Ready work.Eval)
  pub put : IsPutAt (next_made u (unit_state x)) (Some (piece.Unit child)) old.board board
  pub settles : Settles (record old { made = suc old.made; board = board }) u x (answered (with_made (unit_state x)) (value.Future (next_made u (unit_state x)))) found new

-- a fork, where the limit allows one unit more
abbrev pub ForksIfAllowed : Shared → Name → Unit → NodeId → List Value → Bool → Given → Shared → Type 0
ForksIfAllowed old u x body values true found new = Ends old u ending.UnitsSpent found new
ForksIfAllowed old u x body values false found new = Forks old u x body values found new

-- a value that is there is the answer
abbrev pub Derefs : Shared → Name → Unit → Option Value → Given → Shared → Type 0
Derefs old u x None found new = ⊥
Derefs old u x (Some v) found new = Settles old u x (answered (unit_state x) v) found new

-- the value of a finished unit is the answer, and the finish of another one is waited for
abbrev pub Joins : Shared → Name → Unit → Name → Option Value → Given → Shared → Type 0
Joins old u x future None found new = Waits old u x future found new
Joins old u x future (Some v) found new = Settles old u x (answered (unit_state x) v) found new

-- an attempt begins where the unit has none
abbrev pub Tries : Shared → Name → Unit → NodeId → List Value → Spot → Option Attempt → Given → Shared → Type 0
Tries old u x body values at None found new = Begins old u x body values at found new
Tries old u x body values at (Some tree) found new = ⊥

-- in a turn it is said what its actor is to become; elsewhere the run ends
abbrev pub Becomes : Shared → Name → Unit → ℕ → List Value → Spot → Option Name → Given → Shared → Type 0
Becomes old u x behaviour state at None found new = Ends old u (ending.Fault code.NoTurn at u) found new
Becomes old u x behaviour state at (Some actor) found new = Settles old u x (answered (becoming (unit_state x) behaviour state) value.Nil) found new

-- the actor of a turn is the answer; elsewhere the run ends
abbrev pub Selves : Shared → Name → Unit → Spot → Option Name → Given → Shared → Type 0
Selves old u x at None found new = Ends old u (ending.Fault code.NoTurn at u) found new
Selves old u x at (Some actor) found new = Settles old u x (answered (unit_state x) (value.Actor actor)) found new

-- at its value the unit is finished, and the actor whose turn it was is free
abbrev pub Finishes : Shared → Name → Unit → Value → Option Name → Given → Shared → Type 0
Finishes old u x v None found new = Settles old u x (record (unit_state x) { finished = Some v }) found new
Finishes old u x v (Some actor) found new = FinishesTurn old u x actor v found new

-- What the unit comes to that halts so.
abbrev pub UnitGives : Shared → Name → Unit → Halt → Given → Shared → Type 0
UnitGives old u x (halt.Ask (request.Print text) at) found new = Settles (record old { bytes = old.bytes ++ text }) u x (answered (unit_state x) value.Nil) found new
UnitGives old u x (halt.Ask (request.NewRef v) at) found new = MakesRef old u x v found new
UnitGives old u x (halt.Ask (request.Deref ref) at) found new = Derefs old u x (ref_now old.versions ref) found new
UnitGives old u x (halt.Ask (request.RefSet ref v) at) found new = Ends old u (ending.Fault code.NoTransaction at u) found new
UnitGives old u x (halt.Ask (request.Fork body values) at) found new = ForksIfAllowed old u x body values (old.made == old.setup.limits.units) found new
UnitGives old u x (halt.Ask (request.Join future) at) found new = Joins old u x future (finished_at old.board future) found new
UnitGives old u x (halt.Ask (request.Dosync body values) at) found new = Tries old u x body values at (named u old.attempts) found new
UnitGives old u x (halt.Ask (request.Spawn behaviour state) at) found new = Spawns old u x behaviour state found new
UnitGives old u x (halt.Ask (request.Send to args) at) found new = Sends old u x to args found new
UnitGives old u x (halt.Ask (request.Become behaviour state) at) found new = Becomes old u x behaviour state at (actor_of x.kind) found new
UnitGives old u x (halt.Ask request.SelfActor at) found new = Selves old u x at (actor_of x.kind) found new
UnitGives old u x (halt.Value v) found new = Finishes old u x v (actor_of x.kind) found new
UnitGives old u x (halt.Fault failed at) found new = Ends old u (ending.Fault failed at u) found new
UnitGives old u x halt.Spent found new = Ends old u (ending.Spent u) found new
