-- What a call of the world comes to.
use Rattle.std.specs.Prelude.{◌≡◌, ◌<◌, ℕ, Bool, Err, List, None, Ok, Result, Some, length, ⊤}
use Rattle.std.specs.declared.alloc.AllocError.{AllocError}
use Rattle.world_steps.specs.Kept.{IsSameBut}
use Rattle.core_syntax.specs.declared.node_id.NodeId.{NodeId}
use Rattle.core_syntax.specs.Table.{Table}
use Rattle.serial_model.specs.declared.end.End.{End}
use Rattle.serial_model.specs.declared.halt.Halt.{Halt}
use Rattle.serial_model.specs.declared.halt.Halt.TheVariants as halts
use Rattle.serial_model.specs.declared.request.Request.TheVariants as requests
use Rattle.serial_model.specs.State.{Becoming}
use Rattle.serial_model.specs.Step.{answered, next_made}
use Rattle.shared_world.specs.declared.given.Given.{Given}
use Rattle.shared_world.specs.rows.Actors.{FinishesTurn, Spawns}
use Rattle.shared_world.specs.rows.Attempts.{BeginsMarked}
use Rattle.shared_world.specs.rows.Leading.{mark_ahead}
use Rattle.shared_world.specs.rows.Pieces.{ClaimsEnd, Ends, Settles}
use Rattle.shared_world.specs.rows.Units.{Forks, UnitGives, Waits}
use Rattle.shared_world.specs.Shared.{Shared, unit_state}
use Rattle.unit_table.specs.Board.{unit_at}
use Rattle.unit_table.specs.declared.mark.Mark.TheVariants as mark
use Rattle.unit_table.specs.declared.mark.WaitOn.TheVariants as wait
use Rattle.unit_table.specs.declared.unit.Unit.{Unit}
use Rattle.value_core.specs.declared.value.Value.{Value}
use Rattle.value_core.specs.declared.value.Value.TheVariants as value
use Rattle.value_core.specs.Named.{Name, named, same_name}
use Rattle.value_core.specs.Place.{Spot}

-- a body that is asked for is in the table
abbrev pub IsBodyThere : Table → Halt → Type 0
IsBodyThere table (halts.Ask (requests.Fork body values) at) = body.index < length table.nodes
IsBodyThere table (halts.Ask (requests.Dosync body values) at) = body.index < length table.nodes
IsBodyThere table h = ⊤

-- the unit of that name comes to what its row says
pub record UnitCame (old : Shared) (name : Name) (h : Halt) (new : Shared) (found : Given) : Type 0 where
  pub row : (x : Unit) → unit_at old.board name ≡ Some x → UnitGives old name x h found new
  pub claims : ClaimsEnd (λ q. same_name q name) old new

-- or for want of memory nothing changes
abbrev pub Comes : Shared → Name → Halt → Shared → Result Given AllocError → Type 0
Comes old name h new (Ok found) = UnitCame old name h new found
Comes old name h new (Err e) = IsSameBut old new

-- the unit is answered with that value, and nothing else changes; or for want of memory nothing does
pub record IsReplied (old : Shared) (name : Name) (v : Value) (new : Shared) (found : Given) : Type 0 where
  pub row : (x : Unit) → unit_at old.board name ≡ Some x → Settles old name x (answered (unit_state x) v) found new
  pub claims : ClaimsEnd (λ q. same_name q name) old new

abbrev pub Replies : Shared → Name → Value → Shared → Result Given AllocError → Type 0
Replies old name v new (Ok found) = IsReplied old name v new found
Replies old name v new (Err e) = IsSameBut old new

-- the run ends so; or for want of memory nothing changes
abbrev pub EndsOr : Shared → Name → End → Shared → Result Given AllocError → Type 0
EndsOr old name end new (Ok found) = Ends old name end found new
EndsOr old name end new (Err e) = IsSameBut old new

-- the unit waits for the finish of that one; or for want of memory nothing changes
pub record IsWaiting (old : Shared) (name future : Name) (new : Shared) (found : Given) : Type 0 where
  pub row : (x : Unit) → unit_at old.board name ≡ Some x → Waits old name x future found new
  pub claims : ClaimsEnd (λ q. same_name q name) old new

abbrev pub WaitsOr : Shared → Name → Name → Shared → Result Given AllocError → Type 0
WaitsOr old name future new (Ok found) = IsWaiting old name future new found
WaitsOr old name future new (Err e) = IsSameBut old new

-- the unit forks, where the limit allows it; or for want of memory nothing changes
pub record HasForked (old : Shared) (name : Name) (body : NodeId) (values : List Value) (new : Shared) (found : Given) : Type 0 where
  pub row : (x : Unit) → unit_at old.board name ≡ Some x → Forks old name x body values found new
  pub claims : ClaimsEnd (λ q. same_name q name) old new

abbrev pub ForksOr : Shared → Name → NodeId → List Value → Shared → Result Given AllocError → Type 0
ForksOr old name body values new (Ok found) = HasForked old name body values new found
ForksOr old name body values new (Err e) = IsSameBut old new

-- an attempt of the unit has begun, which had none, and the unit waits for its root, or is ready to settle what it holds; or for want of
-- memory nothing changes
pub record HasBegun (old : Shared) (name : Name) (body : NodeId) (values : List Value) (at : Spot) (settles : Bool) (new : Shared) (found : Given) : Type 0 where
  pub free : named name old.attempts ≡ None
  pub row : (x : Unit) → unit_at old.board name ≡ Some x → BeginsMarked old name x (mark_ahead settles (mark.Waiting (wait.Finish (next_made name (unit_state x))))) body values at found new
  pub claims : ClaimsEnd (λ q. same_name q name) old new

abbrev pub BeginsOr : Shared → Name → NodeId → List Value → Spot → Bool → Shared → Result Given AllocError → Type 0
BeginsOr old name body values at settles new (Ok found) = HasBegun old name body values at settles new found
BeginsOr old name body values at settles new (Err e) = IsSameBut old new

-- the unit makes an actor; or for want of memory nothing changes
pub record HasSpawned (old : Shared) (name : Name) (behaviour : ℕ) (state : List Value) (new : Shared) (found : Given) : Type 0 where
  pub row : (x : Unit) → unit_at old.board name ≡ Some x → Spawns old name x behaviour state found new
  pub claims : ClaimsEnd (λ q. same_name q name) old new

abbrev pub SpawnsOr : Shared → Name → ℕ → List Value → Shared → Result Given AllocError → Type 0
SpawnsOr old name behaviour state new (Ok found) = HasSpawned old name behaviour state new found
SpawnsOr old name behaviour state new (Err e) = IsSameBut old new

-- the actor of the turn becomes that at its end; or for want of memory nothing changes
pub record HasTurnedInto (old : Shared) (name : Name) (next : Becoming) (new : Shared) (found : Given) : Type 0 where
  pub row : (x : Unit) → unit_at old.board name ≡ Some x → Settles old name x (answered (record (unit_state x) { becomes = Some next }) value.Nil) found new
  pub claims : ClaimsEnd (λ q. same_name q name) old new

abbrev pub TurnsIntoOr : Shared → Name → Becoming → Shared → Result Given AllocError → Type 0
TurnsIntoOr old name next new (Ok found) = HasTurnedInto old name next new found
TurnsIntoOr old name next new (Err e) = IsSameBut old new

-- the turn is finished, and its actor is free; or for want of memory nothing changes
pub record HasFinishedTurn (old : Shared) (name : Name) (v : Value) (a : Name) (new : Shared) (found : Given) : Type 0 where
  pub row : (x : Unit) → unit_at old.board name ≡ Some x → FinishesTurn old name x a v found new
  pub claims : ClaimsEnd (λ q. same_name q name) old new

abbrev pub FinishesOr : Shared → Name → Value → Name → Shared → Result Given AllocError → Type 0
FinishesOr old name v a new (Ok found) = HasFinishedTurn old name v a new found
FinishesOr old name v a new (Err e) = IsSameBut old new

-- a unit that is no turn is finished; or for want of memory nothing changes
pub record HasFinished (old : Shared) (name : Name) (v : Value) (new : Shared) (found : Given) : Type 0 where
  pub row : (x : Unit) → unit_at old.board name ≡ Some x → Settles old name x (record (unit_state x) { finished = Some v }) found new
  pub claims : ClaimsEnd (λ q. same_name q name) old new

abbrev pub PlainOr : Shared → Name → Value → Shared → Result Given AllocError → Type 0
PlainOr old name v new (Ok found) = HasFinished old name v new found
PlainOr old name v new (Err e) = IsSameBut old new
