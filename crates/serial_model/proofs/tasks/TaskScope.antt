-- What a transaction keeps: the names in all that it gives, writes and sends are there, its actors are its own, and it waits for nothing
-- but a plain unit.
use Rattle.std.proofs.Common.{◌≡◌, ◌⊎◌, ℕ, ◌<◌, List, [], ◌∷◌, ◌++◌, length}
use Rattle.std.specs.Prelude.{None, Some, All}
use Rattle.std.specs.Option.{IsSome}
use Rattle.value_core.specs.declared.value.Value.{Value as Datum}
use Rattle.value_core.specs.Within.{Within}
use Rattle.core_syntax.specs.declared.node_id.NodeId.{NodeId}
use Rattle.core_syntax.specs.Table.{Table}
use Rattle.core_syntax.specs.WellFormed.{IsWellFormed}
use Rattle.serial_model.specs.declared.effect.Effect.{Effect}
use Rattle.serial_model.specs.declared.effect.What.{What}
use Rattle.serial_model.specs.declared.effect.What.TheVariants as what
use Rattle.serial_model.specs.Log.{Log}
use Rattle.value_core.specs.Named.{Name, named}
use Rattle.serial_model.specs.Task.{Around, Value, Blocked, Result, result_of, root_task}

-- no name of a future
abbrev pub NoFuture : Name → Type 0
NoFuture name = ⊥

-- one of the effects begins that actor
abbrev pub Spawns : Name → What → Type 0
Spawns actor (what.Spawn name behaviour state) = actor ≡ name
Spawns actor _ = ⊥

abbrev pub IsSpawned : Name → List Effect → Type 0
IsSpawned actor [] = ⊥
IsSpawned actor (effect ∷ effects) = Spawns actor effect.what ⊎ IsSpawned actor effects

-- the refs, the actors and the futures that there are with what the task did
abbrev pub RefsWith : (Name → Type 0) → Log → Name → Type 0
RefsWith R log name = R name ⊎ IsSome (named name log.writes)

abbrev pub ActorsWith : (Name → Type 0) → Log → Name → Type 0
ActorsWith A log name = A name ⊎ IsSpawned name log.effects

abbrev pub FuturesWith : (Name → Type 0) → Result → Name → Type 0
FuturesWith F result name = F name ⊎ IsSome (result_of name result.known)

-- an effect's values have these refs and actors and no future, its actor is one of these, and its behaviour is there
abbrev pub EffectWithin : Table → (R A : Name → Type 0) → What → Type 0
EffectWithin table R A (what.Bytes text) = Unit {0}
EffectWithin table R A (what.Send actor message) = A actor × All (Within R A NoFuture) message
EffectWithin table R A (what.Spawn actor behaviour state) = (behaviour < length table.behaviours) × All (Within R A NoFuture) state
EffectWithin table R A (what.Become behaviour state) = (behaviour < length table.behaviours) × All (Within R A NoFuture) state

-- R: refs that are in the store; A: actors that are there; F: plain units that are known. The values of those refs and units have such names
pub record IsAround (around : Around) (R A F : Name → Type 0) : Type 0 where
  pub formed : IsWellFormed around.program
  pub refs_there : (ref : Name) → R ref → IsSome (around.store ref)
  pub refs_hold : (ref : Name) (v : Datum) → R ref → around.store ref ≡ Some v → Within R A NoFuture v
  pub units_hold : (future : Name) (v : Datum) → F future → around.finished future ≡ Some v → Within R A F v
  pub actor_there : (actor : Name) → around.actor ≡ Some actor → A actor

-- a unit that is known and not finished
pub record IsWaitedFor (around : Around) (F : Name → Type 0) : Type 0 where
  pub future : Name
  pub known : F future
  pub unfinished : around.finished future ≡ None

-- where the transaction waits, it is for a plain unit; the value, the writes and the effects have names that are there; and the actors that
-- it begins are below its name, and none is below another
pub record IsKept (around : Around) (R A F : Name → Type 0) (name : Name) (result : Result) : Type 0 where
  pub waits : result.outcome ≡ Blocked → IsWaitedFor around F
  pub value : (v : Datum) → result.outcome ≡ Value v → Within (RefsWith R result.log) (ActorsWith A result.log) (FuturesWith F result) v
  pub writes : All (λ e. Within (RefsWith R result.log) (ActorsWith A result.log) NoFuture e.1) result.log.writes
  pub effects : All (λ e. EffectWithin around.program (RefsWith R result.log) (ActorsWith A result.log) e.what) result.log.effects
  pub below : (actor : Name) → IsSpawned actor result.log.effects → (rest : List ℕ) × (actor ≡ name ++ rest)
  pub apart : (actor other : Name) (k : ℕ) (rest : List ℕ) → IsSpawned actor result.log.effects → IsSpawned other result.log.effects → ¬ (other ≡ actor ++ k ∷ rest)

-- each transaction keeps its scope
abbrev pub TransactionsKeep : Type 1
TransactionsKeep = (around : Around) (R A F : Name → Type 0) → IsAround around R A F → (name : Name) (body : NodeId) (values : List Datum) → All (Within R A F) values
    → IsKept around R A F name (root_task around name body values)
