-- What a step of a task comes to.
use Rattle.std.specs.Prelude.{◌≡◌, Option}
use Rattle.core_syntax.specs.Table.{Table}
use Rattle.eval_step.specs.Evaluation.{Evaluation, IsAsk, IsAsking}
use Rattle.serial_model.specs.Carried.{IsInner}
use Rattle.serial_model.specs.declared.halt.Halt.{Halt}
use Rattle.serial_model.specs.declared.halt.Halt.TheVariants as halt
use Rattle.serial_model.specs.declared.request.Request.{Request}
use Rattle.serial_model.specs.declared.request.Request.TheVariants as request
use Rattle.serial_model.specs.Eval.{next}
use Rattle.task_fork_join.specs.Attempt.{Attempt}
use Rattle.task_fork_join.specs.Closing.{IsClose}
use Rattle.task_fork_join.specs.declared.stepped.Stepped.{Stepped}
use Rattle.task_fork_join.specs.declared.task_end.TaskEnd.TheVariants as end
use Rattle.task_fork_join.specs.Forking.{CameFork}
use Rattle.task_fork_join.specs.Joining.{IsEnded, IsJoin}
use Rattle.task_fork_join.specs.Stepping.{IsActed}
use Rattle.value_core.specs.declared.value.Value.{Value as Datum}
use Rattle.value_core.specs.Named.{Name}

-- Only the tasks and the refs that were read change.
pub record Stays (old new : Attempt) : Type 0 where
  pub root : new.root ≡ old.root
  pub actor : new.actor ≡ old.actor
  pub snapshot : new.snapshot ≡ old.snapshot
  pub fuel : new.fuel ≡ old.fuel
  pub escape : new.escape ≡ old.escape

-- only the tasks change
pub record Rereads (P : Type 0) (old new : Attempt) : Type 0 where
  pub does : P
  pub reads : new.reads ≡ old.reads

-- what a request comes to
abbrev pub Asks : (Name → Option Datum) → Name → Evaluation → Option Datum → Request → Attempt → Attempt → Stepped → Type 0
Asks refs name moved outer (request.Fork body values) old new found = Rereads (CameFork name moved old.actor old.fuel body values old.tasks new.tasks found) old new
Asks refs name moved outer (request.Join future) old new found = Rereads (IsJoin name moved future outer old.tasks new.tasks found) old new
Asks refs name moved outer (request.Dosync body values) old new found = ⊥
Asks refs name moved outer asked old new found = IsActed refs name moved asked old.tasks old.reads new.tasks new.reads found

-- what the task of that name comes to, on these refs, where its machine as moved halts so, and a plain task that it asks for
-- has that value
abbrev pub Comes : (Name → Option Datum) → Name → Evaluation → Option Datum → Halt → Attempt → Attempt → Stepped → Type 0
Comes refs name moved outer (halt.Ask asked at) old new found = Asks refs name moved outer asked old new found
Comes refs name moved outer (halt.Value v) old new found = Rereads (IsClose name moved v old.tasks new.tasks found) old new
Comes refs name moved outer (halt.Fault code at) old new found = Rereads (IsEnded name (end.Fault code at) old.tasks new.tasks found) old new
Comes refs name moved outer halt.Spent old new found = Rereads (IsEnded name end.Spent old.tasks new.tasks found) old new

-- A step of the task of that name.
pub record IsStep (refs : Name → Option Datum) (name : Name) (moved : Evaluation) (outer : Option Datum) (halts : Halt) (old new : Attempt) (found : Stepped) : Type 0 where
  pub comes : Comes refs name moved outer halts old new found
  pub stays : Stays old new

-- the machine stands at the request to which it comes in some program
pub record IsHalted (moved : Evaluation) (halts : Halt) : Type 0 where
  pub asking : IsAsking moved
  pub program : Table
  pub comes : next program moved.body moved.values moved.inside moved.answers moved.fuel ≡ halts

-- where the machine halts at a request it stands there
abbrev pub HaltsAt : Evaluation → Halt → Type 0
HaltsAt moved halts = IsAsk halts → IsHalted moved halts

-- a request at which the machine stands is none for a transaction
abbrev pub AsksInside : Evaluation → Halt → Type 0
AsksInside moved (halt.Ask asked at) = IsAsking moved × IsInner asked
AsksInside moved _ = Unit {0}
