-- Which tasks a transaction has.
use Rattle.std.specs.Prelude.{◌≡◌, ℕ, suc, true, List, []}
use Rattle.value_core.specs.Place.{Spot}
use Rattle.value_core.specs.declared.value.Value.{Value as Datum}
use Rattle.core_syntax.specs.declared.node_id.NodeId.{NodeId}
use Rattle.serial_model.specs.declared.halt.Halt.TheVariants as halt
use Rattle.serial_model.specs.declared.request.Request.TheVariants as request
use Rattle.serial_model.specs.Eval.{next}
use Rattle.value_core.specs.Named.{Name, Named, over}
use Rattle.serial_model.specs.Standing.{call_below}
use Rattle.serial_model.specs.Task.{Around, Here, Known, Nothing, On, fresh, next_made, task_step}

-- how a task begins: its name, the levels of forks below it, its body and values, its view, and the results that it knows
pub record Beginning : Type 0 where
  pub name : Name
  pub levels : ℕ
  pub body : NodeId
  pub values : List Datum
  pub view : Named Datum
  pub known : Known

-- where a task comes to, step by step
pub data Reaches (around : Around) (task : Beginning) : Here → Type 0 where
  begins : Reaches around task (fresh task.name task.known)
  steps : {here after : Here} → Reaches around task here
      → task_step around task.levels (call_below around task.levels) task.body task.values task.view here ≡ On after → Reaches around task after

-- The tasks of the transaction of that name with that body and values: its root; and where one of its tasks comes to ask for
-- a fork, and has a level left, the child, with the view and the known results of that moment.
pub data IsTaskOf (around : Around) (name : Name) (body : NodeId) (values : List Datum) : Beginning → Type 0 where
  root : IsTaskOf around name body values (record { name = name; levels = 16; body = body; values = values; view = []; known = Nothing })
  child : {parent : Beginning} {levels : ℕ} {here : Here} {inner : NodeId} {frame : List Datum} {at : Spot}
      → IsTaskOf around name body values parent → parent.levels ≡ suc levels → Reaches around parent here
      → next around.program parent.body parent.values true here.answers around.fuel ≡ halt.Ask (request.Fork inner frame) at
      → IsTaskOf around name body values
      (record { name = next_made here; levels = levels; body = inner; values = frame; view = over here.log.writes parent.view; known = here.known })
