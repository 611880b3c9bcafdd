-- A child that is forked.
use Rattle.std.specs.Prelude.{◌≡◌, ◌||◌, ◌+◌, ◌<◌, ℕ, List, [], length, true, Option, None, Some}
use Rattle.core_syntax.specs.declared.node_id.NodeId.{NodeId}
use Rattle.core_syntax.specs.Table.{Table}
use Rattle.eval_step.specs.Evaluation.{Evaluation, IsOf}
use Rattle.serial_model.specs.declared.answer.Answer.TheVariants as answer
use Rattle.task_fork_join.specs.Attempt.{levels_below}
use Rattle.task_fork_join.specs.declared.forking.Forked.{Forked}
use Rattle.task_fork_join.specs.declared.stepped.Stepped.{Stepped}
use Rattle.task_fork_join.specs.declared.stepped.Stepped.TheVariants as stepped
use Rattle.task_fork_join.specs.declared.task.Stage.TheVariants as kept
use Rattle.task_fork_join.specs.declared.task.Task.{Task}
use Rattle.task_fork_join.specs.Stepping.{HasParts, IsAnswered, IsGiven}
use Rattle.txn_snapshot.specs.SnapshotTask.{having_forked, new_task}
use Rattle.value_core.specs.declared.code.Code.TheVariants as code
use Rattle.value_core.specs.declared.value.Value.{Value as Datum}
use Rattle.value_core.specs.declared.value.Value.TheVariants as value
use Rattle.task_fork_join.specs.Knowledge.{HasLearned}
use Rattle.value_core.specs.Named.{Name, Named, made_by, named, over, same_name, with_named, IsChanged}

-- the machine is to evaluate that body inside a transaction
pub record IsBegun (fuel : ℕ) (body : NodeId) (values : List Datum) (machine : Evaluation) : Type 0 where
  pub body_is : machine.body ≡ body
  pub values_is : machine.values ≡ values
  pub inside : machine.inside ≡ true
  pub fuel_is : machine.fuel ≡ fuel
  pub none : machine.answers ≡ []
  pub of : (table : Table) → body.index < length table.nodes → IsOf table machine

-- a child of the task, which sees what the task sees now and knows what it knows now
pub record IsForked (t : Task) (actor : Option Name) (f : Forked) : Type 0 where
  pub future_is : f.future ≡ made_by t.log.log.name t.log.log.made
  pub child_log : f.child.log ≡ new_task f.future (over t.log.log.writes t.log.base) (t.log.depth + 1) actor
  pub child_knows : f.child.knows ≡ record { keys = t.knows.keys; since = [] }
  pub parent_log : f.parent.log ≡ having_forked t.log
  pub parent_knows : HasLearned f.future t.knows f.parent.knows

-- the child is there, whose name was not taken, and the task goes on with its future
pub record IsPut (name : Name) (moved : Evaluation) (f : Forked) (child : Evaluation) (old new : Named Task) (found : Stepped) : Type 0 where
  pub fresh : named f.future old ≡ None
  pub machine : Evaluation
  pub given_so : IsGiven moved (answer.Value (value.Future f.future)) machine
  pub tasks : IsChanged name (with_named old f.future (record { log = f.child.log; knows = f.child.knows; stage = kept.Going child })) new (HasParts f.parent (kept.Going machine))
  pub forked : found ≡ stepped.Forked f.future

-- the task has a level left below it, and forks
pub record IsFork (name : Name) (moved : Evaluation) (actor : Option Name) (fuel : ℕ) (body : NodeId) (values : List Datum) (old new : Named Task) (found : Stepped) : Type 0 where
  pub fork : Forked
  pub child : Evaluation
  pub forks : (t : Task) → named name old ≡ Some t → (0 < levels_below t.log.depth) × IsForked t actor fork
  pub begun : IsBegun fuel body values child
  pub put : IsPut name moved fork child old new found

-- no level is left below the task, and the fork fails
pub record IsRefused (name : Name) (moved : Evaluation) (old new : Named Task) (found : Stepped) : Type 0 where
  pub last : (t : Task) → named name old ≡ Some t → levels_below t.log.depth ≡ 0
  pub given : IsAnswered name moved (answer.Fault code.ForkTooDeep) old new found

-- what a fork comes to
pub data CameFork (name : Name) (moved : Evaluation) (actor : Option Name) (fuel : ℕ) (body : NodeId) (values : List Datum) (old new : Named Task) (found : Stepped) : Type 0 where
  forks : IsFork name moved actor fuel body values old new found → CameFork name moved actor fuel body values old new found
  refused : IsRefused name moved old new found → CameFork name moved actor fuel body values old new found
