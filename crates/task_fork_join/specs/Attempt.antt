-- The tasks of an attempt, as they are kept.
use Rattle.std.specs.Prelude.{◌≡◌, ◌-◌, ℕ, true, List, [], ◌∷◌, Option, None, Some, refl, if◌then◌else◌, IfSome}
use Rattle.std.specs.Coded.{Coded, code_by, coded×, coded_list, coded_option, coded_ℕ}
use Rattle.std.specs.Option.{option_and_then, option_map, IsSome}
use Rattle.eval_step.specs.Evaluation.{Evaluation, IsSame}
use Rattle.serial_model.specs.Standing.{Closing, Ended, Going, Stage, Tasks, TreeTask}
use Rattle.serial_model.specs.Task.{Outcome, Value, Fault, Spent}
use Rattle.task_fork_join.specs.contracts.task.Task as task
use Rattle.task_fork_join.specs.contracts.task_end.TaskEnd as task_end
use Rattle.task_fork_join.specs.declared.task.Stage.{Stage as KeptStage}
use Rattle.task_fork_join.specs.declared.task.Stage.TheVariants as kept
use Rattle.task_fork_join.specs.declared.task.Task.{Task}
use Rattle.task_fork_join.specs.declared.task_end.TaskEnd.{TaskEnd}
use Rattle.task_fork_join.specs.declared.task_end.TaskEnd.TheVariants as end
use Rattle.task_fork_join.specs.Knowledge.{Covers, Knowledge, is_known, no_names}
use Rattle.txn_snapshot.specs.Laws.{in_tree}
use Rattle.txn_snapshot.specs.SnapshotTask.{SnapshotTask, new_task}
use Rattle.value_core.specs.declared.code.Code.TheVariants as code
use Rattle.value_core.specs.Futures.{holds_future}
use Rattle.value_core.specs.Named.{Name, Named, Rises, each_as, made_by, named}
use Rattle.value_core.specs.Place.{Spot}

-- The root's name; the tasks by name; the refs that they read from the store; the actor whose turn it is, where there is one;
-- the snapshot; the fuel of each task; and the end of a root whose value holds a future.
pub record Attempt : Type 0 where
  pub root : Name
  pub tasks : Named Task
  pub reads : List Name
  pub actor : Option Name
  pub snapshot : ℕ
  pub fuel : ℕ
  pub escape : TaskEnd

-- an attempt is stored as its parts
abbrev pub attempt_code : Coded Attempt
attempt_code =
    code_by (Name × (Named Task × (List Name × (Option Name × (ℕ × (ℕ × TaskEnd))))))
    (coded× (coded_list coded_ℕ) (coded× (coded_list (coded× (coded_list coded_ℕ) (task.the_row).coded)) (coded× (coded_list (coded_list coded_ℕ))
    (coded× (coded_option (coded_list coded_ℕ)) (coded× coded_ℕ (coded× coded_ℕ (task_end.the_row).coded))))))
    (λ a. (a.root, (a.tasks, (a.reads, (a.actor, (a.snapshot, (a.fuel, a.escape)))))))
    (λ p. record { root = p.0; tasks = p.1.0; reads = p.1.1.0; actor = p.1.1.1.0; snapshot = p.1.1.1.1.0; fuel = p.1.1.1.1.1.0; escape = p.1.1.1.1.1.1 })
    (λ _. refl)

-- how many levels of forks are below a task that is so many forks below the root
abbrev pub levels_below : ℕ → ℕ
levels_below depth = 16 - depth

-- an end as an outcome
abbrev pub outcome_of : TaskEnd → Outcome
outcome_of (end.Value v) = Value v
outcome_of (end.Fault code at) = Fault code at
outcome_of end.Spent = Spent

-- where a task is, in the model
abbrev pub stage_of : KeptStage → Stage
stage_of (kept.Going machine) = Going machine.body machine.values machine.answers
stage_of (kept.Closing closing) = Closing closing.value closing.next
stage_of (kept.Ended ended) = Ended (outcome_of ended)

-- a task, in the model
abbrev pub tree_task : Task → TreeTask
tree_task t = in_tree t.log (levels_below t.log.depth) t.knows.keys (stage_of t.stage)

-- the tasks, in the model
abbrev pub tasks_of : Named Task → Tasks
tasks_of tasks = each_as tree_task tasks

-- the machine that is kept there
abbrev pub machine_at : KeptStage → Option Evaluation
machine_at (kept.Going machine) = Some machine
machine_at (kept.Closing closing) = Some closing.machine
machine_at (kept.Ended ended) = None

-- the machine of a task that has not ended
abbrev pub going : Task → Option Evaluation
going t = machine_at t.stage

-- the machine of the task of that name, where it has not finished
abbrev pub machine_of : Attempt → Name → Option Evaluation
machine_of tree name = option_and_then going (named name tree.tasks)

-- how a task ended
abbrev pub end_of : KeptStage → Option TaskEnd
end_of (kept.Going machine) = None
end_of (kept.Closing closing) = None
end_of (kept.Ended ended) = Some ended

-- the end of a root, which is that other one where its value holds a future
abbrev pub unless_escaping : TaskEnd → TaskEnd → TaskEnd
unless_escaping escape (end.Value v) = if holds_future v then escape else end.Value v
unless_escaping escape (end.Fault code at) = end.Fault code at
unless_escaping escape end.Spent = end.Spent

-- how an attempt ended whose root is there
abbrev pub end_by : TaskEnd → Option TaskEnd → Option TaskEnd
end_by escape None = None
end_by escape (Some ended) = Some (unless_escaping escape ended)

-- how the attempt ended
abbrev pub end_at : Attempt → Option TaskEnd
end_at tree = end_by tree.escape (option_and_then (λ t. end_of t.stage) (named tree.root tree.tasks))

-- the machine of a task that has not ended is inside a transaction
abbrev pub IsInside : KeptStage → Type 0
IsInside (kept.Going machine) = machine.inside ≡ true
IsInside (kept.Closing closing) = closing.machine.inside ≡ true
IsInside (kept.Ended ended) = Unit {0}

-- what is known there of the tasks: a task that is known covers what is known, but for what it came to know itself
abbrev pub IsKin : Named Task → Knowledge → Type 0
IsKin tasks knows = (m : Name) (c : Task) → is_known knows m ≡ true → named m tasks ≡ Some c → Covers knows c.knows

-- the tasks that are known are there
abbrev pub IsOfTasks : Named Task → Knowledge → Type 0
IsOfTasks tasks knows = (g : Name) → is_known knows g ≡ true → IsSome (named g tasks)

-- so it is with what each task knows
pub record AreKin (tasks : Named Task) : Type 0 where
  pub there : (name : Name) (t : Task) → named name tasks ≡ Some t → IsOfTasks tasks t.knows
  pub kin : (name : Name) (t : Task) → named name tasks ≡ Some t → IsKin tasks t.knows

-- the tasks of an attempt: the root is there; all that have not ended are inside a transaction; what they know is of one another; and their
-- names rise
pub record AreTasks (root : Name) (tasks : Named Task) : Type 0 where
  pub rooted : IsSome (named root tasks)
  pub inside : (name : Name) (t : Task) → named name tasks ≡ Some t → IsInside t.stage
  pub kin : AreKin tasks
  pub rises : Rises tasks

-- the task of that name has not finished, and its machine evaluates the same as this one and has the same answers
pub record IsKept (name : Name) (moved : Evaluation) (tasks : Named Task) : Type 0 where
  pub task : Task
  pub there : named name tasks ≡ Some task
  pub machine : Evaluation
  pub going : machine_at task.stage ≡ Some machine
  pub same : IsSame machine moved

-- that is the log of the root
abbrev pub IsRootLog : Attempt → SnapshotTask → Type 0
IsRootLog tree log = IfSome (named tree.root tree.tasks) (λ t. log ≡ t.log)

-- a root's task alone, which that machine evaluates
pub record IsRootAlone (root : Name) (actor : Option Name) (machine : Evaluation) (tasks : Named Task) : Type 0 where
  pub task : Task
  pub tasks_are : tasks ≡ (root, task) ∷ []
  pub log_is : task.log ≡ new_task root [] 0 actor
  pub knows_none : task.knows ≡ no_names
  pub goes : task.stage ≡ kept.Going machine

-- an attempt of its root alone, whose dosync stands at that place
pub record IsNew (root : Name) (machine : Evaluation) (actor : Option Name) (snapshot fuel : ℕ) (at : Spot) (tree : Attempt) : Type 0 where
  pub alone : IsRootAlone root actor machine tree.tasks
  pub root_is : tree.root ≡ root
  pub none_read : tree.reads ≡ []
  pub actor_is : tree.actor ≡ actor
  pub snapshot_is : tree.snapshot ≡ snapshot
  pub fuel_is : tree.fuel ≡ fuel
  pub escape_is : tree.escape ≡ end.Fault code.FutureEscapes at

-- the names of the tasks
abbrev pub names_in : Named Task → List Name
names_in [] = []
names_in (e ∷ es) = e.0 ∷ names_in es

-- the name of the next thing that a task makes
abbrev pub next_made_at : Attempt → Name → Option Name
next_made_at tree task = option_map (λ (t : Task). made_by t.log.log.name t.log.log.made) (named task tree.tasks)
