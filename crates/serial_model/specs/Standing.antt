-- The tasks of an attempt in the middle of things, and what it means that they stand. No order of steps is in it.
use Rattle.std.specs.Prelude.{◌≡◌, ◌≤◌, ◌+◌, ◌||◌, ℕ, zero, suc, Bool, true, false, List, [], ◌∷◌, ◌++◌, length, is_some, Option, None, Some, if◌then◌else◌}
use Rattle.std.specs.Option.{IsSome}
use Rattle.value_core.specs.declared.value.Value.{Value as Datum}
use Rattle.core_syntax.specs.declared.node_id.NodeId.{NodeId}
use Rattle.core_syntax.specs.Table.{Table}
use Rattle.serial_model.specs.declared.answer.Answer.{Answer}
use Rattle.serial_model.specs.Log.{Log}
use Rattle.value_core.specs.Named.{Name, Named, named, is_among}
use Rattle.serial_model.specs.Task.{Around, Call, Here, Known, Moved, Outcome, Result, result_of, closes, follows, turns, uncalled, task, root_task}

-- where a task is: it goes on with its body after these answers; it has its value and joins its children from that number on; or it ended
pub data Stage : Type 0 where
  Going : NodeId → List Datum → List Answer → Stage
  Closing : Datum → ℕ → Stage
  Ended : Outcome → Stage

-- A task of a tree: the levels of forks below it, the view that it was forked with, the futures whose results it knows, what it
-- has done, and where it is.
pub record TreeTask : Type 0 where
  pub levels : ℕ
  pub view : Named Datum
  pub knows : List Name
  pub log : Log
  pub stage : Stage

abbrev pub Tasks : Type 0
Tasks = Named TreeTask

abbrev pub here_of : List Answer → Log → Known → Here
here_of answers log known = record { answers = answers; log = log; known = known }

abbrev pub result : Outcome → Log → Known → Result
result outcome log known = record { outcome = outcome; log = log; known = known }

-- what a task with so many levels of forks below it calls where it forks
abbrev pub call_below : Around → ℕ → Call
call_below around zero = uncalled
call_below around (suc levels) = λ name body values view known. task around levels name body values view known

-- the known results are those of the tasks of these names
abbrev pub Matches : (Name → Result) → List Name → Known → Type 0
Matches results names known = (future : Name) → result_of future known ≡ (if is_among future names then Some (results future) else None)

-- from its body, after the answers that were given, it comes to that
pub record Turning (around : Around) (levels : ℕ) (call : Call) (body : NodeId) (values : List Datum) (view : Named Datum) (here : Here) (whole : Result) : Type 0 where
  pub left : ℕ
  pub within : length here.answers + left ≡ around.fuel
  pub rest : turns around levels call body values view (suc left) here ≡ whole

-- from the joins of its children at its end it comes to that
pub record Joining (v : Datum) (k : ℕ) (log : Log) (known : Known) (whole : Result) : Type 0 where
  pub answers : List Answer
  pub left : ℕ
  pub go : Here → Result
  pub within : k + left ≡ log.made
  pub rest : follows (closes v k left (here_of answers log known)) go ≡ whole

abbrev pub Comes : Around → ℕ → Named Datum → Log → Known → Stage → Result → Type 0
Comes around levels view log known (Going body values answers) whole = Turning around levels (call_below around levels) body values view (here_of answers log known) whole
Comes around levels view log known (Closing v k) whole = Joining v k log known whole
Comes around levels view log known (Ended outcome) whole = result outcome log known ≡ whole

-- A task stands: from where it is it comes to the result of its own call, whatever the other tasks do.
pub record IsAt (around : Around) (results : Name → Result) (name : Name) (t : TreeTask) : Type 0 where
  pub known : Known
  pub matches : Matches results t.knows known
  pub comes : Comes around t.levels t.view t.log known t.stage (results name)

-- a task has its name, knows tasks of the tree, and what it has yet to make is not there, nor anything below that
pub record IsFormed (there : Name → Bool) (name : Name) (t : TreeTask) : Type 0 where
  pub named_so : t.log.name ≡ name
  pub knows_there : (future : Name) → is_among future t.knows ≡ true → there future ≡ true
  pub unmade : (k : ℕ) (rest : List ℕ) → t.log.made ≤ k → there (name ++ k ∷ rest) ≡ false

abbrev pub is_there : Tasks → Name → Bool
is_there tasks name = is_some (named name tasks)

-- what holds of each task
abbrev pub EachTask : (Name → TreeTask → Type 0) → Tasks → Type 0
EachTask P tasks = (name : Name) (t : TreeTask) → named name tasks ≡ Some t → P name t

abbrev pub AreFormed : Tasks → Type 0
AreFormed tasks = EachTask (IsFormed (is_there tasks)) tasks

-- a transaction: its program, the fuel of each task, the turn's actor, and its root's name, body and values
pub record Start : Type 0 where
  pub program : Table
  pub fuel : ℕ
  pub actor : Option Name
  pub name : Name
  pub body : NodeId
  pub values : List Datum

-- the tasks stand for the transaction that is run with that
pub record StandFor (start : Start) (around : Around) (tasks : Tasks) : Type 0 where
  pub results : Name → Result
  pub at : EachTask (IsAt around results) tasks
  pub root : results start.name ≡ root_task around start.name start.body start.values

-- it is run on that program, agrees with these refs on the names that were read, and has these finished plain tasks
pub record Agrees (start : Start) (base : Name → Option Datum) (reads : List Name) (finished : Name → Option Datum) (around : Around) : Type 0 where
  pub program : around.program ≡ start.program
  pub fuel : around.fuel ≡ start.fuel
  pub actor : around.actor ≡ start.actor
  pub store : (ref : Name) → is_among ref reads ≡ true → around.store ref ≡ base ref
  pub finished_so : (future : Name) (v : Datum) → finished future ≡ Some v → around.finished future ≡ Some v

-- The tasks run that transaction on these refs: they stand for it with whatever agrees on what was read.
pub record Runs (start : Start) (base : Name → Option Datum) (finished : Name → Option Datum) (tasks : Tasks) (reads : List Name) : Type 0 where
  pub formed : AreFormed tasks
  pub rooted : is_there tasks start.name ≡ true
  pub stand : (around : Around) → Agrees start base reads finished around → StandFor start around tasks
