-- A transaction on one store. A child is a call where it is forked: it sees what its parent sees there, and nothing that
-- comes later.
use Rattle.std.specs.Prelude.{ℕ, zero, suc, true, List, [], ◌∷◌, ◌++◌, Option, None, Some, if◌then◌else◌}
use Rattle.std.specs.Option.{option_or}
use Rattle.value_core.specs.Futures.{holds_future}
use Rattle.value_core.specs.Place.{Spot}
use Rattle.value_core.specs.declared.code.Code.{Code}
use Rattle.value_core.specs.declared.code.Code.TheVariants as code
use Rattle.value_core.specs.declared.value.Value.{Value as Datum}
use Rattle.value_core.specs.declared.value.Value.TheVariants as value
use Rattle.core_syntax.specs.declared.node_id.NodeId.{NodeId}
use Rattle.core_syntax.specs.Table.{Table}
use Rattle.serial_model.specs.declared.answer.Answer.{Answer}
use Rattle.serial_model.specs.declared.answer.Answer.TheVariants as answer
use Rattle.serial_model.specs.declared.effect.What.TheVariants as what
use Rattle.serial_model.specs.declared.halt.Halt.{Halt}
use Rattle.serial_model.specs.declared.halt.Halt.TheVariants as halt
use Rattle.serial_model.specs.declared.request.Request.{Request}
use Rattle.serial_model.specs.declared.request.Request.TheVariants as request
use Rattle.serial_model.specs.Ahead.{answer_ahead}
use Rattle.serial_model.specs.Eval.{next}
use Rattle.serial_model.specs.Log.{Log, new_log, with_effect, with_made, with_write, merged}
use Rattle.value_core.specs.Named.{Name, Named, named, over, same_name, is_among, made_by}

-- how a task ends: at its value, a fault, its spent budget, or where it asks for what is not there
pub data Outcome : Type 0 where
  Value : Datum → Outcome
  Fault : Code → Spot → Outcome
  Spent : Outcome
  Blocked : Outcome

-- the results of the tasks that a task knows: the future, how it ended, what it did, what it knew; and the others
pub data Known : Type 0 where
  Nothing : Known
  And : Name → Outcome → Log → Known → Known → Known

-- how a task ended, what it did, and what it knew
pub record Result : Type 0 where
  pub outcome : Outcome
  pub log : Log
  pub known : Known

abbrev pub result_of : Name → Known → Option Result
result_of future Nothing = None
result_of future (And name outcome log inner others) =
    if same_name name future then Some (record { outcome = outcome; log = log; known = inner }) else result_of future others

-- the results, and behind them these others
abbrev pub with_known : Known → Known → Known
with_known Nothing others = others
with_known (And name outcome log inner rest) others = And name outcome log inner (with_known rest others)

-- what the tasks of a transaction are run with: the program, the fuel of each, the turn's actor where there is one, the
-- refs now, and the values of the finished plain tasks
pub record Around : Type 0 where
  pub program : Table
  pub fuel : ℕ
  pub actor : Option Name
  pub store : Name → Option Datum
  pub finished : Name → Option Datum

-- where a task is: its answers so far, what it has done, and what it knows
pub record Here : Type 0 where
  pub answers : List Answer
  pub log : Log
  pub known : Known

-- it goes on, or it ends
pub data Moved : Type 0 where
  On : Here → Moved
  End : Outcome → Here → Moved

-- the task with that name and body, values and view, and these known results, as a call
abbrev pub Call : Type 0
Call = Name → NodeId → List Datum → Named Datum → Known → Result

-- the task has done this, and is answered so
abbrev pub replied : Here → Log → Answer → Moved
replied here log answer = On (record here { answers = here.answers ++ answer ∷ []; log = log })

abbrev pub gets : Here → Log → Datum → Moved
gets here log v = replied here log (answer.Value v)

-- a ref is read in the own writes, then in the view, then in the store; where it is nowhere the task is blocked
abbrev pub read_in : Around → Named Datum → Log → Name → Option Datum
read_in around view log ref = option_or (named ref log.writes) (option_or (named ref view) (around.store ref))

abbrev pub looks_up : Here → Option Datum → Moved
looks_up here None = End Blocked here
looks_up here (Some v) = gets here here.log v

-- the name of the next thing that the task makes
abbrev pub next_made : Here → Name
next_made here = made_by here.log.name here.log.made

-- a child's result is known, and the child is a thing made
abbrev pub with_child : Here → Name → Result → Moved
with_child here future child =
    gets (record here { known = And future child.outcome child.log child.known here.known }) (with_made here.log) (value.Future future)

-- a fork runs its child on the forking task's view now; where no level is left below the task it fails
abbrev pub forks : ℕ → Call → Named Datum → Here → NodeId → List Datum → Moved
forks zero call view here body values = replied here here.log (answer.Fault code.ForkTooDeep)
forks (suc levels) call view here body values =
    with_child here (next_made here) (call (next_made here) body values (over here.log.writes view) here.known)

-- the first join merges; a further one gives the value and merges nothing
abbrev pub after_join : Here → Name → Result → Here
after_join here future child =
    if is_among future here.log.joined then here
    else record here { log = merged here.log child.log; known = with_known here.known child.known }

-- what is done with a joined task's value; its fault, its spent budget and its wait are the joining task's own
abbrev pub joins : Here → Name → Result → Outcome → (Here → Datum → Moved) → Moved
joins here future child (Value v) go = go (after_join here future child) v
joins here future child (Fault code at) go = End (Fault code at) here
joins here future child Spent go = End Spent here
joins here future child Blocked go = End Blocked here

abbrev pub joins_found : Around → Here → Name → Option Result → Moved
joins_found around here future None = looks_up here (around.finished future)
joins_found around here future (Some child) = joins here future child child.outcome (λ after v. gets after after.log v)

-- what is done in a turn alone
abbrev pub if_turn : Option Name → Log → Log → Log
if_turn None log after = log
if_turn (Some actor) log after = after

-- what a request adds to what the task has done, where that rests on nothing else
abbrev pub done_by : Option Name → Log → Request → Log
done_by actor log (request.Print text) = with_effect log (what.Bytes text)
done_by actor log (request.NewRef v) = with_made (with_write log (made_by log.name log.made) v)
done_by actor log (request.RefSet ref v) = with_write log ref v
done_by actor log (request.Spawn behaviour state) = with_made (with_effect log (what.Spawn (made_by log.name log.made) behaviour state))
done_by actor log (request.Send to message) = with_effect log (what.Send to message)
done_by actor log (request.Become behaviour state) = if_turn actor log (with_effect log (what.Become behaviour state))
done_by actor log _ = log

-- it has done this, and is given the answer that is known ahead
abbrev pub acts : Option Name → Here → Request → Moved
acts actor here asked = on (answer_ahead actor (next_made here) asked)
  where
    on : Option Answer → Moved
    on None = End Blocked here
    on (Some given) = replied here (done_by actor here.log asked) given

-- what a request is answered, and what it changes, with so many levels of forks below the task
abbrev pub asks : Around → ℕ → Call → Named Datum → Here → Request → Moved
asks around levels call view here (request.Deref ref) = looks_up here (read_in around view here.log ref)
asks around levels call view here (request.RefSet ref v) = gets here (done_by around.actor here.log (request.RefSet ref v)) v
asks around levels call view here (request.Fork body values) = forks levels call view here body values
asks around levels call view here (request.Join future) = joins_found around here future (result_of future here.known)
asks around levels call view here (request.Dosync body values) = End Blocked here
asks around levels call view here asked = acts around.actor here asked

-- the own child with that number, where it is one that is not joined
abbrev pub unjoined : Here → Name → Option Result
unjoined here future = if is_among future here.log.joined then None else result_of future here.known

-- an own child is joined, where it is one that is not joined yet
abbrev pub joins_child : Here → Name → Option Result → Moved
joins_child here future None = On here
joins_child here future (Some child) = joins here future child child.outcome (λ after joined. On after)

-- the child with that number is joined
abbrev pub closes_child : Here → ℕ → Moved
closes_child here k = joins_child here (made_by here.log.name k) (unjoined here (made_by here.log.name k))

-- where a task went on it goes on so
abbrev pub then_moves : Moved → (Here → Moved) → Moved
then_moves (On here) go = go here
then_moves (End outcome here) go = End outcome here

-- at its value a task joins its own children that it has not joined, one by one, in the order of their forks: so many from
-- the k-th on
abbrev pub closes : Datum → ℕ → ℕ → Here → Moved
closes v k zero here = End (Value v) here
closes v k (suc n) here = then_moves (closes_child here k) (λ after. closes v (suc k) n after)

-- what the task does where its body stands so
abbrev pub goes : Around → ℕ → Call → Named Datum → Here → Halt → Moved
goes around levels call view here (halt.Ask request at) = asks around levels call view here request
goes around levels call view here (halt.Value v) = closes v 0 here.log.made here
goes around levels call view here (halt.Fault code at) = End (Fault code at) here
goes around levels call view here halt.Spent = End Spent here

-- what the task does next
abbrev pub task_step : Around → ℕ → Call → NodeId → List Datum → Named Datum → Here → Moved
task_step around levels call body values view here =
    goes around levels call view here (next around.program body values true here.answers around.fuel)

-- how a task ended, or what comes of its going on
abbrev pub follows : Moved → (Here → Result) → Result
follows (On here) go = go here
follows (End outcome here) go = record { outcome = outcome; log = here.log; known = here.known }

-- So many steps. Each request costs a node, so a task never has more than its fuel and one: `steps_suffice` of the proofs
-- says that the bound is never met.
unfoldable pub turns : Around → ℕ → Call → NodeId → List Datum → Named Datum → ℕ → Here → Result
turns around levels call body values view zero here = record { outcome = Spent; log = here.log; known = here.known }
turns around levels call body values view (suc n) here =
    follows (task_step around levels call body values view here) (λ after. turns around levels call body values view n after)

abbrev pub fresh : Name → Known → Here
fresh name known = record { answers = []; log = new_log name; known = known }

-- where no level is left below a task, no child is called
abbrev pub uncalled : Call
uncalled name body values view known = record { outcome = Blocked; log = new_log name; known = known }

-- a task with so many levels of forks below it
unfoldable pub task : Around → ℕ → Call
task around zero name body values view known = turns around zero uncalled body values view (suc around.fuel) (fresh name known)
task around (suc levels) name body values view known =
    turns around (suc levels) (λ name body values view known. task around levels name body values view known) body values view (suc around.fuel) (fresh name known)

-- the root task of a transaction, with 16 levels of forks below it
abbrev pub root_task : Around → Name → NodeId → List Datum → Result
root_task around name body values = task around 16 name body values [] Nothing

-- a root's value that holds a future is a fault, at the place of the dosync
abbrev pub root_outcome : Spot → Outcome → Outcome
root_outcome at (Value v) = if holds_future v then Fault code.FutureEscapes at else Value v
root_outcome at (Fault code place) = Fault code place
root_outcome at Spent = Spent
root_outcome at Blocked = Blocked

-- a transaction, whose dosync stands at that place
abbrev pub transaction : Around → Name → Spot → NodeId → List Datum → Result
transaction around name at body values =
    let root = root_task around name body values in record root { outcome = root_outcome at root.outcome }
