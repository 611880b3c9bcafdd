-- Worked rows of whole runs, computed from the definitions.
use Rattle.std.proofs.Common.{◌≡◌, ℕ, pos, false, List, [], ◌∷◌, refl}
use Rattle.std.specs.Prelude.{Option, None, Some, codes}
use Rattle.std.specs.Fmt.{digits}
use Rattle.value_core.specs.declared.code.Code.TheVariants as code
use Rattle.value_core.specs.declared.value.Value as datum
use Rattle.value_core.specs.declared.value.Value.{Value}
use Rattle.value_core.specs.declared.value.Value.TheVariants as value
use Rattle.core_syntax.specs.declared.node.Node.{Node}
use Rattle.core_syntax.specs.declared.node.Node.TheVariants as node
use Rattle.core_syntax.specs.declared.node_id.NodeId.{NodeId}
use Rattle.core_syntax.specs.declared.row.Row.{Row}
use Rattle.core_syntax.specs.Table.{Table, finished}
use Rattle.serial_model.specs.declared.answer.Answer.{Answer}
use Rattle.serial_model.specs.declared.answer.Answer.TheVariants as answer
use Rattle.serial_model.specs.declared.end.End.TheVariants as end
use Rattle.serial_model.specs.declared.entry.Entry.{Entry}
use Rattle.serial_model.specs.declared.entry.Entry.TheVariants.{Run, Take}
use Rattle.serial_model.specs.declared.halt.Halt.TheVariants as halt
use Rattle.serial_model.specs.declared.request.Request.TheVariants as request
use Rattle.serial_model.specs.Eval.{next, eval}
use Rattle.serial_model.specs.First.{first_of}
use Rattle.value_core.specs.Named.{Name, Named}
use Rattle.serial_model.specs.Replay.{replay, replay_from}
use Rattle.serial_model.specs.State.{Setup, State, UnitState, main_name, opening}
use Rattle.serial_model.specs.Step.{step, ended}
use Rattle.serial_model.proofs.evaluation.Rows.{line_of_five}

-- a node at line 1 and that column
abbrev row : ℕ → Node → Row
row column node = record { node = node; at = record { line = 1; column = column } }

-- the node with that index
abbrev id : ℕ → NodeId
id index = record { index = index }

-- the program of these nodes, whose main has the last of them as its one step
abbrev program : ℕ → List Row → Table
program last nodes = finished nodes (record { node = id last; binds = false } ∷ []) [] 0 []

abbrev under : ℕ → ℕ → Table → Setup
under fuel units table = record { program = table; limits = record { fuel = fuel; units = units } }

-- a unit that is no turn, without values, that made so many things
abbrev unit : NodeId → List Answer → ℕ → Option Value → UnitState
unit body answers made done = record { actor = None; body = body; values = []; answers = answers; made = made; becomes = None; finished = done }

-- a state of units alone, of which so many were made
abbrev units_only : Named UnitState → List ℕ → ℕ → State
units_only units bytes made = record { refs = []; units = units; actors = []; queues = []; bytes = bytes; made = made; end = None }

abbrev run_main : Entry
run_main = Run main_name

-- `(println 5)`
abbrev printing : Table
printing = program 1 (row 10 (node.Int (pos 5)) ∷ row 1 (node.Println (id 0 ∷ [])) ∷ [])

asks_to_print : next printing (id 2) [] false [] 2 ≡ halt.Ask (request.Print (codes "5\n")) (record { line = 1; column = 1 })
unfolding next eval digits
asks_to_print = rw line_of_five refl

is_nil_after_print : next printing (id 2) [] false (answer.Value value.Nil ∷ []) 2 ≡ halt.Value value.Nil
unfolding next eval digits
is_nil_after_print = refl

-- its run has two entries: the print, and main's end
prints_and_ends : replay (under 2 1 printing) (run_main ∷ run_main ∷ [])
    ≡ Some (units_only ((main_name, unit (id 2) (answer.Value value.Nil ∷ []) 0 (Some value.Nil)) ∷ []) (codes "5\n") 1)
unfolding replay_from step
prints_and_ends = rw (asks_to_print, is_nil_after_print) refl

-- a finished unit is not run
ends_once : replay (under 2 1 printing) (run_main ∷ run_main ∷ run_main ∷ []) ≡ None
unfolding replay_from step
ends_once = rw (asks_to_print, is_nil_after_print) refl

-- with one unit of fuel the run ends at once, as spent
spends_its_fuel : replay (under 1 1 printing) (run_main ∷ []) ≡ Some (ended (opening (under 1 1 printing)) (end.Spent main_name))
unfolding replay_from step next eval digits
spends_its_fuel = refl

-- and after an end nothing is enabled
nothing_after_the_end : replay (under 1 1 printing) (run_main ∷ run_main ∷ []) ≡ None
unfolding replay_from step next eval digits
nothing_after_the_end = refl

-- `(join (fork 5))`
abbrev joining : Table
joining = program 2 (row 13 (node.Int (pos 5)) ∷ row 7 (node.Fork (id 0)) ∷ row 1 (node.Join (id 1)) ∷ [])

-- the task is the first thing that main makes
abbrev task_name : Name
task_name = 0 ∷ 0 ∷ []

-- the state after the fork, and the one after the task's end
abbrev forked : State
forked = units_only ((task_name, unit (id 0) [] 0 None) ∷ (main_name, unit (id 3) (answer.Value (value.Future task_name) ∷ []) 1 None) ∷ []) [] 2

abbrev done : State
done = units_only ((task_name, unit (id 0) [] 0 (Some (value.Int (pos 5)))) ∷ (main_name, unit (id 3) (answer.Value (value.Future task_name) ∷ []) 1 None) ∷ []) [] 2

forks : replay (under 9 2 joining) (run_main ∷ []) ≡ Some forked
unfolding replay_from step next eval
forks = refl

-- a join of a task that is not finished is not enabled
join_waits : replay (under 9 2 joining) (run_main ∷ run_main ∷ []) ≡ None
unfolding replay_from step next eval datum.out-Value denote.Hole.Carrier.out
join_waits = refl

task_ends : replay (under 9 2 joining) (run_main ∷ Run task_name ∷ []) ≡ Some done
unfolding replay_from step next eval
task_ends = refl

-- the whole run
joins_and_ends : replay (under 9 2 joining) (run_main ∷ Run task_name ∷ run_main ∷ run_main ∷ [])
    ≡ Some (units_only ((task_name, unit (id 0) [] 0 (Some (value.Int (pos 5))))
    ∷ (main_name, unit (id 3) (answer.Value (value.Future task_name) ∷ answer.Value (value.Int (pos 5)) ∷ []) 1 (Some value.Nil)) ∷ []) [] 2)
unfolding replay_from step next eval datum.out-Value denote.Hole.Carrier.out
joins_and_ends = refl

-- one thread runs the task before it goes on with main
task_is_first : first_of forked ≡ Some (Run task_name)
task_is_first = refl

main_is_next : first_of done ≡ Some run_main
main_is_next = refl

-- with one unit allowed the fork makes nothing, and the run ends
too_many_units : replay (under 9 1 joining) (run_main ∷ []) ≡ Some (ended (opening (under 9 1 joining)) end.UnitsSpent)
unfolding replay_from step next eval
too_many_units = refl

-- `(self)` in main is a fault, which ends the run with its place
abbrev selfish : Table
selfish = program 0 (row 7 node.SelfActor ∷ [])

faults_in_main : replay (under 9 1 selfish) (run_main ∷ [])
    ≡ Some (ended (opening (under 9 1 selfish)) (end.Fault code.NoTurn (record { line = 1; column = 7 }) main_name))
unfolding replay_from step next eval
faults_in_main = refl

-- no actor, no take
no_actor_takes : step (under 9 1 selfish) (opening (under 9 1 selfish)) (Take (0 ∷ 0 ∷ []) main_name) ≡ None
unfolding step
no_actor_takes = refl
