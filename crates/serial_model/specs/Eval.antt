-- What a body does next, after the answers that it has been given: a big-step evaluation in which each request takes the
-- next answer.
use Rattle.std.specs.Prelude.{ℕ, zero, suc, ◌==◌, Bool, true, false, if◌then◌else◌, List, [], ◌∷◌, ◌++◌, length, Option, None, Some}
use Rattle.std.specs.List.{slice_get}
use Rattle.value_core.specs.Place.{Spot}
use Rattle.value_core.specs.declared.code.Code.TheVariants as code
use Rattle.value_core.specs.declared.value.Value.{Value}
use Rattle.value_core.specs.declared.value.Value.TheVariants as value
use Rattle.value_core.specs.primitives.Kinds.{is_false}
use Rattle.core_syntax.specs.declared.function.Function.{Function}
use Rattle.core_syntax.specs.declared.node.Node.{Node}
use Rattle.core_syntax.specs.declared.node.Node.TheVariants as node
use Rattle.core_syntax.specs.declared.node_id.NodeId.{NodeId}
use Rattle.core_syntax.specs.declared.row.Row.{Row}
use Rattle.core_syntax.specs.declared.step.Step.{Step}
use Rattle.core_syntax.specs.Table.{Table}
use Rattle.serial_model.specs.declared.answer.Answer.{Answer}
use Rattle.serial_model.specs.declared.answer.Answer.TheVariants as answer
use Rattle.serial_model.specs.declared.halt.Halt.{Halt}
use Rattle.serial_model.specs.declared.halt.Halt.TheVariants as halt
use Rattle.serial_model.specs.declared.request.Request.{Request}
use Rattle.serial_model.specs.Operation.{Action, Gives, Faults, Asks, Calls, arguments, operate}

-- an evaluation comes to a value, with the fuel and the answers that are left, or it stops
pub data Out : Type 0 where
  Got : Value → ℕ → List Answer → Out
  Stop : Halt → Out

-- what is done with a value, the fuel and the answers
abbrev pub Next : Type 0
Next = Value → ℕ → List Answer → Out

-- the evaluation of a node in a frame, with so much fuel and these answers
abbrev pub Evals : Type 0
Evals = List Value → NodeId → ℕ → List Answer → Out

-- one evaluation, and then what is done with its value
abbrev pub then_go : Out → Next → Out
then_go (Got v fuel answers) next = next v fuel answers
then_go (Stop halt) next = Stop halt

-- a request takes the next answer. An answer that is a fault is a fault of the request's form
abbrev pub ask : Request → Spot → ℕ → List Answer → Out
ask request at fuel [] = Stop (halt.Ask request at)
ask request at fuel (answer.Value v ∷ answers) = Got v fuel answers
ask request at fuel (answer.Fault code ∷ answers) = Stop (halt.Fault code at)

-- the nodes one after another, from left to right, and then what is done with their values
abbrev pub each : Evals → List Value → List NodeId → ℕ → List Answer → (List Value → ℕ → List Answer → Out) → Out
each below frame [] fuel answers next = next [] fuel answers
each below frame (id ∷ ids) fuel answers next =
    then_go (below frame id fuel answers) (λ v fuel answers. each below frame ids fuel answers (λ values. next (v ∷ values)))

-- a do gives its last value, and nil where there is none
abbrev pub in_turn : Evals → List Value → List NodeId → ℕ → List Answer → Out
in_turn below frame [] fuel answers = Got value.Nil fuel answers
in_turn below frame (id ∷ []) fuel answers = below frame id fuel answers
in_turn below frame (id ∷ next ∷ ids) fuel answers =
    then_go (below frame id fuel answers) (λ v fuel answers. in_turn below frame (next ∷ ids) fuel answers)

-- a let binds each value for the later ones and for its body
abbrev pub bind : Evals → List Value → List NodeId → NodeId → ℕ → List Answer → Out
bind below frame [] body fuel answers = below frame body fuel answers
bind below frame (id ∷ ids) body fuel answers =
    then_go (below frame id fuel answers) (λ v fuel answers. bind below (frame ++ v ∷ []) ids body fuel answers)

-- an if goes to its second branch where its condition is nil or false
abbrev pub choose : Evals → List Value → Bool → NodeId → NodeId → ℕ → List Answer → Out
choose below frame true taken other fuel answers = below frame other fuel answers
choose below frame false taken other fuel answers = below frame taken fuel answers

-- a call evaluates the body of its function; one that is not there gives nil
abbrev pub call : Evals → Option Function → List Value → ℕ → List Answer → Out
call below None frame fuel answers = Got value.Nil fuel answers
call below (Some function) frame fuel answers = below frame function.body fuel answers

-- what an operation comes to, at the place of its form
abbrev pub come : Table → Evals → Spot → Action → ℕ → List Answer → Out
come table below at (Gives v) fuel answers = Got v fuel answers
come table below at (Faults code) fuel answers = Stop (halt.Fault code at)
come table below at (Asks request) fuel answers = ask request at fuel answers
come table below at (Calls number frame) fuel answers = call below (slice_get table.functions number) frame fuel answers

-- the arguments of a node from left to right, and then its operation
abbrev pub by_arguments : Table → Evals → List Value → Spot → Node → ℕ → List Answer → Out
by_arguments table below frame at node fuel answers =
    each below frame (arguments node) fuel answers (λ values. come table below at (operate frame node values))

-- a dosync is a do inside a transaction, and a request outside one
abbrev pub dosync : Table → Bool → Evals → List Value → Spot → NodeId → ℕ → List Answer → Out
dosync table true below frame at body fuel answers = below frame body fuel answers
dosync table false below frame at body fuel answers = by_arguments table below frame at (node.Dosync body) fuel answers

-- one level of an evaluation: what a node does, in or outside a transaction
abbrev pub level : Table → Bool → Evals → List Value → Spot → Node → ℕ → List Answer → Out
level table inside below frame at (node.Do parts) fuel answers = in_turn below frame parts fuel answers
level table inside below frame at (node.If condition taken other) fuel answers =
    then_go (below frame condition fuel answers) (λ v fuel answers. choose below frame (is_false v) taken other fuel answers)
level table inside below frame at (node.Let bound body) fuel answers = bind below frame bound body fuel answers
level table inside below frame at (node.Dosync body) fuel answers = dosync table inside below frame at body fuel answers
level table inside below frame at other fuel answers = by_arguments table below frame at other fuel answers

-- what stands between a node, in a frame of so many values, and its evaluation
abbrev pub Guard : Type 0
Guard = ℕ → Node → Out → Out

-- nothing does
abbrev pub unguarded : Guard
unguarded size node out = out

-- Entering a node costs one unit of fuel, before anything else. A node that is not there gives nil.
abbrev pub enter : Guard → Table → Bool → Evals → List Value → Option Row → ℕ → List Answer → Out
enter guard table inside below frame row zero answers = Stop halt.Spent
enter guard table inside below frame None (suc fuel) answers = Got value.Nil fuel answers
enter guard table inside below frame (Some row) (suc fuel) answers =
    guard (length frame) row.node (level table inside below frame row.at row.node fuel answers)

-- The evaluation of nodes so many levels deep. No evaluation goes deeper than its fuel, so that the bound is never met
-- where it is at least the fuel.
unfoldable pub eval : Guard → Table → Bool → ℕ → Evals
eval guard table inside zero frame id fuel answers = Stop halt.Spent
eval guard table inside (suc depth) frame id fuel answers =
    enter guard table inside (λ frame id fuel answers. eval guard table inside depth frame id fuel answers) frame (slice_get table.nodes id.index) fuel answers

-- main evaluates its steps in order, binds the values of those that bind, and gives nil
abbrev pub run_steps : Evals → List Value → List Step → ℕ → List Answer → Out
run_steps below frame [] fuel answers = Got value.Nil fuel answers
run_steps below frame (step ∷ steps) fuel answers =
    then_go (below frame step.node fuel answers) (λ v fuel answers. run_steps below (if step.binds then frame ++ v ∷ [] else frame) steps fuel answers)

-- a turn evaluates its body where it has as many values as it takes
abbrev pub turn : Evals → List Value → Spot → Bool → NodeId → ℕ → List Answer → Out
turn below values at true body fuel answers = below values body fuel answers
turn below values at false body fuel answers = Stop (halt.Fault code.MessageArity at)

-- A body begins in a frame of its values. Entering a main or a turn costs nothing.
abbrev pub begin : Evals → NodeId → List Value → Spot → Node → ℕ → List Answer → Out
begin below body values at (node.Main steps) fuel answers = run_steps below values steps fuel answers
begin below body values at (node.Turn takes inner) fuel answers = turn below values at (length values == takes) inner fuel answers
begin below body values at other fuel answers = below values body fuel answers

abbrev pub begin_at : Evals → NodeId → List Value → Option Row → ℕ → List Answer → Out
begin_at below body values None fuel answers = below values body fuel answers
begin_at below body values (Some row) fuel answers = begin below body values row.at row.node fuel answers

abbrev pub end_of : Out → Halt
end_of (Got v fuel answers) = halt.Value v
end_of (Stop halt) = halt

-- what a body comes to, guarded
abbrev pub guarded_out : Guard → Table → NodeId → List Value → Bool → List Answer → ℕ → Out
guarded_out guard table body values inside answers fuel =
    begin_at (eval guard table inside fuel) body values (slice_get table.nodes body.index) fuel answers

-- What the body does next: its value, a fault, the end of its fuel, or the first request that has no answer.
unfoldable pub next : Table → NodeId → List Value → Bool → List Answer → ℕ → Halt
next table body values inside answers fuel = end_of (guarded_out unguarded table body values inside answers fuel)
