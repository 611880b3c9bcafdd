-- Each answer that an evaluation takes, and each request that it stops at, costs a unit of fuel.
use Rattle.std.proofs.Common.{◌≡◌, ℕ, zero, suc, ◌+◌, ◌<◌, ◌≤◌, Bool, true, false, List, [], ◌∷◌, ◌++◌, length, subst, arith}
use Rattle.std.specs.Prelude.{◌==◌, Option, None, Some, if◌then◌else◌}
use Rattle.std.specs.List.{slice_get}
use Rattle.value_core.specs.Place.{Spot}
use Rattle.value_core.specs.declared.value.Value.{Value}
use Rattle.value_core.specs.declared.value.Value.TheVariants as value
use Rattle.value_core.specs.primitives.Kinds.{is_false}
use Rattle.core_syntax.specs.declared.function.Function.{Function}
use Rattle.core_syntax.specs.declared.node.Node.{Node}
use Rattle.core_syntax.specs.declared.node.Node.TheVariants as node
use Rattle.core_syntax.specs.declared.node_id.NodeId.{NodeId}
use Rattle.core_syntax.specs.declared.row.Row.{Row}
use Rattle.core_syntax.specs.declared.step.Step.{Step}
use Rattle.core_syntax.specs.Table.{Table}
use Rattle.serial_model.specs.declared.answer.Answer.{Answer}
use Rattle.serial_model.specs.declared.answer.Answer.TheVariants as answer
use Rattle.serial_model.specs.declared.halt.Halt.{Halt}
use Rattle.serial_model.specs.declared.halt.Halt.TheVariants as halt
use Rattle.serial_model.specs.declared.request.Request.{Request}
use Rattle.serial_model.specs.Eval.{Out, Got, Stop, Next, Evals, then_go, ask, each, in_turn, bind, choose, call, come, by_arguments, dosync, level, unguarded, enter, eval, run_steps, turn, begin, begin_at, end_of, guarded_out, next}
use Rattle.serial_model.specs.Operation.{Action, Gives, Faults, Asks, Calls, arguments, operate}

abbrev HaltCosts : ℕ → ℕ → Halt → Type 0
HaltCosts most taken (halt.Ask asked at) = taken < most
HaltCosts most taken _ = Unit {0}

-- from so much fuel and these answers on, no more answers were taken than fuel was spent, but for so many
abbrev Costs : ℕ → ℕ → List Answer → Out → Type 0
Costs more fuel answers (Got v left rest) = length answers + left ≤ length rest + fuel + more
Costs more fuel answers (Stop halt) = HaltCosts (fuel + more) (length answers) halt

abbrev EvalCosts : Evals → Type 0
EvalCosts ev = (frame : List Value) (id : NodeId) (fuel : ℕ) (answers : List Answer) → Costs 0 fuel answers (ev frame id fuel answers)

-- what is spent behind what was spent before
behind : (more fuel : ℕ) (answers : List Answer) (left : ℕ) (rest : List Answer) (out : Out) → length answers + left ≤ length rest + fuel
    → Costs more left rest out → Costs more fuel answers out
behind more fuel answers left rest (Got v last others) before after = omega arith
behind more fuel answers left rest (Stop (halt.Ask asked at)) before after = omega arith
behind more fuel answers left rest (Stop (halt.Value v)) before after = tt
behind more fuel answers left rest (Stop (halt.Fault code at)) before after = tt
behind more fuel answers left rest (Stop halt.Spent) before after = tt

-- what costs no more costs no more than one more
one_more : (fuel : ℕ) (answers : List Answer) (out : Out) → Costs 0 fuel answers out → Costs 1 fuel answers out
one_more fuel answers (Got v last others) costs = omega arith
one_more fuel answers (Stop (halt.Ask asked at)) costs = omega arith
one_more fuel answers (Stop (halt.Value v)) costs = tt
one_more fuel answers (Stop (halt.Fault code at)) costs = tt
one_more fuel answers (Stop halt.Spent) costs = tt

-- the unit that entering costs
entered : (fuel : ℕ) (answers : List Answer) (out : Out) → Costs 1 fuel answers out → Costs 0 (suc fuel) answers out
entered fuel answers (Got v last others) costs = omega arith
entered fuel answers (Stop (halt.Ask asked at)) costs = omega arith
entered fuel answers (Stop (halt.Value v)) costs = tt
entered fuel answers (Stop (halt.Fault code at)) costs = tt
entered fuel answers (Stop halt.Spent) costs = tt

got_costs : (more : ℕ) (v : Value) (fuel : ℕ) (answers : List Answer) → Costs more fuel answers (Got v fuel answers)
got_costs more v fuel answers = omega arith

then_costs : (more fuel : ℕ) (answers : List Answer) (a : Out) (k : Next) → Costs 0 fuel answers a
    → ((v : Value) (fuel : ℕ) (answers : List Answer) → Costs more fuel answers (k v fuel answers)) → Costs more fuel answers (then_go a k)
then_costs more fuel answers (Got v left rest) k first after = behind more fuel answers left rest (k v left rest) (omega (arith, first)) (after v left rest)
then_costs more fuel answers (Stop (halt.Ask asked at)) k first after = omega (arith, first)
then_costs more fuel answers (Stop (halt.Value v)) k first after = tt
then_costs more fuel answers (Stop (halt.Fault code at)) k first after = tt
then_costs more fuel answers (Stop halt.Spent) k first after = tt

ask_costs : (asked : Request) (at : Spot) (fuel : ℕ) (answers : List Answer) → Costs 1 fuel answers (ask asked at fuel answers)
ask_costs asked at fuel [] = omega arith
ask_costs asked at fuel (answer.Value v ∷ answers) = omega arith
ask_costs asked at fuel (answer.Fault code ∷ answers) = tt

each_costs : (more : ℕ) (ev : Evals) → EvalCosts ev → (frame : List Value) (ids : List NodeId) (fuel : ℕ) (answers : List Answer) (k : List Value → ℕ → List Answer → Out)
    → ((values : List Value) (fuel : ℕ) (answers : List Answer) → Costs more fuel answers (k values fuel answers)) → Costs more fuel answers (each ev frame ids fuel answers k)
each_costs more ev costs frame [] fuel answers k after = after [] fuel answers
each_costs more ev costs frame (id ∷ ids) fuel answers k after =
    then_costs more fuel answers (ev frame id fuel answers) (λ v fuel answers. each ev frame ids fuel answers (λ values. k (v ∷ values))) (costs frame id fuel answers)
    (λ v fuel answers. each_costs more ev costs frame ids fuel answers (λ values. k (v ∷ values)) (λ values. after (v ∷ values)))

in_turn_costs : (ev : Evals) → EvalCosts ev → (frame : List Value) (ids : List NodeId) (fuel : ℕ) (answers : List Answer) → Costs 0 fuel answers (in_turn ev frame ids fuel answers)
in_turn_costs ev costs frame [] fuel answers = got_costs 0 value.Nil fuel answers
in_turn_costs ev costs frame (id ∷ []) fuel answers = costs frame id fuel answers
in_turn_costs ev costs frame (id ∷ next ∷ ids) fuel answers =
    then_costs 0 fuel answers (ev frame id fuel answers) (λ v fuel answers. in_turn ev frame (next ∷ ids) fuel answers) (costs frame id fuel answers)
    (λ v fuel answers. in_turn_costs ev costs frame (next ∷ ids) fuel answers)

bind_costs : (ev : Evals) → EvalCosts ev → (frame : List Value) (ids : List NodeId) (body : NodeId) (fuel : ℕ) (answers : List Answer) → Costs 0 fuel answers (bind ev frame ids body fuel answers)
bind_costs ev costs frame [] body fuel answers = costs frame body fuel answers
bind_costs ev costs frame (id ∷ ids) body fuel answers =
    then_costs 0 fuel answers (ev frame id fuel answers) (λ v fuel answers. bind ev (frame ++ v ∷ []) ids body fuel answers) (costs frame id fuel answers)
    (λ v fuel answers. bind_costs ev costs (frame ++ v ∷ []) ids body fuel answers)

choose_costs : (ev : Evals) → EvalCosts ev → (frame : List Value) (chosen : Bool) (taken other : NodeId) (fuel : ℕ) (answers : List Answer) → Costs 0 fuel answers (choose ev frame chosen taken other fuel answers)
choose_costs ev costs frame true taken other fuel answers = costs frame other fuel answers
choose_costs ev costs frame false taken other fuel answers = costs frame taken fuel answers

call_costs : (ev : Evals) → EvalCosts ev → (found : Option Function) (frame : List Value) (fuel : ℕ) (answers : List Answer) → Costs 0 fuel answers (call ev found frame fuel answers)
call_costs ev costs None frame fuel answers = got_costs 0 value.Nil fuel answers
call_costs ev costs (Some f) frame fuel answers = costs frame f.body fuel answers

come_costs : (table : Table) (ev : Evals) → EvalCosts ev → (at : Spot) (outcome : Action) (fuel : ℕ) (answers : List Answer) → Costs 1 fuel answers (come table ev at outcome fuel answers)
come_costs table ev costs at (Gives v) fuel answers = got_costs 1 v fuel answers
come_costs table ev costs at (Faults code) fuel answers = tt
come_costs table ev costs at (Asks asked) fuel answers = ask_costs asked at fuel answers
come_costs table ev costs at (Calls number frame) fuel answers =
    one_more fuel answers (call ev (slice_get table.functions number) frame fuel answers) (call_costs ev costs (slice_get table.functions number) frame fuel answers)

by_arguments_costs : (table : Table) (ev : Evals) → EvalCosts ev → (frame : List Value) (at : Spot) (n : Node) (fuel : ℕ) (answers : List Answer) → Costs 1 fuel answers (by_arguments table ev frame at n fuel answers)
by_arguments_costs table ev costs frame at n fuel answers =
    each_costs 1 ev costs frame (arguments n) fuel answers (λ values. come table ev at (operate frame n values)) (λ values fuel answers. come_costs table ev costs at (operate frame n values) fuel answers)

transaction_costs : (table : Table) (inside : Bool) (ev : Evals) → EvalCosts ev → (frame : List Value) (at : Spot) (body : NodeId) (fuel : ℕ) (answers : List Answer) → Costs 1 fuel answers (dosync table inside ev frame at body fuel answers)
transaction_costs table true ev costs frame at body fuel answers = one_more fuel answers (ev frame body fuel answers) (costs frame body fuel answers)
transaction_costs table false ev costs frame at body fuel answers = by_arguments_costs table ev costs frame at (node.Dosync body) fuel answers

level_costs : (table : Table) (inside : Bool) (ev : Evals) → EvalCosts ev → (frame : List Value) (at : Spot) (n : Node) (fuel : ℕ) (answers : List Answer) → Costs 1 fuel answers (level table inside ev frame at n fuel answers)
level_costs table inside ev costs frame at (node.Do parts) fuel answers = one_more fuel answers (in_turn ev frame parts fuel answers) (in_turn_costs ev costs frame parts fuel answers)
level_costs table inside ev costs frame at (node.If condition taken other) fuel answers =
    then_costs 1 fuel answers (ev frame condition fuel answers) (λ v fuel answers. choose ev frame (is_false v) taken other fuel answers) (costs frame condition fuel answers)
    (λ v fuel answers. one_more fuel answers (choose ev frame (is_false v) taken other fuel answers) (choose_costs ev costs frame (is_false v) taken other fuel answers))
level_costs table inside ev costs frame at (node.Let bound body) fuel answers = one_more fuel answers (bind ev frame bound body fuel answers) (bind_costs ev costs frame bound body fuel answers)
level_costs table inside ev costs frame at (node.Dosync body) fuel answers = transaction_costs table inside ev costs frame at body fuel answers
level_costs table inside ev costs frame at node.Nil fuel answers = by_arguments_costs table ev costs frame at node.Nil fuel answers
level_costs table inside ev costs frame at (node.Bool b) fuel answers = by_arguments_costs table ev costs frame at (node.Bool b) fuel answers
level_costs table inside ev costs frame at (node.Int k) fuel answers = by_arguments_costs table ev costs frame at (node.Int k) fuel answers
level_costs table inside ev costs frame at (node.Str text) fuel answers = by_arguments_costs table ev costs frame at (node.Str text) fuel answers
level_costs table inside ev costs frame at (node.Kw name) fuel answers = by_arguments_costs table ev costs frame at (node.Kw name) fuel answers
level_costs table inside ev costs frame at (node.Local place) fuel answers = by_arguments_costs table ev costs frame at (node.Local place) fuel answers
level_costs table inside ev costs frame at (node.Vector items) fuel answers = by_arguments_costs table ev costs frame at (node.Vector items) fuel answers
level_costs table inside ev costs frame at (node.Map parts) fuel answers = by_arguments_costs table ev costs frame at (node.Map parts) fuel answers
level_costs table inside ev costs frame at (node.Call number hidden written) fuel answers = by_arguments_costs table ev costs frame at (node.Call number hidden written) fuel answers
level_costs table inside ev costs frame at (node.Op op written) fuel answers = by_arguments_costs table ev costs frame at (node.Op op written) fuel answers
level_costs table inside ev costs frame at (node.Println written) fuel answers = by_arguments_costs table ev costs frame at (node.Println written) fuel answers
level_costs table inside ev costs frame at (node.Ref content) fuel answers = by_arguments_costs table ev costs frame at (node.Ref content) fuel answers
level_costs table inside ev costs frame at (node.Deref cell) fuel answers = by_arguments_costs table ev costs frame at (node.Deref cell) fuel answers
level_costs table inside ev costs frame at (node.RefSet cell content) fuel answers = by_arguments_costs table ev costs frame at (node.RefSet cell content) fuel answers
level_costs table inside ev costs frame at (node.Fork body) fuel answers = by_arguments_costs table ev costs frame at (node.Fork body) fuel answers
level_costs table inside ev costs frame at (node.Join future) fuel answers = by_arguments_costs table ev costs frame at (node.Join future) fuel answers
level_costs table inside ev costs frame at (node.Spawn number hidden written) fuel answers = by_arguments_costs table ev costs frame at (node.Spawn number hidden written) fuel answers
level_costs table inside ev costs frame at (node.Become number hidden written) fuel answers = by_arguments_costs table ev costs frame at (node.Become number hidden written) fuel answers
level_costs table inside ev costs frame at (node.Send receiver message) fuel answers = by_arguments_costs table ev costs frame at (node.Send receiver message) fuel answers
level_costs table inside ev costs frame at node.SelfActor fuel answers = by_arguments_costs table ev costs frame at node.SelfActor fuel answers
level_costs table inside ev costs frame at (node.Turn takes body) fuel answers = by_arguments_costs table ev costs frame at (node.Turn takes body) fuel answers
level_costs table inside ev costs frame at (node.Main steps) fuel answers = by_arguments_costs table ev costs frame at (node.Main steps) fuel answers

enter_costs : (table : Table) (inside : Bool) (ev : Evals) → EvalCosts ev → (frame : List Value) (row : Option Row) (fuel : ℕ) (answers : List Answer) → Costs 0 fuel answers (enter unguarded table inside ev frame row fuel answers)
enter_costs table inside ev costs frame None zero answers = tt
enter_costs table inside ev costs frame (Some row) zero answers = tt
enter_costs table inside ev costs frame None (suc fuel) answers = entered fuel answers (Got value.Nil fuel answers) (got_costs 1 value.Nil fuel answers)
enter_costs table inside ev costs frame (Some row) (suc fuel) answers =
    entered fuel answers (level table inside ev frame row.at row.node fuel answers) (level_costs table inside ev costs frame row.at row.node fuel answers)

eval_costs : (table : Table) (inside : Bool) (depth : ℕ) → EvalCosts (eval unguarded table inside depth)
unfolding eval
eval_costs table inside zero = λ frame id fuel answers. tt
eval_costs table inside (suc depth) = λ frame id fuel answers.
    enter_costs table inside (λ frame id fuel answers. eval unguarded table inside depth frame id fuel answers) (eval_costs table inside depth) frame (slice_get table.nodes id.index) fuel answers

run_steps_costs : (ev : Evals) → EvalCosts ev → (frame : List Value) (steps : List Step) (fuel : ℕ) (answers : List Answer) → Costs 0 fuel answers (run_steps ev frame steps fuel answers)
run_steps_costs ev costs frame [] fuel answers = got_costs 0 value.Nil fuel answers
run_steps_costs ev costs frame (step ∷ steps) fuel answers =
    then_costs 0 fuel answers (ev frame step.node fuel answers) (λ v fuel answers. run_steps ev (if step.binds then frame ++ v ∷ [] else frame) steps fuel answers) (costs frame step.node fuel answers)
    (λ v fuel answers. run_steps_costs ev costs (if step.binds then frame ++ v ∷ [] else frame) steps fuel answers)

turn_costs : (ev : Evals) → EvalCosts ev → (values : List Value) (at : Spot) (fits : Bool) (body : NodeId) (fuel : ℕ) (answers : List Answer) → Costs 0 fuel answers (turn ev values at fits body fuel answers)
turn_costs ev costs values at true body fuel answers = costs values body fuel answers
turn_costs ev costs values at false body fuel answers = tt

begin_costs : (ev : Evals) → EvalCosts ev → (body : NodeId) (values : List Value) (at : Spot) (n : Node) (fuel : ℕ) (answers : List Answer) → Costs 0 fuel answers (begin ev body values at n fuel answers)
begin_costs ev costs body values at (node.Main steps) fuel answers = run_steps_costs ev costs values steps fuel answers
begin_costs ev costs body values at (node.Turn takes inner) fuel answers = turn_costs ev costs values at (length values == takes) inner fuel answers
begin_costs ev costs body values at node.Nil fuel answers = costs values body fuel answers
begin_costs ev costs body values at (node.Bool b) fuel answers = costs values body fuel answers
begin_costs ev costs body values at (node.Int k) fuel answers = costs values body fuel answers
begin_costs ev costs body values at (node.Str text) fuel answers = costs values body fuel answers
begin_costs ev costs body values at (node.Kw name) fuel answers = costs values body fuel answers
begin_costs ev costs body values at (node.Local place) fuel answers = costs values body fuel answers
begin_costs ev costs body values at (node.Vector items) fuel answers = costs values body fuel answers
begin_costs ev costs body values at (node.Map parts) fuel answers = costs values body fuel answers
begin_costs ev costs body values at (node.Do parts) fuel answers = costs values body fuel answers
begin_costs ev costs body values at (node.If condition taken other) fuel answers = costs values body fuel answers
begin_costs ev costs body values at (node.Let bound last) fuel answers = costs values body fuel answers
begin_costs ev costs body values at (node.Call number hidden written) fuel answers = costs values body fuel answers
begin_costs ev costs body values at (node.Op op written) fuel answers = costs values body fuel answers
begin_costs ev costs body values at (node.Println written) fuel answers = costs values body fuel answers
begin_costs ev costs body values at (node.Ref content) fuel answers = costs values body fuel answers
begin_costs ev costs body values at (node.Deref cell) fuel answers = costs values body fuel answers
begin_costs ev costs body values at (node.RefSet cell content) fuel answers = costs values body fuel answers
begin_costs ev costs body values at (node.Fork inner) fuel answers = costs values body fuel answers
begin_costs ev costs body values at (node.Join future) fuel answers = costs values body fuel answers
begin_costs ev costs body values at (node.Dosync inner) fuel answers = costs values body fuel answers
begin_costs ev costs body values at (node.Spawn number hidden written) fuel answers = costs values body fuel answers
begin_costs ev costs body values at (node.Become number hidden written) fuel answers = costs values body fuel answers
begin_costs ev costs body values at (node.Send receiver message) fuel answers = costs values body fuel answers
begin_costs ev costs body values at node.SelfActor fuel answers = costs values body fuel answers

out_costs : (table : Table) (body : NodeId) (values : List Value) (inside : Bool) (answers : List Answer) (fuel : ℕ) → Costs 0 fuel answers (guarded_out unguarded table body values inside answers fuel)
out_costs table body values inside answers fuel = on (slice_get table.nodes body.index)
  where
    on : (row : Option Row) → Costs 0 fuel answers (begin_at (eval unguarded table inside fuel) body values row fuel answers)
    on None = eval_costs table inside fuel values body fuel answers
    on (Some row) = begin_costs (eval unguarded table inside fuel) (eval_costs table inside fuel) body values row.at row.node fuel answers

abbrev IsNotAsking : Halt → Type 0
IsNotAsking (halt.Ask asked at) = ⊥
IsNotAsking _ = Unit {0}

-- where a body asks, it has been given fewer answers than it has fuel
pub ask_costs_fuel : (table : Table) (body : NodeId) (values : List Value) (inside : Bool) (answers : List Answer) (fuel : ℕ) (asked : Request) (at : Spot)
    → next table body values inside answers fuel ≡ halt.Ask asked at → length answers < fuel
unfolding next
ask_costs_fuel table body values inside answers fuel asked at is = on (guarded_out unguarded table body values inside answers fuel) (out_costs table body values inside answers fuel) is
  where
    on : (out : Out) → Costs 0 fuel answers out → end_of out ≡ halt.Ask asked at → length answers < fuel
    on (Got v left rest) costs same = absurd (subst IsNotAsking same tt)
    on (Stop end) costs same = let at_most = subst (HaltCosts (fuel + 0) (length answers)) same costs in omega arith
