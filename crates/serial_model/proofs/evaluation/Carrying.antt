-- What holds of the values that an evaluation begins with and is answered, and of the requests that its operations make,
-- holds of all that it comes to.
use Rattle.std.proofs.Common.{◌≡◌, ℕ, zero, suc, Bool, true, false, List, [], ◌∷◌, ◌++◌, refl}
use Rattle.std.specs.Prelude.{◌==◌, if◌then◌else◌, length, Option, None, Some, All}
use Rattle.std.specs.List.{slice_get}
use Rattle.std.proofs.lemmas.List.Elements.{All-nil, All-cons, All-head, All-tail, All-push}
use Rattle.value_core.specs.Place.{Spot}
use Rattle.value_core.specs.declared.value.Value.{Value}
use Rattle.value_core.specs.declared.value.Value.TheVariants as value
use Rattle.value_core.specs.primitives.Kinds.{is_false}
use Rattle.core_syntax.specs.declared.function.Function.{Function}
use Rattle.core_syntax.specs.declared.node.Node.{Node}
use Rattle.core_syntax.specs.declared.node.Node.TheVariants as node
use Rattle.core_syntax.specs.declared.node_id.NodeId.{NodeId}
use Rattle.core_syntax.specs.declared.row.Row.{Row}
use Rattle.core_syntax.specs.declared.step.Step.{Step}
use Rattle.core_syntax.specs.Table.{Table}
use Rattle.serial_model.specs.declared.answer.Answer.{Answer}
use Rattle.serial_model.specs.declared.answer.Answer.TheVariants as answer
use Rattle.serial_model.specs.declared.halt.Halt.{Halt}
use Rattle.serial_model.specs.declared.halt.Halt.TheVariants as halt
use Rattle.serial_model.specs.declared.request.Request.{Request}
use Rattle.serial_model.specs.Carried.{OfAnswer}
use Rattle.serial_model.specs.Eval.{Out, Got, Stop, Next, Evals, then_go, ask, each, in_turn, bind, choose, call, come, by_arguments, dosync, level, unguarded, enter, eval, run_steps, turn, begin, begin_at, end_of, guarded_out, next}
use Rattle.serial_model.specs.Operation.{Action, Gives, Faults, Asks, Calls, arguments, operate}

-- P holds of the values, and Q of the requests
abbrev pub HaltCarries : (Value → Type 0) → (Request → Type 0) → Halt → Type 0
HaltCarries P Q (halt.Ask asked at) = Q asked
HaltCarries P Q (halt.Value v) = P v
HaltCarries P Q (halt.Fault code at) = Unit {0}
HaltCarries P Q halt.Spent = Unit {0}

abbrev pub OutcomeCarries : (Value → Type 0) → (Request → Type 0) → Action → Type 0
OutcomeCarries P Q (Gives v) = P v
OutcomeCarries P Q (Faults code) = Unit {0}
OutcomeCarries P Q (Asks asked) = Q asked
OutcomeCarries P Q (Calls number frame) = All P frame

-- what is left of the answers is as good as they were
pub record GotCarries (P : Value → Type 0) (v : Value) (answers : List Answer) : Type 0 where
  pub value : P v
  pub rest : All (OfAnswer P) answers

abbrev pub Carries : (Value → Type 0) → (Request → Type 0) → Out → Type 0
Carries P Q (Got v fuel answers) = GotCarries P v answers
Carries P Q (Stop halt) = HaltCarries P Q halt

-- a dosync asks for something only outside a transaction
abbrev pub IsEntered : Bool → Node → Type 0
IsEntered inside (node.Dosync body) = inside ≡ false
IsEntered inside _ = Unit {0}

-- nil is good, and good values make the operation of each node of the table good
pub record Operates (P : Value → Type 0) (Q : Request → Type 0) (table : Table) (inside : Bool) : Type 0 where
  pub nil : P value.Nil
  pub operation : (id : ℕ) (row : Row) → slice_get table.nodes id ≡ Some row → IsEntered inside row.node
      → (frame values : List Value) → All P frame → All P values → OutcomeCarries P Q (operate frame row.node values)

-- the evaluation of nodes in good frames, with good answers, is good
pub record EvalsCarry (P : Value → Type 0) (Q : Request → Type 0) (ev : Evals) : Type 0 where
  pub at : (frame : List Value) (id : NodeId) (fuel : ℕ) (answers : List Answer) → All P frame → All (OfAnswer P) answers → Carries P Q (ev frame id fuel answers)

module _ (P : Value → Type 0) (Q : Request → Type 0) where
  got : (v : Value) (fuel : ℕ) (answers : List Answer) → P v → All (OfAnswer P) answers → Carries P Q (Got v fuel answers)
  got v fuel answers holds good = record { value = holds; rest = good }

  then_go-carries : (out : Out) (k : Next) → Carries P Q out
      → ((v : Value) (fuel : ℕ) (answers : List Answer) → P v → All (OfAnswer P) answers → Carries P Q (k v fuel answers)) → Carries P Q (then_go out k)
  then_go-carries (Got v fuel answers) k first after = after v fuel answers first.value first.rest
  then_go-carries (Stop halt) k first after = first

  ask-carries : (asked : Request) (at : Spot) (fuel : ℕ) (answers : List Answer) → Q asked → All (OfAnswer P) answers → Carries P Q (ask asked at fuel answers)
  ask-carries asked at fuel [] holds good = holds
  ask-carries asked at fuel (answer.Value v ∷ answers) holds good =
      got v fuel answers (All-head (OfAnswer P) (answer.Value v) answers good) (All-tail (OfAnswer P) (answer.Value v) answers good)
  ask-carries asked at fuel (answer.Fault code ∷ answers) holds good = tt

  module _ (ev : Evals) (carry : EvalsCarry P Q ev) where
    each-carries : (frame : List Value) → All P frame → (ids : List NodeId) (fuel : ℕ) (answers : List Answer) (k : List Value → ℕ → List Answer → Out) → All (OfAnswer P) answers
        → ((values : List Value) (fuel : ℕ) (answers : List Answer) → All P values → All (OfAnswer P) answers → Carries P Q (k values fuel answers))
        → Carries P Q (each ev frame ids fuel answers k)
    each-carries frame all [] fuel answers k good after = after [] fuel answers (All-nil P) good
    each-carries frame all (id ∷ ids) fuel answers k good after =
        then_go-carries (ev frame id fuel answers) (λ v fuel answers. each ev frame ids fuel answers (λ values. k (v ∷ values))) (carry.at frame id fuel answers all good)
        (λ v fuel answers holds good. each-carries frame all ids fuel answers (λ values. k (v ∷ values)) good
        (λ values fuel answers holds_all good. after (v ∷ values) fuel answers (All-cons P v values holds holds_all) good))

    in_turn-carries : (frame : List Value) → All P frame → (ids : List NodeId) (fuel : ℕ) (answers : List Answer) → P value.Nil → All (OfAnswer P) answers
        → Carries P Q (in_turn ev frame ids fuel answers)
    in_turn-carries frame all [] fuel answers nil good = got value.Nil fuel answers nil good
    in_turn-carries frame all (id ∷ []) fuel answers nil good = carry.at frame id fuel answers all good
    in_turn-carries frame all (id ∷ next ∷ ids) fuel answers nil good =
        then_go-carries (ev frame id fuel answers) (λ v fuel answers. in_turn ev frame (next ∷ ids) fuel answers) (carry.at frame id fuel answers all good)
        (λ v fuel answers holds good. in_turn-carries frame all (next ∷ ids) fuel answers nil good)

    bind-carries : (frame : List Value) → All P frame → (ids : List NodeId) (body : NodeId) (fuel : ℕ) (answers : List Answer) → All (OfAnswer P) answers
        → Carries P Q (bind ev frame ids body fuel answers)
    bind-carries frame all [] body fuel answers good = carry.at frame body fuel answers all good
    bind-carries frame all (id ∷ ids) body fuel answers good =
        then_go-carries (ev frame id fuel answers) (λ v fuel answers. bind ev (frame ++ v ∷ []) ids body fuel answers) (carry.at frame id fuel answers all good)
        (λ v fuel answers holds good. bind-carries (frame ++ v ∷ []) (All-push P frame v all holds) ids body fuel answers good)

    choose-carries : (frame : List Value) → All P frame → (chosen : Bool) (taken other : NodeId) (fuel : ℕ) (answers : List Answer) → All (OfAnswer P) answers
        → Carries P Q (choose ev frame chosen taken other fuel answers)
    choose-carries frame all true taken other fuel answers good = carry.at frame other fuel answers all good
    choose-carries frame all false taken other fuel answers good = carry.at frame taken fuel answers all good

    call-carries : (found : Option Function) (frame : List Value) (fuel : ℕ) (answers : List Answer) → P value.Nil → All P frame → All (OfAnswer P) answers
        → Carries P Q (call ev found frame fuel answers)
    call-carries None frame fuel answers nil all good = got value.Nil fuel answers nil good
    call-carries (Some function) frame fuel answers nil all good = carry.at frame function.body fuel answers all good

    come-carries : (table : Table) (at : Spot) (outcome : Action) (fuel : ℕ) (answers : List Answer) → P value.Nil → OutcomeCarries P Q outcome → All (OfAnswer P) answers
        → Carries P Q (come table ev at outcome fuel answers)
    come-carries table at (Gives v) fuel answers nil holds good = got v fuel answers holds good
    come-carries table at (Faults code) fuel answers nil holds good = tt
    come-carries table at (Asks asked) fuel answers nil holds good = ask-carries asked at fuel answers holds good
    come-carries table at (Calls number frame) fuel answers nil holds good = call-carries (slice_get table.functions number) frame fuel answers nil holds good

    run_steps-carries : (frame : List Value) → All P frame → (steps : List Step) (fuel : ℕ) (answers : List Answer) → P value.Nil → All (OfAnswer P) answers
        → Carries P Q (run_steps ev frame steps fuel answers)
    run_steps-carries frame all [] fuel answers nil good = got value.Nil fuel answers nil good
    run_steps-carries frame all (step ∷ steps) fuel answers nil good =
        then_go-carries (ev frame step.node fuel answers) (λ v fuel answers. run_steps ev (if step.binds then frame ++ v ∷ [] else frame) steps fuel answers)
        (carry.at frame step.node fuel answers all good)
        (λ v fuel answers holds good. run_steps-carries (if step.binds then frame ++ v ∷ [] else frame) (bound v holds step.binds) steps fuel answers nil good)
      where
        bound : (v : Value) → P v → (binds : Bool) → All P (if binds then frame ++ v ∷ [] else frame)
        bound v holds true = All-push P frame v all holds
        bound v holds false = all

    turn-carries : (values : List Value) (at : Spot) (takes : Bool) (body : NodeId) (fuel : ℕ) (answers : List Answer) → All P values → All (OfAnswer P) answers
        → Carries P Q (turn ev values at takes body fuel answers)
    turn-carries values at true body fuel answers all good = carry.at values body fuel answers all good
    turn-carries values at false body fuel answers all good = tt

    begin-carries : (body : NodeId) (values : List Value) (at : Spot) (n : Node) (fuel : ℕ) (answers : List Answer) → P value.Nil → All P values → All (OfAnswer P) answers
        → Carries P Q (begin ev body values at n fuel answers)
    begin-carries body values at (node.Main steps) fuel answers nil all good = run_steps-carries values all steps fuel answers nil good
    begin-carries body values at (node.Turn takes inner) fuel answers nil all good = turn-carries values at (length values == takes) inner fuel answers all good
    begin-carries body values at other fuel answers nil all good = carry.at values body fuel answers all good

    begin_at-carries : (body : NodeId) (values : List Value) (row : Option Row) (fuel : ℕ) (answers : List Answer) → P value.Nil → All P values → All (OfAnswer P) answers
        → Carries P Q (begin_at ev body values row fuel answers)
    begin_at-carries body values None fuel answers nil all good = carry.at values body fuel answers all good
    begin_at-carries body values (Some row) fuel answers nil all good = begin-carries body values row.at row.node fuel answers nil all good

    module _ (table : Table) (inside : Bool) (nil : P value.Nil) where
      -- what the operation of the node comes to is good
      abbrev Works : Node → Type 0
      Works n = (frame values : List Value) → All P frame → All P values → OutcomeCarries P Q (operate frame n values)

      by_arguments-carries : (frame : List Value) (at : Spot) (n : Node) (fuel : ℕ) (answers : List Answer) → Works n → All P frame → All (OfAnswer P) answers
          → Carries P Q (by_arguments table ev frame at n fuel answers)
      by_arguments-carries frame at n fuel answers works all good =
          each-carries frame all (arguments n) fuel answers (λ values. come table ev at (operate frame n values)) good
          (λ values fuel answers holds good. come-carries table at (operate frame n values) fuel answers nil (works frame values all holds) good)

      transaction-carries : (which : Bool) (frame : List Value) (at : Spot) (body : NodeId) (fuel : ℕ) (answers : List Answer) → (IsEntered which (node.Dosync body) → Works (node.Dosync body))
          → All P frame → All (OfAnswer P) answers → Carries P Q (dosync table which ev frame at body fuel answers)
      transaction-carries true frame at body fuel answers works all good = carry.at frame body fuel answers all good
      transaction-carries false frame at body fuel answers works all good = by_arguments-carries frame at (node.Dosync body) fuel answers (works refl) all good

      level-carries : (frame : List Value) (at : Spot) (n : Node) (fuel : ℕ) (answers : List Answer) → (IsEntered inside n → Works n) → All P frame → All (OfAnswer P) answers
          → Carries P Q (level table inside ev frame at n fuel answers)
      level-carries frame at (node.Do parts) fuel answers works all good = in_turn-carries frame all parts fuel answers nil good
      level-carries frame at (node.If condition taken other) fuel answers works all good =
          then_go-carries (ev frame condition fuel answers) (λ v fuel answers. choose ev frame (is_false v) taken other fuel answers) (carry.at frame condition fuel answers all good)
          (λ v fuel answers holds good. choose-carries frame all (is_false v) taken other fuel answers good)
      level-carries frame at (node.Let bound body) fuel answers works all good = bind-carries frame all bound body fuel answers good
      level-carries frame at (node.Dosync body) fuel answers works all good = transaction-carries inside frame at body fuel answers works all good
      level-carries frame at other fuel answers works all good = by_arguments-carries frame at other fuel answers (works tt) all good

    enter-carries : (table : Table) (inside : Bool) → Operates P Q table inside → (frame : List Value) (id : ℕ) (fuel : ℕ) (answers : List Answer) → All P frame → All (OfAnswer P) answers
        → Carries P Q (enter unguarded table inside ev frame (slice_get table.nodes id) fuel answers)
    enter-carries table inside operates frame id fuel answers all good = on (slice_get table.nodes id) refl fuel
      where
        on : (row : Option Row) → slice_get table.nodes id ≡ row → (fuel : ℕ) → Carries P Q (enter unguarded table inside ev frame row fuel answers)
        on None is zero = tt
        on (Some row) is zero = tt
        on None is (suc fuel) = got value.Nil fuel answers operates.nil good
        on (Some row) is (suc fuel) = level-carries table inside operates.nil frame row.at row.node fuel answers (operates.operation id row is) all good

  eval-carries : (table : Table) (inside : Bool) → Operates P Q table inside → (depth : ℕ) → EvalsCarry P Q (eval unguarded table inside depth)
  unfolding eval
  eval-carries table inside operates zero = record { at = λ frame id fuel answers all good. tt }
  eval-carries table inside operates (suc depth) = record {
    at = λ frame id fuel answers all good.
        enter-carries (λ frame id fuel answers. eval unguarded table inside depth frame id fuel answers) (eval-carries table inside operates depth) table inside operates frame id.index fuel answers all good;
  }

  pub next-good : (table : Table) (inside : Bool) → Operates P Q table inside → (body : NodeId) (values : List Value) (answers : List Answer) (fuel : ℕ)
      → All P values → All (OfAnswer P) answers → HaltCarries P Q (next table body values inside answers fuel)
  unfolding next
  next-good table inside operates body values answers fuel all good =
      on (guarded_out unguarded table body values inside answers fuel)
      (begin_at-carries (eval unguarded table inside fuel) (eval-carries table inside operates fuel) body values (slice_get table.nodes body.index) fuel answers operates.nil all good)
    where
      on : (out : Out) → Carries P Q out → HaltCarries P Q (end_of out)
      on (Got v fuel answers) holds = holds.value
      on (Stop halt) holds = holds
