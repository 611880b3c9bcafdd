-- How one task of a tree goes on, with the results of all calls as they are.
use Rattle.std.proofs.Common.{◌≡◌, ◌∙◌, ℕ, zero, suc, ◌+◌, ◌<◌, Bool, true, false, List, [], ◌∷◌, ◌++◌, length, length-append, refl, sym, ap, subst, Option, Some, None, arith}
use Rattle.value_core.specs.Place.{Spot}
use Rattle.value_core.specs.declared.code.Code.{Code}
use Rattle.value_core.specs.declared.value.Value.{Value as Datum}
use Rattle.core_syntax.specs.declared.node_id.NodeId.{NodeId}
use Rattle.serial_model.specs.declared.answer.Answer.{Answer}
use Rattle.serial_model.specs.declared.halt.Halt.{Halt}
use Rattle.serial_model.specs.declared.halt.Halt.TheVariants as halt
use Rattle.serial_model.specs.declared.request.Request.{Request}
use Rattle.serial_model.specs.Eval.{next}
use Rattle.serial_model.specs.Log.{Log, new_log}
use Rattle.value_core.specs.Named.{Name, Named, named, made_by}
use Rattle.serial_model.specs.Task.{Around, Call, Here, Known, Moved, On, End, Outcome, Value, Fault, Spent, Result, asks, closes, closes_child, follows, goes, then_moves, turns, task}
use Rattle.serial_model.proofs.evaluation.Costs.{ask_costs_fuel}
use Rattle.serial_model.specs.Standing.{Stage, Going, Closing, Ended, TreeTask, Turning, Joining, IsAt, Matches, here_of, result, call_below}

-- a task is its turns from the start
pub task_is_turns : (around : Around) (levels : ℕ) (name : Name) (body : NodeId) (values : List Datum) (view : Named Datum) (known : Known)
    → task around levels name body values view known ≡ turns around levels (call_below around levels) body values view (suc around.fuel) (here_of [] (new_log name) known)
unfolding task
task_is_turns around zero name body values view known = refl
task_is_turns around (suc levels) name body values view known = refl

-- one turn, at what the body does next
pub turn_is : (around : Around) (levels : ℕ) (call : Call) (body : NodeId) (values : List Datum) (view : Named Datum) (left : ℕ) (here : Here) (does : Halt)
    → next around.program body values true here.answers around.fuel ≡ does
    → turns around levels call body values view (suc left) here ≡ follows (goes around levels call view here does) (λ after. turns around levels call body values view left after)
unfolding turns
turn_is around levels call body values view left here does is = ap (λ h. follows (goes around levels call view here h) (λ after. turns around levels call body values view left after)) is

module _ (around : Around) (levels : ℕ) (call : Call) (body : NodeId) (values : List Datum) (view : Named Datum) (here : Here) (whole : Result)
    (from : Turning around levels call body values view here whole) where
  abbrev does : Halt
  does = next around.program body values true here.answers around.fuel

  -- a request is answered
  pub turns_on : (asked : Request) (at : Spot) (after : Here) → does ≡ halt.Ask asked at → length after.answers ≡ length here.answers + 1
      → asks around levels call view here asked ≡ On after → Turning around levels call body values view after whole
  turns_on asked at after is longer moved = on from.left from.within from.rest
    where
      less : length here.answers < around.fuel
      less = ask_costs_fuel around.program body values true here.answers around.fuel asked at is

      on : (left : ℕ) → length here.answers + left ≡ around.fuel → turns around levels call body values view (suc left) here ≡ whole → Turning around levels call body values view after whole
      on zero within rest = absurd (let h = less in omega arith)
      on (suc left) within rest = record {
        left = left;
        within = omega arith;
        rest = sym (turn_is around levels call body values view (suc left) here (halt.Ask asked at) is ∙ ap (λ m. follows m (λ h. turns around levels call body values view (suc left) h)) moved) ∙ rest;
      }

  -- a request ends the task
  pub turns_end : (asked : Request) (at : Spot) (outcome : Outcome) → does ≡ halt.Ask asked at
      → asks around levels call view here asked ≡ End outcome here → result outcome here.log here.known ≡ whole
  turns_end asked at outcome is moved =
      sym (turn_is around levels call body values view from.left here (halt.Ask asked at) is ∙ ap (λ m. follows m (λ h. turns around levels call body values view from.left h)) moved) ∙ from.rest

  pub turns_fault : (code : Code) (at : Spot) → does ≡ halt.Fault code at → result (Fault code at) here.log here.known ≡ whole
  turns_fault code at is = sym (turn_is around levels call body values view from.left here (halt.Fault code at) is) ∙ from.rest

  pub turns_spent : does ≡ halt.Spent → result Spent here.log here.known ≡ whole
  turns_spent is = sym (turn_is around levels call body values view from.left here halt.Spent is) ∙ from.rest

  -- at its value it joins its children
  pub turns_value : (v : Datum) → does ≡ halt.Value v → Joining v 0 here.log here.known whole
  turns_value v is = record {
    answers = here.answers;
    left = here.log.made;
    go = λ after. turns around levels call body values view from.left after;
    within = omega arith;
    rest = sym (turn_is around levels call body values view from.left here (halt.Value v) is) ∙ from.rest;
  }

-- the next child is passed, or joined
pub joins_on : (v : Datum) (k : ℕ) (log log' : Log) (known known' : Known) (whole : Result) → Joining v k log known whole → k < log.made → log'.made ≡ log.made
    → ((answers : List Answer) → closes_child (here_of answers log known) k ≡ On (here_of answers log' known'))
    → Joining v (k + 1) log' known' whole
joins_on v k log log' known known' whole from more made joined = on from.left from.within from.rest
  where
    on : (left : ℕ) → k + left ≡ log.made → follows (closes v k left (here_of from.answers log known)) from.go ≡ whole → Joining v (k + 1) log' known' whole
    on zero within rest = absurd (omega arith)
    on (suc left) within rest = record {
      answers = from.answers;
      left = left;
      go = from.go;
      within = omega arith;
      rest = ap (λ n. follows (closes v n left (here_of from.answers log' known')) from.go) one
          ∙ sym (ap (λ m. follows (then_moves m (λ after. closes v (suc k) left after)) from.go) (joined from.answers)) ∙ rest;
    }
      where
        one : k + 1 ≡ suc k
        one = omega arith

-- the next child ends the task
pub joins_end : (v : Datum) (k : ℕ) (log : Log) (known : Known) (whole : Result) (outcome : Outcome) → Joining v k log known whole → k < log.made
    → ((answers : List Answer) → closes_child (here_of answers log known) k ≡ End outcome (here_of answers log known))
    → result outcome log known ≡ whole
joins_end v k log known whole outcome from more joined = on from.left from.within from.rest
  where
    on : (left : ℕ) → k + left ≡ log.made → follows (closes v k left (here_of from.answers log known)) from.go ≡ whole → result outcome log known ≡ whole
    on zero within rest = absurd (omega arith)
    on (suc left) within rest = sym (ap (λ m. follows (then_moves m (λ after. closes v (suc k) left after)) from.go) (joined from.answers)) ∙ rest

-- all children are joined
pub joins_last : (v : Datum) (k : ℕ) (log : Log) (known : Known) (whole : Result) → Joining v k log known whole → k ≡ log.made → result (Value v) log known ≡ whole
joins_last v k log known whole from all = on from.left from.within from.rest
  where
    on : (left : ℕ) → k + left ≡ log.made → follows (closes v k left (here_of from.answers log known)) from.go ≡ whole → result (Value v) log known ≡ whole
    on zero within rest = rest
    on (suc left) within rest = absurd (omega arith)
