-- The bound on the steps of a task is never met.
use Rattle.std.proofs.Common.{◌≡◌, ◌∙◌, ℕ, zero, suc, ◌+◌, ◌<◌, Bool, true, false, List, [], ◌∷◌, ◌++◌, length, length-append, refl, sym, ap, arith}
use Rattle.std.specs.Prelude.{Option, None, Some, if◌then◌else◌}
use Rattle.value_core.specs.Place.{Spot}
use Rattle.value_core.specs.declared.code.Code.TheVariants as code
use Rattle.value_core.specs.declared.value.Value.{Value as Datum}
use Rattle.value_core.specs.declared.value.Value.TheVariants as value
use Rattle.core_syntax.specs.declared.node_id.NodeId.{NodeId}
use Rattle.serial_model.specs.declared.answer.Answer.{Answer}
use Rattle.serial_model.specs.declared.answer.Answer.TheVariants as answer
use Rattle.serial_model.specs.declared.halt.Halt.{Halt}
use Rattle.serial_model.specs.declared.halt.Halt.TheVariants as halt
use Rattle.serial_model.specs.declared.request.Request.{Request}
use Rattle.serial_model.specs.declared.request.Request.TheVariants as request
use Rattle.serial_model.specs.Ahead.{of_turn, self_of}
use Rattle.serial_model.specs.Eval.{next}
use Rattle.serial_model.specs.Laws.{StepsSuffice}
use Rattle.serial_model.specs.Log.{merged}
use Rattle.value_core.specs.Named.{Name, Named, is_among}
use Rattle.serial_model.specs.Task.{Around, Call, Here, Known, Moved, On, End, Outcome, Value, Fault, Spent, Blocked, Result, asks, closes, closes_child, follows, forks, fresh, gets, looks_up, goes, joins, joins_found, next_made, read_in, result_of, then_moves, turns, with_known}
use Rattle.serial_model.proofs.evaluation.Costs.{ask_costs_fuel}
use Rattle.serial_model.proofs.standing.Turns.{turn_is}

-- where a task goes on it has one answer more
abbrev OneMore : Here → Moved → Type 0
OneMore here (On after) = length after.answers ≡ length here.answers + 1
OneMore here (End outcome after) = Unit {0}

longer : (answers : List Answer) (given : Answer) → length (answers ++ given ∷ []) ≡ length answers + 1
longer answers given = let added = length-append answers (given ∷ []) in omega arith

found_one : (here : Here) (found : Option Datum) → OneMore here (looks_up here found)
found_one here None = tt
found_one here (Some v) = longer here.answers (answer.Value v)

forks_one : (levels : ℕ) (call : Call) (view : Named Datum) (here : Here) (body : NodeId) (values : List Datum) → OneMore here (forks levels call view here body values)
forks_one zero call view here body values = longer here.answers (answer.Fault code.ForkTooDeep)
forks_one (suc levels) call view here body values = longer here.answers (answer.Value (value.Future (next_made here)))

joins_one : (here : Here) (future : Name) (child : Result) (outcome : Outcome) → OneMore here (joins here future child outcome (λ after v. gets after after.log v))
joins_one here future child (Value v) = on (is_among future here.log.joined)
  where
    joint : Here
    joint = record here { log = merged here.log child.log; known = with_known here.known child.known }

    on : (b : Bool) → let after = (if b then here else joint) in OneMore here (gets after after.log v)
    on true = longer here.answers (answer.Value v)
    on false = longer here.answers (answer.Value v)
joins_one here future child (Fault code at) = tt
joins_one here future child Spent = tt
joins_one here future child Blocked = tt

join_one : (around : Around) (here : Here) (future : Name) (found : Option Result) → OneMore here (joins_found around here future found)
join_one around here future None = found_one here (around.finished future)
join_one around here future (Some child) = joins_one here future child child.outcome

asks_one : (around : Around) (levels : ℕ) (call : Call) (view : Named Datum) (here : Here) (asked : Request) → OneMore here (asks around levels call view here asked)
asks_one around levels call view here (request.Print text) = longer here.answers (answer.Value value.Nil)
asks_one around levels call view here (request.NewRef v) = longer here.answers (answer.Value (value.Ref (next_made here)))
asks_one around levels call view here (request.Deref ref) = found_one here (read_in around view here.log ref)
asks_one around levels call view here (request.RefSet ref v) = longer here.answers (answer.Value v)
asks_one around levels call view here (request.Fork body values) = forks_one levels call view here body values
asks_one around levels call view here (request.Join future) = join_one around here future (result_of future here.known)
asks_one around levels call view here (request.Dosync body values) = tt
asks_one around levels call view here (request.Spawn behaviour state) = longer here.answers (answer.Value (value.Actor (next_made here)))
asks_one around levels call view here (request.Send actor message) = longer here.answers (answer.Value value.Nil)
asks_one around levels call view here (request.Become behaviour state) = longer here.answers (of_turn around.actor (answer.Value value.Nil))
asks_one around levels call view here request.SelfActor = longer here.answers (self_of around.actor)

-- where a task goes on, what comes of it is the same
follows_alike : (here : Here) (moved : Moved) (go other : Here → Result) → OneMore here moved
    → ((after : Here) → length after.answers ≡ length here.answers + 1 → go after ≡ other after) → follows moved go ≡ follows moved other
follows_alike here (On after) go other more same = same after more
follows_alike here (End outcome after) go other more same = refl

-- at its value a task does not go on
closes_alike : (v : Datum) (k n : ℕ) (here : Here) (go other : Here → Result) → follows (closes v k n here) go ≡ follows (closes v k n here) other
closes_alike v k zero here go other = refl
closes_alike v k (suc n) here go other = on (closes_child here k) (λ after. closes_alike v (suc k) n after go other)
  where
    on : (moved : Moved) → ((after : Here) → follows (closes v (suc k) n after) go ≡ follows (closes v (suc k) n after) other)
        → follows (then_moves moved (λ after. closes v (suc k) n after)) go ≡ follows (then_moves moved (λ after. closes v (suc k) n after)) other
    on (On after) rest = rest after
    on (End outcome after) rest = refl

module _ (around : Around) (levels : ℕ) (call : Call) (body : NodeId) (values : List Datum) (view : Named Datum) (more : ℕ) where
  abbrev from : ℕ → Here → Result
  from n here = turns around levels call body values view n here

  -- with two bounds, where the next steps come to the same after a request
  one_step : (here : Here) (n m : ℕ) (does : Halt) → next around.program body values true here.answers around.fuel ≡ does
      → ((asked : Request) (at : Spot) → does ≡ halt.Ask asked at → (after : Here) → length after.answers ≡ length here.answers + 1 → from n after ≡ from m after)
      → from (suc n) here ≡ from (suc m) here
  one_step here n m does is rest =
      turn_is around levels call body values view n here does is ∙ on does rest ∙ sym (turn_is around levels call body values view m here does is)
    where
      on : (does : Halt) → ((asked : Request) (at : Spot) → does ≡ halt.Ask asked at → (after : Here) → length after.answers ≡ length here.answers + 1 → from n after ≡ from m after)
          → follows (goes around levels call view here does) (λ after. from n after) ≡ follows (goes around levels call view here does) (λ after. from m after)
      on (halt.Ask asked at) rest =
          follows_alike here (asks around levels call view here asked) (λ after. from n after) (λ after. from m after) (asks_one around levels call view here asked)
          (λ after one. rest asked at refl after one)
      on (halt.Value v) rest = closes_alike v 0 here.log.made here (λ after. from n after) (λ after. from m after)
      on (halt.Fault code at) rest = refl
      on halt.Spent rest = refl

  pub steps_suffice : (left : ℕ) (here : Here) → length here.answers + left ≡ around.fuel → from (suc left + more) here ≡ from (suc left) here
  steps_suffice zero here within =
      let one : suc zero + more ≡ suc more = omega arith in
      ap (λ n. from n here) one
      ∙ one_step here more zero (next around.program body values true here.answers around.fuel) refl
      (λ asked at is after longer. let less = ask_costs_fuel around.program body values true here.answers around.fuel asked at is in absurd (omega arith))
  steps_suffice (suc left) here within =
      let one : suc (suc left) + more ≡ suc (suc left + more) = omega arith in
      ap (λ n. from n here) one
      ∙ one_step here (suc left + more) (suc left) (next around.program body values true here.answers around.fuel) refl
      (λ asked at is after longer. steps_suffice left after (omega arith))

-- a task comes to the same with any larger bound on its steps
pub bound_is_never_met : StepsSuffice
bound_is_never_met around levels call name body values view known more =
    let all : zero + around.fuel ≡ around.fuel = omega arith in steps_suffice around levels call body values view more around.fuel (fresh name known) all
