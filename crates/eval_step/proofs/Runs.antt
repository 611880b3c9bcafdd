-- The evaluation of a node with no bound but its fuel.
use Rattle.std.proofs.Common.{◌≡◌, ◌∙◌, ℕ, zero, suc, Bool, List, refl, ap, arith}
use Rattle.std.specs.Prelude.{Some}
use Rattle.std.specs.List.{slice_get}
use Rattle.value_core.specs.declared.value.Value.{Value}
use Rattle.core_syntax.specs.declared.node_id.NodeId.{NodeId}
use Rattle.core_syntax.specs.declared.row.Row.{Row}
use Rattle.core_syntax.specs.Table.{Table}
use Rattle.serial_model.specs.declared.answer.Answer.{Answer}
use Rattle.serial_model.specs.declared.halt.Halt.TheVariants as halt
use Rattle.serial_model.specs.Eval.{Stop, level, enter, unguarded, eval, begin_at, end_of, next}
use Rattle.serial_model.proofs.evaluation.Bounds.{Agree, eval-alike, enter-alike, begin_at-alike}
use Rattle.eval_step.specs.Resume.{run}

-- it agrees with each bound, up to that much fuel
pub run-agrees : (table : Table) (inside : Bool) (n : ℕ) → Agree n (eval unguarded table inside n) (run table inside)
unfolding run
run-agrees table inside n = record { at = λ frame id fuel answers le. eval-alike table inside n fuel frame id fuel answers le (omega arith) }

pub run-spent : (table : Table) (inside : Bool) (frame : List Value) (id : NodeId) (answers : List Answer) → run table inside frame id zero answers ≡ Stop halt.Spent
unfolding run eval
run-spent table inside frame id answers = refl

-- entering a node that is there costs one unit of fuel
pub run-enters : (table : Table) (inside : Bool) (frame : List Value) (id : NodeId) (row : Row) (fuel : ℕ) (answers : List Answer) → slice_get table.nodes id.index ≡ Some row
    → run table inside frame id (suc fuel) answers ≡ level table inside (run table inside) frame row.at row.node fuel answers
unfolding run eval
run-enters table inside frame id row fuel answers found =
    let bound = enter-alike fuel _ _ (run-agrees table inside fuel) table inside frame (slice_get table.nodes id.index) fuel answers (omega arith) in
    bound.same ∙ ap (λ r. enter unguarded table inside (run table inside) frame r (suc fuel) answers) found

-- what a body does next, with no bound but its fuel
pub next-runs : (table : Table) (body : NodeId) (values : List Value) (inside : Bool) (answers : List Answer) (fuel : ℕ)
    → next table body values inside answers fuel ≡ end_of (begin_at (run table inside) body values (slice_get table.nodes body.index) fuel answers)
unfolding next
next-runs table body values inside answers fuel =
    let bound = begin_at-alike fuel _ _ (run-agrees table inside fuel) body values (slice_get table.nodes body.index) fuel answers (omega arith) in
    ap end_of bound.same
