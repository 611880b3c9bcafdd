-- A machine stands where its body stands after its answers.
use Rattle.std.proofs.Common.{◌≡◌, ◌∙◌, ℕ, ◌<◌, Bool, List, [], ◌++◌, length, refl, sym, ap, subst, append-nil}
use Rattle.std.specs.Prelude.{All}
use Rattle.std.specs.List.{slice_get}
use Rattle.std.proofs.lemmas.List.Elements.{All-nil}
use Rattle.value_core.specs.declared.value.Value.{Value}
use Rattle.core_syntax.specs.declared.node_id.NodeId.{NodeId}
use Rattle.core_syntax.specs.Table.{Table}
use Rattle.serial_model.specs.declared.answer.Answer.{Answer}
use Rattle.serial_model.specs.declared.halt.Halt.{Halt}
use Rattle.serial_model.specs.declared.halt.Halt.TheVariants as halt
use Rattle.serial_model.specs.Eval.{Next, begin_at, end_of, next}
use Rattle.eval_frames.specs.Control.{Begin}
use Rattle.eval_step.specs.declared.item.Item.{Item}
use Rattle.eval_step.specs.declared.walk.Walk.{Walk}
use Rattle.eval_step.specs.Evaluation.{Evaluation, IsOf}
use Rattle.eval_step.specs.Standing.{standing_of}
use Rattle.eval_step.specs.Resume.{run, resume}
use Rattle.eval_step.specs.Walk.{ItemIn, StopsAt, onto, halted}
use Rattle.eval_step.proofs.Runs.{next-runs}

-- a machine that has not begun
pub starts : (table : Table) (body : NodeId) (values frame : List Value) (inside : Bool) (fuel : ℕ) (answers : List Answer) (stack : List Item)
    → body.index < length table.nodes → frame ≡ values → answers ≡ [] → stack ≡ []
    → IsOf table (record { body = body; values = values; inside = inside; fuel = fuel; answers = answers; inner = record { control = Begin body; context = record { frame = frame; stack = stack }; left = fuel } })
starts table body values frame inside fuel answers stack there same none empty = record {
  stands = λ goes more.
      ap (λ a. next table body values inside (a ++ more) fuel) none
      ∙ next-runs table body values inside more fuel
      ∙ ap (λ f. end_of (begin_at (run table inside) body f (slice_get table.nodes body.index) fuel more)) (sym same);
  there = λ goes. record {
    items = subst (All (ItemIn (length table.nodes))) (sym empty) (All-nil _);
    here = (there, empty);
  };
}

-- where it stops without further answers is what its body does next
pub stops-next : (table : Table) (m : Evaluation) (old new : Walk) (stop : Halt) → IsOf table m → standing_of old ≡ m.inner → StopsAt table m.inside old new stop
    → stop ≡ next table m.body m.values m.inside m.answers m.fuel
stops-next table m old new stop is same stops =
    sym (ap (λ a. next table m.body m.values m.inside a m.fuel) (sym (append-nil m.answers))
    ∙ (subst (λ i. IsOf table (record m { inner = i })) (sym same) is).stands stops.goes []
    ∙ ap end_of (stops.same [])
    ∙ ap (λ c. end_of (onto table m.inside c new.context.frame new.context.stack new.left [])) stops.at
    ∙ at_end (resume table m.inside new.context.frame new.context.stack) stop)
  where
    at_end : (go : Next) (h : Halt) → end_of (halted go h new.left []) ≡ h
    at_end go (halt.Ask request at) = refl
    at_end go (halt.Value v) = refl
    at_end go (halt.Fault code at) = refl
    at_end go halt.Spent = refl
