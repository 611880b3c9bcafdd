use Rattle.std.proofs.Common.{sym, ap, subst}
use Rattle.std.proofs.lemmas.Result.{IfOk-weaker}
use Rattle.eval_frames.specs.declared.at.At.{At}
use Rattle.eval_frames.specs.Control.{standing}
use Rattle.eval_step.specs.Walk.{Moves}
use Rattle.eval_step.proofs.Walks.{moves_begin, moves_deliver, moves_enter}
use Rattle.eval_step.proofs.walk.Walk.go.Goals as goal

pub returns-in-Begin-clause-moved : goal.returns-in-Begin-clause-moved
returns-in-Begin-clause-moved c =
    let old = c.args.self.now in
    IfOk-weaker c.begin.result _ _
    (λ next. moves_begin c.args.program.now c.args.inside old c.args.at next c.begin.new.registers c.in-Begin.body c.begin.new.self (ap (λ a. standing a old.registers) c.in-Begin.is))
    c.begin.ensures

pub returns-in-Enter-clause-moved : goal.returns-in-Enter-clause-moved
returns-in-Enter-clause-moved c =
    let old = c.args.self.now in
    let new = c.enter.new.self in
    IfOk-weaker c.enter.result _ _
    (λ next. moves_enter c.args.program.now c.args.inside old c.args.at next new.registers c.in-Enter.id new.context new.left new.at (ap (λ a. standing a old.registers) c.in-Enter.is))
    c.enter.ensures.entered

pub returns-in-Deliver-clause-moved : goal.returns-in-Deliver-clause-moved
returns-in-Deliver-clause-moved c =
    let old = c.args.self.now in
    IfOk-weaker c.deliver.result _ _
    (λ next. moves_deliver c.args.program.now c.args.inside old c.args.at next c.deliver.new.registers old.registers.value c.deliver.new.self (ap (λ a. standing a old.registers) c.in-Deliver.is))
    c.deliver.ensures

pub returns-in-Arguments-clause-moved : goal.returns-in-Arguments-clause-moved
returns-in-Arguments-clause-moved c =
    let old = c.args.self.now in
    let new = c.take_arguments.new.self in
    IfOk-weaker c.take_arguments.result _ _
    (λ next moves.
    let P : At → Type 0 = λ a. Moves c.args.program.now c.args.inside (record { at = a; registers = old.registers; context = old.context; left = old.left })
    (record { at = next; registers = new.registers; context = new.context; left = new.left }) in
    subst P (sym c.in-Arguments.is) (moves c.args.inside))
    c.take_arguments.ensures.taken
