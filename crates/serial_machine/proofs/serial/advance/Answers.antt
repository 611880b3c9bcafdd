use Rattle.std.proofs.Common.{◌∙◌, refl, sym, ap, subst, [], ◌∷◌, ◌++◌}
use Rattle.std.specs.Option.{IsSome}
use Rattle.serial_model.specs.State.{Setup}
use Rattle.serial_model.specs.Step.{step}
use Rattle.serial_machine.specs.Now.{state_after, IsStepped}
use Rattle.serial_machine.specs.Standing.{IsAdvanced}
use Rattle.serial_machine.proofs.Standing.{not_ended}
use Rattle.serial_machine.proofs.SerialRuns.{advanced_on, advanced_still, advanced_over, first_at, going_first, on_err_of, over_first}
use Rattle.serial_machine.proofs.serial.advance.Goals as goal

pub returns-then-is_over-clause-advanced : goal.returns-then-is_over-clause-advanced
returns-then-is_over-clause-advanced c = λ s at empty printed.
    let setup : Setup = record { program = c.args.program.now; limits = c.args.limits } in
    let before = c.args.output.now.items in
    advanced_over setup s c.args.entry.now c.args.history.now.items before c.args.now.now
    (sym (first_at setup before c.args.now.now s at) ∙ over_first (state_after before c.args.now.now) (sym c.if-is_over.true ∙ c.is_over.ensures before)) at empty

pub returns-in_err-reserve-clause-going : goal.returns-in_err-reserve-clause-going
returns-in_err-reserve-clause-going c = on_err_of c.from_residual.result _ (λ before. going_first (state_after before c.args.now.now) (sym c.if-is_over.false ∙ c.is_over.ensures before))

pub returns-in_err-copied-clause-going : goal.returns-in_err-copied-clause-going
returns-in_err-copied-clause-going c = on_err_of c.from_residual-in_err-copied.result _ (λ before. going_first (state_after before c.args.now.now) (sym c.if-is_over.false ∙ c.is_over.ensures before))

pub returns-in_ok-done-in-Ok-true-clause-advanced : goal.returns-in_ok-done-in-Ok-true-clause-advanced
returns-in_ok-done-in-Ok-true-clause-advanced c = λ s at empty printed.
    let setup : Setup = record { program = c.args.program.now; limits = c.args.limits } in
    let before = c.args.output.now.items in
    let entries = c.args.history.now.items in
    let handed = c.in_ok-done-in-Ok-true.ensures in
    let some = subst IsSome (first_at setup before c.args.now.now s at) (going_first (state_after before c.args.now.now) (sym c.if-is_over.false ∙ c.is_over.ensures before)) in
    let stepped = subst (IsStepped setup before c.enact.new.now s (step setup s c.args.entry.now)) c.in-Ok-true.field-0-test (c.in-Ok-true.ensures before s at (not_ended s some)) in
    subst (IsAdvanced setup s c.args.entry.now entries c.hand_out.new.history.items before c.hand_out.new.output.items c.hand_out.new.now (step setup s c.args.entry.now)) (sym handed.done)
    (advanced_on setup s c.args.entry.now entries c.hand_out.new.history.items before c.hand_out.new.output.items c.enact.new.now c.hand_out.new.now stepped
    (handed.entries ∙ ap (λ items. items ++ c.in_ok-copied.copied ∷ []) c.in_ok-reserve.ensures.items ∙ ap (λ entry. entries ++ entry ∷ []) c.in_ok-copied.ensures)
    handed.bytes handed.text (λ t there. handed.at setup before t there))

pub returns-in_err-done-in-Ok-true-clause-going : goal.returns-in_err-done-in-Ok-true-clause-going
returns-in_err-done-in-Ok-true-clause-going c =
    on_err_of c.from_residual-in_err-done-in-Ok-true.result _ (λ before. going_first (state_after before c.args.now.now) (sym c.if-is_over.false ∙ c.is_over.ensures before))

pub returns-in-Ok-false-clause-advanced : goal.returns-in-Ok-false-clause-advanced
returns-in-Ok-false-clause-advanced c = λ s at empty printed.
    let setup : Setup = record { program = c.args.program.now; limits = c.args.limits } in
    let before = c.args.output.now.items in
    let some = subst IsSome (first_at setup before c.args.now.now s at) (going_first (state_after before c.args.now.now) (sym c.if-is_over.false ∙ c.is_over.ensures before)) in
    advanced_still setup s c.args.entry.now c.args.history.now.items c.reserve.new.self.items before before c.enact.new.now
    (subst (IsStepped setup before c.enact.new.now s (step setup s c.args.entry.now)) c.in-Ok-false.field-0-test (c.in-Ok-false.ensures before s at (not_ended s some)))
    c.in_ok-reserve.ensures.items refl printed

pub returns-in-Err-clause-going : goal.returns-in-Err-clause-going
returns-in-Err-clause-going c = λ before. going_first (state_after before c.args.now.now) (sym c.if-is_over.false ∙ c.is_over.ensures before)
