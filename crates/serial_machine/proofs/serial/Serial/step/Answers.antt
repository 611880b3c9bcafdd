use Rattle.std.proofs.Common.{◌∙◌, sym, ap, subst, Some, [], ◌∷◌, ◌++◌}
use Rattle.std.specs.Arc.{arc_value}
use Rattle.serial_model.specs.State.{Setup}
use Rattle.serial_machine.specs.Standing.{Stands}
use Rattle.serial_machine.proofs.SerialRuns.{step_done, step_refused, step_failed, stands_replays, units_read}
use Rattle.serial_machine.proofs.serial.Serial.step.Goals as goal

pub advance-requires-clause-units : goal.advance-requires-clause-units
advance-requires-clause-units c =
    let inside = c.self.inside in
    let setup : Setup = record { program = arc_value inside.program; limits = inside.limits } in
    units_read c.deref.result.now (arc_value inside.program) inside.limits c.deref.ensures inside.history.items inside.output.items inside.done c.in-Some.now
    (subst (λ place. Stands setup inside.history.items inside.output.items inside.done place) c.in-Some.is c.self.invariant)

pub invariant_of-self-in-Ok-true : goal.invariant_of-self-in-Ok-true
invariant_of-self-in-Ok-true c =
    let inside = c.self.inside in
    let setup : Setup = record { program = arc_value inside.program; limits = inside.limits } in
    (step_done c.deref.result.now (arc_value inside.program) inside.limits c.deref.ensures inside.history.items c.advance.new.history.items inside.output.items c.advance.new.output.items inside.done
    c.in-Some.now c.advance.new.now c.args.entry.now c.in-Ok-true.field-0 c.in-Ok-true.field-0-test
    (subst (λ place. Stands setup inside.history.items inside.output.items inside.done place) c.in-Some.is c.self.invariant) c.in-Ok-true.ensures.advanced).0

pub returns-in-Ok-true-clause-stepped : goal.returns-in-Ok-true-clause-stepped
returns-in-Ok-true-clause-stepped c =
    let inside = c.self.inside in
    let setup : Setup = record { program = arc_value inside.program; limits = inside.limits } in
    (step_done c.deref.result.now (arc_value inside.program) inside.limits c.deref.ensures inside.history.items c.advance.new.history.items inside.output.items c.advance.new.output.items inside.done
    c.in-Some.now c.advance.new.now c.args.entry.now c.in-Ok-true.field-0 c.in-Ok-true.field-0-test
    (subst (λ place. Stands setup inside.history.items inside.output.items inside.done place) c.in-Some.is c.self.invariant) c.in-Ok-true.ensures.advanced).1
    ∙ ap (λ p. p.history ++ c.args.entry.now ∷ []) c.self.view_is

pub invariant_of-self-in-Ok-false : goal.invariant_of-self-in-Ok-false
invariant_of-self-in-Ok-false c =
    let inside = c.self.inside in
    let setup : Setup = record { program = arc_value inside.program; limits = inside.limits } in
    (step_refused c.deref.result.now (arc_value inside.program) inside.limits c.deref.ensures inside.history.items c.advance.new.history.items inside.output.items c.advance.new.output.items inside.done
    c.in-Some.now c.advance.new.now c.args.entry.now c.in-Ok-false.field-0 c.in-Ok-false.field-0-test
    (subst (λ place. Stands setup inside.history.items inside.output.items inside.done place) c.in-Some.is c.self.invariant) c.in-Ok-false.ensures.advanced).0

pub invariant_of-self-in-Err : goal.invariant_of-self-in-Err
invariant_of-self-in-Err c =
    let inside = c.self.inside in
    let setup : Setup = record { program = arc_value inside.program; limits = inside.limits } in
    subst (λ place. Stands setup c.advance.new.history.items c.advance.new.output.items inside.done place) (sym c.forget.ensures)
    (step_failed setup inside.history.items c.advance.new.history.items inside.output.items c.advance.new.output.items inside.done c.in-Some.now
    (subst (λ place. Stands setup inside.history.items inside.output.items inside.done place) c.in-Some.is c.self.invariant)
    c.in-Err.ensures.going c.in-Err.ensures.entries c.in-Err.ensures.bytes)

pub returns-in-Ok-true-clause-replays : goal.returns-in-Ok-true-clause-replays
returns-in-Ok-true-clause-replays c = stands_replays _ c.advance.new.history.items c.advance.new.output.items c.self.inside.done (Some c.advance.new.now) (invariant_of-self-in-Ok-true c)

pub returns-in-Ok-false-clause-refused : goal.returns-in-Ok-false-clause-refused
returns-in-Ok-false-clause-refused c =
    let inside = c.self.inside in
    let setup : Setup = record { program = arc_value inside.program; limits = inside.limits } in
    (step_refused c.deref.result.now (arc_value inside.program) inside.limits c.deref.ensures inside.history.items c.advance.new.history.items inside.output.items c.advance.new.output.items inside.done
    c.in-Some.now c.advance.new.now c.args.entry.now c.in-Ok-false.field-0 c.in-Ok-false.field-0-test
    (subst (λ place. Stands setup inside.history.items inside.output.items inside.done place) c.in-Some.is c.self.invariant) c.in-Ok-false.ensures.advanced).1
    ∙ ap (λ p. p.history) c.self.view_is

pub returns-in-Ok-false-clause-replays : goal.returns-in-Ok-false-clause-replays
returns-in-Ok-false-clause-replays c = stands_replays _ c.advance.new.history.items c.advance.new.output.items c.self.inside.done (Some c.advance.new.now) (invariant_of-self-in-Ok-false c)
