use Rattle.std.proofs.Common.{◌≡◌, ◌∙◌, subst}
use Rattle.std.specs.Arc.{arc_value}
use Rattle.std.specs.Option.{IfSome}
use Rattle.std.proofs.lemmas.Result.{IfOk-weaker}
use Rattle.serial_model.specs.First.{first_of}
use Rattle.serial_machine.specs.Progress.{state_of}
use Rattle.serial_machine.specs.Standing.{IsAt}
use Rattle.serial_model.specs.State.{Setup}
use Rattle.serial_machine.proofs.SerialRuns.{if_some, first_at}
use Rattle.serial_machine.proofs.serial.Serial.first_enabled.Goals as goal

pub returns-in-Some-clause-first : goal.returns-in-Some-clause-first
returns-in-Some-clause-first c =
    let inside = c.self.inside in
    let setup : Setup = record { program = arc_value inside.program; limits = inside.limits } in
    let at = subst (λ place. IsAt setup inside.output.items place c.self.invariant.state) c.in-Some.is c.self.invariant.at in
    IfOk-weaker c.first.result _ _ (λ found is.
    subst (λ p. IfSome (state_of p) (λ s. found ≡ first_of s)) c.self.view_is
    (if_some _ (λ s. found ≡ first_of s) c.self.invariant.state c.self.invariant.replays
    (is inside.output.items ∙ first_at setup inside.output.items c.in-Some.now c.self.invariant.state at.0))) c.first.ensures
