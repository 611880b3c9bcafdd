use Rattle.std.proofs.Common.{◌≡◌, ◌∙◌, ◌↔◌, ap, subst, Some, None}
use Rattle.std.specs.Arc.{arc_value}
use Rattle.std.specs.Option.{IfSome, IsSome, option_copied}
use Rattle.serial_model.specs.declared.end.End.{End}
use Rattle.serial_model.specs.First.{first_of}
use Rattle.serial_model.specs.Replay.{IsOver}
use Rattle.serial_machine.specs.Progress.{state_of}
use Rattle.serial_machine.specs.Standing.{IsAt, end_seen}
use Rattle.serial_model.specs.State.{Setup}
use Rattle.serial_machine.proofs.SerialRuns.{if_some, not_over_any, seen_over, seen_first}
use Rattle.serial_machine.proofs.serial.Serial.end.Goals as goal

pub returns-in-Some-clause-over : goal.returns-in-Some-clause-over
returns-in-Some-clause-over c =
    let inside = c.self.inside in
    let it = c.self.invariant in
    let setup : Setup = record { program = arc_value inside.program; limits = inside.limits } in
    let at = subst (λ place. IsAt setup inside.output.items place it.state) c.in-Some.is it.at in
    subst (λ p. IfSome (state_of p) (λ s. (end : End) → IsOver p.setup s end ↔ (option_copied c.seen.result ≡ Some end))) c.self.view_is
    (if_some _ (λ s. (end : End) → IsOver setup s end ↔ (option_copied c.seen.result ≡ Some end)) it.state it.replays
    (seen_over setup it.formed inside.history.items it.state it.replays (option_copied c.seen.result) (c.seen.ensures inside.output.items ∙ ap end_seen at.0.is)))

pub returns-in-Some-clause-first : goal.returns-in-Some-clause-first
returns-in-Some-clause-first c =
    let inside = c.self.inside in
    let it = c.self.invariant in
    let setup : Setup = record { program = arc_value inside.program; limits = inside.limits } in
    let at = subst (λ place. IsAt setup inside.output.items place it.state) c.in-Some.is it.at in
    subst (λ p. IfSome (state_of p) (λ s. (option_copied c.seen.result ≡ None) ↔ IsSome (first_of s))) c.self.view_is
    (if_some _ (λ s. (option_copied c.seen.result ≡ None) ↔ IsSome (first_of s)) it.state it.replays
    (seen_first it.state (option_copied c.seen.result) (c.seen.ensures inside.output.items ∙ ap end_seen at.0.is)))

pub returns-in-None-clause-over : goal.returns-in-None-clause-over
returns-in-None-clause-over c =
    let inside = c.self.inside in
    let it = c.self.invariant in
    let setup : Setup = record { program = arc_value inside.program; limits = inside.limits } in
    let going : IsSome (first_of it.state) = subst (λ place. IsAt setup inside.output.items place it.state) c.in-None.is it.at in
    subst (λ p. IfSome (state_of p) (λ s. (end : End) → IsOver p.setup s end ↔ (◌≡◌ {A = _} None (Some end)))) c.self.view_is
    (if_some _ (λ s. (end : End) → IsOver setup s end ↔ (None ≡ Some end)) it.state it.replays
    (not_over_any setup it.formed inside.history.items it.state it.replays going))
