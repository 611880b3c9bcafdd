-- A world, and the state that its history replays to.
use Rattle.std.proofs.Common.{◌≡◌, refl, sym, ◌∙◌, ap, subst}
use Rattle.std.specs.Prelude.{Some, IfSome, IsSome}
use Rattle.run_end.specs.Over.{IsOverWith}
use Rattle.serial_model.specs.Replay.{replay, IsOver}
use Rattle.serial_model.specs.State.{Setup}
use Rattle.serial_model.specs.declared.end.End.{End}
use Rattle.shared_world.specs.Opening.{IsOpening}
use Rattle.shared_world.specs.Shared.{Shared}
use Rattle.shared_world.specs.Stands.{Stands}

pub opening_setup : (setup : Setup) (s : Shared) → IsOpening setup s → s.setup ≡ setup
opening_setup setup s opens = ap (λ w. w.setup) opens.rest

module _ (s : Shared) (stands : Stands s) where
  replays : replay s.setup s.history ≡ Some stands.is_world.state
  replays = ap (replay s.setup) (sym stands.seen.history) ∙ stands.is_world.replays

  pub has_state : IsSome (replay s.setup s.history)
  has_state = subst (λ o. IsSome o) (sym replays) refl

  pub has_bytes : IfSome (replay s.setup s.history) (λ state. s.bytes ≡ state.bytes)
  has_bytes = subst (λ o. IfSome o (λ state. s.bytes ≡ state.bytes)) (sym replays) (sym stands.seen.bytes ∙ stands.is_world.stands.bytes)

pub over_state : (s : Shared) (end : End) → IsOverWith s end → IfSome (replay s.setup s.history) (λ state. IsOver s.setup state end)
over_state s end over = subst (λ o. IfSome o (λ state. IsOver s.setup state end)) (sym over.replays) over.over
