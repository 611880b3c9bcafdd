-- When the run is over.
use Rattle.std.specs.Prelude.{◌≡◌, false, Some}
use Rattle.serial_model.specs.declared.end.End.{End}
use Rattle.serial_model.specs.Replay.{IsOver, replay}
use Rattle.serial_model.specs.State.{State}
use Rattle.shared_world.specs.Shared.{Shared, ready}
use Rattle.value_core.specs.Named.{Name}

-- the history replays to a state that is over with that end
pub record IsOverWith (s : Shared) (end : End) : Type 0 where
  pub state : State
  pub replays : replay s.setup s.history ≡ Some state
  pub over : IsOver s.setup state end

-- the history replays to a state that is over
abbrev pub IsRunOver : Shared → Type 0
IsRunOver s = (end : End) × IsOverWith s end

-- the run is not over, and nothing is ready
pub record IsIdle (s : Shared) : Type 0 where
  pub going : IsRunOver s → ⊥
  pub none : (name : Name) → ready s name ≡ false
