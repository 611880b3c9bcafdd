-- Histories that go on.
use Rattle.std.proofs.Common.{◌≡◌, List, [], ◌∷◌, ◌++◌, refl}
use Rattle.std.specs.Prelude.{Option, None, Some}
use Rattle.std.specs.Option.{option_and_then}
use Rattle.serial_model.specs.declared.entry.Entry.{Entry}
use Rattle.serial_model.specs.State.{Setup, State}
use Rattle.serial_model.specs.Step.{step}
use Rattle.serial_model.specs.Replay.{replay_from}

-- more entries are replayed from where the first ones lead
pub replay_from-append : (setup : Setup) (s : State) (entries more : List Entry) → replay_from setup s (entries ++ more) ≡ option_and_then (λ t. replay_from setup t more) (replay_from setup s entries)
unfolding replay_from
replay_from-append setup s [] more = refl
replay_from-append setup s (entry ∷ entries) more = on (step setup s entry) (λ t. replay_from-append setup t entries more)
  where
    on : (next : Option State) → ((t : State) → replay_from setup t (entries ++ more) ≡ option_and_then (λ u. replay_from setup u more) (replay_from setup t entries))
        → option_and_then (λ t. replay_from setup t (entries ++ more)) next ≡ option_and_then (λ u. replay_from setup u more) (option_and_then (λ t. replay_from setup t entries) next)
    on None rest = refl
    on (Some t) rest = rest t

-- one entry more
pub replay_from-step : (setup : Setup) (s t u : State) (entries : List Entry) (entry : Entry) → replay_from setup s entries ≡ Some t → step setup t entry ≡ Some u → replay_from setup s (entries ++ entry ∷ []) ≡ Some u
unfolding replay_from
replay_from-step setup s t u entries entry so_far next = rw (replay_from-append, so_far, next) refl
