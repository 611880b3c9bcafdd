-- What a world has printed is what its history prints.
use Rattle.std.proofs.Common.{◌≡◌, ◌∙◌, ℕ, List, length, refl, sym, ap}
use Rattle.std.specs.Prelude.{IsSome, drop}
use Rattle.core_syntax.specs.Table.{Table}
use Rattle.interleave_core.specs.Grown.{history_seen, setup_of, setup_seen}
use Rattle.serial_model.specs.declared.entry.Entry.{Entry}
use Rattle.serial_model.specs.Limits.{Budget}
use Rattle.serial_model.specs.Replay.{replay}
use Rattle.shared_world.specs.Shared.{Shared}
use Rattle.shared_world.specs.Stands.{Stands}
use Rattle.transcript.specs.Written.{IsBehind, IsPrinted}
use Rattle.world_lock.proofs.Begun.{prefix_self}
use Rattle.world_lock.specs.Later.{IsLater}

pub printed : (s : Shared) → Stands s → (total : ℕ) → total ≡ length s.bytes → IsPrinted (s.setup.program, s.setup.limits) s.history total
printed s st total is = record {
  state = st.is_world.state;
  replays = ap (replay s.setup) (sym st.seen.history) ∙ st.is_world.replays;
  total_is = is ∙ ap length (sym st.seen.bytes ∙ st.is_world.stands.bytes);
}

pub behind : (s : Shared) → Stands s → (written : ℕ) (rest : List ℕ) → rest ≡ drop written s.bytes → IsBehind (s.setup.program, s.setup.limits) s.history written rest
behind s st written rest is = record {
  state = st.is_world.state;
  replays = ap (replay s.setup) (sym st.seen.history) ∙ st.is_world.replays;
  rest_is = is ∙ ap (drop written) (sym st.seen.bytes ∙ st.is_world.stands.bytes);
}

-- a world that stays, as the lock sees it
pub stays : (s : Shared) → IsLater setup_seen history_seen s s
stays s = record { same_setup = refl; grown = prefix_self s.history }

-- what was seen where bytes were printed replays
pub replayed : (setup : Table × Budget) (seen : List Entry) (total : ℕ) → IsPrinted setup seen total → IsSome (replay (setup_of setup) seen)
replayed setup seen total is = rw is.replays refl
