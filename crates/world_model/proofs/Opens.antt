-- The world with main alone stands for the empty history.
use Rattle.std.proofs.Common.{◌≡◌, Bool, true, false, cond, [], refl}
use Rattle.std.specs.Prelude.{None, Some}
use Rattle.value_core.specs.Named.{Name, named, same_name}
use Rattle.serial_model.specs.Replay.{replay_from}
use Rattle.serial_model.specs.State.{Setup, UnitState, opening, main_name, new_unit}
use Rattle.world_model.specs.IsWorld.{IsWorld}
use Rattle.world_model.specs.StandsFor.{UnitStands}
use Rattle.world_model.specs.World.{opening_world, sends, still}

pub opens : (setup : Setup) → IsWorld setup (opening_world setup)
unfolding replay_from
opens setup = record {
  state = opening setup;
  replays = refl;
  stands = record {
    refs = λ r. refl;
    units = λ q. unit q (same_name q main_name) refl;
    actors = λ a. refl;
    turns = λ a. tt;
    queues = λ a u. record { put = []; kept = []; whole = none a u (same_name u main_name); stands = refl };
    attempts = λ u. tt;
    bytes = refl;
    made = refl;
    end = refl;
  };
  snapshots = λ u at e. cc;
  ranks = record { rank = λ n. 0; turns = λ a actor m on there took depends. cc; attempts_above = λ v at e. cc };
}
  where
    main : UnitState
    main = new_unit None setup.program.main []

    unit : (q : Name) (c : Bool) → same_name q main_name ≡ c → UnitStands setup (λ a. None) (λ a. []) q (cond c (Some (still (new_unit None setup.program.main []))) None) (named q (opening setup).units)
    unit q true e = rw e (refl, refl)
    unit q false e = rw e tt

    none : (a u : Name) (c : Bool) → sends (record (opening_world setup) { units = λ v. cond c (Some (still (new_unit None setup.program.main []))) None }) u a ≡ []
    none a u true = refl
    none a u false = refl
