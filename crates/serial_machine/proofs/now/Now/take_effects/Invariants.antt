use Rattle.std.proofs.Common.{◌≡◌, List, ℕ}
use Rattle.std.specs.Vec.Iter.{into_iter_items}
use Rattle.serial_model.specs.State.{Setup, UnitState, State}
use Rattle.serial_model.specs.Step as row
use Rattle.serial_machine.specs.Now.{IsNow, turned_into}
use Rattle.serial_machine.proofs.now.Now.take_effects.Given as goal

abbrev pub invariant-loop-effect : goal.invariant-loop-effect
invariant-loop-effect l = record {
  units : l.self.units ≡ l.fn.self.units;
  taken : (setup : Setup) (before : List ℕ) (s : State) (unit : UnitState) → IsNow setup before l.fn.self s
      → (t : State) × IsNow setup before l.self t × (row.take_effects l.name l.fn.effects.items s unit ≡ row.take_effects l.name (into_iter_items l.effect-iterator) t (turned_into l.becomes unit));
}
