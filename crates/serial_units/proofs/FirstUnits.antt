-- The first unit that is not finished.
use Rattle.std.proofs.Common.{◌≡◌, [], ◌∷◌, refl, Option, Some, None}
use Rattle.std.specs.Prelude.{not, is_some, if◌then◌else◌}
use Rattle.std.specs.Option.{option_or}
use Rattle.value_core.specs.declared.value.Value.{Value}
use Rattle.value_core.specs.Named.{Named}
use Rattle.value_core.proofs.NameMarks.{first_name}
use Rattle.serial_model.specs.First.{if_unfinished, first_unit}
use Rattle.serial_units.specs.declared.unit.Unit.{Unit}
use Rattle.serial_units.specs.Units.{units_of, is_unfinished}

pub unit_first : (units : Named Unit) → first_unit (units_of units) ≡ first_name is_unfinished units
unit_first [] = refl
unit_first (e ∷ es) = on e.1.value (unit_first es)
  where
    on : (v : Option Value) → first_unit (units_of es) ≡ first_name is_unfinished es
        → option_or (if_unfinished v e.0) (first_unit (units_of es)) ≡ (if not (is_some v) then Some e.0 else first_name is_unfinished es)
    on None rest = refl
    on (Some v) rest = rest
