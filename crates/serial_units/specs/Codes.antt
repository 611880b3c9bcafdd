-- How units are stored: as their parts.
use Rattle.std.specs.Coded.{Coded, coded×, coded_list, coded_ℕ}
use Rattle.value_core.specs.Named.{Named}
use Rattle.serial_units.specs.contracts.unit.Unit as unit
use Rattle.serial_units.specs.declared.unit.Unit.{Unit}

-- a list of names and units
abbrev pub units_code : Coded (Named Unit)
units_code = coded_list (coded× (coded_list coded_ℕ) (unit.the_row).coded)
