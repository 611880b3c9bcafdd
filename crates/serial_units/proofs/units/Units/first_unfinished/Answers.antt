use Rattle.std.proofs.Common.{◌∙◌, sym, ap}
use Rattle.std.specs.Option.{option_copied}
use Rattle.serial_model.specs.First.{first_unit}
use Rattle.serial_units.specs.Units.{is_unfinished, units_of}
use Rattle.serial_units.proofs.FirstUnits.{unit_first}
use Rattle.value_core.proofs.NameMaps.{rises_of}
use Rattle.value_core.proofs.NameMarks.{first_of_set}
use Rattle.serial_units.proofs.units.Units.first_unfinished.Goals as goal

pub returns : goal.returns
returns c =
    let units = c.self.inside.all.entries in
    sym (unit_first units ∙ first_of_set is_unfinished units c.self.inside.unfinished (option_copied c.first.result) (rises_of units c.len-count.ensures.ordered) c.self.invariant c.first.ensures)
    ∙ ap (λ us. first_unit (units_of us)) c.self.view_is
