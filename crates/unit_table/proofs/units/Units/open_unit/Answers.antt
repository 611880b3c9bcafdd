use Rattle.std.proofs.Common.{◌≡◌, false, subst}
use Rattle.std.specs.Option.{option_copied}
use Rattle.std.specs.Prelude.{IfNone}
use Rattle.unit_table.specs.Board.{Board, is_unfinished}
use Rattle.value_core.specs.Named.{Name}
use Rattle.unit_table.proofs.units.Units.open_unit.Goals as goal

pub returns-clause-none : goal.returns-clause-none
returns-clause-none c = subst (λ (b : Board). IfNone (option_copied c.first.result) ((name : Name) → is_unfinished b name ≡ false)) c.self.view_is c.first.ensures.none
