use Rattle.std.proofs.Common.{◌≡◌, false, subst}
use Rattle.std.specs.Option.{option_copied}
use Rattle.std.specs.Prelude.{IfNone}
use Rattle.unit_table.specs.Board.{Board, is_ready}
use Rattle.value_core.specs.Named.{Name}
use Rattle.unit_table.proofs.units.Units.first_ready.Goals as goal

pub returns-clause-none : goal.returns-clause-none
returns-clause-none c = subst (λ (b : Board). IfNone (option_copied c.first_ready.result) ((name : Name) → is_ready b name ≡ false)) c.self.view_is c.first_ready.ensures.none
