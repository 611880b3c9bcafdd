use Rattle.std.proofs.Common.{subst}
use Rattle.unit_table.specs.Board.{LentAreReady}
use Rattle.unit_table.specs.Keeping.{board_of}
use Rattle.unit_table.proofs.Lending.{lent_are_ready}
use Rattle.unit_table.proofs.units.Units.lent_are_ready.Goals as goal

pub returns : goal.returns
returns c = subst LentAreReady c.self.view_is (lent_are_ready (board_of c.self.inside.places) c.self.inside.places.waits c.self.invariant.0)
