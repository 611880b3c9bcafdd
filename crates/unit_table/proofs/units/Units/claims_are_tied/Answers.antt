use Rattle.std.proofs.Common.{subst}
use Rattle.unit_table.specs.Board.{AreTied}
use Rattle.unit_table.specs.Keeping.{board_of}
use Rattle.unit_table.proofs.Lending.{tied_by_name}
use Rattle.unit_table.proofs.units.Units.claims_are_tied.Goals as goal

pub returns : goal.returns
returns c = subst AreTied c.self.view_is (tied_by_name (board_of c.self.inside.places) c.self.inside.places.waits c.self.invariant.0)
