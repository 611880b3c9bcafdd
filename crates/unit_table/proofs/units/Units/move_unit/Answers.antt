use Rattle.std.proofs.Common.{IsSome, subst, sym}
use Rattle.unit_table.specs.Board.{unit_at}
use Rattle.unit_table.specs.Keeping.{board_of}
use Rattle.unit_table.proofs.OpenUnits.{moved_unfinished}
use Rattle.unit_table.proofs.units.Units.move_unit.Goals as goal

pub invariant_of-self : goal.invariant_of-self
invariant_of-self c = (
  c.move_unit.ensures.kept,
  moved_unfinished (board_of c.self.inside.places) (board_of c.move_unit.new.self) c.move_unit.ensures.slots c.self.inside.unfinished c.args.name.now c.args.machine c.args.made c.self.invariant.1 (subst (λ b. IsSome (unit_at b c.args.name.now)) (sym c.self.view_is) c.requires) c.move_unit.ensures.moved,
)
