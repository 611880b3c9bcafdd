use Rattle.std.proofs.Common.{ap, not, subst, sym}
use Rattle.unit_table.specs.Keeping.{board_of, AreUnfinished}
use Rattle.unit_table.specs.Piece.{says_finished}
use Rattle.unit_table.specs.declared.unit.Unit.{Unit}
use Rattle.unit_table.proofs.OpenUnits.{add_unfinished}
use Rattle.unit_table.proofs.units.Units.add_unit.Goals as goal

pub invariant_of-self : goal.invariant_of-self
invariant_of-self c = (
  c.fill.ensures.kept,
  subst (AreUnfinished (board_of c.fill.new.self)) (sym c.insert.ensures)
      (add_unfinished (board_of c.place.new.places) (board_of c.fill.new.self) c.fill.ensures.slots c.place.new.places.waits c.place.new.unfinished c.args.name c.in-Ok.ticket _ c.place.ensures.kept c.place.ensures.set c.in-Ok.ensures.ticket (c.fill.ensures.put c.args.name c.in-Ok.ensures.ticket) (ap (λ (u : Unit). not (says_finished u.mark)) c.new.ensures)),
)
