use Rattle.std.proofs.Common.{IsSome, subst, sym}
use Rattle.unit_table.specs.Board.{piece_at}
use Rattle.unit_table.specs.Keeping.{board_of}
use Rattle.unit_table.proofs.OpenUnits.{mark_unfinished}
use Rattle.unit_table.proofs.units.Units.mark.Goals as goal

pub invariant_of-self : goal.invariant_of-self
invariant_of-self c = (
  c.mark.ensures.kept,
  mark_unfinished (board_of c.self.inside.places) (board_of c.mark.new.self) c.mark.ensures.slots c.self.inside.places.waits c.self.inside.unfinished c.note.new.unfinished c.args.name.now c.args.mark c.self.invariant.0 c.self.invariant.1 c.mark.ensures.marked (subst (λ b. IsSome (piece_at b c.args.name.now)) (sym c.self.view_is) c.requires.there) c.note.ensures,
)
