use Rattle.std.proofs.Common.{◌≡◌, false, refl, subst, sym}
use Rattle.ahead_steps.proofs.Marked.{stays-ahead, waits-ahead}
use Rattle.ahead_steps.proofs.Moved.{goes-on, still-unit}
use Rattle.ahead_steps.proofs.holding.go_on.Goals as goal
use Rattle.turns_ahead.specs.Leading.{becomes_or}
use Rattle.unit_table.specs.Board.{CanWait}
use Rattle.unit_table.specs.declared.mark.Mark.{Mark}
use Rattle.unit_table.specs.declared.mark.Mark.TheVariants as mark
use Rattle.unit_table.specs.declared.mark.Work.TheVariants as work
use Rattle.unit_table.specs.declared.unit.Unit.{Unit}
use Rattle.unit_table.specs.Piece.{says_dropped}

pub move_to-requires-clause-there : goal.move_to-requires-clause-there
move_to-requires-clause-there c =
    still-unit c.args.units.now c.turn_into.new.units c.args.name.now (λ (x : Unit). record x { becomes = becomes_or c.args.going.becomes x.becomes }) c.requires c.turn_into.ensures.turned

pub move_to-requires-clause-stays : goal.move_to-requires-clause-stays
move_to-requires-clause-stays c = subst (λ (m : Mark). says_dropped m ≡ false) (sym c.mark_ahead-mark.ensures) (stays-ahead c.args.going.definite (mark.Ready work.Eval) refl)

pub move_to-requires-clause-can_wait : goal.move_to-requires-clause-can_wait
move_to-requires-clause-can_wait c = subst (λ (m : Mark). CanWait c.turn_into.new.units m) (sym c.mark_ahead-mark.ensures) (waits-ahead c.turn_into.new.units c.args.going.definite (mark.Ready work.Eval) tt)

pub returns : goal.returns
returns c =
    goes-on c.args.units.now c.turn_into.new.units c.move_to.new.units c.args.name.now c.args.going.machine c.args.going.made c.args.going.becomes c.args.going.definite c.mark_ahead-mark.result c.mark_ahead-mark.ensures c.turn_into.ensures.claims
    c.turn_into.ensures.turned c.move_to.ensures
