use Rattle.std.proofs.Common.{◌≡◌, ◌∙◌, false, sym, subst}
use Rattle.unit_table.specs.Board.{CanWait, HasPlace}
use Rattle.unit_table.specs.declared.mark.Mark.{Mark}
use Rattle.unit_table.specs.Piece.{says_dropped}
use Rattle.world_steps.proofs.Trying.{settles-stays, settles-waits}
use Rattle.world_steps.proofs.kept.Kept.wait_for_root.Goals as goal

pub move_to-requires-clause-stays : goal.move_to-requires-clause-stays
move_to-requires-clause-stays c = subst (λ (m : Mark). says_dropped m ≡ false) (sym c.mark_of.ensures) (settles-stays c.args.settles c.args.trying.wait)

pub move_to-requires-clause-can_wait : goal.move_to-requires-clause-can_wait
move_to-requires-clause-can_wait c =
    let names = c.requires.room.names c.requires.unit.unit c.requires.unit.there in
    subst (λ (m : Mark). CanWait c.add_task.new.units m) (sym c.mark_of.ensures)
    (settles-waits c.add_task.new.units c.args.settles c.args.trying.wait (subst (HasPlace c.add_task.new.units) (names.root ∙ sym names.wait) (c.add_task.ensures.places c.args.trying.root c.requires.room.place)))
