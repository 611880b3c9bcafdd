use Rattle.std.proofs.Common.{◌≡◌, false, refl, subst, sym}
use Rattle.std.specs.Prelude.{IfSome}
use Rattle.ahead_steps.proofs.Marked.{stays-ahead, waits-ahead}
use Rattle.ahead_steps.proofs.Waited.{waited-came}
use Rattle.ahead_steps.proofs.waiting.wait_ahead.Goals as goal
use Rattle.unit_table.specs.Board.{CanWait, unit_at}
use Rattle.unit_table.specs.declared.mark.Mark.{Mark}
use Rattle.unit_table.specs.declared.mark.Mark.TheVariants as mark
use Rattle.unit_table.specs.declared.mark.WaitOn.TheVariants as wait
use Rattle.unit_table.specs.declared.unit.Unit.{Unit}
use Rattle.unit_table.specs.Piece.{says_dropped}
use Rattle.world_steps.specs.Kept.{shared_of}
use Rattle.world_steps.specs.Moved.{IsMoved}

pub move_to-requires-clause-stays : goal.move_to-requires-clause-stays
move_to-requires-clause-stays c = subst (λ (m : Mark). says_dropped m ≡ false) (sym c.mark_ahead-mark.ensures) (stays-ahead c.in_ok-definite.definite (mark.Waiting (wait.Definite c.in_ok-waits.waits)) refl)

pub move_to-requires-clause-can_wait : goal.move_to-requires-clause-can_wait
move_to-requires-clause-can_wait c =
    subst (λ (m : Mark). CanWait c.args.kept.now.units m) (sym c.mark_ahead-mark.ensures) (waits-ahead c.args.kept.now.units c.in_ok-definite.definite (mark.Waiting (wait.Definite c.in_ok-waits.waits)) tt)

pub returns : goal.returns
returns c =
    let old = shared_of c.args.kept.now in
    let made = c.made_of-made.result in
    let moves = subst (λ (m : Mark). IfSome (unit_at old.board c.args.name.now) (λ (x : Unit). IsMoved c.args.name.now x c.args.moved made m old.board c.move_to.new.units)) c.mark_ahead-mark.ensures c.move_to.ensures in
    waited-came old _ c.args.name.now c.args.moved c.in_ok-definite.definite made c.in_ok-waits.waits c.in_ok-told.told _ c.requires.stands c.requires.unit c.in_ok-definite.ensures
    c.in_ok-waits.ensures c.in_ok-told.ensures c.made_of-made.ensures c.wait_in.ensures moves refl refl
