use Rattle.std.proofs.Common.{◌≡◌, ◌∙◌, subst, sym}
use Rattle.ahead_settling.proofs.leaving.finish.Goals as goal
use Rattle.ahead_settling.proofs.Lefts.{left-from}
use Rattle.ahead_settling.specs.Leaving.{LeavesAs}
use Rattle.serial_model.specs.declared.entry.Entry.TheVariants.{Run}
use Rattle.shared_world.specs.rows.Leading.{left_after}
use Rattle.turns_ahead.specs.Leading.{ahead_of}
use Rattle.value_core.specs.Named.{each_as}
use Rattle.world_steps.specs.Kept.{shared_of}

pub leave_turn-requires-clause-told : goal.leave_turn-requires-clause-told
leave_turn-requires-clause-told c = c.requires.settling.leave.told_is ∙ sym c.requires.settling.leave.entry_is

pub returns-clause-leaves : goal.returns-clause-leaves
returns-clause-leaves c h r rest leading held =
    let base = shared_of c.args.kept.now in
    let after = each_as ahead_of c.settle_first-still.new.aheads.entries in
    let name = c.args.name.now in
    left-from base after name (left_after h r rest) c.settle_first-still.result (Run name) (shared_of c.leave_turn.new.kept) c.leave_turn.result (c.settle_first-still.ensures h r rest leading held)
    (subst (λ e. LeavesAs (record base { aheads = after }) name c.settle_first-still.result e (shared_of c.leave_turn.new.kept) c.leave_turn.result) c.requires.settling.leave.entry_is c.leave_turn.ensures.leaves)
