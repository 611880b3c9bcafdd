use Rattle.std.proofs.Common.{◌∙◌, ap, sym}
use Rattle.std.specs.Option.{option_copied}
use Rattle.attempt_deciding.proofs.Conflicts.{found-changed}
use Rattle.world_steps.specs.Kept.{shared_of}
use Rattle.attempt_deciding.proofs.deciding.to_undo.Goals as goal

pub returns-then-is_to_decide : goal.returns-then-is_to_decide
returns-then-is_to_decide c =
    found-changed (shared_of c.args.kept.now) c.args.task.now c.in_ok-owner.owner.now (sym c.get.ensures ∙ ap option_copied c.in_ok-owner.was) (c.is_to_decide.ensures.0 c.if-is_to_decide.true) c.find_changed.result c.find_changed.ensures
