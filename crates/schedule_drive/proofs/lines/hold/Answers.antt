use Rattle.std.proofs.Common.{◌∙◌}
use Rattle.schedule_drive.proofs.SoFar.{of_put}
use Rattle.schedule_drive.proofs.lines.hold.Goals as goal

pub returns-clause-of : goal.returns-clause-of
returns-clause-of c =
    let run = c.in_ok-done.ensures.run in
    of_put c.args.world.now.setup.program c.args.kept.now.entries c.keep.new.kept.entries c.args.name.now c.in_ok-done.done c.requires.of (run.run.program ∙ run.claimed.program) c.in_ok-keep.ensures.kept
