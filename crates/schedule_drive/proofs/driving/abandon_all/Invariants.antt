use Rattle.schedule_drive.specs.Drive.{Abandons}
use Rattle.shared_world.specs.Shared.{Shared}
use Rattle.schedule_drive.proofs.driving.abandon_all.Given as goal

abbrev pub invariant-loop-done : goal.invariant-loop-done
invariant-loop-done l = (last : Shared) → Abandons l.done-iterator l.world last → Abandons l.kept.entries l.fn.world last
