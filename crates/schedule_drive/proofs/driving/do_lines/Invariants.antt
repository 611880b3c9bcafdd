use Rattle.std.proofs.Common.{◌≡◌, ◌+◌, take}
use Rattle.schedule_drive.specs.UnderWay.{AreOf, IsDrivenSo}
use Rattle.schedule_drive.proofs.driving.do_lines.Given as goal

abbrev pub invariant-loop-line : goal.invariant-loop-line
invariant-loop-line l = record {
  so_far : IsDrivenSo (take l.line-index l.lines) l.fn.world l.report l.world l.kept.entries;
  number : l.number ≡ l.line-index + 1;
  setup : l.world.setup ≡ l.fn.world.setup;
  of : AreOf l.fn.world.setup.program l.kept.entries;
}
