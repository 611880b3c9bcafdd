use Rattle.std.proofs.Common.{◌≡◌, ◌+◌, ◌-◌, ◌≤◌, drop, length, take}
use Rattle.rollback.specs.Gathering.{IsRoomFor}
use Rattle.rollback.proofs.Closing.{IsClosing}
use Rattle.rollback.proofs.gathering.gather.Given as goal

abbrev pub invariant-loop-next : goal.invariant-loop-next
invariant-loop-next l = record {
  start : l.start ≡ length l.fn.out.items;
  kept : take l.start l.out.items ≡ l.fn.out.items;
  after : l.start ≤ l.next;
  within : l.next ≤ length l.out.items;
  fits : IsRoomFor l.links (drop l.start l.out.items) l.out.room;
  closing : IsClosing l.links l.fn.of (drop l.start l.out.items) (l.next - l.start);
  room : l.fn.out.room + length l.fn.out.items ≤ l.out.room + length l.out.items;
}

abbrev pub decreases-loop-next : goal.decreases-loop-next
decreases-loop-next l = l.start + length l.links - l.next
