use Rattle.std.proofs.Common.{◌≡◌, ◌+◌, ◌≤◌, drop, fold, length, take}
use Rattle.rollback.specs.Gathering.{directly, with_ticket, IsRoomFor}
use Rattle.rollback.proofs.gathering.append_direct.Given as goal

abbrev pub invariant-loop-link : goal.invariant-loop-link
invariant-loop-link l = record {
  kept : take l.start l.out.items ≡ take l.start l.fn.out.items;
  start : l.start ≤ length l.out.items;
  added : fold with_ticket (drop l.start l.out.items) (directly (drop l.link-index l.links) l.on) ≡ fold with_ticket (drop l.start l.fn.out.items) (directly l.links l.on);
  fits : IsRoomFor l.links (drop l.start l.out.items) l.out.room;
  room : l.fn.out.room + length l.fn.out.items ≤ l.out.room + length l.out.items;
}
