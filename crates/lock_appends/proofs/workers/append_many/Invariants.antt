use Rattle.std.proofs.Common.{◌≡◌, ◌+◌, ◌≤◌}
use mathlib.Core.List.{IsPrefix}
use Rattle.world_lock.specs.Known.{IsSeatOf}
use Rattle.lock_appends.specs.Counts.{count_of}
use Rattle.lock_appends.proofs.workers.append_many.Given as goal

abbrev pub invariant-loop : goal.invariant-loop
invariant-loop g l = record {
  of : IsSeatOf l.lock l.mine.seat;
  shares : l.mine.seat.shares ≡ l.initial.mine.seat.shares;
  parts : l.mine.share.parts ≡ l.initial.mine.share.parts;
  seen : IsPrefix l.initial.mine.seat.seen l.mine.seat.seen;
  counted : count_of l.number l.initial.mine.seat.seen + l.counter ≤ count_of l.number l.mine.seat.seen;
  each_once : l.mine.share.amount ≡ l.initial.mine.share.amount + l.counter;
}
