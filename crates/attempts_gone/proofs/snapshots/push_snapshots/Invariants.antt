use Rattle.std.proofs.Common.{◌≡◌, ◌≤◌, ◌+◌, ◌++◌, length}
use Rattle.std.specs.Vec.{vec_capacity}
use Rattle.attempts_gone.specs.Live.{snapshots_in}
use Rattle.attempts_gone.proofs.snapshots.push_snapshots.Given as goal

abbrev pub invariant-loop-name : goal.invariant-loop-name
invariant-loop-name l = record {
  so_far : l.live.items ++ snapshots_in l._name-iterator ≡ snapshots_in l.attempts.entries;
  room : length l.live.items + length l._name-iterator ≤ vec_capacity l.live;
}
