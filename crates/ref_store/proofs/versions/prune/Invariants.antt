use Rattle.std.proofs.Common.{◌≡◌, ◌≤◌, ◌++◌, drop, length, take, vec_capacity}
use Rattle.ref_store.specs.Pruned.{staying}
use Rattle.ref_store.proofs.versions.prune.Given as goal

abbrev pub invariant-loop-index : goal.invariant-loop-index
invariant-loop-index g l = record {
  done : l.versions.items ≡ take l.index l.initial.versions.items ++ staying (g.L.Live.numbers l.live) (drop l.index l.initial.versions.items);
  within : l.index ≤ length l.initial.versions.items;
  capacity : vec_capacity l.versions ≡ vec_capacity l.initial.versions;
}

abbrev pub decreases-loop-index : goal.decreases-loop-index
decreases-loop-index g l = l.index
