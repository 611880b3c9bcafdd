use Rattle.std.proofs.lemmas.List.Sorted.{IsNonDecreasingBy-from_sort}
use Rattle.attempts_gone.proofs.Live.{sorted_live}
use Rattle.attempts_gone.proofs.snapshots.fill_snapshots.Goals as goal

pub returns-clause-live : goal.returns-clause-live
returns-clause-live c = sorted_live c.args.attempts.now.entries c.push_snapshots.new.live.items c.sort_unstable.new.self.items c.push_snapshots.ensures c.sort_unstable.ensures.permutation

pub returns-clause-order : goal.returns-clause-order
returns-clause-order c = IsNonDecreasingBy-from_sort (λ n. n) c.sort_unstable.new.self.items c.sort_unstable.ensures.sorted
