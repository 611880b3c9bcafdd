use Rattle.ref_store.specs.Places.{IsPruning}
use Rattle.ref_store.proofs.pruning.prune.Given as goal

abbrev pub invariant-loop-index : goal.invariant-loop-index
invariant-loop-index g l = IsPruning (g.L.Live.numbers l.live) l.initial.refs.entries l.watched.items l.index l.most l.refs.entries

abbrev pub decreases-loop-index : goal.decreases-loop-index
decreases-loop-index g l = l.index
