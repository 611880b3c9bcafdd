use Rattle.ref_store.specs.Places.{versions_in, AreFew}
use Rattle.ref_store.proofs.CommitLaws.{IsUnderWay}
use Rattle.ref_store.proofs.store.commit.Given as goal

abbrev pub invariant-loop-write : goal.invariant-loop-write
invariant-loop-write l = record {
  way : IsUnderWay l.number l.initial.writes.items l.initial.refs.entries l.writes.items l.refs.entries;
  few : AreFew l.initial.most (versions_in l.initial.refs.entries) → AreFew l.most (versions_in l.refs.entries);
}

abbrev pub decreases-loop-write : goal.decreases-loop-write
decreases-loop-write l = goal.left-loop-write l
