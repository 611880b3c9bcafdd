use Rattle.std.proofs.Common.{arith}
use Rattle.ref_store.proofs.CommitLaws.{at_start, few_added, last_ready, one_added}
use Rattle.ref_store.specs.Store.{version_of}
use Rattle.ref_store.proofs.store.commit.Goals as goal

pub loop-write-init : goal.loop-write-init
loop-write-init c = record { way = at_start c.args.number c.args.writes.items c.args.refs.now.entries c.requires.rises c.requires.order c.requires.ready; few = λ few. few }

pub add-requires-clause-ready : goal.add-requires-clause-ready
add-requires-clause-ready c =
    last_ready c.args.number c.args.writes.items c.args.refs.now.entries c.loop-write.writes.items c.pop.new.self.items c.loop-write.refs.entries c.in-Some.write c.loop-write.invariant.way c.in-Some.ensures.items

pub loop-write-preserved : goal.loop-write-preserved
loop-write-preserved c = record {
  way = one_added c.args.number c.args.writes.items c.args.refs.now.entries c.loop-write.writes.items c.pop.new.self.items c.loop-write.refs.entries c.add.new.refs.entries c.in-Some.write c.loop-write.invariant.way c.in-Some.ensures.items c.add.ensures.added;
  few = λ few.
      let higher = c.max-most.ensures in
      few_added c.in-Some.write.0 (version_of c.args.number c.in-Some.write.1) c.loop-write.refs.entries c.add.new.refs.entries c.loop-write.most c.add.result c.max-most.result c.add.ensures.added c.add.ensures.count (omega arith) (omega arith)
      (c.loop-write.invariant.few few);
}
