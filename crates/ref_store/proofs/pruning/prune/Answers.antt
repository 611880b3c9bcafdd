use Rattle.std.proofs.Common.{◌≡◌, ◌+◌, ◌-◌, refl, subst, arith}
use Rattle.ref_store.specs.Places.{IsPruning}
use Rattle.ref_store.proofs.PruningLaws.{at_end, at_start, kept_at_end}
use Rattle.ref_store.proofs.pruning.prune.Goals as goal

pub loop-index-init : goal.loop-index-init
loop-index-init g c =
    at_start (g.L.Live.numbers c.args.live.now) c.args.watched.now.items c.args.refs.now.entries c.len-index.result 1 (omega (arith, c.len-index.ensures, c.args.watched.now.ok.0)) refl c.requires.names c.requires.watched

pub loop-index-preserved : goal.loop-index-preserved
loop-index-preserved g c =
    let before : c.loop-index.index ≡ c.loop-index.index - 1 + 1 = omega arith in
    c.prune_at-most.ensures c.args.refs.now.entries
    (subst (λ i. IsPruning (g.L.Live.numbers c.args.live.now) c.args.refs.now.entries c.loop-index.watched.items i c.loop-index.most c.loop-index.refs.entries) before c.loop-index.invariant)

pub returns-clause-pruned : goal.returns-clause-pruned
returns-clause-pruned g c = at_end (g.L.Live.numbers c.args.live.now) c.args.refs.now.entries c.loop-index.watched.items c.loop-index.index c.loop-index.most c.loop-index.refs.entries (omega arith) c.loop-index.invariant

pub returns-clause-kept : goal.returns-clause-kept
returns-clause-kept g c = kept_at_end (g.L.Live.numbers c.args.live.now) c.args.refs.now.entries c.loop-index.watched.items c.loop-index.index c.loop-index.most c.loop-index.refs.entries (omega arith) c.loop-index.invariant
