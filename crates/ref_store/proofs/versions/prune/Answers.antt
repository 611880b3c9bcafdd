use Rattle.std.proofs.Common.{◌∙◌, ◌-◌, arith}
use Rattle.ref_store.proofs.PruneLaws.{stays_at}
use Rattle.ref_store.proofs.versions.prune.Goals as goal

pub loop-index-preserved : goal.loop-index-preserved
loop-index-preserved g c = record {
  done = c.drop_unread.ensures.items
      ∙ stays_at (g.L.Live.numbers c.args.live.now) c.args.versions.now.items c.loop-index.versions.items (c.loop-index.index - 1) c.loop-index.index (omega arith) c.loop-index.invariant.within c.loop-index.invariant.done;
  within = omega arith;
  capacity = c.drop_unread.ensures.capacity ∙ c.loop-index.invariant.capacity;
}
