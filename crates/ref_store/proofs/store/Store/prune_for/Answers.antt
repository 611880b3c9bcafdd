use Rattle.std.proofs.Common.{subst, sym}
use Rattle.value_core.specs.Named.{Name}
use Rattle.ref_store.specs.Places.{room_in, versions_in}
use Rattle.ref_store.specs.Store.{ArePruned, HasRoom, Kept}
use Rattle.ref_store.proofs.PlaceLaws.{all_pruned, pruned_room}
use Rattle.ref_store.proofs.StoreLaws.{above_pruned}
use Rattle.ref_store.proofs.store.Store.prune_for.Goals as goal

pub returns-clause-versions : goal.returns-clause-versions
returns-clause-versions g c =
    subst (λ (k : Kept). ArePruned (g.L.Live.numbers c.args.live.now) k.versions (versions_in c.prune-self-inside.new.refs.entries)) c.self.view_is
    (all_pruned (g.L.Live.numbers c.args.live.now) c.self.inside.refs.entries c.prune-self-inside.new.refs.entries c.self.invariant.rises c.prune-self-inside.ensures.kept.rises c.prune-self-inside.ensures.pruned)

pub returns-clause-kept : goal.returns-clause-kept
returns-clause-kept g c =
    subst (λ (k : Kept). (name : Name) → HasRoom name k.room → HasRoom name (room_in c.prune-self-inside.new.refs.entries)) c.self.view_is
    (pruned_room (g.L.Live.numbers c.args.live.now) c.self.inside.refs.entries c.prune-self-inside.new.refs.entries c.prune-self-inside.ensures.pruned)

pub returns-clause-above : goal.returns-clause-above
returns-clause-above g c =
    above_pruned (g.L.Live.numbers c.args.live.now) c.args.self.now.versions (versions_in c.prune-self-inside.new.refs.entries)
    (subst (λ (k : Kept). ArePruned (g.L.Live.numbers c.args.live.now) k.versions (versions_in c.prune-self-inside.new.refs.entries)) c.self.view_is
    (all_pruned (g.L.Live.numbers c.args.live.now) c.self.inside.refs.entries c.prune-self-inside.new.refs.entries c.self.invariant.rises c.prune-self-inside.ensures.kept.rises c.prune-self-inside.ensures.pruned))

-- nothing is to be pruned
pub returns-then-not-is_due-clause-versions : goal.returns-then-not-is_due-clause-versions
returns-then-not-is_due-clause-versions g c = c.is_due.ensures c.if-not-is_due.true (g.L.Live.numbers c.args.live.now) (sym c.count.ensures)
