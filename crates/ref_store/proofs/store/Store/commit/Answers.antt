use Rattle.std.proofs.Common.{◌∙◌, sym, ap, subst}
use Rattle.std.specs.Prelude.{All}
use Rattle.value_core.specs.declared.value.Value.{Value}
use Rattle.value_core.specs.Named.{Name, Named, Rises}
use Rattle.ref_store.specs.Places.{versions_in, IsReady}
use Rattle.ref_store.specs.Store.{committed, HasRoomFor, IsAbove, Kept}
use Rattle.ref_store.proofs.CommitLaws.{all_ready}
use Rattle.ref_store.proofs.StoreLaws.{above_committed, reads_below, reads_from}
use Rattle.ref_store.proofs.store.Store.commit.Goals as goal

pub commit-self-inside-requires-clause-ready : goal.commit-self-inside-requires-clause-ready
commit-self-inside-requires-clause-ready c =
    let entries = c.self.inside.refs.entries in
    subst (λ (ws : Named Value). All (λ (w : Name × Value). IsReady c.args.number entries w.0) ws) (sym c.into_items.ensures.items)
    (all_ready c.args.number c.args.writes.items entries (subst (λ (k : Kept). HasRoomFor c.args.writes.items k.room) (sym c.self.view_is) c.requires.room)
    (subst (λ (k : Kept). IsAbove c.args.number k.versions) (sym c.self.view_is) c.requires.above))

pub returns-clause-below : goal.returns-clause-below
returns-clause-below c =
    reads_below c.args.self.now.versions (versions_in c.commit-self-inside.new.refs.entries) c.args.writes.items c.args.number (subst (λ (ws : Named Value). Rises ws) c.into_items.ensures.items c.into_items.ensures.rises)
    (c.commit-self-inside.ensures.added.shows ∙ ap (λ (k : Kept). committed k.versions c.into_items.result.items c.args.number) c.self.view_is
    ∙ ap (λ (ws : Named Value). committed c.args.self.now.versions ws c.args.number) c.into_items.ensures.items)

pub returns-clause-from : goal.returns-clause-from
returns-clause-from c =
    reads_from c.args.self.now.versions (versions_in c.commit-self-inside.new.refs.entries) c.args.writes.items c.args.number (subst (λ (ws : Named Value). Rises ws) c.into_items.ensures.items c.into_items.ensures.rises)
    (c.commit-self-inside.ensures.added.shows ∙ ap (λ (k : Kept). committed k.versions c.into_items.result.items c.args.number) c.self.view_is
    ∙ ap (λ (ws : Named Value). committed c.args.self.now.versions ws c.args.number) c.into_items.ensures.items)

pub returns-clause-above : goal.returns-clause-above
returns-clause-above c =
    above_committed c.args.self.now.versions (versions_in c.commit-self-inside.new.refs.entries) c.args.writes.items c.args.number (subst (λ (ws : Named Value). Rises ws) c.into_items.ensures.items c.into_items.ensures.rises)
    (c.commit-self-inside.ensures.added.shows ∙ ap (λ (k : Kept). committed k.versions c.into_items.result.items c.args.number) c.self.view_is
    ∙ ap (λ (ws : Named Value). committed c.args.self.now.versions ws c.args.number) c.into_items.ensures.items)
    c.requires.above

pub invariant_of-self : goal.invariant_of-self
invariant_of-self c = record {
  rises = c.commit-self-inside.ensures.added.rises;
  watched = c.commit-self-inside.ensures.added.watched c.self.inside.watched.items c.self.invariant.watched;
  few = c.commit-self-inside.ensures.few c.self.invariant.few;
}
