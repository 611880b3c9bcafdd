use Rattle.std.proofs.Common.{◌∙◌, sym, ap, subst, cond, None}
use Rattle.value_core.specs.Named.{named, same_name}
use Rattle.value_core.specs.Placed.{Placed, filled, HasPlace}
use Rattle.value_core.proofs.PlacedLaws.{emptied_places, emptied_rises, emptied_shows, named_filled}
use Rattle.value_core.proofs.places.Places.take.Goals as goal

pub invariant_of-self : goal.invariant_of-self
invariant_of-self g c = emptied_rises c.args.name.now c.self.inside.all.entries _ c.self.invariant c.empty.ensures.emptied

pub returns-clause-item : goal.returns-clause-item
returns-clause-item g c =
    c.empty.ensures.item ∙ sym (named_filled c.args.name.now c.self.inside.all.entries c.self.invariant) ∙ ap (λ (p : Placed g.row.X.Denot). named c.args.name.now (filled p)) c.self.view_is

pub returns-clause-shows : goal.returns-clause-shows
returns-clause-shows g c = λ other.
    emptied_shows c.args.name.now c.self.inside.all.entries _ c.self.invariant c.empty.ensures.emptied other
    ∙ ap (λ (p : Placed g.row.X.Denot). cond (same_name other c.args.name.now) None (named other (filled p))) c.self.view_is

pub returns-clause-places : goal.returns-clause-places
returns-clause-places g c = λ other has.
    emptied_places c.args.name.now c.self.inside.all.entries _ c.empty.ensures.emptied other (subst (λ (p : Placed g.row.X.Denot). HasPlace other p) (sym c.self.view_is) has)
