use Rattle.std.proofs.Common.{◌∙◌, sym, ap, subst, Some}
use Rattle.value_core.specs.Named.{Rises, with_named}
use Rattle.value_core.specs.Placed.{Placed, filled, HasPlace}
use Rattle.value_core.proofs.NamedLaws.{rises-with_named, still_named}
use Rattle.value_core.proofs.PlacedLaws.{filled_shows}
use Rattle.value_core.proofs.places.Places.fill.Goals as goal

pub invariant_of-self : goal.invariant_of-self
invariant_of-self g c = subst (λ (p : Placed g.row.X.Denot). Rises p) (sym c.fill.ensures) (rises-with_named c.args.name.now (Some c.args.item) c.self.inside.all.entries c.self.invariant)

pub returns-clause-shows : goal.returns-clause-shows
returns-clause-shows g c =
    let has = subst (λ (p : Placed g.row.X.Denot). HasPlace c.args.name.now p) (sym c.self.view_is) c.requires in
    ap (λ (p : Placed g.row.X.Denot). filled p) c.fill.ensures ∙ filled_shows c.args.name.now c.args.item c.self.inside.all.entries c.self.invariant has
    ∙ ap (λ (p : Placed g.row.X.Denot). with_named (filled p) c.args.name.now c.args.item) c.self.view_is

pub returns-clause-places : goal.returns-clause-places
returns-clause-places g c = λ other has.
    let there = subst (λ (p : Placed g.row.X.Denot). HasPlace other p) (sym c.self.view_is) has in
    subst (λ (p : Placed g.row.X.Denot). HasPlace other p) (sym c.fill.ensures) (still_named other c.args.name.now (Some c.args.item) c.self.inside.all.entries there)
