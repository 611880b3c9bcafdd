use Rattle.std.proofs.Common.{◌∙◌, sym, ap, Option}
use Rattle.std.specs.Option.{option_and_then, option_copied}
use Rattle.value_core.specs.Named.{named}
use Rattle.value_core.specs.Placed.{Placed, filled}
use Rattle.value_core.proofs.PlacedLaws.{named_filled}
use Rattle.value_core.proofs.places.Places.get.Goals as goal

pub returns-in-Some : goal.returns-in-Some
returns-in-Some g c =
    c.as_ref.ensures.value ∙ ap (option_and_then (λ (o : Option g.row.X.Denot). o)) (sym (ap option_copied c.in-Some.is) ∙ c.find.ensures)
    ∙ sym (named_filled c.args.name.now c.self.inside.all.entries c.self.invariant) ∙ ap (λ (p : Placed g.row.X.Denot). named c.args.name.now (filled p)) c.self.view_is

pub returns-in-None : goal.returns-in-None
returns-in-None g c =
    ap (option_and_then (λ (o : Option g.row.X.Denot). o)) (sym (ap option_copied c.in-None.is) ∙ c.find.ensures)
    ∙ sym (named_filled c.args.name.now c.self.inside.all.entries c.self.invariant) ∙ ap (λ (p : Placed g.row.X.Denot). named c.args.name.now (filled p)) c.self.view_is
