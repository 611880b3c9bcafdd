use Rattle.std.proofs.Common.{sym, ap, subst, Option, None}
use Rattle.std.specs.Option.{option_copied_mut}
use Rattle.value_core.specs.Named.{named}
use Rattle.value_core.specs.Placed.{IsEmptied}
use Rattle.value_core.proofs.NameMaps.{found_named, written_is_put}
use Rattle.value_core.proofs.places.empty.Goals as goal

pub returns-in-Some-clause-emptied : goal.returns-in-Some-clause-emptied
returns-in-Some-clause-emptied g c =
    let there = found_named c.args.name.now c.args.places.now (option_copied_mut c.get_mut.result) _ c.get_mut.ensures.value (ap option_copied_mut c.in-Some.is) in
    subst (λ (w : Option g.row.X.Denot). IsEmptied c.args.name.now (named c.args.name.now c.args.places.now.entries) c.args.places.now.entries (c.get_mut.follows.lender w).entries)
    (sym c.replace.ensures.after)
    (subst (λ (o : Option (Option g.row.X.Denot)). IsEmptied c.args.name.now o c.args.places.now.entries (c.get_mut.follows.lender None).entries) (sym there)
    (written_is_put c.args.name.now c.args.places.now (c.get_mut.follows.lender None) None _ (c.get_mut.follows.holds None) there))
