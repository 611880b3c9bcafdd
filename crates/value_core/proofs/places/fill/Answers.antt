use Rattle.std.proofs.Common.{ap, Some}
use Rattle.std.specs.Option.{option_copied_mut}
use Rattle.value_core.proofs.NameMaps.{found_named, written_is_put}
use Rattle.value_core.proofs.places.fill.Goals as goal

pub returns-in-Some : goal.returns-in-Some
returns-in-Some g c =
    written_is_put c.args.name.now c.args.places.now (c.get_mut.follows.lender (Some c.args.item)) (Some c.args.item) _ (c.get_mut.follows.holds (Some c.args.item))
    (found_named c.args.name.now c.args.places.now (option_copied_mut c.get_mut.result) _ c.get_mut.ensures.value (ap option_copied_mut c.in-Some.is))
