use Rattle.std.proofs.Common.{◌∙◌, ap, fold, sym}
use Rattle.std.proofs.lemmas.List.{nil_from_length}
use Rattle.std.specs.Vec.Iter.{into_iter_items}
use Rattle.shared_map.proofs.NameLaws.{among-both}
use Rattle.shared_map.proofs.shared_names.SharedNames.add_all.Goals as goal
use Rattle.shared_map.specs.Names.{with_member}
use Rattle.value_core.specs.Named.{is_among}

pub returns-clause-among : goal.returns-clause-among
returns-clause-among c =
    let none = nil_from_length (into_iter_items c.loop-name.name-iterator) (sym c.loop-name.name-iterator.rest.ok.0 ∙ c.in-None.ensures.steps.0) in
    λ q. ap (is_among q) (ap (fold with_member c.loop-name.both) (sym none) ∙ c.loop-name.invariant) ∙ among-both q c.args.more.now c.args.self.now
