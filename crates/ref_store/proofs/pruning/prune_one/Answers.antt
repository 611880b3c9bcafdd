use Rattle.std.proofs.Common.{◌∙◌, ap}
use Rattle.std.specs.BTreeMap.{BTreeMap}
use Rattle.std.specs.Option.{option_copied_mut}
use Rattle.value_core.specs.Named.{Name, named}
use Rattle.value_core.specs.Roomy.{Roomy}
use Rattle.value_core.proofs.NameMaps.{found_named, none_named, written_is_put}
use Rattle.ref_store.specs.declared.version.Version.{Version}
use Rattle.ref_store.specs.Places.{has_busy}
use Rattle.ref_store.proofs.PruningLaws.{put_pruned}
use Rattle.ref_store.proofs.pruning.prune_one.Goals as goal

pub returns-in-Some-clause-pruned : goal.returns-in-Some-clause-pruned
returns-in-Some-clause-pruned g c =
    let name = c.args.name.now in
    let old = c.args.refs.now in
    let new = c.get_mut.follows.lender c.prune.new.self in
    let there = found_named name old (option_copied_mut c.get_mut.result) _ c.get_mut.ensures.value (ap option_copied_mut c.in-Some.is) in
    put_pruned (g.L.Live.numbers c.args.live.now) name old.entries new.entries c.in-Some.versions.now c.prune.new.self c.requires.names there
    (written_is_put name old new c.prune.new.self c.in-Some.versions.now (c.get_mut.follows.holds c.prune.new.self) there) c.prune.ensures.pruned c.prune.ensures.room

-- no ref has the name
pub returns-in-None-clause-idle : goal.returns-in-None-clause-idle
returns-in-None-clause-idle g c =
    let still = ap (λ (m : BTreeMap Name (Roomy Version)). m.entries) c.get_mut.follows.holds-at-none in
    let none = none_named c.args.name.now c.args.refs.now (option_copied_mut c.get_mut.result) c.get_mut.ensures.value (ap option_copied_mut c.in-None.is) in
    λ _. ap has_busy (ap (named c.args.name.now) still ∙ none)
