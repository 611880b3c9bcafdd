use Rattle.std.proofs.Common.{◌∙◌, ◌<◌, List, length, ap, subst}
use Rattle.std.specs.Prelude.{All}
use Rattle.std.specs.Option.{option_copied_mut}
use Rattle.value_core.proofs.NameMaps.{found_named, none_named, written_is_put}
use Rattle.ref_store.specs.declared.version.Version.{Version}
use Rattle.ref_store.proofs.PlaceLaws.{added, no_room, room_there, versions_put, versions_there}
use Rattle.ref_store.proofs.store.add.Goals as goal

pub push-requires-clause-room : goal.push-requires-clause-room
push-requires-clause-room c =
    room_there c.args.name.now c.args.refs.now.entries c.in-Some.versions.now (found_named c.args.name.now c.args.refs.now (option_copied_mut c.get_mut.result) _ c.get_mut.ensures.value (ap option_copied_mut c.in-Some.is)) c.requires.ready.0

pub push-requires-clause-newer : goal.push-requires-clause-newer
push-requires-clause-newer c =
    let there = found_named c.args.name.now c.args.refs.now (option_copied_mut c.get_mut.result) _ c.get_mut.ensures.value (ap option_copied_mut c.in-Some.is) in
    subst (λ (vs : List Version). All (λ v. v.number < c.args.version.number) vs) (versions_there c.args.name.now c.args.refs.now.entries c.in-Some.versions.now c.requires.rises there) c.requires.ready.1

pub returns-clause-added : goal.returns-clause-added
returns-clause-added c =
    let there = found_named c.args.name.now c.args.refs.now (option_copied_mut c.get_mut.result) _ c.get_mut.ensures.value (ap option_copied_mut c.in-Some.is) in
    added c.args.name.now c.args.version c.args.refs.now.entries (c.get_mut.follows.lender c.push.new.self).entries c.in-Some.versions.now c.push.new.self c.requires.rises there
    (room_there c.args.name.now c.args.refs.now.entries c.in-Some.versions.now there c.requires.ready.0)
    (written_is_put c.args.name.now c.args.refs.now (c.get_mut.follows.lender c.push.new.self) c.push.new.self c.in-Some.versions.now (c.get_mut.follows.holds c.push.new.self) there) c.push.ensures

pub returns-clause-count : goal.returns-clause-count
returns-clause-count c =
    let there = found_named c.args.name.now c.args.refs.now (option_copied_mut c.get_mut.result) _ c.get_mut.ensures.value (ap option_copied_mut c.in-Some.is) in
    let put = written_is_put c.args.name.now c.args.refs.now (c.get_mut.follows.lender c.push.new.self) c.push.new.self c.in-Some.versions.now (c.get_mut.follows.holds c.push.new.self) there in
    ap length (versions_put c.args.name.now c.args.refs.now.entries (c.get_mut.follows.lender c.push.new.self).entries c.push.new.self c.requires.rises put) ∙ c.count.ensures

-- a ref with room has a place
pub unreachable-requires : goal.unreachable-requires
unreachable-requires c =
    no_room c.args.name.now c.args.refs.now.entries
    (none_named c.args.name.now c.args.refs.now (option_copied_mut c.get_mut.result) c.get_mut.ensures.value (ap option_copied_mut c.in-None.is)) c.requires.ready.0
