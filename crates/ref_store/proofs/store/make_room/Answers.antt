use Rattle.std.proofs.Common.{◌∙◌, sym, ap, subst}
use Rattle.std.specs.Prelude.{Result, Ok, Err, OnErr, OnOk}
use Rattle.std.specs.BTreeMap.{BTreeMap}
use Rattle.std.specs.Option.{option_copied_mut}
use Rattle.std.proofs.lemmas.Result.{on_ok_weaker}
use Rattle.value_core.specs.Named.{Name, Named, with_named}
use Rattle.value_core.specs.Roomy.{Roomy}
use Rattle.value_core.proofs.NameMaps.{found_named, none_named, written_is_put}
use Rattle.value_core.proofs.NamedViews.{view_same}
use Rattle.ref_store.specs.declared.version.Version.{Version}
use Rattle.ref_store.specs.Places.{if_any, room_in, AreWatched, IsReserved}
use Rattle.ref_store.specs.Store.{HasRoom}
use Rattle.ref_store.proofs.PlaceLaws.{made_room, more_room, reserved_same, room_here, watched_put}
use Rattle.ref_store.proofs.store.make_room.Goals as goal

-- the ref has a place
pub returns-in-Some-clause-reserved : goal.returns-in-Some-clause-reserved
returns-in-Some-clause-reserved c =
    let name = c.args.name.now in
    let old = c.args.refs.now in
    let new = c.get_mut.follows.lender c.reserve_one.new.self in
    let there = found_named name old (option_copied_mut c.get_mut.result) _ c.get_mut.ensures.value (ap option_copied_mut c.in-Some.is) in
    let writes = c.get_mut.follows.holds c.reserve_one.new.self in
    more_room name old.entries new.entries c.in-Some.versions.now c.reserve_one.new.self there (written_is_put name old new c.reserve_one.new.self c.in-Some.versions.now writes there) c.reserve_one.ensures.items c.reserve_one.ensures.kept
    (view_same (λ (place : Roomy Version). if_any place.items) name old new c.reserve_one.new.self c.in-Some.versions.now writes there (ap if_any c.reserve_one.ensures.items))

pub returns-in-Some-clause-room : goal.returns-in-Some-clause-room
returns-in-Some-clause-room c =
    let name = c.args.name.now in
    let old = c.args.refs.now in
    let new = c.get_mut.follows.lender c.reserve_one.new.self in
    let there = found_named name old (option_copied_mut c.get_mut.result) _ c.get_mut.ensures.value (ap option_copied_mut c.in-Some.is) in
    let put = written_is_put name old new c.reserve_one.new.self c.in-Some.versions.now (c.get_mut.follows.holds c.reserve_one.new.self) there in
    on_ok_weaker c.reserve_one.result (λ room. subst (λ (p : Named (Roomy Version)). HasRoom name (room_in p)) (sym put) (room_here name c.reserve_one.new.self old.entries room)) c.reserve_one.ensures.room

pub returns-in-Some-clause-watched : goal.returns-in-Some-clause-watched
returns-in-Some-clause-watched c =
    let name = c.args.name.now in
    let old = c.args.refs.now in
    let new = c.get_mut.follows.lender c.reserve_one.new.self in
    let there = found_named name old (option_copied_mut c.get_mut.result) _ c.get_mut.ensures.value (ap option_copied_mut c.in-Some.is) in
    λ names among. watched_put names name old.entries new.entries c.reserve_one.new.self (written_is_put name old new c.reserve_one.new.self c.in-Some.versions.now (c.get_mut.follows.holds c.reserve_one.new.self) there) among

either_way : {A E : Type 0} (r : Result A E) (P Q R : Type 0) → OnOk r P → OnErr r Q → (P → R) → (Q → R) → R
either_way (Ok a) P Q R p q ok err = ok p
either_way (Err e) P Q R p q ok err = err q

-- the ref has none, and gets one, or there is no memory for it
pub returns-in_ok-copy-in-None-clause-reserved : goal.returns-in_ok-copy-in-None-clause-reserved
returns-in_ok-copy-in-None-clause-reserved c =
    let old = c.args.refs.now.entries in
    let new = c.put.new.map.entries in
    let place = c.reserve_one-in-None.new.self in
    let still = ap (λ (m : BTreeMap Name (Roomy Version)). m.entries) c.get_mut.follows.holds-at-none in
    let none = none_named c.args.name.now c.args.refs.now (option_copied_mut c.get_mut.result) c.get_mut.ensures.value (ap option_copied_mut c.in-None.is) in
    either_way c.put.result _ _ (IsReserved old new) c.put.ensures.put c.put.ensures.same
    (λ put. made_room c.args.name.now old new place none (put ∙ (λ i. with_named (still i) (c.in_ok-copy-in-None.ensures i) place)) (c.in_ok-reserve_one-in-None.ensures.items ∙ c.new-versions.ensures))
    (λ same. reserved_same old new (same ∙ still))

pub returns-in_ok-copy-in-None-clause-room : goal.returns-in_ok-copy-in-None-clause-room
returns-in_ok-copy-in-None-clause-room c =
    let old = c.args.refs.now.entries in
    let place = c.reserve_one-in-None.new.self in
    let still = ap (λ (m : BTreeMap Name (Roomy Version)). m.entries) c.get_mut.follows.holds-at-none in
    on_ok_weaker c.put.result (λ put. subst (λ (p : Named (Roomy Version)). HasRoom c.args.name.now (room_in p)) (sym (put ∙ (λ i. with_named (still i) (c.in_ok-copy-in-None.ensures i) place)))
    (room_here c.args.name.now place old c.in_ok-reserve_one-in-None.ensures.room)) c.put.ensures.put

pub returns-in_ok-copy-in-None-clause-watched : goal.returns-in_ok-copy-in-None-clause-watched
returns-in_ok-copy-in-None-clause-watched c =
    let old = c.args.refs.now.entries in
    let new = c.put.new.map.entries in
    let place = c.reserve_one-in-None.new.self in
    let still = ap (λ (m : BTreeMap Name (Roomy Version)). m.entries) c.get_mut.follows.holds-at-none in
    λ names among watched. either_way c.put.result _ _ (AreWatched names new) c.put.ensures.put c.put.ensures.same
    (λ put. watched_put names c.args.name.now old new place (put ∙ (λ i. with_named (still i) (c.in_ok-copy-in-None.ensures i) place)) among watched)
    (λ same. subst (λ (p : Named (Roomy Version)). AreWatched names p) (sym (same ∙ still)) watched)
