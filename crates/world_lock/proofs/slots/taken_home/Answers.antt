use Rattle.std.proofs.Common.{◌≡◌, subst}
use mathlib.Core.List.{IsPrefix}
use Rattle.world_lock.proofs.Rules.{closes}
use Rattle.world_lock.proofs.slots.taken_home.Goals as goal

pub unreachable-requires : goal.unreachable-requires
unreachable-requires g c =
    let home = closes g.T.Grows.setup g.T.Grows.history _ _ _ _ _ _ c.requires.rests c.requires.live c.requires.all c.close_with-closed.ensures.values.2 in
    cc (home.there, c.take-slot.ensures.value, c.in-None.is)

pub returns-clause-setup : goal.returns-clause-setup
returns-clause-setup g c =
    let home = closes g.T.Grows.setup g.T.Grows.history _ _ _ _ _ _ c.requires.rests c.requires.live c.requires.all c.close_with-closed.ensures.values.2 in
    cc (home.there, home.of_setup, c.take-slot.ensures.value, c.in-Some.is)

pub returns-clause-seen : goal.returns-clause-seen
returns-clause-seen g c =
    let home = closes g.T.Grows.setup g.T.Grows.history _ _ _ _ _ _ c.requires.rests c.requires.live c.requires.all c.close_with-closed.ensures.values.2 in
    let same : home.value ≡ c.in-Some.value = cc (home.there, c.take-slot.ensures.value, c.in-Some.is) in
    subst (λ (y : g.row.T.Denot). IsPrefix c.args.place.me.0.seen (g.T.Grows.history y)) same home.seen
