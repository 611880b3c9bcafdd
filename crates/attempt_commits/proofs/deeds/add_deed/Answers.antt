use Rattle.std.proofs.Common.{refl, subst, sym}
use Rattle.std.specs.Prelude.{OnOk}
use Rattle.attempt_commits.proofs.Effects.{on-both, on-ok, send-done, spawn-done}
use Rattle.attempt_commits.specs.Deeds.{IsWithDeed}
use Rattle.attempt_commits.proofs.deeds.add_deed.Goals as goal

pub returns-in-Send : goal.returns-in-Send
returns-in-Send c =
    let new = record c.args.deeds.now { letters = c.add_letter.new.letters; counts = c.add_letter.new.counts } in
    subst (λ w. OnOk c.add_letter.result (IsWithDeed c.args.owner.now w c.args.deeds.now new)) (sym c.in-Send.is)
    (on-both c.add_letter.result (λ put counted. send-done c.args.owner.now c.in-Send.to c.in-Send.args c.args.deeds.now new put counted refl refl) c.add_letter.ensures.letters c.add_letter.ensures.counts)

pub returns-in-Spawn : goal.returns-in-Spawn
returns-in-Spawn c =
    let new = record c.args.deeds.now { actors = c.add_spawned.new.actors } in
    subst (λ w. OnOk c.add_spawned.result (IsWithDeed c.args.owner.now w c.args.deeds.now new)) (sym c.in-Spawn.is)
    (on-ok c.add_spawned.result (λ put. spawn-done c.args.owner.now c.in-Spawn.name c.in-Spawn.behaviour c.in-Spawn.state c.args.deeds.now new refl refl put refl) c.add_spawned.ensures)
