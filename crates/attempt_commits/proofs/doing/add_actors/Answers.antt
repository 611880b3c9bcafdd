use Rattle.std.proofs.Common.{refl, sym}
use Rattle.std.specs.Prelude.{Some}
use Rattle.actor_mails.specs.Mails.{held}
use Rattle.attempt_commits.proofs.Letters.{actor-begun}
use Rattle.attempts_gone.proofs.Live.{taken}
use Rattle.value_core.proofs.NameMaps.{found_named}
use Rattle.attempt_commits.proofs.doing.add_actors.Goals as goal

pub loop-entry-preserved : goal.loop-entry-preserved
loop-entry-preserved c =
    let name = c.in-Some.entry.0 in
    let actor = c.in-Some.entry.1 in
    actor-begun name actor c.args.actors.entries c.loop-entry.actors.entries c.pop_first.new.self.entries (held c.args.mails.now) c.args.units.now c.loop-entry.units c.add_actor.new.units c.loop-entry.invariant
    (found_named name c.loop-entry.actors (Some actor) actor (sym c.in-Some.ensures.value) refl) (taken name c.loop-entry.actors.entries c.pop_first.new.self.entries c.in-Some.ensures.updates.0) c.add_actor.ensures.added c.add_actor.ensures.claims
    c.add_actor.ensures.places
