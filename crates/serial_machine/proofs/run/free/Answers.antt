use Rattle.std.proofs.Common.{◌∙◌, sym, ap, subst, Option}
use Rattle.std.specs.Option.{option_copied_mut, option_map}
use Rattle.serial_model.specs.declared.actor_state.ActorState.{ActorState}
use Rattle.value_core.specs.Named.{with_named}
use Rattle.serial_model.specs.Step.{after_turn}
use Rattle.serial_units.specs.declared.unit.Becoming.{Becoming}
use Rattle.serial_machine.specs.Actors.{IsFreed}
use Rattle.serial_units.specs.Units.{becoming_of}
use Rattle.value_core.proofs.NameMaps.{found_named, written_is_put}
use Rattle.serial_machine.proofs.run.free.Goals as goal

pub returns-in-Some : goal.returns-in-Some
returns-in-Some c =
    let there = found_named c.args.name.now c.args.actors.now (option_copied_mut c.get_mut.result) c.in-Some.actor.now c.get_mut.ensures.value (ap option_copied_mut c.in-Some.is) in
    subst (λ (o : Option ActorState). IsFreed c.args.name.now c.args.actors.now.entries (c.get_mut.follows.lender c.rest.new.actor).entries o (option_map becoming_of c.args.becomes.now)) (sym there)
    (written_is_put c.args.name.now c.args.actors.now (c.get_mut.follows.lender c.rest.new.actor) c.rest.new.actor c.in-Some.actor.now (c.get_mut.follows.holds c.rest.new.actor) there
    ∙ ap (with_named c.args.actors.now.entries c.args.name.now) (c.rest.ensures ∙ ap (λ (b : Option Becoming). after_turn (option_map becoming_of b) c.in-Some.actor.now) c.in_ok-becomes.ensures))
