use Rattle.std.proofs.Common.{◌≡◌, ap}
use Rattle.std.specs.Option.{option_copied_mut}
use Rattle.std.proofs.lemmas.Result.{on_ok_weaker}
use Rattle.serial_model.specs.declared.actor_state.ActorState.{ActorState}
use Rattle.serial_machine.specs.Actors.{turning}
use Rattle.value_core.proofs.NameMaps.{found_named, changed}
use Rattle.serial_machine.proofs.take.begin.Goals as goal

pub returns-in-Some : goal.returns-in-Some
returns-in-Some c = on_ok_weaker c.turn.result (λ turned.
    changed c.args.name.now c.args.actors.now (c.get_mut.follows.lender c.turn.new.actor) c.turn.new.actor c.in-Some.actor.now (λ (a b : ActorState). b ≡ turning a) (c.get_mut.follows.holds c.turn.new.actor)
    (found_named c.args.name.now c.args.actors.now (option_copied_mut c.get_mut.result) c.in-Some.actor.now c.get_mut.ensures.value (ap option_copied_mut c.in-Some.is)) turned) c.turn.ensures
