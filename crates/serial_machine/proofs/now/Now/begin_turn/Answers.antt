use Rattle.std.proofs.Common.{refl, subst, Option, List}
use Rattle.std.proofs.lemmas.Result.{on_ok_weaker}
use Rattle.value_core.specs.declared.value.Value.{Value}
use Rattle.serial_model.specs.Step.{queue_of}
use Rattle.actor_queues.specs.Waiting.{IsTaken}
use Rattle.serial_machine.proofs.ActorTurns.{begun_turn}
use Rattle.serial_machine.proofs.now.Now.begin_turn.Goals as goal

pub returns : goal.returns
returns c = on_ok_weaker c.begin.result (λ changed.
    begun_turn (record { program = c.args.program.now; limits = c.args.limits }) c.args.actor.now c.args.sender.now c.args.self.now (record c.args.self.now { queues = c.take.new.self }) c.start.new.self
    (record c.start.new.self { actors = c.begin.new.actors }) c.in_ok-name.name c.in_ok-turner.turner c.in_ok-name.body c.in_ok-name.state c.in_ok-values.values c.in-Some.message refl
    (subst (λ (o : Option (List Value)). IsTaken (c.args.self.now.queues) c.args.actor.now c.args.sender.now (queue_of (c.args.self.now.queues) c.args.actor.now c.args.sender.now) (c.take.new.self) o)
    c.in-Some.is c.take.ensures)
    c.in_ok-values.ensures c.in_ok-turner.ensures c.in_ok-start.ensures.comes refl changed c.in_ok-name.ensures.turn) c.begin.ensures
