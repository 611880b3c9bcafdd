use Rattle.std.proofs.Common.{◌∙◌, sym, Bool, arith}
use Rattle.std.specs.Option.{option_and_then}
use Rattle.value_core.specs.Named.{named}
use Rattle.serial_model.specs.Step as row
use Rattle.serial_machine.specs.Now.{Steps}
use Rattle.serial_machine.proofs.ActorTurns.{units_spent, turn_begins, within}
use Rattle.serial_machine.proofs.Transactions.{done_so}
use Rattle.serial_machine.proofs.now.Now.take.Goals as goal

pub returns-then-are_units_spent : goal.returns-then-are_units_spent
returns-then-are_units_spent c =
    let known = within c.args.program.now.behaviours c.in-Some.behaviour (let far = c.if-behaviours-behaviour.false in let is = c.behaviours.ensures in omega (arith, far, is)) in
    units_spent (record { program = c.args.program.now; limits = c.args.limits }) c.args.actor.now c.args.sender.now c.args.self.now c.in-Some.behaviour (sym c.idle_behaviour.ensures ∙ c.in-Some.is) known.0 known.1
    (sym c.has_message.ensures ∙ c.if-not-has_message.false) c.end_with.new.self (sym c.are_units_spent.ensures ∙ c.if-are_units_spent.true) (c.end_with.ensures _)

pub returns : goal.returns
returns c = done_so c.done.result c.begin_turn.result _
    (λ (done : Bool). Steps (record { program = c.args.program.now; limits = c.args.limits }) c.args.self.now c.begin_turn.new.self done
    (λ s. option_and_then (row.take_step (record { program = c.args.program.now; limits = c.args.limits }) s c.args.actor.now c.args.sender.now) (named c.args.actor.now s.actors)))
    c.done.ensures.done c.done.ensures.did c.begin_turn.ensures (λ begins.
    let known = within c.args.program.now.behaviours c.in-Some.behaviour (let far = c.if-behaviours-behaviour.false in let is = c.behaviours.ensures in omega (arith, far, is)) in
    turn_begins (record { program = c.args.program.now; limits = c.args.limits }) c.args.actor.now c.args.sender.now c.args.self.now c.in-Some.behaviour (sym c.idle_behaviour.ensures ∙ c.in-Some.is) known.0 known.1
    (sym c.has_message.ensures ∙ c.if-not-has_message.false) c.begin_turn.new.self (sym c.are_units_spent.ensures ∙ c.if-are_units_spent.false) begins)
