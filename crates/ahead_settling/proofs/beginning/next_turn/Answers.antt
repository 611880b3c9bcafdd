use Rattle.std.proofs.Common.{◌∙◌, ap, sym}
use Rattle.std.specs.Option.{option_copied}
use Rattle.ahead_settling.proofs.Begun.{next-turn}
use Rattle.ahead_settling.proofs.beginning.next_turn.Goals as goal

pub returns-in-Some : goal.returns-in-Some
returns-in-Some c = next-turn c.args.units.now c.args.name.now c.args.actor.now c.in-Some.state.now c.turn_of.result (sym c.actor.ensures ∙ ap option_copied c.in-Some.is) c.turn_of.ensures.called c.turn_of.ensures.busy
