use Rattle.ahead_settling.proofs.Lefts.{dropped-turn}
use Rattle.ahead_settling.proofs.leaving.drop_turn.Goals as goal

pub returns : goal.returns
returns c = dropped-turn c.args.name.now c.args.aheads.now.entries c.remove-turn.new.self.entries c.remove-turn.ensures.updates.0
