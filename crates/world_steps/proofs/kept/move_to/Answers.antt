use Rattle.world_steps.proofs.Settling.{moved-is}
use Rattle.world_steps.proofs.kept.move_to.Goals as goal

pub returns : goal.returns
returns c = moved-is c.args.name.now c.args.units.now c.move_unit.new.self c.mark.new.self c.args.machine c.args.made c.args.mark c.requires.stays c.move_unit.ensures.moved c.move_unit.ensures.claims c.mark.ensures.marked c.mark.ensures.claims
    (λ other there. c.mark.ensures.places other (c.move_unit.ensures.places other there))
