use Rattle.std.proofs.Common.{◌∙◌, refl, sym}
use Rattle.attempt_sends.proofs.Puts.{keeps-so, roused-actors}
use Rattle.world_steps.specs.Kept.{shared_of}
use Rattle.attempt_sends.proofs.putting.put_or_keep.Goals as goal

pub returns-else-can_put-clause-put : goal.returns-else-can_put-clause-put
returns-else-can_put-clause-put c = keeps-so (shared_of c.args.kept.now) (shared_of c.args.kept.now) c.args.letter (λ can. let no = sym c.if-can_put.false ∙ c.can_put.ensures.1 can in cc) refl

pub returns-then-can_put-clause-actors : goal.returns-then-can_put-clause-actors
returns-then-can_put-clause-actors c = roused-actors (shared_of c.args.kept.now) c.args.letter.to _ c.rouse_unless.new.units c.rouse_unless.ensures.roused
