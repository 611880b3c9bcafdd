use Rattle.std.proofs.Common.{◌∙◌, ap, sym}
use Rattle.std.specs.Option.{option_copied}
use Rattle.ahead_steps.proofs.Sent.{can-put, cannot-put}
use Rattle.ahead_steps.proofs.sending.can_put.Goals as goal
use Rattle.turns_ahead.specs.Leading.{ahead_of}
use Rattle.world_steps.specs.Kept.{shared_of}

pub returns-in-Some : goal.returns-in-Some
returns-in-Some c = can-put (shared_of c.args.kept.now) c.args.name.now (ahead_of c.args.turn.now) c.args.to.now _ c.all_put.result (sym c.actor.ensures ∙ ap option_copied c.in-Some.is) c.all_put.ensures

pub returns-in-None : goal.returns-in-None
returns-in-None c = cannot-put (shared_of c.args.kept.now) c.args.name.now (ahead_of c.args.turn.now) c.args.to.now (sym c.actor.ensures ∙ ap option_copied c.in-None.is)
