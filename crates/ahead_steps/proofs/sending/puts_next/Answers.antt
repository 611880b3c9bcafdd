use Rattle.std.proofs.Common.{◌∙◌, ◌↔◌, IsTrue, ap, subst, sym}
use Rattle.std.specs.Option.{option_copied}
use Rattle.ahead_steps.proofs.Came.{some-same}
use Rattle.ahead_steps.proofs.sending.puts_next.Goals as goal
use Rattle.ahead_steps.specs.Sending.{CanPut}
use Rattle.turns_ahead.specs.Leading.{ahead_of}
use Rattle.value_core.proofs.NamedViews.{view_found}
use Rattle.world_steps.specs.Kept.{shared_of}

pub returns-in-Some : goal.returns-in-Some
returns-in-Some c = λ h leads.
    subst (λ k. IsTrue c.can_put.result ↔ CanPut (shared_of c.args.kept.now) c.args.name.now k c.args.to.now)
    (some-same (ahead_of c.in-Some.turn.now) h (sym (view_found ahead_of c.args.name.now c.args.kept.now.aheads.entries c.in-Some.turn.now (sym c.find.ensures ∙ ap option_copied c.in-Some.is)) ∙ leads)) c.can_put.ensures
