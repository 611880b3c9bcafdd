use Rattle.std.proofs.Common.{◌∙◌, ap, refl, sym}
use Rattle.std.specs.Option.{option_copied}
use Rattle.std.proofs.lemmas.Result.{IfOk-weaker}
use Rattle.ahead_settling.proofs.Nexts.{next-is}
use Rattle.ahead_settling.proofs.settling.next_held.Goals as goal
use Rattle.world_steps.specs.Kept.{shared_of}

pub returns-in-Some : goal.returns-in-Some
returns-in-Some c = IfOk-weaker c.next_held.result _ _ (λ n first. next-is (shared_of c.args.kept.now) c.args.name.now c.args.kept.now.aheads.entries c.in-Some.turn.now n refl (sym c.find.ensures ∙ ap option_copied c.in-Some.is) first) c.next_held.ensures
