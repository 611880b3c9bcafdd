use Rattle.std.proofs.Common.{◌∙◌, ap, refl, sym}
use Rattle.std.specs.Option.{option_copied}
use Rattle.std.proofs.lemmas.Result.{IfOk-weaker}
use Rattle.ahead_settling.proofs.First.{made-there}
use Rattle.ahead_settling.proofs.requests.next_made.Goals as goal
use Rattle.world_steps.specs.Kept.{shared_of}

pub returns-in-Some : goal.returns-in-Some
returns-in-Some c =
    IfOk-weaker c.child.result _ _ (λ made is. made-there (shared_of c.args.kept.now) c.args.name.now made c.left_made.result c.args.kept.now.aheads.entries c.in-Some.turn.now refl (sym c.find.ensures ∙ ap option_copied c.in-Some.is) c.left_made.ensures is) c.child.ensures
