use Rattle.std.proofs.Common.{subst, sym}
use Rattle.std.specs.Option.{option_copied}
use Rattle.attempt_undoing.proofs.SendsGone.{none-sent}
use Rattle.attempt_undoing.proofs.sends.drop_to.Goals as goal
use Rattle.attempt_undoing.specs.Hanging.{sends_on}
use Rattle.attempt_undoing.specs.Sends.{SendsGone}
use Rattle.tentative_turn.specs.Sending.{listed}
use Rattle.world_steps.specs.Kept.{shared_of}

-- there is none
pub returns-in_default-clause-gone : goal.returns-in_default-clause-gone
returns-in_default-clause-gone c =
    let s = shared_of c.args.kept.now in subst (λ found. SendsGone (sends_on c.args.on.now (listed (option_copied found))) s s) (sym c.in_default.is) (none-sent s c.requires.marks)
