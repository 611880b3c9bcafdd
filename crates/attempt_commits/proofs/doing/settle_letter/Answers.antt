use Rattle.std.proofs.Common.{refl, sym}
use Rattle.attempt_commits.proofs.doing.settle_letter.Goals as goal
use Rattle.attempt_commits.specs.Settling.{in_mail, with_turn}

pub returns-then-was_taken-clause-settled : goal.returns-then-was_taken-clause-settled
returns-then-was_taken-clause-settled c = with_turn (sym c.if-was_taken.ensures) refl c.settle_taken.ensures.settled

pub returns-else-was_taken-clause-settled : goal.returns-else-was_taken-clause-settled
returns-else-was_taken-clause-settled c = in_mail (sym c.if-was_taken.ensures) refl c.settle_mailed.ensures.settled
