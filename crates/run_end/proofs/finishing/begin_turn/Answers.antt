use Rattle.std.proofs.Common.{None, subst, sym}
use Rattle.run_end.proofs.Ends.{goes-itself}
use Rattle.run_end.proofs.Walked.{walked-finished}
use Rattle.run_end.proofs.finishing.begin_turn.Goals as goal
use Rattle.run_end.specs.Finishing.{GoesOn}
use Rattle.run_end.specs.InTurn.{IsWalked}
use Rattle.world_steps.specs.Kept.{shared_of}

-- the search leaves what is kept
pub returns-in_err-name-clause-goes : goal.returns-in_err-name-clause-goes
returns-in_err-name-clause-goes c = subst (λ k. GoesOn (shared_of c.args.kept.now) (shared_of k)) (sym c.first_mailed.ensures.same) (goes-itself (shared_of c.args.kept.now) c.requires.stands)

pub returns-in-None-clause-goes : goal.returns-in-None-clause-goes
returns-in-None-clause-goes c = subst (λ k. GoesOn (shared_of c.args.kept.now) (shared_of k)) (sym c.first_mailed.ensures.same) (goes-itself (shared_of c.args.kept.now) c.requires.stands)

pub returns-in-None-clause-walked : goal.returns-in-None-clause-walked
returns-in-None-clause-walked c = λ going. subst (λ k. IsWalked (shared_of k) None) (sym c.first_mailed.ensures.same) (walked-finished (shared_of c.args.kept.now) _ c.requires.level c.requires.finished)
