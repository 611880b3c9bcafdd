use Rattle.std.proofs.Common.{subst}
use Rattle.std.specs.Prelude.{IfSome}
use Rattle.attempt_deciding.proofs.Decided.{decided-abort}
use Rattle.attempt_deciding.specs.Deciding.{IsValidated}
use Rattle.world_steps.specs.Kept.{shared_of}
use Rattle.value_core.specs.Named.{named}
use Rattle.attempt_deciding.proofs.deciding.decide.Goals as goal

pub returns-in-Some : goal.returns-in-Some
returns-in-Some c =
    decided-abort (shared_of c.args.kept.now) (shared_of c.abort_for.new.kept) c.args.owner.now c.in-Some.conflict c.abort_for.result c.requires.attempt
    (subst (λ found. IfSome (named c.args.owner.now c.args.kept.now.attempts.entries) (λ tree. IsValidated c.args.kept.now.store.versions tree found)) c.in-Some.is c.find_changed.ensures) c.abort_for.ensures
