use Rattle.std.proofs.Common.{◌≡◌, subst}
use Rattle.std.specs.Prelude.{IfSome, Some}
use Rattle.attempt_deciding.proofs.Decided.{settled-commit}
use Rattle.world_steps.specs.Kept.{shared_of}
use Rattle.task_fork_join.specs.Attempt.{end_at}
use Rattle.value_core.specs.Named.{named}
use Rattle.attempt_deciding.proofs.deciding.settle_end.Goals as goal

pub returns-in-Value : goal.returns-in-Value
returns-in-Value c =
    settled-commit (shared_of c.args.kept.now) (shared_of c.commit.new.kept) c.args.owner.now c.in-Value.value c.commit.result c.requires.attempt
    (subst (λ e. IfSome (named c.args.owner.now c.args.kept.now.attempts.entries) (λ t. end_at t ≡ Some e)) c.in-Value.is c.in_ok-value.ensures) c.commit.ensures
