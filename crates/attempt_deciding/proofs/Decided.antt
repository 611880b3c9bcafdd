-- Attempts whose root is at its end.
use Rattle.std.proofs.Common.{◌≡◌, ◌∙◌, true, false, sym, ap, subst}
use Rattle.std.specs.Prelude.{Err, IfSome, None, Ok, Result, Some}
use Rattle.std.specs.declared.alloc.AllocError.{AllocError}
use Rattle.attempt_commits.proofs.Committing.{at-attempt}
use Rattle.attempt_deciding.proofs.Ending.{acts-stay, goes-end}
use Rattle.attempt_commits.specs.Committing.{CommitsOr, IsTrying}
use Rattle.attempt_deciding.specs.Deciding.{DecidedOr, IsValidated, SettledOr}
use Rattle.attempt_deciding.specs.Ending.{FoundEnd}
use Rattle.shared_world.specs.Gave.{ended_by}
use Rattle.world_steps.specs.Rows.{EndsOr}
use Rattle.attempt_deciding.specs.Undoing.{HasConflicted}
use Rattle.serial_model.specs.declared.end.End.{End}
use Rattle.serial_model.specs.declared.end.End.TheVariants as ending
use Rattle.shared_world.specs.declared.given.Given.{Given}
use Rattle.shared_world.specs.rows.Pieces.{Ends, but_gone}
use Rattle.shared_world.specs.rows.Tasks.{EndGives, conflicts, valid}
use Rattle.shared_world.specs.Shared.{Shared, claimed, is_going}
use Rattle.task_fork_join.specs.Attempt.{Attempt, end_at}
use Rattle.task_fork_join.specs.declared.task_end.TaskEnd.{TaskEnd}
use Rattle.task_fork_join.specs.declared.task_end.TaskEnd.TheVariants as end
use Rattle.txn_commit.specs.declared.conflict.Conflict.{Conflict}
use Rattle.value_core.specs.declared.code.Code.{Code}
use Rattle.value_core.specs.declared.value.Value.{Value}
use Rattle.value_core.specs.Named.{Name, named}
use Rattle.value_core.specs.Place.{Spot}

-- a conflict
pub decided-abort : (old new : Shared) (owner : Name) (c : Conflict) (found : Given) → IsTrying old owner → IfSome (named owner old.attempts) (λ tree. IsValidated old.versions tree (Some c))
    → HasConflicted old owner c new found → DecidedOr old owner new (Ok found)
decided-abort old new owner c found trying changed r = record {
  row = λ task x tree ended there attempt is_ended.
      let for = r.row x tree there attempt in
      conflicts trying.level (record {
        conflict = c;
        first = at-attempt (named owner old.attempts) (λ (t : Attempt). IsValidated old.versions t (Some c)) tree attempt changed;
        ref = for.ref;
        ref_is = for.ref_is;
        aborts = for.aborts;
      });
  claims = r.claims;
}

-- no conflict
pub decided-settle : (old new : Shared) (owner : Name) (result : Result Given AllocError) → IsTrying old owner → IfSome (named owner old.attempts) (λ tree. IsValidated old.versions tree None) → SettledOr old owner new result → DecidedOr old owner new result
decided-settle old new owner (Err e) trying unchanged r = r
decided-settle old new owner (Ok found) trying unchanged r = record {
  row = λ task x tree ended there attempt is_ended. valid trying.level (at-attempt (named owner old.attempts) (λ (t : Attempt). IsValidated old.versions t None) tree attempt unchanged) (r.row x tree ended there attempt is_ended);
  claims = r.claims;
}

-- it ended so
same-end : (old : Shared) (owner : Name) (e ended : TaskEnd) (tree : Attempt) → IfSome (named owner old.attempts) (λ t. end_at t ≡ Some e) → named owner old.attempts ≡ Some tree → end_at tree ≡ Some ended → e ≡ ended
same-end old owner e ended tree is attempt is_ended = let both : Some e ≡ Some ended = sym (at-attempt (named owner old.attempts) (λ (t : Attempt). end_at t ≡ Some e) tree attempt is) ∙ is_ended in cc

-- at its value it commits
pub settled-commit : (old new : Shared) (owner : Name) (v : Value) (result : Result Given AllocError) → IsTrying old owner → IfSome (named owner old.attempts) (λ t. end_at t ≡ Some (end.Value v)) → CommitsOr old owner v new result → SettledOr old owner new result
settled-commit old new owner v (Err e) trying is r = r
settled-commit old new owner v (Ok found) trying is r = record {
  row = λ x tree ended there attempt is_ended. subst (λ e. EndGives old owner x tree e found new) (same-end old owner (end.Value v) ended tree is attempt is_ended) (r.row x tree there attempt);
  claims = λ going ticket.
      let has = trying.has in
      let row = r.row has.unit has.tree has.there has.attempt in
      let gone = goes-end old new row.board owner row.unit has.tree (ap (λ (s : Shared). s.end) row.others) trying.free row.goes (acts-stay row.log.log.effects owner has.tree old new row.board row.acts) (r.claims has.tree has.attempt) going ticket in
      subst (λ f. claimed new ticket ≡ but_gone (ended_by f old.board new.board) (claimed old ticket)) (sym row.found_is) gone;
}

none-ends : (old new : Shared) (owner : Name) (e : End) (found : Given) → Ends old owner e found new → FoundEnd found old new
none-ends old new owner e found row going ticket = let no : false ≡ true = sym (ap (λ (s : Shared). is_going s.end) row.others) ∙ going in cc

-- at a fault the run ends
pub settled-fault : (old new : Shared) (owner : Name) (code : Code) (at : Spot) (result : Result Given AllocError) → IfSome (named owner old.attempts) (λ t. end_at t ≡ Some (end.Fault code at)) → EndsOr old owner (ending.Fault code at owner) new result
    → SettledOr old owner new result
settled-fault old new owner code at (Err e) is r = r
settled-fault old new owner code at (Ok found) is r = record {
  row = λ x tree ended there attempt is_ended. subst (λ e. EndGives old owner x tree e found new) (same-end old owner (end.Fault code at) ended tree is attempt is_ended) r;
  claims = none-ends old new owner (ending.Fault code at owner) found r;
}

-- and where its fuel is spent
pub settled-spent : (old new : Shared) (owner : Name) (result : Result Given AllocError) → IfSome (named owner old.attempts) (λ t. end_at t ≡ Some end.Spent) → EndsOr old owner (ending.Spent owner) new result → SettledOr old owner new result
settled-spent old new owner (Err e) is r = r
settled-spent old new owner (Ok found) is r = record {
  row = λ x tree ended there attempt is_ended. subst (λ e. EndGives old owner x tree e found new) (same-end old owner end.Spent ended tree is attempt is_ended) r;
  claims = none-ends old new owner (ending.Spent owner) found r;
}
