use Rattle.attempt_deciding.proofs.Conflicts.{has-conflicted, within-reads}
use Rattle.attempt_commits.proofs.Committing.{at-attempt}
use Rattle.task_fork_join.specs.Attempt.{Attempt}
use Rattle.txn_commit.specs.Conflict.{IsFirstConflict}
use Rattle.value_core.specs.Named.{named}
use Rattle.world_steps.specs.Kept.{shared_of}
use Rattle.attempt_deciding.proofs.undoing.abort_for.Goals as goal

pub aborted-requires : goal.aborted-requires
aborted-requires c =
    let s = shared_of c.args.kept.now in
    let owner = c.args.owner.now in
    let has = c.requires.attempt in
    within-reads owner s.attempts s.versions c.undo_attempt-unit.result.reads.items c.args.conflict has.tree has.attempt c.undo_attempt-unit.ensures.reads
    (at-attempt (named owner s.attempts) (λ (t : Attempt). IsFirstConflict t.reads s.versions t.snapshot c.args.conflict) has.tree has.attempt c.requires.conflict)

pub returns : goal.returns
returns c =
    let undone = c.undo_attempt-unit.ensures in
    has-conflicted (shared_of c.args.kept.now) (shared_of c.undo_attempt-unit.new.kept) c.args.owner.now c.args.conflict c.undo_attempt-unit.result c.aborted.result
    (record { undone = undone.undone; claims = undone.claims; unit = undone.unit; reads = undone.reads }) c.aborted.ensures
