use Rattle.std.proofs.Common.{◌∙◌, ap, refl, Some}
use Rattle.task_fork_join.proofs.Acts.{foreseen_so, missed_so}
use Rattle.task_fork_join.proofs.answering.answer.Goals as goal
use Rattle.txn_snapshot.specs.SnapshotAnswer.{snapshot_of}

pub go_on-requires-clause-given : goal.go_on-requires-clause-given
go_on-requires-clause-given c =
    let refs = snapshot_of c.args.store.now.versions c.args.snapshot in
    foreseen_so refs c.args.name.now c.args.moved c.args.request.now c.args.tasks.now.entries c.args.reads.now.items c.args.tasks.now.entries c.args.reads.now.items
    c.task_of.result.now c.in-Now.given c.task_of.ensures (c.in_ok-foreseen.ensures ∙ ap Some c.in-Now.is)

pub returns-in-NotInSnapshot-clause-acted : goal.returns-in-NotInSnapshot-clause-acted
returns-in-NotInSnapshot-clause-acted c =
    let refs = snapshot_of c.args.store.now.versions c.args.snapshot in
    missed_so refs c.args.name.now c.args.moved c.args.request.now c.args.tasks.now.entries c.args.reads.now.items c.go.new.tasks.entries c.args.reads.now.items
    c.task_of.result.now c.in-NotInSnapshot.reference c.task_of.ensures (c.in_ok-foreseen.ensures ∙ ap Some c.in-NotInSnapshot.is) c.go.ensures refl
