use Rattle.task_fork_join.proofs.Acts.{acted_so, noted_so}
use Rattle.txn_snapshot.specs.SnapshotAnswer.{snapshot_of}
use Rattle.task_fork_join.proofs.answering.go_on.Goals as goal

pub returns-clause-acted : goal.returns-clause-acted
returns-clause-acted c =
    let refs = snapshot_of c.args.store.now.versions c.args.snapshot in
    let noted = noted_so refs c.args.name.now c.args.moved c.args.request.now c.args.tasks.now.entries c.args.reads.now.items c.act.new.tasks.entries c.note.new.reads.items
    c.task_of.result.now c.reserve.new.self.items c.in_ok-read.read c.task_of.ensures c.in_ok-read.ensures c.reserve.ensures.items c.note.ensures in
    acted_so refs c.args.name.now c.args.moved c.args.request.now c.args.tasks.now.entries c.args.reads.now.items c.act.new.tasks.entries c.note.new.reads.items
    c.args.given c.in_ok-machine.machine c.requires.there c.requires.given c.in_ok-machine.ensures c.in_ok-act.ensures.acted noted
