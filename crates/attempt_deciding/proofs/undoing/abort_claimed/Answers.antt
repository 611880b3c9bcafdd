use Rattle.attempt_deciding.proofs.Claimed.{claimed-task, gave-lent, within-claimed}
use Rattle.shared_world.proofs.UndoesMarks.{marked-beside}
use Rattle.world_steps.specs.Kept.{shared_of}
use Rattle.attempt_deciding.proofs.undoing.abort_claimed.Goals as goal

pub undo_claimed-unit-requires-clause-marks : goal.undo_claimed-unit-requires-clause-marks
undo_claimed-unit-requires-clause-marks c = λ is. marked-beside (shared_of c.args.kept.now) is.owner c.requires.marks

pub undo_claimed-unit-requires-clause-claimed : goal.undo_claimed-unit-requires-clause-claimed
undo_claimed-unit-requires-clause-claimed c = claimed-task (shared_of c.args.kept.now) c.requires.stands c.requires.going c.args.claim c.args.conflict c.requires.claimed

pub aborted-requires : goal.aborted-requires
aborted-requires c =
    within-claimed (shared_of c.args.kept.now) c.requires.stands c.requires.going c.args.claim c.args.conflict c.requires.claimed (shared_of c.undo_claimed-unit.new.kept) c.undo_claimed-unit.result
    c.undo_claimed-unit.ensures

pub returns : goal.returns
returns c =
    gave-lent (shared_of c.args.kept.now) c.requires.stands c.requires.going c.args.claim c.args.conflict c.requires.claimed (shared_of c.undo_claimed-unit.new.kept) c.undo_claimed-unit.result
    c.undo_claimed-unit.ensures c.requires.marks c.aborted.result c.aborted.ensures
