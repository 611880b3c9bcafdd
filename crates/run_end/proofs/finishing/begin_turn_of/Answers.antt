use Rattle.std.proofs.Common.{inr}
use Rattle.run_end.proofs.Ends.{goes-then}
use Rattle.run_end.proofs.Sorted.{sorted-due, sorted-goes}
use Rattle.run_end.proofs.finishing.begin_turn_of.Goals as goal
use Rattle.world_steps.specs.Kept.{shared_of}

pub settle_due-requires-clause-stands : goal.settle_due-requires-clause-stands
settle_due-requires-clause-stands c = (sorted-goes c.args.name.now (shared_of c.args.kept.now) (shared_of c.sort_mail.new.kept) c.requires.stands c.sort_mail.ensures).stands

pub settle_due-requires-clause-marks : goal.settle_due-requires-clause-marks
settle_due-requires-clause-marks c = (sorted-goes c.args.name.now (shared_of c.args.kept.now) (shared_of c.sort_mail.new.kept) c.requires.stands c.sort_mail.ensures).marks c.requires.marks

pub settle_due-requires-clause-due : goal.settle_due-requires-clause-due
settle_due-requires-clause-due c = inr (sorted-due c.args.name.now (shared_of c.args.kept.now) (shared_of c.sort_mail.new.kept) c.sort_mail.ensures c.requires.finished c.requires.mailed)

pub returns-clause-goes : goal.returns-clause-goes
returns-clause-goes c =
    let s = shared_of c.args.kept.now in
    let t = shared_of c.sort_mail.new.kept in
    goes-then s t (shared_of c.settle_due.new.kept) (sorted-goes c.args.name.now s t c.requires.stands c.sort_mail.ensures) c.settle_due.ensures.goes
