use Rattle.std.proofs.Common.{sym, ap, subst}
use Rattle.lent_pieces.proofs.Lending.{kept-is-of}
use Rattle.run_end.proofs.Ends.{gave-goes, wanting-goes}
use Rattle.run_end.proofs.Mailed.{due-open}
use Rattle.run_end.proofs.Walked.{due-turn, due-walked, walked-anew}
use Rattle.run_end.proofs.finishing.settle_due.Goals as goal
use Rattle.shared_world.specs.Shared.{is_going}
use Rattle.world_claim.specs.Lent.{IsMachineOf}
use Rattle.world_steps.specs.Kept.{shared_of}

pub give_to-requires-clause-unfinished : goal.give_to-requires-clause-unfinished
give_to-requires-clause-unfinished c = due-open (shared_of c.args.kept.now) c.requires.stands c.args.name.now c.requires.due

pub give_to-requires-clause-of : goal.give_to-requires-clause-of
give_to-requires-clause-of c =
    let s = shared_of c.args.kept.now in
    subst (IsMachineOf s.setup.program) (sym c.in_ok-machine.ensures) (kept-is-of s c.requires.stands (ap is_going c.requires.going) c.args.name.now)

pub returns-in_err-given-clause-goes : goal.returns-in_err-given-clause-goes
returns-in_err-given-clause-goes c = wanting-goes (shared_of c.args.kept.now) (shared_of c.give_to.new.kept) c.args.name.now c.requires.going c.in_err-given.ensures

pub returns-then-waits-clause-goes : goal.returns-then-waits-clause-goes
returns-then-waits-clause-goes c =
    let s = shared_of c.args.kept.now in
    let t = shared_of c.give_to.new.kept in
    gave-goes s t c.args.name.now c.in_ok-given.given c.requires.stands c.requires.going (due-open s c.requires.stands c.args.name.now c.requires.due)
    (due-turn s c.requires.stands c.requires.going c.args.left c.args.name.now c.requires.walked c.requires.first c.requires.due c.in_ok-given.given t c.in_ok-given.ensures) c.in_ok-given.ensures

pub returns-then-waits-clause-walked : goal.returns-then-waits-clause-walked
returns-then-waits-clause-walked c =
    let s = shared_of c.args.kept.now in
    let t = shared_of c.give_to.new.kept in
    λ going. walked-anew t c.args.left
    (due-walked s c.requires.stands c.requires.going c.args.left c.args.name.now c.requires.walked c.requires.first c.requires.due c.in_ok-given.given t c.requires.made c.in_ok-given.ensures)

pub returns-else-waits-clause-goes : goal.returns-else-waits-clause-goes
returns-else-waits-clause-goes c =
    let s = shared_of c.args.kept.now in
    let t = shared_of c.give_to.new.kept in
    gave-goes s t c.args.name.now c.in_ok-given.given c.requires.stands c.requires.going (due-open s c.requires.stands c.args.name.now c.requires.due)
    (due-turn s c.requires.stands c.requires.going c.args.left c.args.name.now c.requires.walked c.requires.first c.requires.due c.in_ok-given.given t c.in_ok-given.ensures) c.in_ok-given.ensures

pub returns-else-waits-clause-walked : goal.returns-else-waits-clause-walked
returns-else-waits-clause-walked c =
    let s = shared_of c.args.kept.now in
    let t = shared_of c.give_to.new.kept in
    λ going. due-walked s c.requires.stands c.requires.going c.args.left c.args.name.now c.requires.walked c.requires.first c.requires.due c.in_ok-given.given t c.requires.made c.in_ok-given.ensures

pub give_to-requires-clause-marks : goal.give_to-requires-clause-marks
give_to-requires-clause-marks c = c.requires.marks (ap is_going c.requires.going)
