use Rattle.std.proofs.Common.{ap, subst, sym}
use Rattle.std.specs.Arc.{arc_value}
use Rattle.lent_pieces.proofs.Returning.{back-so, halted-so, live-gave, live-unfinished}
use Rattle.lent_pieces.specs.Back.{GivesBack}
use Rattle.world_steps.specs.Kept.{shared_of}
use Rattle.shared_world.proofs.Live.{going}
use Rattle.shared_world.specs.Shared.{is_going}
use Rattle.world_claim.specs.Run.{returned_of}
use Rattle.lent_pieces.proofs.giving.give_live.Goals as goal

pub give_piece-requires-clause-going : goal.give_piece-requires-clause-going
give_piece-requires-clause-going c = going (shared_of c.args.kept.now) (returned_of (arc_value c.args.kept.now.program) c.args.parts) c.args.name.now c.requires.live

pub give_piece-requires-clause-unfinished : goal.give_piece-requires-clause-unfinished
give_piece-requires-clause-unfinished c = live-unfinished (shared_of c.args.kept.now) (returned_of (arc_value c.args.kept.now.program) c.args.parts) c.args.name.now c.requires.live

pub give_piece-requires-clause-same : goal.give_piece-requires-clause-same
give_piece-requires-clause-same c = c.requires.live.current.machine

pub give_piece-requires-clause-of : goal.give_piece-requires-clause-of
give_piece-requires-clause-of c = c.requires.run.machine

pub give_piece-requires-clause-halts : goal.give_piece-requires-clause-halts
give_piece-requires-clause-halts c = halted-so (returned_of (arc_value c.args.kept.now.program) c.args.parts) c.requires.run

pub returns-in-Ok : goal.returns-in-Ok
returns-in-Ok c =
    let old = shared_of c.args.kept.now in
    let new = shared_of c.give_piece.new.kept in
    subst (GivesBack old (returned_of (arc_value c.args.kept.now.program) c.args.parts) new) (sym c.given.ensures) (live-gave old new (returned_of (arc_value c.args.kept.now.program) c.args.parts) c.args.name.now c.in-Ok.found c.requires.live c.in-Ok.ensures)

pub returns-in-Err : goal.returns-in-Err
returns-in-Err c =
    back-so (shared_of c.args.kept.now) (shared_of c.give_piece.new.kept) (shared_of c.abandon.new.kept) (returned_of (arc_value c.args.kept.now.program) c.args.parts) c.args.name.now c.requires.live c.claims_are_tied.ensures c.claims_are_tied-in-Err.ensures c.in-Err.ensures c.abandon.ensures

pub give_piece-requires-clause-marks : goal.give_piece-requires-clause-marks
give_piece-requires-clause-marks c = c.requires.marks (ap is_going (going (shared_of c.args.kept.now) (returned_of (arc_value c.args.kept.now.program) c.args.parts) c.args.name.now c.requires.live))
