use Rattle.std.proofs.Common.{ap}
use Rattle.std.specs.Arc.{arc_value}
use Rattle.lent_pieces.proofs.Returning.{claim-out, live-gave}
use Rattle.lent_pieces.proofs.giving.give_doomed.Goals as goal
use Rattle.lent_pieces.specs.Giving as piece_gave
use Rattle.lent_pieces.specs.Leading as live_gave
use Rattle.shared_world.proofs.Live.{going}
use Rattle.shared_world.specs.Shared.{is_going}
use Rattle.world_claim.specs.Run.{returned_of}
use Rattle.world_steps.specs.Kept.{shared_of}

pub abort_claimed-requires-clause-going : goal.abort_claimed-requires-clause-going
abort_claimed-requires-clause-going c =
    let doomed = c.requires.doomed in
    going (shared_of c.args.kept.now) (returned_of (arc_value c.args.kept.now.program) c.args.parts) doomed.name doomed.live

pub abort_claimed-requires-clause-marks : goal.abort_claimed-requires-clause-marks
abort_claimed-requires-clause-marks c =
    let doomed = c.requires.doomed in
    c.requires.marks (ap is_going (going (shared_of c.args.kept.now) (returned_of (arc_value c.args.kept.now.program) c.args.parts) doomed.name doomed.live))

pub abort_claimed-requires-clause-claimed : goal.abort_claimed-requires-clause-claimed
abort_claimed-requires-clause-claimed c =
    let doomed = c.requires.doomed in
    record { task = doomed.name; lent = claim-out (shared_of c.args.kept.now) c.args.parts.ticket doomed.name doomed.live.claim; to_undo = doomed.to_undo }

pub returns : goal.returns
returns c =
    let old = shared_of c.args.kept.now in
    let r = returned_of (arc_value c.args.kept.now.program) c.args.parts in
    let doomed = c.requires.doomed in
    live-gave old (shared_of c.abort_claimed.new.kept) r doomed.name c.abort_claimed.result doomed.live
    (live_gave.piece (piece_gave.task (c.abort_claimed.ensures doomed.name (claim-out old c.args.parts.ticket doomed.name doomed.live.claim))))
