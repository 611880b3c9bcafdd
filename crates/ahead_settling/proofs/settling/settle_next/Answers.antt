use Rattle.std.proofs.Common.{subst}
use Rattle.ahead_settling.proofs.Nexts.{begin-comes, first-comes, holds-its, opened-of}
use Rattle.ahead_settling.proofs.settling.settle_next.Goals as goal
use Rattle.ahead_settling.specs.Settling.{IsNextHeld}
use Rattle.world_steps.specs.Kept.{shared_of}

pub settle_begin-requires-clause-opened : goal.settle_begin-requires-clause-opened
settle_begin-requires-clause-opened c = opened-of (shared_of c.args.kept.now) c.args.name.now c.requires.stands c.requires.marks c.requires.going c.in_ok-check_unit.ensures

pub settle_begin-requires-clause-holds : goal.settle_begin-requires-clause-holds
settle_begin-requires-clause-holds c = holds-its (shared_of c.args.kept.now) c.args.name.now c.in-Begin.actor (subst (IsNextHeld (shared_of c.args.kept.now) c.args.name.now) c.in-Begin.is c.in_ok-actor.ensures)

pub settle_request-requires : goal.settle_request-requires
settle_request-requires c = record { opened = opened-of (shared_of c.args.kept.now) c.args.name.now c.requires.stands c.requires.marks c.requires.going c.in_ok-check_unit.ensures }

pub returns-in-Begin : goal.returns-in-Begin
returns-in-Begin c =
    begin-comes (shared_of c.args.kept.now) (shared_of c.settle_begin.new.kept) c.args.name.now c.in-Begin.actor c.settle_begin.result c.in_ok-check_unit.ensures (subst (IsNextHeld (shared_of c.args.kept.now) c.args.name.now) c.in-Begin.is c.in_ok-actor.ensures) c.settle_begin.ensures

pub returns-in-Asked : goal.returns-in-Asked
returns-in-Asked c =
    first-comes (shared_of c.args.kept.now) (shared_of c.settle_request.new.kept) c.args.name.now c.in-Asked.request c.settle_request.result c.in_ok-check_unit.ensures (subst (IsNextHeld (shared_of c.args.kept.now) c.args.name.now) c.in-Asked.is c.in_ok-actor.ensures) c.settle_request.ensures
