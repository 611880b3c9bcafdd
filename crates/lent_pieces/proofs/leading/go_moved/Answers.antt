use Rattle.lent_pieces.proofs.Given.{body-there, moved-of, there-unit, unit-of}
use Rattle.lent_pieces.proofs.Leads.{goes-so, unit-of-lead}
use Rattle.world_steps.specs.Kept.{shared_of}
use Rattle.lent_pieces.proofs.leading.go_moved.Goals as goal

pub go_ahead-requires-clause-unit : goal.go_ahead-requires-clause-unit
go_ahead-requires-clause-unit c =
    let s = shared_of c.args.kept.now in
    unit-of s c.args.name.now c.args.moved (unit-of-lead s c.requires.stands c.args.name.now c.requires.leads) c.requires.unfinished c.requires.moved

pub go_ahead-requires-clause-asks : goal.go_ahead-requires-clause-asks
go_ahead-requires-clause-asks c =
    let s = shared_of c.args.kept.now in
    let at = there-unit s c.args.name.now (unit-of-lead s c.requires.stands c.args.name.now c.requires.leads) in
    (moved-of s c.args.name.now c.args.moved at.x at.there c.requires.moved).asks

pub go_ahead-requires-clause-body : goal.go_ahead-requires-clause-body
go_ahead-requires-clause-body c =
    let s = shared_of c.args.kept.now in
    body-there s c.requires.stands c.args.name.now c.args.moved (unit-of-lead s c.requires.stands c.args.name.now c.requires.leads) c.requires.moved

pub returns : goal.returns
returns c =
    let s = shared_of c.args.kept.now in
    goes-so s (shared_of c.go_ahead.new.kept) c.requires.stands c.args.name.now c.args.moved c.go_ahead.result (unit-of-lead s c.requires.stands c.args.name.now c.requires.leads) c.requires.moved c.go_ahead.ensures
