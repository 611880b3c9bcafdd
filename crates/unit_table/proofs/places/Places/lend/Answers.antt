use Rattle.std.proofs.Common.{◌∙◌, sym}
use Rattle.unit_table.specs.Keeping.{board_of}
use Rattle.unit_table.proofs.Lending.{lending_keeps, lending_lends, lending_same, ready_at}
use Rattle.unit_table.proofs.places.Places.lend.Goals as goal

pub lend-claim-requires : goal.lend-claim-requires
lend-claim-requires c = sym (ready_at (board_of c.args.self.now) c.args.self.now.waits c.requires.kept c.args.name.now c.in-Some.ticket (sym c.in-Some.ensures)) ∙ c.requires.ready

pub returns-in-Some-clause-kept : goal.returns-in-Some-clause-kept
returns-in-Some-clause-kept c =
    lending_keeps (board_of c.args.self.now) c.lend-claim.new.self c.args.self.now.waits c.requires.kept c.claims_are_tied.ensures c.args.name.now c.in-Some.ticket (sym c.in-Some.ensures) c.requires.ready
    c.lend-claim.result c.lend-claim.ensures.lent c.lend-claim.ensures.claimed c.lend-claim.ensures.pieces c.lend-claim.ensures.claims

pub returns-in-Some-clause-lent : goal.returns-in-Some-clause-lent
returns-in-Some-clause-lent c =
    lending_lends (board_of c.args.self.now) c.lend-claim.new.self c.args.self.now.waits c.requires.kept c.claims_are_tied.ensures c.args.name.now c.in-Some.ticket (sym c.in-Some.ensures) c.requires.ready
    c.lend-claim.result c.lend-claim.ensures.lent c.lend-claim.ensures.claimed c.lend-claim.ensures.pieces c.lend-claim.ensures.claims

pub returns-in-Some-clause-same : goal.returns-in-Some-clause-same
returns-in-Some-clause-same c =
    lending_same (board_of c.args.self.now) c.lend-claim.new.self c.args.self.now.waits c.requires.kept c.claims_are_tied.ensures c.args.name.now c.in-Some.ticket (sym c.in-Some.ensures) c.requires.ready
    c.lend-claim.result c.lend-claim.ensures.lent c.lend-claim.ensures.claimed c.lend-claim.ensures.pieces c.lend-claim.ensures.claims
