use Rattle.std.proofs.Common.{sym}
use Rattle.run_end.proofs.Ends.{marked-ends, unready-ends}
use Rattle.run_end.proofs.finishing.end_claim.Goals as goal

pub returns-in-Some : goal.returns-in-Some
returns-in-Some c = marked-ends c.args.name.now c.in-Some.work c.args.units.now c.mark.new.self (sym c.in-Some.ensures) c.mark.ensures.marked c.mark.ensures.claims

pub returns-in-None : goal.returns-in-None
returns-in-None c = unready-ends c.args.name.now c.args.units.now (sym c.in-None.ensures) c.lent_are_ready.ensures
