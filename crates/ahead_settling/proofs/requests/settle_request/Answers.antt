use Rattle.std.proofs.Common.{ap}
use Rattle.ahead_settling.proofs.requests.settle_request.Goals as goal
use Rattle.ahead_settling.specs.First.{is_told_alone}

pub returns-in-Become : goal.returns-in-Become
returns-in-Become c = c.settle_alone.ensures c.args.request (ap is_told_alone c.in-Become.is)

pub returns-in-SelfActor : goal.returns-in-SelfActor
returns-in-SelfActor c = c.settle_alone-in-SelfActor.ensures c.args.request (ap is_told_alone c.in-SelfActor.is)
