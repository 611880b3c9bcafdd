use Rattle.schedule_text.proofs.Unique.{one}
use Rattle.schedule_text.proofs.laws.one_schedule.Goals as goal

pub returns : goal.returns
returns c lines others p q e = one lines others p q e
