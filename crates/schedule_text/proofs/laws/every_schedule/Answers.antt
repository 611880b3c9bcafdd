use Rattle.schedule_text.proofs.Every.{every}
use Rattle.schedule_text.proofs.laws.every_schedule.Goals as goal

pub returns : goal.returns
returns c bytes = every bytes
