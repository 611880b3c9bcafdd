use Rattle.schedule_text.proofs.Unique.{not_refused}
use Rattle.schedule_text.proofs.laws.schedule_or_refused.Goals as goal

pub returns : goal.returns
returns c bytes lines kind line is refused = not_refused bytes lines kind line is refused
