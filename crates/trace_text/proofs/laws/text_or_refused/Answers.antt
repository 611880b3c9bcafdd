use Rattle.trace_text.proofs.Unique.{not_refused}
use Rattle.trace_text.proofs.laws.text_or_refused.Goals as goal

pub returns : goal.returns
returns c bytes t kind line is refused = not_refused bytes t kind line is refused
