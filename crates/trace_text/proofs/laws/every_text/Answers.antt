use Rattle.trace_text.proofs.Every.{every}
use Rattle.trace_text.proofs.laws.every_text.Goals as goal

pub returns : goal.returns
returns c bytes = every bytes
