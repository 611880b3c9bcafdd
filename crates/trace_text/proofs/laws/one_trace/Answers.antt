use Rattle.trace_text.proofs.Unique.{one_trace_of}
use Rattle.trace_text.proofs.laws.one_trace.Goals as goal

pub returns : goal.returns
returns c t u p q e = one_trace_of t u p q e
