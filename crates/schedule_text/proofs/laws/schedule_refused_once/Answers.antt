use Rattle.schedule_text.proofs.Unique.{one_refusal}
use Rattle.schedule_text.proofs.laws.schedule_refused_once.Goals as goal

pub returns : goal.returns
returns c bytes kind other line place p q = one_refusal bytes kind other line place p q
