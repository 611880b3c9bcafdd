use Rattle.sexpr_reader.proofs.Refusals.{one_refusal}
use Rattle.sexpr_reader.proofs.laws.refused_once.Goals as goal

pub returns : goal.returns
returns c bytes kind other at place a b = let s = one_refusal bytes kind other at place a b in (s.kinds, s.places)
