use Rattle.std.proofs.Common.{rules}
use Rattle.std.proofs.lemmas.Int.{wraps}
use Rattle.answer_runs.proofs.sameness.Back.distance.Goals as goal

pub returns : goal.returns
returns c = search (rules, wraps, c.from.ensures)
