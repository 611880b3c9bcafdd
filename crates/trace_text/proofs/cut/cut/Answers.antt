use Rattle.std.proofs.Common.{sym, ◌∙◌}
use Rattle.trace_text.proofs.Cuts.{cut_at, no_mark}
use Rattle.trace_text.proofs.cut.cut.Goals as goal

pub returns-in_err-place-clause-none : goal.returns-in_err-place-clause-none
returns-in_err-place-clause-none c none = no_mark c.args.mark c.args.bytes.now (sym c.in_err-place.was ∙ c.place_of.ensures)

pub returns-clause-some : goal.returns-clause-some
returns-clause-some c = cut_at c.args.mark c.args.bytes.now c.in_ok-place.place (sym c.in_ok-place.was ∙ c.place_of.ensures)
