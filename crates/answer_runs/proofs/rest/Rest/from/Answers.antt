use Rattle.std.proofs.Common.{◌∙◌, sym, ap}
use Rattle.std.specs.Prelude.{option_copied}
use Rattle.shared_chain.specs.Links.{from_link}
use Rattle.answer_runs.specs.Runs.{runs_back}
use Rattle.answer_runs.proofs.Rests.{rest-starts}
use Rattle.answer_runs.proofs.rest.Rest.from.Goals as goal

pub returns : goal.returns
returns c =
    rest-starts c.parts.result.0 c.parts.result.1
    ∙ ap runs_back (sym c.parts.ensures)
    ∙ ap (λ l. runs_back (from_link (option_copied l))) (sym c.in-Some.is)
