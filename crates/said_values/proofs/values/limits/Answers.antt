use Rattle.std.proofs.Common.{rules, ◌∙◌}
use Rattle.clap.specs.Words.{first_value, found_of}
use Rattle.said_values.proofs.NumberLemmas.{limits_beyond}
use Rattle.said_values.proofs.values.limits.Goals as goal

pub returns-in_err-units : goal.returns-in_err-units
returns-in_err-units c =
    c.from_residual-in_err-units.ensures
    ∙ limits_beyond (first_value (found_of c.args.given.now)) c.in_ok-fuel.fuel c.fuel.result c.from.result (search rules) (search rules)
    c.in_ok-fuel.ensures.some c.in_err-units.ensures.none
