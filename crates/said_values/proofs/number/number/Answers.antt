use Rattle.std.proofs.Common.{rules, sym, subst, IfNone, IfSome, ◌≤◌, ◌^◌}
use Rattle.said_values.specs.Number.{number_of}
use Rattle.said_values.proofs.NumberLemmas.{beyond}
use Rattle.said_values.proofs.number.number.Goals as goal

pub returns-then-is_number-clause-none : goal.returns-then-is_number-clause-none
returns-then-is_number-clause-none c =
    subst (λ o. IfNone o (IfSome (number_of c.args.text.now) (λ n. 2 ^ 64 ≤ n))) (sym c.ok.ensures.value)
    (beyond c.args.text.now c.parse.result (search rules) c.parse.ensures.value.0)
