use Rattle.std.proofs.Common.{Some, ◌∙◌, sym, ap, subst}
use Rattle.run_end.proofs.Walked.{below-made}
use Rattle.run_end.proofs.finishing.before_made.Goals as goal
use Rattle.run_end.specs.InTurn.{IsMadeBehind}
use Rattle.value_core.specs.Named.{made_by}

pub returns-in_ok-child-in-Some : goal.returns-in_ok-child-in-Some
returns-in_ok-child-in-Some c =
    let is = c.in_ok-child-in-Some.ensures ∙ ap (λ n. made_by n 0) c.in_ok-made-in-Some.ensures in
    subst (λ n. IsMadeBehind c.args.units.now c.args.name.now (Some n)) (sym is) (below-made c.args.units.now c.args.name.now c.in-Some.number (sym c.in-Some.ensures))
