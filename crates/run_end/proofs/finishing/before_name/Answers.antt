use Rattle.std.proofs.Common.{Some, [], ◌≡◌, ◌∙◌, ap, false, sym, subst}
use Rattle.std.specs.Ordering.{is_lt}
use Rattle.run_end.proofs.Walked.{behind-below}
use Rattle.run_end.proofs.finishing.before_name.Goals as goal
use Rattle.unit_table.specs.Board.{ComesAfter}
use Rattle.value_core.proofs.Names.{below_first}
use Rattle.value_core.specs.Name.{after_cmp}

pub returns-in_ok-child-clause-made : goal.returns-in_ok-child-clause-made
returns-in_ok-child-clause-made c = subst (λ n. ComesAfter (Some n) c.args.made.now) (sym c.in_ok-child.ensures) (below_first c.args.made.now 0 [])

pub returns-in_ok-child-clause-behind : goal.returns-in_ok-child-clause-behind
returns-in_ok-child-clause-behind c =
    let no : is_lt (after_cmp c.args.name c.args.made.now) ≡ false = ap is_lt (sym c.cmp_after.ensures) ∙ sym c.is_lt.ensures ∙ c.if-is_lt.false in
    λ other after. subst (λ n. ComesAfter (Some n) other) (sym c.in_ok-child.ensures) (behind-below c.args.name c.args.made.now no other after)
