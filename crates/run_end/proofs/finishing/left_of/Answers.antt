use Rattle.std.proofs.Common.{◌∙◌, sym, subst}
use Rattle.std.specs.Prelude.{IfSome}
use Rattle.run_end.proofs.finishing.left_of.Goals as goal
use Rattle.unit_table.specs.Board.{ComesAfter}
use Rattle.value_core.specs.Named.{made_by}

pub returns-in_ok-before-in-Some : goal.returns-in_ok-before-in-Some
returns-in_ok-before-in-Some c =
    let left = c.in_ok-before-in-Some.field-0 in record {
      made = subst (λ o. IfSome o (λ k. ComesAfter left (made_by c.args.name.now k))) (sym (sym c.number_at.ensures ∙ c.in-Some.is)) (subst (ComesAfter left) c.in_ok-made-in-Some.ensures c.in_ok-before-in-Some.ensures.made);
      behind = c.in_ok-before-in-Some.ensures.behind;
    }

pub returns-in-None : goal.returns-in-None
returns-in-None c = record {
  made = subst (λ o. IfSome o (λ k. ComesAfter c.args.passed (made_by c.args.name.now k))) (sym (sym c.number_at.ensures ∙ c.in-None.is)) tt;
  behind = λ u is. is;
}
