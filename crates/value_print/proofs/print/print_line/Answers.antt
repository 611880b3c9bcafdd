use Rattle.std.proofs.Common.{ap, ◌∙◌, sym, ◌++◌, map}
use Rattle.std.specs.Prelude.{codes}
use Rattle.value_core.specs.declared.style.Style.TheVariants.{Plain}
use Rattle.value_core.specs.Texts.{value_text}
use Rattle.value_core.proofs.Joined.{written_all, joined-left_at}
use Rattle.value_print.proofs.print.print_line.Goals as goal

pub returns : goal.returns
returns c =
    c.in_ok-extend.ensures.ok ∙ ap (λ t. t ++ codes "\n")
    (written_all (value_text Plain) (codes " ") c.args.args.now c.loop-index.index c.loop-index.text _ c.loop-index-test.false c.loop-index.invariant ∙ sym (joined-left_at (codes " ") (map (value_text Plain) c.args.args.now)))
