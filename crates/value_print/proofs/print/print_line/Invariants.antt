use Rattle.std.proofs.Common.{◌≡◌, ◌++◌, drop, map, true}
use Rattle.std.specs.Prelude.{codes, ◌==◌}
use Rattle.value_core.specs.declared.style.Style.TheVariants.{Plain}
use Rattle.value_core.specs.Texts.{value_text}
use Rattle.value_core.proofs.Joined.{left_at}
use Rattle.value_print.proofs.print.print_line.Given as goal

abbrev pub invariant-loop-index : goal.invariant-loop-index
invariant-loop-index l = l.text ++ left_at (codes " ") (l.index == 0) (map (value_text Plain) (drop l.index l.args)) ≡ left_at (codes " ") true (map (value_text Plain) l.args)
