use Rattle.std.proofs.Common.{◌∙◌, [], ◌∷◌, ◌++◌, ap, arith}
use Rattle.core_syntax.proofs.Sound.{finished-sound}
use Rattle.core_syntax.proofs.program.Program.assemble.Goals as goal

pub invariant_of-result : goal.invariant_of-result
invariant_of-result c =
    finished-sound c.args.rows _ c.args.steps _ _ _ _ _ _
    (c.in-Ok-add.ensures.ok ∙ ap (λ row. c.args.rows ++ row ∷ []) c.main_row-row.ensures)
    (grind arith) (grind arith) (grind arith) c.requires.children_first c.requires.within c.requires.can_finish
