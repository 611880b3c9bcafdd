use Rattle.std.proofs.Common.{arith}
use Rattle.core_syntax.proofs.Tables.{IsBuilt-push}
use Rattle.core_syntax.proofs.builder.Builder.push.Goals as goal

pub invariant_of-self-2 : goal.invariant_of-self-2
invariant_of-self-2 c =
    IsBuilt-push c.self.inside.rows _ _ _ _ c.in_ok-add.ensures.ok c.self.invariant c.if-self-eq-NODE_LIMIT.false (grind (arith, c.from-more.ensures, c.counts.ensures)) (rw (c.self.view_is) c.requires)
