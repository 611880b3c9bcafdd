use Rattle.std.proofs.Common.{refl, sym, subst, arith}
use Rattle.std.specs.Prelude.{IsSomeAnd}
use Rattle.eval_step.specs.Unread.{SparesFrom}
use Rattle.eval_step.proofs.Spared.{node-spared, spares_on, spares_none}
use Rattle.eval_step.proofs.unread.+spares.Goals as goal

pub loop-child-preserved : goal.loop-child-preserved
loop-child-preserved t c = record {
  fewer = omega (arith, c.in_ok-left.ensures.fewer, c.loop-child.invariant.fewer);
  own = c.loop-child.invariant.own;
  others = λ rest. c.loop-child.invariant.others
      (spares_on c.args.program.now c.args.place c.loop-child.number c.node-node.result.now c.in-Some.child (sym c.in-Some.ensures.value)
      (node-spared c.args.program.now c.args.place c.in-Some.child (c.in_ok-left.ensures.spares refl)) rest);
}

pub returns-clause-spares : goal.returns-clause-spares
returns-clause-spares t c = λ some. subst (λ found. IsSomeAnd found (SparesFrom c.args.program.now c.args.place c.args.from)) (sym c.node-node.ensures.value)
    (record {
      own = c.loop-child.invariant.own;
      others = c.loop-child.invariant.others (spares_none c.args.program.now c.args.place c.loop-child.number c.node-node.result.now (sym c.in_default.ensures.value));
    })
