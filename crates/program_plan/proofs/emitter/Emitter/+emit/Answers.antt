use Rattle.std.proofs.Common.{map, ap, arith}
use Rattle.core_syntax.specs.declared.node.Node.TheVariants.{Nil}
use Rattle.core_syntax.specs.WellFormed.{IsBelow}
use Rattle.resolved_forms.specs.declared.expr.Expr.{Expr}
use Rattle.program_plan.specs.Emitted.{Begun, emitted, let_of, loop_of, loop_function}
use Rattle.program_plan.specs.Made.{node}
use Rattle.std.proofs.lemmas.List.Elements.{All-push}
use Rattle.program_plan.proofs.Sizes.{most-take}
use Rattle.program_plan.proofs.Making.{makes_then, makes_stop, makes_error, makes_then_node, makes_like, makes_nothing, makes_loops, makes_in_loop, makes_no_loop, inserted_at}
use Rattle.program_plan.specs.Chains.{chain_part, chain_node}
use Rattle.program_plan.proofs.ChainLaws.{cond_made, chain_made, makes_cond_closed, makes_closed}
use Rattle.program_plan.proofs.Children.{applied-below, All-below, All-below_push, parts_below}
use Rattle.program_plan.proofs.Each.{gathered_step, gathered_stop, gathered_done, makes_part, by_last-at}
use Rattle.program_plan.proofs.emitter.Emitter.+emit.Goals as goal

pub emit_apply-returns-in_err-ids-clause-makes : goal.emit_apply-returns-in_err-ids-clause-makes
emit_apply-returns-in_err-ids-clause-makes t c = makes_error _ c.from_residual.ensures (makes_stop _ _ c.in_err-ids.ensures.makes)

pub emit_apply-push-requires-clause-children : goal.emit_apply-push-requires-clause-children
emit_apply-push-requires-clause-children t c = applied-below _ c.args.frame.now c.args.head c.in_ok-ids.ids _ c.in_ok-node.ensures c.in_ok-ids.ensures.below

pub emit_apply-returns-clause-makes : goal.emit_apply-returns-clause-makes
emit_apply-returns-clause-makes t c = makes_then_node _ _ _ c.in_ok-ids.ensures.makes c.in_ok-node.ensures c.push.ensures.makes

pub emit_each-returns-in_err-id-clause-makes : goal.emit_each-returns-in_err-id-clause-makes
emit_each-returns-in_err-id-clause-makes t c =
    makes_error _ c.from_residual.ensures (c.loop-part.invariant.left _ _ (gathered_stop (λ number part. part c.args.frame.now) emitted 0 c.args.parts.now c.loop-part.part-index c.part-item.result _ _ _ _ _ c.loop-part-test.true c.part-item.is c.in_err-id.ensures.makes))

pub emit_each-loop-part-preserved : goal.emit_each-loop-part-preserved
emit_each-loop-part-preserved t c = record {
  left = λ r u makes. c.loop-part.invariant.left r u
      (gathered_step (λ number part. part c.args.frame.now) emitted 0 c.args.parts.now c.loop-part.part-index c.part-item.result _ _ _ _ _ u r c.loop-part-test.true c.part-item.is c.in_ok-add.ensures.ok c.in_ok-id.ensures.makes makes);
  below = All-below_push _ _ _ _ _ c.in_ok-add.ensures.ok c.in_ok-id.ensures.kept c.loop-part.invariant.below c.in_ok-id.ensures.below;
  kept = omega arith;
}

pub emit_each-returns-clause-makes : goal.emit_each-returns-clause-makes
emit_each-returns-clause-makes t c = c.loop-part.invariant.left _ _ (gathered_done (λ number part. part c.args.frame.now) emitted 0 c.args.parts.now c.loop-part.part-index _ _ c.loop-part-test.false)

pub emit_let-emit_each-requires : goal.emit_let-emit_each-requires
emit_let-emit_each-requires t c = (omega (arith, most-take {X = Expr}), tt)

pub emit_let-returns-in_err-ids-clause-makes : goal.emit_let-returns-in_err-ids-clause-makes
emit_let-returns-in_err-ids-clause-makes t c =
    makes_like (by_last-at emitted (node c.args.at Nil) (let_of c.args.at c.args.frame.now) c.args.parts.now c.body-item.result c.in-len1-up.len_at_least c.body-item.is)
    (makes_error _ c.from_residual.ensures (makes_stop _ _ c.in_err-ids.ensures.makes))

pub emit_let-returns-in_err-id-clause-makes : goal.emit_let-returns-in_err-id-clause-makes
emit_let-returns-in_err-id-clause-makes t c =
    makes_like (by_last-at emitted (node c.args.at Nil) (let_of c.args.at c.args.frame.now) c.args.parts.now c.body-item.result c.in-len1-up.len_at_least c.body-item.is)
    (makes_then _ c.in_ok-ids.ensures.makes (makes_error _ c.from_residual-in_err-id.ensures (makes_stop _ _ c.in_err-id.ensures.makes)))

pub emit_let-push-requires-2-clause-children : goal.emit_let-push-requires-2-clause-children
emit_let-push-requires-2-clause-children t c = All-push (IsBelow _) c.in_ok-ids.ids c.in_ok-id.id (All-below _ _ _ c.in_ok-id.ensures.kept c.in_ok-ids.ensures.below) c.in_ok-id.ensures.below

pub emit_let-returns-clause-makes : goal.emit_let-returns-clause-makes
emit_let-returns-clause-makes t c =
    makes_like (by_last-at emitted (node c.args.at Nil) (let_of c.args.at c.args.frame.now) c.args.parts.now c.body-item.result c.in-len1-up.len_at_least c.body-item.is)
    (makes_then _ c.in_ok-ids.ensures.makes (makes_then _ c.in_ok-id.ensures.makes c.push-2.ensures.makes))

pub emit_cond-returns-in_err-ids-clause-makes : goal.emit_cond-returns-in_err-ids-clause-makes
emit_cond-returns-in_err-ids-clause-makes t c =
    cond_made c.args.at c.args.frame.now (map emitted c.args.parts.now) _ _ _ (makes_error _ c.from_residual.ensures (makes_stop _ _ c.in_err-ids.ensures.makes))

pub emit_cond-returns-in_err-last-clause-makes : goal.emit_cond-returns-in_err-last-clause-makes
emit_cond-returns-in_err-last-clause-makes t c =
    cond_made c.args.at c.args.frame.now (map emitted c.args.parts.now) _ _ _ (makes_then _ c.in_ok-ids.ensures.makes (makes_error _ c.from_residual-in_err-last.ensures (makes_stop _ _ c.in_err-last.ensures.makes)))

pub emit_cond-returns-clause-makes : goal.emit_cond-returns-clause-makes
emit_cond-returns-clause-makes t c =
    cond_made c.args.at c.args.frame.now (map emitted c.args.parts.now) _ _ _ (makes_then _ c.in_ok-ids.ensures.makes (makes_then _ c.in_ok-last.ensures.makes
    (makes_cond_closed c.args.at _ _ c.in_ok-last.last c.items.ensures c.close_cond.ensures.makes)))

pub emit_chain-returns-in_err-tested-clause-makes : goal.emit_chain-returns-in_err-tested-clause-makes
emit_chain-returns-in_err-tested-clause-makes t c =
    chain_made c.args.kind emitted c.args.at c.args.frame.now c.args.level c.args.parts.now c.last-item.result _ _ _ c.in-len1-up.len_at_least c.last-item.is
    (makes_error _ c.from_residual.ensures (makes_stop _ _ c.in_err-tested.ensures.makes))

pub emit_chain-returns-in_err-rest-clause-makes : goal.emit_chain-returns-in_err-rest-clause-makes
emit_chain-returns-in_err-rest-clause-makes t c =
    chain_made c.args.kind emitted c.args.at c.args.frame.now c.args.level c.args.parts.now c.last-item.result _ _ _ c.in-len1-up.len_at_least c.last-item.is
    (makes_then _ c.in_ok-tested.ensures.makes (makes_error _ c.from_residual-in_err-rest.ensures (makes_stop _ _ c.in_err-rest.ensures.makes)))

pub emit_chain-returns-clause-makes : goal.emit_chain-returns-clause-makes
emit_chain-returns-clause-makes t c =
    chain_made c.args.kind emitted c.args.at c.args.frame.now c.args.level c.args.parts.now c.last-item.result _ _ _ c.in-len1-up.len_at_least c.last-item.is
    (makes_then _ c.in_ok-tested.ensures.makes (makes_then _ c.in_ok-rest.ensures.makes (makes_closed (chain_node c.args.at c.args.frame.now) c.args.level _ _ c.in_ok-rest.rest c.items.ensures c.close_chain.ensures.makes)))

pub emit_chain_part-returns-in_err-value-clause-makes : goal.emit_chain_part-returns-in_err-value-clause-makes
emit_chain_part-returns-in_err-value-clause-makes t c = makes_error _ c.from_residual.ensures (makes_stop _ _ c.in_err-value.ensures.makes)

pub emit_chain_part-returns-in_err-test-clause-makes : goal.emit_chain_part-returns-in_err-test-clause-makes
emit_chain_part-returns-in_err-test-clause-makes t c = makes_then _ c.in_ok-value.ensures.makes (makes_error _ c.from_residual-in_err-test.ensures (makes_stop _ _ c.in_err-test.ensures.makes))

pub emit_chain_part-returns-in-And-clause-makes : goal.emit_chain_part-returns-in-And-clause-makes
emit_chain_part-returns-in-And-clause-makes t c = makes_then _ c.in_ok-value.ensures.makes (makes_then _ c.in_ok-test.ensures.makes (rw c.in-And.is (makes_nothing _ _)))

pub emit_chain_part-returns-in_err-again-in-Or-clause-makes : goal.emit_chain_part-returns-in_err-again-in-Or-clause-makes
emit_chain_part-returns-in_err-again-in-Or-clause-makes t c =
    makes_then _ c.in_ok-value.ensures.makes (makes_then _ c.in_ok-test.ensures.makes
    (rw c.in-Or.is (makes_error _ c.from_residual-in_err-again-in-Or.ensures (makes_stop _ _ c.in_err-again-in-Or.ensures.makes))))

pub emit_chain_part-returns-in_ok-again-in-Or-clause-makes : goal.emit_chain_part-returns-in_ok-again-in-Or-clause-makes
emit_chain_part-returns-in_ok-again-in-Or-clause-makes t c =
    makes_then _ c.in_ok-value.ensures.makes (makes_then _ c.in_ok-test.ensures.makes (rw c.in-Or.is (makes_then _ c.in_ok-again-in-Or.ensures.makes (makes_nothing _ _))))

pub emit_loop-returns-in_err-values-clause-makes : goal.emit_loop-returns-in_err-values-clause-makes
emit_loop-returns-in_err-values-clause-makes t c =
    makes_like (by_last-at emitted (node c.args.at Nil) (loop_of c.args.at c.args.frame.now c.args.looping.now) c.args.parts.now c.body-item.result c.in-len1-up.len_at_least c.body-item.is)
    (makes_error _ c.from_residual-in_err-values.ensures (makes_stop _ _ (makes_no_loop _ c.args.self.now (makes_stop _ c.args.self.now c.in_err-values.ensures.makes))))

pub emit_loop-returns-in_err-root-clause-makes : goal.emit_loop-returns-in_err-root-clause-makes
emit_loop-returns-in_err-root-clause-makes t c =
    makes_like (by_last-at emitted (node c.args.at Nil) (loop_of c.args.at c.args.frame.now c.args.looping.now) c.args.parts.now c.body-item.result c.in-len1-up.len_at_least c.body-item.is)
    (makes_error _ c.from_residual-in_err-root.ensures (makes_stop _ _ (makes_no_loop _ c.args.self.now (makes_then _ c.in_ok-values.ensures.makes (makes_stop _ c.args.self.now
    (makes_like (ap (emitted c.body-item.result) c.in_ok-inner.ensures) c.in_err-root.ensures.makes))))))

pub emit_loop-insert_loop-requires-clause-index : goal.emit_loop-insert_loop-requires-clause-index
emit_loop-insert_loop-requires-clause-index t c =
    let first = makes_loops c.in_ok-values.ensures.makes in
    let second = makes_loops c.in_ok-root.ensures.makes in
    omega (arith, c.loops-index.ensures)

pub emit_loop-returns-clause-makes : goal.emit_loop-returns-clause-makes
emit_loop-returns-clause-makes t c =
    makes_like (by_last-at emitted (node c.args.at Nil) (loop_of c.args.at c.args.frame.now c.args.looping.now) c.args.parts.now c.body-item.result c.in-len1-up.len_at_least c.body-item.is)
    (makes_then _
    (makes_in_loop (λ (begun : Begun). loop_function c.args.at c.args.frame.now c.args.looping.now begun.body)
    (makes_then _ c.in_ok-values.ensures.makes (makes_then _ (makes_like (ap (emitted c.body-item.result) c.in_ok-inner.ensures) c.in_ok-root.ensures.makes) (makes_nothing _ _)))
    (inserted_at _ _ _ _ _ _ _ c.in_ok-insert_loop.ensures.inserted c.loops-index.ensures c.in_ok-function.ensures))
    c.end_loop.ensures.makes)

pub emit_chain_parts-returns-in_err-part-clause-makes : goal.emit_chain_parts-returns-in_err-part-clause-makes
emit_chain_parts-returns-in_err-part-clause-makes t c =
    makes_error _ c.from_residual.ensures (c.loop-index.invariant.left _ _ (gathered_stop (chain_part c.args.kind c.args.at c.args.frame.now) emitted c.args.level c.args.parts.now c.loop-index.index c.index-parts-index.result _ _ _ _ _ c.loop-index-test.true c.index-parts-index.is
    c.in_err-part.ensures.makes))

pub emit_chain_parts-loop-index-preserved : goal.emit_chain_parts-loop-index-preserved
emit_chain_parts-loop-index-preserved t c = record {
  left = λ r u makes. c.loop-index.invariant.left r u
      (gathered_step (chain_part c.args.kind c.args.at c.args.frame.now) emitted c.args.level c.args.parts.now c.loop-index.index c.index-parts-index.result _ _ _ _ _ u r c.loop-index-test.true c.index-parts-index.is c.in_ok-add.ensures.ok
      c.in_ok-part.ensures.makes makes);
  below = parts_below _ _ _ _ _ c.in_ok-add.ensures.ok c.in_ok-part.ensures.kept c.loop-index.invariant.below c.in_ok-part.ensures.below;
  kept = omega arith;
}

pub emit_chain_parts-returns-clause-makes : goal.emit_chain_parts-returns-clause-makes
emit_chain_parts-returns-clause-makes t c =
    c.loop-index.invariant.left _ _ (gathered_done (chain_part c.args.kind c.args.at c.args.frame.now) emitted c.args.level c.args.parts.now c.loop-index.index _ _ c.loop-index-test.false)

pub emit_part_after-returns-clause-makes : goal.emit_part_after-returns-clause-makes
emit_part_after-returns-clause-makes t c =
    makes_part (chain_part c.args.kind c.args.at c.args.frame.now) _ _ (emitted c.args.part.now) c.in_ok-level.ensures c.emit_chain_part.ensures.makes
