use Rattle.std.proofs.Common.{sym, ◌∙◌, rules, w64}
use Rattle.std.proofs.lemmas.Int.{to_z-of_z}
use mir.Val.{SFits}
use Rattle.int_ops.specs.Ints.{relation_of}
use Rattle.value_core.specs.primitives.Kinds.{int_of}
use Rattle.int_ops.proofs.IntSteps.{in_order_next, in_order_all}
use Rattle.int_ops.proofs.ints.is_in_order.Goals as goal

pub loop-index-preserved : goal.loop-index-preserved
loop-index-preserved c =
    let fits : SFits w64 c.int_of.result = search rules in
    let fits_next : SFits w64 c.int_of-in-loop-index.result = search rules in
    sym (in_order_next (relation_of c.args.kind) int_of c.args.args.now c.loop-index.index c.index-args-index.result c.index-args-index-in-loop-index.result _ _ c.loop-index.auto.index c.loop-index-test.true c.index-args-index.is c.index-args-index-in-loop-index.is
    c.int_of.ensures c.int_of-in-loop-index.ensures (simp to_z-of_z at c.if-not-holds.ensures)) ∙ c.loop-index.invariant

pub returns : goal.returns
returns c = sym (in_order_all (relation_of c.args.kind) int_of c.args.args.now c.loop-index.index c.loop-index-test.false) ∙ c.loop-index.invariant
