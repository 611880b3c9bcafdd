use Rattle.std.proofs.Common.{sym}
use Rattle.value_core.specs.primitives.Kinds.{is_int}
use Rattle.value_core.proofs.primitives.EntrySteps.{test_passed, test_failed, test_done}
use Rattle.value_ops.proofs.entries.have_int_indices.Goals as goal

pub loop-index-preserved : goal.loop-index-preserved
loop-index-preserved c = test_passed is_int c.args.entries.now c.loop-index.index c.index-entries-index.result _ c.loop-index-test.true c.index-entries-index.is (sym c.if-not-is_int.ensures) c.loop-index.invariant

pub returns-then-not-is_int : goal.returns-then-not-is_int
returns-then-not-is_int c = test_failed is_int c.args.entries.now c.loop-index.index c.index-entries-index.result _ c.loop-index-test.true c.index-entries-index.is (sym c.if-not-is_int.ensures) c.loop-index.invariant

pub returns : goal.returns
returns c = test_done is_int c.args.entries.now c.loop-index.index _ c.loop-index-test.false c.loop-index.invariant
