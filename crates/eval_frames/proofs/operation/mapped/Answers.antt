use Rattle.std.proofs.Common.{[], ◌∙◌, sym, ap, is_some}
use Rattle.value_core.specs.primitives.Apply.{limited}
use Rattle.value_core.specs.primitives.Parts.{is_key}
use Rattle.value_core.proofs.primitives.EntrySteps.{test_passed, put_more, put_done}
use Rattle.serial_model.specs.Operation.{action_of}
use Rattle.eval_frames.proofs.operation.mapped.Goals as goal

pub loop-index-preserved : goal.loop-index-preserved
loop-index-preserved c =
    let key = sym c.in-Some.is ∙ c.in_ok-key.ensures in
    record {
      keys = test_passed is_key c.args.entries.now c.loop-index.index c.index-entries-index.result _ c.loop-index-test.true c.index-entries-index.is (sym (ap is_some key)) c.loop-index.invariant.keys;
      left = put_more c.args.entries.now c.loop-index.index c.index-entries-index.result c.index-entries-index-in-loop-index.result c.in_ok-copy.field-0 c.in-Some.key c.loop-index.pairs c.put.new.self _
          c.loop-index-test.true c.index-entries-index.is c.index-entries-index-in-loop-index.is key c.in_ok-copy.ensures c.in_ok-put.ensures.ok c.loop-index.invariant.left;
    }

pub returns : goal.returns
returns c =
    c.limited.ensures
    ∙ ap (λ r. action_of (limited r)) (put_done c.args.entries.now c.loop-index.index c.loop-index.pairs [] c.loop-index-test.false c.loop-index.invariant.keys c.loop-index.invariant.left)
