use Rattle.std.proofs.Common.{◌≡◌, ◌<◌, ap, subst, sym, refl}
use Rattle.task_fork_join.proofs.Closes.{all_passed, none_passed, one_passed, stops_there}
use Rattle.task_fork_join.proofs.Kinship.{goes_grow, grows_itself}
use Rattle.task_fork_join.proofs.closing.close_children.Goals as goal

pub close_child-requires : goal.close_child-requires
close_child-requires c =
    let passed = c.loop-number.invariant.passed in
    (goes_grow c.args.tasks.now.entries c.requires.kin c.args.parts.now.knows c.args.from c.args.parts.now passed.count c.loop-number.parts
    (grows_itself c.args.tasks.now.entries c.args.parts.now.knows c.requires.own c.requires.there) passed.goes).kin

pub returns-in-Waits : goal.returns-in-Waits
returns-in-Waits c = stops_there c.args.tasks.now.entries c.args.from c.loop-number.number c.args.parts.now c.loop-number.parts c.close_child.new.parts _ _ c.loop-number.invariant.passed
    (subst (λ n. c.loop-number.number < n) c.loop-number.invariant.end c.loop-number-test.true) c.in_ok-close_child.ensures c.in-Waits.is

pub returns-in-Ended : goal.returns-in-Ended
returns-in-Ended c = stops_there c.args.tasks.now.entries c.args.from c.loop-number.number c.args.parts.now c.loop-number.parts c.close_child.new.parts _ _ c.loop-number.invariant.passed
    (subst (λ n. c.loop-number.number < n) c.loop-number.invariant.end c.loop-number-test.true) c.in_ok-close_child.ensures c.in-Ended.is

pub loop-number-preserved : goal.loop-number-preserved
loop-number-preserved c = record {
  end = c.loop-number.invariant.end;
  passed = one_passed c.args.tasks.now.entries c.args.from c.loop-number.number c.args.parts.now c.loop-number.parts c.close_child.new.parts _ c.loop-number.invariant.passed
      (subst (λ n. c.loop-number.number < n) c.loop-number.invariant.end c.loop-number-test.true) c.in_ok-close_child.ensures c.in-On.is;
}

pub loop-number-init : goal.loop-number-init
loop-number-init c = record { end = c.made-number-end.ensures; passed = none_passed c.args.tasks.now.entries c.args.from c.args.parts.now }
