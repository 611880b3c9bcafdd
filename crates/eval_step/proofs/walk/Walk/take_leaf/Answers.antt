use Rattle.std.proofs.Common.{◌≡◌, suc, ◌-◌, arith}
use Rattle.eval_step.proofs.Walks.{takes_leaf}
use Rattle.eval_step.proofs.walk.Walk.take_leaf.Goals as goal

pub returns-then-branch-clause-taken : goal.returns-then-branch-clause-taken
returns-then-branch-clause-taken c = λ shows.
    let old = c.args.self.now in
    let one_less : old.left ≡ suc (old.left - 1) = omega arith in
    takes_leaf c.args.program.now c.args.id c.node-leaf.result.now old c.push_leaf.new.values (old.left - 1) old.at old.registers.value old.registers.stop c.node-leaf.ensures.value one_less
    (c.in_ok-push_leaf.ensures.pushed c.if-branch.true)
