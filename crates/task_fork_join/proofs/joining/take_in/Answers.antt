use Rattle.std.proofs.lemmas.Result.{on_ok_weaker}
use Rattle.task_fork_join.proofs.joining.take_in.Goals as goal
use Rattle.task_fork_join.proofs.Kinship.{taught_both}

pub returns : goal.returns
returns c = on_ok_weaker c.learn_from.result (λ taught. record {
  log_is = c.in_ok-take_in.ensures;
  both = taught_both c.args.parts.now.knows c.learn_from.new.self c.args.child.now.knows c.requires.covers taught;
  since = taught.since;
}) c.learn_from.ensures
