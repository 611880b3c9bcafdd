use Rattle.std.proofs.Common.{drop}
use Rattle.eval_step.specs.Unread.{SparesBehind}
use Rattle.eval_step.proofs.context.Context.is_unread.Given as goal

abbrev pub invariant-loop-depth : goal.invariant-loop-depth
invariant-loop-depth l = SparesBehind l.program l.place (drop l.depth l.self.stack) → SparesBehind l.program l.place l.self.stack
