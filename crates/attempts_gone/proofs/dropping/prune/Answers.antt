use Rattle.attempts_gone.proofs.Live.{not_due}
use Rattle.attempts_gone.proofs.dropping.prune.Goals as goal

-- nothing is to be pruned
pub returns-then-not-is_due : goal.returns-then-not-is_due
returns-then-not-is_due c = record {
  pruned = not_due c.args.attempts.now.entries c.len.result c.args.store.now.versions c.len.ensures.len (λ live count. c.is_due.ensures c.if-not-is_due.true live count);
}
