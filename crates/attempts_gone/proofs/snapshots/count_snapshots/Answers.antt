use Rattle.std.proofs.Common.{◌∙◌, sym}
use Rattle.attempts_gone.proofs.Live.{snapshots-count}
use Rattle.attempts_gone.proofs.snapshots.count_snapshots.Goals as goal

pub returns : goal.returns
returns c = c.len.ensures.len ∙ sym (snapshots-count c.args.attempts.now.entries)
