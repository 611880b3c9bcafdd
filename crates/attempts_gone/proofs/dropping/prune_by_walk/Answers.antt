use Rattle.attempts_gone.proofs.Live.{all_live}
use Rattle.attempts_gone.specs.Live.{snapshots_in}
use Rattle.attempts_gone.proofs.dropping.prune_by_walk.Goals as goal

pub returns : goal.returns
returns c = record {
  pruned = record {
    live = snapshots_in c.args.attempts.now.entries;
    are_live = all_live c.args.attempts.now.entries;
    pruned = c.prune_for.ensures.versions;
  };
}
