use Rattle.std.proofs.Common.{length}
use Rattle.shared_chain.specs.Links.{links}
use Rattle.shared_chain.proofs.chain.drop_links.Given as goal

abbrev pub decreases-loop-top : goal.decreases-loop-top
decreases-loop-top g l = length (links l.top)
