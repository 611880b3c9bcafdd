use Rattle.std.proofs.Common.{◌≡◌, length}
use Rattle.std.specs.List.{slice_get}
use Rattle.std.specs.Prelude.{option_copied}
use Rattle.shared_chain.specs.Chunks.{joined}
use Rattle.shared_chain.specs.Links.{from_link}
use Rattle.shared_chain.proofs.stack.shared_item.Given as goal

abbrev pub invariant-loop-top : goal.invariant-loop-top
invariant-loop-top g l = slice_get (joined (from_link (option_copied l.top))) l.depth ≡ slice_get (joined (from_link (option_copied l.fn.top))) l.fn.depth

abbrev pub decreases-loop-top : goal.decreases-loop-top
decreases-loop-top g l = length (from_link (option_copied l.top))
