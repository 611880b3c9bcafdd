use Rattle.std.proofs.Common.{◌≡◌, length}
use Rattle.std.specs.Prelude.{option_copied}
use Rattle.shared_chain.specs.Links.{from_link}
use Rattle.txn_snapshot.proofs.view.seen_from.Given as goal
use Rattle.txn_snapshot.specs.Views.{layered}
use Rattle.value_core.specs.Named.{named}

abbrev pub invariant-loop-top : goal.invariant-loop-top
invariant-loop-top l = named l.name (layered (from_link (option_copied l.top))) ≡ named l.name (layered (from_link (option_copied l.fn.top)))

abbrev pub decreases-loop-top : goal.decreases-loop-top
decreases-loop-top l = length (from_link (option_copied l.top))
