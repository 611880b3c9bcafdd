use Rattle.std.proofs.Common.{◌≡◌, ◌++◌, length, reverse}
use Rattle.std.specs.Prelude.{option_copied}
use Rattle.shared_chain.specs.Links.{from_link}
use Rattle.task_log.proofs.shared_list.list_names.Given as goal

abbrev pub invariant-loop-last : goal.invariant-loop-last
invariant-loop-last l = reverse (l.list.items ++ from_link (option_copied l.last)) ≡ l.names

abbrev pub decreases-loop-last : goal.decreases-loop-last
decreases-loop-last l = length (from_link (option_copied l.last))
