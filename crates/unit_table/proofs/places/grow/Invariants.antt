use Rattle.std.proofs.Common.{◌≡◌, ◌+◌, ◌-◌, ℕ, length}
use Rattle.unit_table.specs.Board.{name_in}
use Rattle.unit_table.proofs.places.grow.Given as goal

abbrev pub invariant-loop-names : goal.invariant-loop-names
invariant-loop-names l = (other : ℕ) → name_in l.names.items other ≡ name_in l.fn.names.items other

abbrev pub decreases-loop-names : goal.decreases-loop-names
decreases-loop-names l = l.slot + 1 - length l.names.items
