use Rattle.std.proofs.Common.{◌≡◌, drop}
use Rattle.value_core.specs.Name.{after_cmp}
use Rattle.value_core.proofs.name.compare.Given as goal

-- the numbers so far are the same
abbrev pub invariant-loop-index : goal.invariant-loop-index
invariant-loop-index l = after_cmp l.left l.right ≡ after_cmp (drop l.index l.left) (drop l.index l.right)
