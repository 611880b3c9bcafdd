use Rattle.std.proofs.Common.{◌≡◌, ◌<◌, ◌^◌, ◌++◌, length, map, All}
use Rattle.std.specs.Fmt.{decimal}
use Rattle.std.specs.List.{slice_split}
use Rattle.value_core.specs.Numbers.{numbers_in}
use Rattle.value_core.specs.NameText.{is_dot}
use Rattle.value_core.proofs.name.Name.read.Given as goal

-- the pieces so far are the numbers, and the others are those of the rest
abbrev pub invariant-loop-dot : goal.invariant-loop-dot
invariant-loop-dot l = record {
  small : All (λ n. n < 2 ^ 32) (numbers_in l.numbers);
  pieces : slice_split is_dot l.bytes ≡ map decimal (numbers_in l.numbers) ++ slice_split is_dot l.rest;
}

abbrev pub decreases-loop-dot : goal.decreases-loop-dot
decreases-loop-dot l = length l.rest
