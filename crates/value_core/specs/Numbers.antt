-- The numbers of a name, wherever they are kept.
use Rattle.std.specs.Prelude.{ℕ, List}
use Rattle.value_core.specs.declared.numbers.Numbers.{Numbers}
use Rattle.value_core.specs.declared.numbers.Numbers.TheVariants.{Few, Many}

abbrev pub numbers_in : Numbers → List ℕ
numbers_in (Few numbers) = numbers
numbers_in (Many numbers) = numbers.items
