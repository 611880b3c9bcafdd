-- The limits of a run.
use Rattle.std.specs.Prelude.{ℕ, ◌≤◌}

pub record Budget : Type 0 where
  pub fuel : ℕ
  pub units : ℕ

-- each number is in its range
pub record IsInRange (b : Budget) : Type 0 where
  pub some_fuel : 1 ≤ b.fuel
  pub most_fuel : b.fuel ≤ 10000000
  pub some_units : 1 ≤ b.units
  pub most_units : b.units ≤ 1000000

abbrev pub default_budget : Budget
default_budget = record { fuel = 1000000; units = 100000 }
