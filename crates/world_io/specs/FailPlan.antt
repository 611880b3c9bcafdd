-- Which calls of an object in memory fail.
use Rattle.std.specs.Prelude.{ℕ, ◌+◌, ◌^◌, List, Contains, Option, None, Some, IsSomeAnd, nat_lt, if◌then◌else◌}
use Rattle.std.specs.Option.{option_and_then}

-- the numbers of the calls that fail, from 0, and the number of the next call, while it is one of a u64
pub record Plan : Type 0 where
  pub fails : List ℕ
  pub next : Option ℕ

-- the plan at the first call
abbrev pub first_plan : List ℕ → Plan
first_plan fails = record { fails = fails; next = Some 0 }

-- the number after this one
abbrev pub number_after : ℕ → Option ℕ
number_after number = if nat_lt (number + 1) (2 ^ 64) then Some (number + 1) else None

-- the plan after a call
abbrev pub plan_after : Plan → Plan
plan_after plan = record { fails = plan.fails; next = option_and_then number_after plan.next }

-- the next call is one of those that fail
abbrev pub IsListed : Plan → Type 0
IsListed plan = IsSomeAnd plan.next (Contains plan.fails)
