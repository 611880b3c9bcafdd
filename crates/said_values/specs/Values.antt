-- What the values of a command line say.
use Rattle.std.specs.Prelude.{ℕ, List, Bool, ◌&&◌, nat_le, Option, Some, None}
use Rattle.std.specs.Prelude.{if◌then◌else◌, option_map, option_and_then, codes}
use Rattle.serial_model.specs.Limits.{Budget, default_budget}
use Rattle.said_values.specs.Number.{number_of}

-- a word, or the name of a place or of an option, by its bytes
abbrev pub Word : Type 0
Word = List ℕ

-- the number that the value spells, and the default where there is no value
abbrev pub number_or : ℕ → Option Word → Option ℕ
number_or default None = Some default
number_or default (Some text) = number_of text

-- fuel is from 1 to 10,000,000, and units are from 1 to 1,000,000
abbrev pub is_in_range : ℕ → ℕ → Bool
is_in_range fuel units = (nat_le 1 fuel && nat_le fuel 10000000) && (nat_le 1 units && nat_le units 1000000)

-- these limits, if they are in range
abbrev pub budget_of : ℕ → ℕ → Option Budget
budget_of fuel units = if is_in_range fuel units then Some (record { fuel = fuel; units = units }) else None

-- the limits that the values of `--fuel` and `--units` say
abbrev pub limits_of : (Word → Option Word) → Option Budget
limits_of given =
    option_and_then (λ fuel. option_and_then (budget_of fuel) (number_or default_budget.units (given (codes "units"))))
    (number_or default_budget.fuel (given (codes "fuel")))

-- the number, if it is from `least` to `most`
abbrev pub within : ℕ → ℕ → ℕ → Option ℕ
within least most number = if nat_le least number && nat_le number most then Some number else None

-- the number from `least` to `most` that the value spells
abbrev pub number_between : ℕ → ℕ → Option Word → Option ℕ
number_between least most value = option_and_then (λ text. option_and_then (within least most) (number_of text)) value

-- how many workers the value says, from 1 to 64; there are 4 where there is no value
abbrev pub workers_of : Option Word → Option ℕ
workers_of None = Some 4
workers_of (Some text) = number_between 1 64 (Some text)

-- the number and the size of a made program, as its places are given them: the number is from 0 to 2,147,483,647, and the size
-- from 1 to 10,000
abbrev pub made_of : (Word → Option Word) → Option (ℕ × ℕ)
made_of given =
    option_and_then (λ number. option_map (λ size. (number, size)) (number_between 1 10000 (given (codes "size"))))
    (number_between 0 2147483647 (given (codes "number")))
