-- Counts of faults. A count never falls, and stays at its last value, that of a u64.
use Rattle.std.specs.Prelude.{ℕ, ◌+◌, ◌-◌, ◌^◌, ◌≤◌, min}

-- the count after one fault more
abbrev pub raised : ℕ → ℕ
raised count = min (count + 1) (2 ^ 64 - 1)

-- from before to now the count rose, or it stands at its last value
abbrev pub Rose : ℕ → ℕ → Type 0
Rose before now = raised before ≤ now
