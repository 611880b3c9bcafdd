-- How counts of faults compose over calls in a row.
use Rattle.std.proofs.Common.{ℕ, ◌≤◌, arith}
use Rattle.world_io.specs.Counts.{Rose}

-- a count that rose early has risen later
pub Rose-later : (before now later : ℕ) → Rose before now → now ≤ later → Rose before later
Rose-later before now later rose on = omega arith

-- a count that rose late has risen since earlier
pub Rose-earlier : (earlier before now : ℕ) → earlier ≤ before → Rose before now → Rose earlier now
Rose-earlier earlier before now on rose = omega arith

-- where a count did not rise over two calls, it did not rise in the first
pub not_risen-first : (before mid now : ℕ) → (Rose before now → ⊥) → mid ≤ now → Rose before mid → ⊥
not_risen-first before mid now calm on rose = calm (Rose-later before mid now rose on)

-- nor in the second
pub not_risen-second : (before mid now : ℕ) → (Rose before now → ⊥) → before ≤ mid → Rose mid now → ⊥
not_risen-second before mid now calm on rose = calm (Rose-earlier before mid now on rose)
