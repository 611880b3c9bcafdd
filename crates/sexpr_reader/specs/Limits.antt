-- How long a source may be, and how deep what is open in it.
use Rattle.std.specs.Prelude.{ℕ}

-- the most bytes of a source
abbrev pub source_limit : ℕ
source_limit = 4194304

-- the most brackets and @s that are open at once
abbrev pub nest_limit : ℕ
nest_limit = 256
