-- For what each slot waits.
use Rattle.std.specs.Prelude.{ℕ, List, Option, None, slice_index_or}

-- the slot that this one waits for, if it waits
abbrev pub need_of : List (Option ℕ) → ℕ → Option ℕ
need_of waits slot = slice_index_or waits slot None
