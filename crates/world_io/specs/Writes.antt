-- The answers to the write of a file.
use Rattle.std.specs.Prelude.{◌≡◌, ℕ, Result, Ok, Err}
use Rattle.world_io.specs.Counts.{Rose}
use Rattle.world_io.specs.declared.files.WriteNo.{WriteNo}
use Rattle.world_io.specs.declared.files.WriteNo.TheVariants.{Failed, Memory}

-- a failure raises the count, and every other answer leaves it as it was
abbrev pub CountsFileWrite : {T : Type 0} → Result T WriteNo → ℕ → ℕ → Type 0
CountsFileWrite (Ok x) before now = now ≡ before
CountsFileWrite (Err Failed) before now = Rose before now
CountsFileWrite (Err Memory) before now = now ≡ before
