-- The answers to a read.
use Rattle.std.specs.Prelude.{◌≡◌, ℕ, ◌⊎◌, List, Option, Some, Result, Ok, Err, IsErrOf}
use Rattle.world_io.specs.Counts.{Rose}
use Rattle.world_io.specs.declared.files.FileNo.{FileNo}
use Rattle.world_io.specs.declared.files.FileNo.TheVariants.{Failed, Absent, TooLong, Memory}

-- the answers that no state of the files rules out
abbrev pub IsFree : {T : Type 0} → Result T FileNo → Type 0
IsFree result = IsErrOf result Failed ⊎ IsErrOf result Memory

-- a failure raises the count, and every other answer leaves it as it was
abbrev pub CountsRead : {T : Type 0} → Result T FileNo → ℕ → ℕ → Type 0
CountsRead (Ok bytes) before now = now ≡ before
CountsRead (Err Failed) before now = Rose before now
CountsRead (Err Absent) before now = now ≡ before
CountsRead (Err TooLong) before now = now ≡ before
CountsRead (Err Memory) before now = now ≡ before

-- the name of the read that failed last, after a read of this name: a failure puts the name there, and no other answer
abbrev pub unread_after : {T : Type 0} → List ℕ → Result T FileNo → Option (List ℕ) → Option (List ℕ)
unread_after name (Ok bytes) before = before
unread_after name (Err Failed) before = Some name
unread_after name (Err Absent) before = before
unread_after name (Err TooLong) before = before
unread_after name (Err Memory) before = before
