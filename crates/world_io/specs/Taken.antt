-- What sinks take.
use Rattle.std.specs.Prelude.{◌≡◌, ℕ, ◌≤◌, List, length, take, Option, Result, Ok, Err}
use Rattle.std.specs.Io.KnownBytes.{append_known}
use Rattle.world_io.specs.Counts.{Rose}
use Rattle.world_io.specs.Seen.{SinkSeen}
use Rattle.world_io.specs.declared.sink.Failed.{Failed}

-- the bytes taken grew by some front of the text
abbrev pub TookPrefix : Option (List ℕ) → Option (List ℕ) → List ℕ → Type 0
TookPrefix old new text = (n : ℕ) × (n ≤ length text) × (new ≡ append_known old (take n text))

-- the bytes taken grew by as many of the piece as the answer says, and by none at a failure
abbrev pub TakesFront : Option (List ℕ) → Option (List ℕ) → List ℕ → Result ℕ Failed → Type 0
TakesFront old new piece (Ok n) = new ≡ append_known old (take n piece)
TakesFront old new piece (Err failed) = new ≡ old

-- a failure raises the count, and every other answer leaves it as it was
abbrev pub CountsWrite : {T : Type 0} → Result T Failed → ℕ → ℕ → Type 0
CountsWrite (Ok x) before now = now ≡ before
CountsWrite (Err failed) before now = Rose before now

-- the line was taken whole where the count of faults did not rise
abbrev pub Said : SinkSeen → SinkSeen → List ℕ → Type 0
Said old new line = (Rose old.faults new.faults → ⊥) → new.taken ≡ append_known old.taken line
