-- What is answered to the reading of a file.
use Rattle.std.specs.Prelude.{◌≡◌, ◌≤◌, ℕ, ◌⊎◌, List, length, None, Some, Result, Ok, Err}
use Rattle.world_io.specs.Counts.{Rose}
use Rattle.world_io.specs.Held.{told, IsHeld, ExceedsLimit}
use Rattle.world_io.specs.Seen.{FilesSeen}
use Rattle.command_phases.specs.declared.fetch.Fetched.{Fetched}
use Rattle.command_phases.specs.declared.fetch.Fetched.TheVariants.{Bytes, TooLong}
use Rattle.command_phases.specs.declared.fetch.FetchNo.{FetchNo}
use Rattle.command_phases.specs.declared.fetch.FetchNo.TheVariants.{NotRead, Memory}

-- no read failed
abbrev pub NoReadFailed : FilesSeen → FilesSeen → Type 0
NoReadFailed before after = after.read_faults ≡ before.read_faults

-- the name was not read: its read failed, and was the last that did; or none failed, and nothing is held under it
abbrev pub IsNotRead : List ℕ → FilesSeen → FilesSeen → Type 0
IsNotRead name before after =
    (Rose before.read_faults after.read_faults × (after.last_unread ≡ Some name)) ⊎ (NoReadFailed before after × (told before.held name ≡ Some None))

-- the cause of each answer; an answer with bytes has counted nothing
abbrev pub Fetches : List ℕ → ℕ → FilesSeen → FilesSeen → Result Fetched FetchNo → Type 0
Fetches name limit before after (Ok (Bytes bytes)) = IsHeld (told before.held name) bytes.items × (length bytes.items ≤ limit) × NoReadFailed before after
Fetches name limit before after (Ok TooLong) = ExceedsLimit (told before.held name) limit × NoReadFailed before after
Fetches name limit before after (Err NotRead) = IsNotRead name before after
Fetches name limit before after (Err Memory) = NoReadFailed before after
