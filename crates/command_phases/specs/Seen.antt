-- What contracts see of the files and the sinks of a call, before it and after it.
use Rattle.std.specs.Prelude.{◌≡◌, ◌≢◌, ◌≤◌, ℕ, ◌⊎◌, List, [], ◌∷◌, Contains, None, Some}
use Rattle.world_io.specs.Counts.{Rose}
use Rattle.world_io.specs.Held.{told}
use Rattle.world_io.specs.Seen.{FilesSeen, SinkSeen}

-- the files, standard output and standard error
pub record Seen : Type 0 where
  pub files : FilesSeen
  pub out : SinkSeen
  pub err : SinkSeen

abbrev pub seen : FilesSeen → SinkSeen → SinkSeen → Seen
seen files out err = record { files = files; out = out; err = err }

-- no count fell
pub record IsLater (before after : Seen) : Type 0 where
  pub reads : before.files.read_faults ≤ after.files.read_faults
  pub writes : before.files.write_faults ≤ after.files.write_faults
  pub out : before.out.faults ≤ after.out.faults
  pub err : before.err.faults ≤ after.err.faults

-- a read failed, and its count shows it
abbrev pub ReadFailed : Seen → Seen → Type 0
ReadFailed before after = after.files.read_faults ≢ before.files.read_faults

-- a write failed, to a sink or of a file, and its count shows it
abbrev pub WriteFailed : Seen → Seen → Type 0
WriteFailed before after =
    (after.out.faults ≢ before.out.faults) ⊎ ((after.err.faults ≢ before.err.faults) ⊎ (after.files.write_faults ≢ before.files.write_faults))

-- no write failed
pub record NoWriteFailed (before after : Seen) : Type 0 where
  pub out : after.out.faults ≡ before.out.faults
  pub err : after.err.faults ≡ before.err.faults
  pub files : after.files.write_faults ≡ before.files.write_faults

-- no file counted a failed read
abbrev pub ReadsWell : Seen → Seen → Type 0
ReadsWell before after = Rose before.files.read_faults after.files.read_faults → ⊥

-- nothing counted a fault
pub record IsCalm (before after : Seen) : Type 0 where
  pub reads : Rose before.files.read_faults after.files.read_faults → ⊥
  pub writes : Rose before.files.write_faults after.files.write_faults → ⊥
  pub out : Rose before.out.faults after.out.faults → ⊥
  pub err : Rose before.err.faults after.err.faults → ⊥

-- what files hold, and which of their writes failed, is as before
pub record IsUntouched (before after : Seen) : Type 0 where
  pub held : after.files.held ≡ before.files.held
  pub faults : after.files.write_faults ≡ before.files.write_faults

-- it is told that nothing is held under the name
abbrev pub IsMissing : List ℕ → Seen → Type 0
IsMissing name before = told before.files.held name ≡ Some None

-- it is told that these bytes are held under the name
abbrev pub IsGiven : List ℕ → List ℕ → Seen → Type 0
IsGiven name bytes before = told before.files.held name ≡ Some (Some bytes)

-- the first of the names under which nothing is held
abbrev pub IsFirstMissing : List (List ℕ) → Seen → List ℕ → Type 0
IsFirstMissing [] before missing = ⊥
IsFirstMissing (name ∷ names) before missing =
    ((missing ≡ name) × IsMissing name before) ⊎ ((told before.files.held name ≢ Some None) × IsFirstMissing names before missing)

-- The one of the names that was not read: its read failed, and no other failed after it; or none failed, and it is the
-- first under which nothing is held.
abbrev pub IsUnread : List (List ℕ) → Seen → Seen → List ℕ → Type 0
IsUnread names before after unread =
    (Contains names unread × Rose before.files.read_faults after.files.read_faults × (after.files.last_unread ≡ Some unread))
    ⊎ ((after.files.read_faults ≡ before.files.read_faults) × IsFirstMissing names before unread)
