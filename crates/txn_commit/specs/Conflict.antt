-- What a transaction has read, against the versions that were written since.
use Rattle.std.specs.Prelude.{◌≡◌, ℕ, ◌<◌, ◌≤◌, List, Some, All, take}
use Rattle.std.specs.List.{slice_get}
use Rattle.value_core.specs.Named.{Name, Named}
use Rattle.ref_store.specs.declared.version.Version.{Version}
use Rattle.ref_store.specs.Store.{versions_of}
use Rattle.ref_store.specs.Version.{newest, value_at}
use Rattle.txn_commit.specs.declared.conflict.Conflict.{Conflict}

-- the ref has no version above the snapshot
abbrev pub IsUnchanged : Named (List Version) → ℕ → Name → Type 0
IsUnchanged versions snapshot name = All (λ version. version.number ≤ snapshot) (versions_of versions name)

-- from the snapshot on the ref reads as it does there
abbrev pub ReadsAsThen : Named (List Version) → ℕ → Name → Type 0
ReadsAsThen versions snapshot name = (number : ℕ) → snapshot ≤ number → value_at number (versions_of versions name) ≡ value_at snapshot (versions_of versions name)

-- the newest version of the ref has that number, which is above the snapshot
pub record IsChanged (versions : Named (List Version)) (snapshot : ℕ) (name : Name) (number : ℕ) : Type 0 where
  pub version : Version
  pub newest : newest (versions_of versions name) ≡ Some version
  pub number_is : version.number ≡ number
  pub above : snapshot < number

-- the first of the refs with a version above the snapshot, and the number of its newest version
pub record IsFirstConflict (reads : List Name) (versions : Named (List Version)) (snapshot : ℕ) (conflict : Conflict) : Type 0 where
  pub read : Name
  pub place : slice_get reads conflict.index ≡ Some read
  pub changed : IsChanged versions snapshot read conflict.version
  pub before : All (IsUnchanged versions snapshot) (take conflict.index reads)
