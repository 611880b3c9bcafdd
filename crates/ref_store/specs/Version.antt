-- The versions of a ref, the oldest first.
use Rattle.std.specs.Prelude.{◌≡◌, ℕ, ◌<◌, ◌≤◌, Bool, nat_le, List, [], ◌∷◌, Option, None, Some, All, filter}
use Rattle.std.specs.Coded.{Coded}
use Rattle.std.specs.List.{AllPairs, Contains}
use Rattle.std.specs.Option.{option_map, option_or}
use Rattle.value_core.specs.declared.value.Value.{Value}
use Rattle.value_core.specs.Roomy.{Roomy, roomy_code}
use Rattle.ref_store.specs.contracts.version.Version as version
use Rattle.ref_store.specs.declared.version.Version.{Version}

-- versions with their room are stored as their parts
abbrev pub versions_code : Coded (Roomy Version)
versions_code = roomy_code (version.the_row).coded

-- each version has a lower number than those behind it
abbrev pub NumbersRise : List Version → Type 0
NumbersRise versions = AllPairs (λ older newer. older.number < newer.number) versions

-- the last of the versions, where there is one
abbrev pub newest : List Version → Option Version
newest [] = None
newest (version ∷ versions) = option_or (newest versions) (Some version)

-- whether the version is at or below the number
abbrev pub is_by : ℕ → Version → Bool
is_by number version = nat_le version.number number

-- the version that is read at a number: the newest one at or below it
abbrev pub version_at : ℕ → List Version → Option Version
version_at number versions = newest (filter (is_by number) versions)

-- the value that is read at a number
abbrev pub value_at : ℕ → List Version → Option Value
value_at number versions = option_map (λ version. version.value) (version_at number versions)

-- the version is one of these, at or below the number, and no other one at or below the number is newer
pub record IsNewestBy (number : ℕ) (versions : List Version) (version : Version) : Type 0 where
  pub kept : Contains versions version
  pub by : version.number ≤ number
  pub newest : All (λ other. other.number ≤ number → other.number ≤ version.number) versions

-- the value is that of the newest version at or below the number; where there is none, each version is above it
abbrev pub IsReadAt : ℕ → List Version → Option Value → Type 0
IsReadAt number versions None = All (λ version. number < version.number) versions
IsReadAt number versions (Some value) = (version : Version) × IsNewestBy number versions version × (version.value ≡ value)

-- the version is one of these, and none has a higher number; where there is none, the list is empty
abbrev pub IsHighest : List Version → Option Version → Type 0
IsHighest versions None = versions ≡ []
IsHighest versions (Some version) = Contains versions version × All (λ other. other.number ≤ version.number) versions
