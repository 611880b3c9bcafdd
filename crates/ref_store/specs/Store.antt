-- The versions of all refs, and what a commit adds to them.
use Rattle.std.specs.Prelude.{◌≡◌, ℕ, ◌<◌, ◌≤◌, List, [], ◌∷◌, ◌++◌, All, refl, unwrap_or}
use Rattle.std.specs.Coded.{Coded, code_by, coded×, coded_list, coded_ℕ}
use Rattle.std.specs.Option.{option_or}
use Rattle.value_core.specs.declared.value.Value.{Value}
use Rattle.value_core.specs.Named.{Name, Named, named, with_named, each_as}
use Rattle.value_core.specs.Placed.{filled}
use Rattle.ref_store.specs.contracts.version.Version as version
use Rattle.ref_store.specs.declared.version.Version.{Version}
use Rattle.ref_store.specs.Pruned.{IsPruned}
use Rattle.ref_store.specs.Version.{value_at}

-- the versions of each ref that has some, and for how many versions more of a ref there is room
pub record Kept : Type 0 where
  pub versions : Named (List Version)
  pub room : Named ℕ

-- they are stored as their parts
abbrev pub kept_code : Coded Kept
kept_code =
    code_by (Named (List Version) × Named ℕ) (coded× (coded_list (coded× (coded_list coded_ℕ) (coded_list (version.the_row).coded))) (coded_list (coded× (coded_list coded_ℕ) coded_ℕ)))
    (λ k. (k.versions, k.room)) (λ p. record { versions = p.0; room = p.1 }) (λ _. refl)

-- the versions of a ref, none where it has none
abbrev pub versions_of : Named (List Version) → Name → List Version
versions_of versions name = unwrap_or (named name versions) []

-- there is room for one version more of the ref
abbrev pub HasRoom : Name → Named ℕ → Type 0
HasRoom name room = 0 < unwrap_or (named name room) 0

-- there is room for one version more of each ref that is written
abbrev pub HasRoomFor : Named Value → Named ℕ → Type 0
HasRoomFor writes room = All (λ write. HasRoom write.0 room) writes

-- the number is above that of each version
abbrev pub IsAbove : ℕ → Named (List Version) → Type 0
IsAbove number versions = (name : Name) → All (λ version. version.number < number) (versions_of versions name)

-- the version with that number and value
abbrev pub version_of : ℕ → Value → Version
version_of number value = record { number = number; value = value }

-- the ref has this version more, as its newest
abbrev pub with_version : Named (List Version) → Name → Version → Named (List Version)
with_version versions name version = with_named versions name (versions_of versions name ++ version ∷ [])

-- each written ref has a version more, with that number and the value that was written
abbrev pub committed : Named (List Version) → Named Value → ℕ → Named (List Version)
committed versions [] number = versions
committed versions (write ∷ writes) number = with_version (committed versions writes number) write.0 (version_of number write.1)

-- at each number below the one given each ref reads as before
abbrev pub ReadsStayBelow : ℕ → Named (List Version) → Named (List Version) → Type 0
ReadsStayBelow number old new = (name : Name) (at : ℕ) → at < number → value_at at (versions_of new name) ≡ value_at at (versions_of old name)

-- from the number on each written ref reads the value that was written, and every other one as before
abbrev pub ReadsWrittenFrom : Named Value → ℕ → Named (List Version) → Named (List Version) → Type 0
ReadsWrittenFrom writes number old new = (name : Name) (at : ℕ) → number ≤ at → value_at at (versions_of new name) ≡ option_or (named name writes) (value_at at (versions_of old name))

-- what the refs hold at a number: each that has a version at or below it, with the value of the newest such
abbrev pub refs_at : ℕ → Named (List Version) → Named Value
refs_at number versions = filled (each_as (value_at number) versions)

-- the versions of each ref are pruned for the live numbers
abbrev pub ArePruned : List ℕ → Named (List Version) → Named (List Version) → Type 0
ArePruned live old new = (name : Name) → IsPruned live (versions_of old name) (versions_of new name)
