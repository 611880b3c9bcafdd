-- Versions as they are kept: a place for each name, which shows nothing while it has no version.
use Rattle.std.specs.Prelude.{◌≡◌, ℕ, ◌+◌, ◌<◌, ◌≤◌, ⊤, Bool, false, true, ◌||◌, nat_lt, List, [], ◌∷◌, length, take, Option, None, Some, All}
use Rattle.std.specs.List.{Contains}
use Rattle.value_core.specs.declared.value.Value.{Value}
use Rattle.value_core.specs.Named.{Name, Named, named, each_as, Rises}
use Rattle.value_core.specs.Placed.{filled}
use Rattle.value_core.specs.Roomy.{Roomy}
use Rattle.ref_store.specs.declared.version.Version.{Version}
use Rattle.ref_store.specs.Pruned.{IsPruned}
use Rattle.ref_store.specs.Store.{committed, versions_of, with_version, HasRoom}

-- the versions, where there are some
abbrev pub if_any : List Version → Option (List Version)
if_any [] = None
if_any (version ∷ versions) = Some (version ∷ versions)

-- the versions that the places show
abbrev pub versions_in : Named (Roomy Version) → Named (List Version)
versions_in places = filled (each_as (λ place. if_any place.items) places)

-- the room at each place
abbrev pub room_in : Named (Roomy Version) → Named ℕ
room_in places = each_as (λ place. place.room) places

-- whether the place has room for a version, or a version beside the newest
abbrev pub is_busy : Roomy Version → Bool
is_busy place = nat_lt 0 place.room || nat_lt 1 (length place.items)

-- the same of what stands under a name
abbrev pub has_busy : Option (Roomy Version) → Bool
has_busy None = false
has_busy (Some place) = is_busy place

-- how many versions stand under a name
abbrev pub count_of : Option (Roomy Version) → ℕ
count_of None = 0
count_of (Some place) = length place.items

-- the names of all places with room or with a version beside the newest are in the list
abbrev pub AreWatched : List Name → Named (Roomy Version) → Type 0
AreWatched names places = (name : Name) (place : Roomy Version) → named name places ≡ Some place → is_busy place ≡ true → Contains names name

-- no ref has more versions than that
abbrev pub AreFew : ℕ → Named (List Version) → Type 0
AreFew most versions = (name : Name) → length (versions_of versions name) ≤ most

-- the names of the places rise, those of the busy ones are in the list, and none has more versions than the bound
pub record AreKept (most : ℕ) (names : List Name) (places : Named (Roomy Version)) : Type 0 where
  pub rises : Rises places
  pub watched : AreWatched names places
  pub few : AreFew most (versions_in places)

-- the places show what they showed, and no place has less room
pub record IsReserved (old new : Named (Roomy Version)) : Type 0 where
  pub rises : Rises old → Rises new
  pub shows : versions_in new ≡ versions_in old
  pub kept : (name : Name) → HasRoom name (room_in old) → HasRoom name (room_in new)

-- the place has room for a version of that number, which is above those that it has
abbrev pub IsReady : ℕ → Named (Roomy Version) → Name → Type 0
IsReady number places name = HasRoom name (room_in places) × All (λ version. version.number < number) (versions_of (versions_in places) name)

-- the version is added at the place, and every other place keeps its room
pub record IsAdded (name : Name) (version : Version) (old new : Named (Roomy Version)) : Type 0 where
  pub rises : Rises new
  pub shows : versions_in new ≡ with_version (versions_in old) name version
  pub others : (other : Name) → ¬ (other ≡ name) → HasRoom other (room_in old) → HasRoom other (room_in new)
  pub watched : (names : List Name) → AreWatched names old → AreWatched names new

-- the versions of the writes are added, and the places of the other refs keep their room
pub record AreAdded (writes : Named Value) (number : ℕ) (old new : Named (Roomy Version)) : Type 0 where
  pub rises : Rises new
  pub shows : versions_in new ≡ committed (versions_in old) writes number
  pub others : (name : Name) → named name writes ≡ None → HasRoom name (room_in old) → HasRoom name (room_in new)
  pub watched : (names : List Name) → AreWatched names old → AreWatched names new

-- the place is pruned, and its room does not shrink
abbrev pub IsPrunedPlace : List ℕ → Option (Roomy Version) → Option (Roomy Version) → Type 0
IsPrunedPlace live None None = ⊤
IsPrunedPlace live None (Some new) = ⊥
IsPrunedPlace live (Some old) None = ⊥
IsPrunedPlace live (Some old) (Some new) = IsPruned live old.items new.items × (old.room ≤ new.room)

-- the places under all names are pruned
abbrev pub ArePrunedPlaces : List ℕ → Named (Roomy Version) → Named (Roomy Version) → Type 0
ArePrunedPlaces live old new = (name : Name) → IsPrunedPlace live (named name old) (named name new)

-- the place under the name is pruned, and the others stay
pub record IsPrunedUnder (live : List ℕ) (name : Name) (old new : Named (Roomy Version)) : Type 0 where
  pub rises : Rises new
  pub here : IsPrunedPlace live (named name old) (named name new)
  pub others : (other : Name) → ¬ (other ≡ name) → named other new ≡ named other old

-- what prunes the places now would have pruned the first ones; those with more versions than the bound are among the names
-- before the index
pub record IsPruning (live : List ℕ) (first : Named (Roomy Version)) (names : List Name) (index most : ℕ) (places : Named (Roomy Version)) : Type 0 where
  pub rises : Rises places
  pub pruned : (name : Name) (later : Option (Roomy Version)) → IsPrunedPlace live (named name places) later → IsPrunedPlace live (named name first) later
  pub watched : AreWatched names places
  pub left : (name : Name) (place : Roomy Version) → named name places ≡ Some place → most < length place.items → Contains (take index names) name
  pub within : index ≤ length names
  pub some : 0 < most
  pub bound : most ≤ length live + 1

-- a pruning that has the names up to this index left has those before it left afterwards
abbrev pub PrunesAt : List ℕ → ℕ → List Name → ℕ → Named (Roomy Version) → List Name → ℕ → Named (Roomy Version) → Type 0
PrunesAt live index old_names old_most old new_names new_most new = (first : Named (Roomy Version)) → IsPruning live first old_names (index + 1) old_most old → IsPruning live first new_names index new_most new
