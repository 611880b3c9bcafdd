-- Sets of names, as ordered sets keep them.
use Rattle.std.specs.Prelude.{◌≡◌, ◌||◌, ◌&&◌, Bool, true, false, not, List, Option, None, Some}
use Rattle.std.specs.BTreeSet.{BTreeSet, contains}
use Rattle.std.specs.Ordering.{is_gt}
use Rattle.value_core.specs.Name.{after_cmp}
use Rattle.value_core.specs.Named.{Name, Named, named, same_name, is_among}

-- whether the set has the name
abbrev pub has_name : BTreeSet Name → Name → Bool
has_name set name = contains after_cmp set name

-- the set has the names of the list and no others
abbrev pub HasNames : BTreeSet Name → List Name → Type 0
HasNames set names = (name : Name) → has_name set name ≡ is_among name names

-- the set with the name, and without it
abbrev pub IsWith : Name → BTreeSet Name → BTreeSet Name → Type 0
IsWith name old new = (q : Name) → has_name new q ≡ (has_name old q || same_name q name)

abbrev pub IsWithout : Name → BTreeSet Name → BTreeSet Name → Type 0
IsWithout name old new = (q : Name) → has_name new q ≡ (has_name old q && not (same_name q name))

-- the set with the names of another one
abbrev pub HasBoth : BTreeSet Name → BTreeSet Name → BTreeSet Name → Type 0
HasBoth old more new = (q : Name) → has_name new q ≡ (has_name old q || has_name more q)

-- the first name of the set, where it has one
abbrev pub IsFirst : BTreeSet Name → Option Name → Type 0
IsFirst set None = (q : Name) → has_name set q ≡ false
IsFirst set (Some name) = (has_name set name ≡ true) × ((q : Name) → has_name set q ≡ true → is_gt (after_cmp name q) ≡ false)

-- whether what stands under a name meets the test
abbrev pub holds_at : {X : Type 0} → (X → Bool) → Option X → Bool
holds_at test None = false
holds_at test (Some x) = test x

-- the set has just the names whose items meet the test
abbrev pub HasJust : {X : Type 0} → (X → Bool) → BTreeSet Name → Named X → Type 0
HasJust test set all = (name : Name) → has_name set name ≡ holds_at test (named name all)
