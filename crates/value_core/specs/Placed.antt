-- Maps by name whose places can be made before they are filled.
use Rattle.std.specs.Prelude.{◌≡◌, [], ◌∷◌, Option, None, Some}
use Rattle.std.specs.Coded.{Coded, coded×, coded_list, coded_option, coded_ℕ}
use Rattle.std.specs.Option.{IsSome}
use Rattle.value_core.specs.Named.{Name, Named, named, with_named, Rises}

-- places by name, each with its item where it is filled
abbrev pub Placed : Type 0 → Type 0
Placed X = Named (Option X)

abbrev pub if_filled : {X : Type 0} → Option X → Name → Named X → Named X
if_filled None name rest = rest
if_filled (Some x) name rest = (name, x) ∷ rest

-- the map that the places show: the items of those that are filled
abbrev pub filled : {X : Type 0} → Placed X → Named X
filled [] = []
filled (e ∷ es) = if_filled e.1 e.0 (filled es)

-- there is a place under the name
abbrev pub HasPlace : {X : Type 0} → Name → Placed X → Type 0
HasPlace name places = IsSome (named name places)

-- there is a place under the name now, an empty one if there was none before, and all else stays
pub record IsPrepared {X : Type 0} (name : Name) (old new : Placed X) : Type 0 where
  pub rises : Rises old → Rises new
  pub shows : filled new ≡ filled old
  pub place : HasPlace name new
  pub others : (other : Name) → HasPlace other old → HasPlace other new

-- the place that is found under the name is empty now; where none is, all is as it was
abbrev pub IsEmptied : {X : Type 0} → Name → Option (Option X) → Placed X → Placed X → Type 0
IsEmptied name None old new = new ≡ old
IsEmptied name (Some place) old new = new ≡ with_named old name None

-- they are stored as a list of names and options
abbrev pub placed_code : {X : Type 0} → Coded X → Coded (Placed X)
placed_code item = coded_list (coded× (coded_list coded_ℕ) (coded_option item))
