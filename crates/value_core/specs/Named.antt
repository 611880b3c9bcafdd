-- Finite maps by name: lists whose names rise in after-order.
use Rattle.std.specs.Prelude.{◌≡◌, ℕ, Bool, false, List, [], ◌∷◌, ◌++◌, Option, Some, T, if◌then◌else◌}
use Rattle.std.specs.FinMap as map
use Rattle.std.specs.List.{list_any}
use Rattle.std.specs.Ordering.{eq_by_cmp}
use Rattle.value_core.specs.Name.{after_cmp}

-- a name is its numbers
abbrev pub Name : Type 0
Name = List ℕ

abbrev pub Named : Type 0 → Type 0
Named X = List (Name × X)

-- what stands under a name
abbrev pub named : {X : Type 0} → Name → Named X → Option X
named name all = map.find after_cmp name all

-- the map with this under that name
abbrev pub with_named : {X : Type 0} → Named X → Name → X → Named X
with_named all name x = map.put after_cmp name x all

-- the second map with what the first one has
abbrev pub over : {X : Type 0} → Named X → Named X → Named X
over [] below = below
over (entry ∷ entries) below = over entries (with_named below entry.0 entry.1)

abbrev pub same_name : Name → Name → Bool
same_name a b = eq_by_cmp after_cmp a b

-- whether the name is one of these
abbrev pub is_among : Name → List Name → Bool
is_among name names = list_any (same_name name) names

-- the names, with this one at the end where it is none of them
abbrev pub with_name : List Name → Name → List Name
with_name names name = if is_among name names then names else names ++ name ∷ []

-- the names of the map rise
abbrev pub Rises : {X : Type 0} → Named X → Type 0
Rises all = T (map.is_sorted after_cmp all)

-- but for that name the maps are the same
abbrev pub AgreeBut : {X : Type 0} → Name → Named X → Named X → Type 0
AgreeBut name old new = (q : Name) → same_name q name ≡ false → named q new ≡ named q old

-- the map with another view of each entry
abbrev pub each_as : {X Y : Type 0} → (X → Y) → Named X → Named Y
each_as f [] = []
each_as f (e ∷ es) = (e.0, f e.1) ∷ each_as f es

-- the item under the name, where there is one, is changed so, and the others stay
pub record IsChangedTo {X : Type 0} (name : Name) (old new : Named X) (R : X → X → Type 0) (x : X) : Type 0 where
  pub item : X
  pub put : new ≡ with_named old name item
  pub related : R x item

abbrev pub IsChanged : {X : Type 0} → Name → Named X → Named X → (X → X → Type 0) → Type 0
IsChanged {X} name old new R = (x : X) → named name old ≡ Some x → IsChangedTo name old new R x

-- the k-th thing that a unit or a task made
abbrev pub made_by : Name → ℕ → Name
made_by name k = name ++ k ∷ []
