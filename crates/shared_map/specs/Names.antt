-- The names of a map, and sets of names in after-order.
use Rattle.std.specs.Prelude.{List, [], ◌∷◌}
use Rattle.std.specs.FinMap.Entries.{by_order}
use Rattle.value_core.specs.Name.{after_cmp}
use Rattle.value_core.specs.Named.{Name, Named, Rises}

-- the names of the entries
abbrev pub names_of : {X : Type 0} → Named X → List Name
names_of [] = []
names_of (e ∷ es) = e.0 ∷ names_of es

-- the names as a map by name that has nothing under them
abbrev pub marked : List Name → Named (Unit {0})
marked [] = []
marked (name ∷ names) = (name, tt) ∷ marked names

-- the names, with this one in its place where it is none of them
abbrev pub with_member : List Name → Name → List Name
with_member [] name = name ∷ []
with_member (member ∷ members) name = by_order (after_cmp name member) (name ∷ member ∷ members) (member ∷ members) (member ∷ with_member members name)

-- the names rise
abbrev pub MembersRise : List Name → Type 0
MembersRise names = Rises (marked names)
