-- How values are told by the runs of their items.
use Rattle.std.specs.Prelude.{◌≡◌, List, Option, Some, None, map}
use Rattle.std.specs.declared.alloc.Global.{Global}
use Rattle.std.specs.declared.sync.Arc.{Arc}
use Rattle.std.specs.declared.vec.Vec.{Vec}
use Rattle.serial_model.specs.declared.answer.Answer.{Answer}
use Rattle.serial_model.specs.declared.answer.Answer.TheVariants as answer
use Rattle.value_core.specs.declared.value.Value.{Value}
use Rattle.value_core.specs.declared.value.Value.TheVariants as value

-- where there are runs, the value is a vector, and they are of its items
abbrev pub IsTold : Option (List Answer) → Value → Type 0
IsTold None v = Unit {0}
IsTold (Some runs) v = (items : List Value) × (v ≡ value.Vector items) × (runs ≡ map answer.Value items)

abbrev pub entries_of : {X : Type 0} → Arc (Vec X Global) Global → List X
entries_of entries = entries.value.items

-- where there are entries, they are the values
abbrev pub IsToldOf : Option (Arc (Vec Value Global) Global) → List Value → Type 0
IsToldOf None values = Unit {0}
IsToldOf (Some entries) values = entries_of entries ≡ values
