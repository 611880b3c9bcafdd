-- Values that are at most as deep as a primitive's value may be.
use Rattle.std.specs.Prelude.{◌≡◌, ◌≤◌, List, [], ◌∷◌, Ok}
use Rattle.value_core.specs.Depth.{depth_of}
use Rattle.value_core.specs.declared.op.Op.{Op}
use Rattle.value_core.specs.declared.value.Value.{Value}
use Rattle.value_core.specs.primitives.Apply.{rule_of}

-- at most 200 deep
abbrev pub IsShallow : Value → Type 0
IsShallow v = depth_of v ≤ 200

-- less than 200 deep
abbrev pub IsPart : Value → Type 0
IsPart v = depth_of v ≤ 199

-- the first value is at most 200 deep
abbrev pub FirstIsShallow : List Value → Type 0
FirstIsShallow [] = Unit {0}
FirstIsShallow (v ∷ more) = IsShallow v

-- what the primitive gives for these arguments is at most 200 deep, if the first of them is
pub record KeepsShallow (op : Op) (args : List Value) : Type 0 where
  pub gives : FirstIsShallow args → (v : Value) → rule_of op args ≡ Ok v → IsShallow v
