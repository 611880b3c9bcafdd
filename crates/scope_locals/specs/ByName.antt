-- Ordered maps whose keys are names.
use Rattle.std.specs.Prelude.{ℕ, List, Option}
use Rattle.std.specs.BTreeMap.{BTreeMap, get_by}
use Rattle.std.specs.Cmp.Lexicographic.{slice_cmp}
use Rattle.std.specs.Global.{Vec}
use Rattle.std.specs.Ordering.{nat_cmp}

-- what the map has at a name
abbrev pub at_name : {X : Type 0} → BTreeMap (Vec ℕ) X → List ℕ → Option X
at_name entries name = get_by (λ key. slice_cmp nat_cmp name key.items) entries
