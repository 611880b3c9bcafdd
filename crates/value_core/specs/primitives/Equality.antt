-- Whether two values are the same tree.
use Rattle.std.specs.Prelude.{Bool, true, false, ◌==◌, ◌&&◌, List, [], ◌∷◌}
use Rattle.std.specs.List.{list_all}
use base.Stored.{Gv, gnil, gnum, gcons}
use Rattle.value_core.specs.declared.value.Value.{Value}
use Rattle.value_core.specs.contracts.value.Value as value

-- whether two codes are the same
unfoldable pub same_code : Gv → Gv → Bool
same_code gnil gnil = true
same_code (gnum m) (gnum n) = m == n
same_code (gcons a b) (gcons c d) = same_code a c && same_code b d
same_code _ _ = false

-- Whether two values are the same: each value has a code of its own. `same_value_is` of the proofs says it without codes.
unfoldable pub same_value : Value → Value → Bool
same_value v w = same_code ((value.the_row).coded.code v) ((value.the_row).coded.code w)

-- whether all values are the first one
abbrev pub all_same : List Value → Bool
all_same [] = true
all_same (v ∷ vs) = list_all (same_value v) vs
