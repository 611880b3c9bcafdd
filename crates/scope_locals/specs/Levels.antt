-- What the locals keep for a look-up by name.
use Rattle.std.specs.Prelude.{◌≡◌, ℕ, List, map, take, Some, slice_get}
use Rattle.std.specs.BTreeMap.{BTreeMap}
use Rattle.std.specs.Global.{Vec}
use Rattle.scope_locals.specs.declared.locals.Local.{Local}
use Rattle.scope_locals.specs.ByName.{at_name}
use Rattle.scope_locals.specs.Innermost.{innermost}

abbrev pub names_of : List Local → List (List ℕ)
names_of locals = map (λ local. local.name) locals

-- the map has for each name the level of the innermost local with it, and each local keeps the level that it hides
pub record AreLevels (locals : List Local) (levels : BTreeMap (Vec ℕ) ℕ) : Type 0 where
  pub shown : (name : List ℕ) → at_name levels name ≡ innermost (names_of locals) name
  pub hidden : (level : ℕ) (local : Local) → slice_get locals level ≡ Some local → local.hidden ≡ innermost (names_of (take level locals)) local.name
