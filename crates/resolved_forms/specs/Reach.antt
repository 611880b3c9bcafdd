-- The globals that a unit of code reaches: those that it names, and those that the units reach which it names.
use Rattle.std.specs.Prelude.{◌≡◌, ◌↔◌, ℕ, ◌<◌, List, [], length, Some, slice_get, slice_index_or, Contains}
use Rattle.std.specs.List.Sorted.{IsStrictlyIncreasing}
use Rattle.resolved_forms.specs.declared.uses.Uses.{Uses}

-- the unit is there, and the number is among those that it names
abbrev pub Names : (Uses → List ℕ) → List Uses → ℕ → ℕ → Type 0
Names named uses unit number = (x : Uses) × (slice_get uses unit ≡ Some x) × Contains (named x) number

abbrev pub globals_named : Uses → List ℕ
globals_named x = x.globals

abbrev pub units_named : Uses → List ℕ
units_named x = x.units

pub data Reaches (uses : List Uses) : ℕ → ℕ → Type 0 where
  direct : {unit global : ℕ} → Names globals_named uses unit global → Reaches uses unit global
  through : {unit callee global : ℕ} → Names units_named uses unit callee → Reaches uses callee global → Reaches uses unit global

-- the lists of the units, with the globals below `globals` that each reaches, in rising order; a unit that is not there
-- has the empty list
pub record AreReached (uses : List Uses) (globals : ℕ) (lists : List (List ℕ)) : Type 0 where
  pub as_many : length lists ≡ length uses
  pub rise : (unit : ℕ) → IsStrictlyIncreasing (slice_index_or lists unit [])
  pub are : (unit global : ℕ) → Contains (slice_index_or lists unit []) global ↔ ((global < globals) × Reaches uses unit global)
