-- The refs that a transaction has set.
use Rattle.std.specs.Prelude.{◌≡◌, ℕ, ◌<◌, ◌≤◌, length, slice_index_or}
use Rattle.std.specs.Coded.{Coded, coded×, coded_list, coded_ℕ}
use Rattle.std.specs.List.{HoldsAt}
use Rattle.std.specs.declared.cmp.Ordering.TheVariants.{Less, Equal, Greater}
use Rattle.value_core.specs.contracts.value.Value as value
use Rattle.value_core.specs.declared.value.Value.{Value}
use Rattle.value_core.specs.Name.{after_cmp}
use Rattle.value_core.specs.Named.{Name, Named}
use Rattle.value_core.specs.Roomy.{Roomy, roomy_code}

-- writes are stored as names and values
abbrev pub writes_code : Coded (Roomy (Name × Value))
writes_code = roomy_code (coded× (coded_list coded_ℕ) (value.the_row).coded)

-- the name is after those before place i
abbrev pub IsAfterFirst : {X : Type 0} → Named X → Name → ℕ → Type 0
IsAfterFirst {X} all name i = (j : ℕ) (d : Name × X) → j < i → after_cmp name (slice_index_or all j d).0 ≡ Greater

-- the name is before those from place i on
abbrev pub IsBeforeRest : {X : Type 0} → Named X → Name → ℕ → Type 0
IsBeforeRest {X} all name i = (j : ℕ) (d : Name × X) → i ≤ j → j < length all → after_cmp name (slice_index_or all j d).0 ≡ Less

-- the name stands at this place, and is after those before it
pub record IsPlaceOf {X : Type 0} (all : Named X) (name : Name) (i : ℕ) : Type 0 where
  pub in_range : i < length all
  pub after : IsAfterFirst all name i
  pub here : HoldsAt (λ entry. after_cmp name entry.0 ≡ Equal) all i

-- the name stands nowhere, and would go to this place
pub record IsGapFor {X : Type 0} (all : Named X) (name : Name) (i : ℕ) : Type 0 where
  pub in_range : i ≤ length all
  pub after : IsAfterFirst all name i
  pub before : IsBeforeRest all name i
