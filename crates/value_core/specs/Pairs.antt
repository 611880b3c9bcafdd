-- A finite map: pairs whose keys rise.
use Rattle.std.specs.Prelude.{◌≡◌, ℕ, suc, ◌<◌, ◌≤◌, length, slice_index_or, Bool, true, ◌&&◌, List, [], ◌∷◌, Option, Some, None, if◌then◌else◌, filter, refl}
use Rattle.std.specs.Coded.{Coded, code_by, coded×}
use Rattle.std.specs.declared.cmp.Ordering.{Ordering}
use Rattle.std.specs.declared.cmp.Ordering.TheVariants.{Less, Equal, Greater}
use Rattle.std.specs.Ordering.{is_lt, is_eq, is_ne}
use Rattle.std.specs.List.{HoldsAt}
use Rattle.value_core.specs.declared.key.Key.{Key}
use Rattle.value_core.specs.contracts.key.Key as key
use Rattle.value_core.specs.declared.pair.Pair.{Pair}
use Rattle.value_core.specs.Key.{key_cmp}

-- a pair is stored as its key and its value
abbrev pub pair_code : {V : Type 0} → Coded V → Coded (Pair V)
pair_code {V} value = code_by (Key × V) (coded× (key.the_row).coded value) (λ p. (p.key, p.value)) (λ p. record { key = p.0; value = p.1 }) (λ _. refl)

-- whether the key is before each key of the pairs
abbrev pub before_all : {V : Type 0} → Key → List (Pair V) → Bool
before_all k [] = true
before_all k (p ∷ ps) = is_lt (key_cmp k p.key) && before_all k ps

-- whether each key is before all that follow it
abbrev pub keys_rise : {V : Type 0} → List (Pair V) → Bool
keys_rise [] = true
keys_rise (p ∷ ps) = before_all p.key ps && keys_rise ps

-- the value of the pair that has the key
abbrev pub find_key : {V : Type 0} → Key → List (Pair V) → Option V
find_key k [] = None
find_key k (p ∷ ps) = if is_eq (key_cmp p.key k) then Some p.value else find_key k ps

abbrev pub by_order : {A : Type 0} → Ordering → A → A → A → A
by_order Less before here after = before
by_order Equal before here after = here
by_order Greater before here after = after

-- with this value at the key: in the place of the pair that has the key, else after all keys that are before it
abbrev pub put_key : {V : Type 0} → Key → V → List (Pair V) → List (Pair V)
put_key k v [] = record { key = k; value = v } ∷ []
put_key k v (p ∷ ps) =
    by_order (key_cmp p.key k) (p ∷ put_key k v ps) (record { key = k; value = v } ∷ ps) (record { key = k; value = v } ∷ p ∷ ps)

-- without the pair that has the key
abbrev pub without_key : {V : Type 0} → Key → List (Pair V) → List (Pair V)
without_key k ps = filter (λ p. is_ne (key_cmp p.key k)) ps

-- the keys before place i are before k
abbrev pub KeysBelow : {V : Type 0} → List (Pair V) → Key → ℕ → Type 0
KeysBelow {V} ps k i = (j : ℕ) (d : Pair V) → j < i → key_cmp (slice_index_or ps j d).key k ≡ Less

-- the keys from place i on are after k
abbrev pub KeysAbove : {V : Type 0} → List (Pair V) → Key → ℕ → Type 0
KeysAbove {V} ps k i = (j : ℕ) (d : Pair V) → i ≤ j → j < length ps → key_cmp (slice_index_or ps j d).key k ≡ Greater

-- the pair at this place has the key, and the keys before it are before it
pub record IsPlaceOf {V : Type 0} (ps : List (Pair V)) (k : Key) (i : ℕ) : Type 0 where
  pub in_range : i < length ps
  pub before : KeysBelow ps k i
  pub here : HoldsAt (λ p. key_cmp p.key k ≡ Equal) ps i
  pub after : KeysAbove ps k (suc i)

-- the key would go at this place: the keys before it are before it, and the keys from it on after it
pub record IsGapFor {V : Type 0} (ps : List (Pair V)) (k : Key) (i : ℕ) : Type 0 where
  pub in_range : i ≤ length ps
  pub before : KeysBelow ps k i
  pub after : KeysAbove ps k i

-- the pair of a key and a value
abbrev pub pair_of : {V : Type 0} → Key → V → Pair V
pair_of k v = record { key = k; value = v }
