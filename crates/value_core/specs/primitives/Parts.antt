-- Vectors and maps.
use Rattle.std.specs.Prelude.{◌-◌, ℤ, pos, negsuc, Bool, true, false, ◌==◌, ◌&&◌, nat_lt, nat_le, if◌then◌else◌, is_some, List, [], ◌∷◌, ◌++◌, map, fold, length, take, drop, slice_get, slice_set, Option, Some, None, unwrap_or, Result, Ok, Err, option_and_then}
use Rattle.std.specs.List.{list_all}
use Rattle.std.specs.Option.{option_map_or}
use Rattle.value_core.specs.declared.key.Key.{Key}
use Rattle.value_core.specs.declared.key.Key.TheVariants.{Bool as bool_key, Int as int_key, Kw as keyword_key, Str as string_key}
use Rattle.value_core.specs.declared.pair.Pair.{Pair}
use Rattle.value_core.specs.declared.value.Value.{Value}
use Rattle.value_core.specs.declared.value.Value.TheVariants.{Nil, Bool as bool_value, Int, Str, Kw, Vector, Map}
use Rattle.value_core.specs.declared.value.Value.TheOpen as one
use Rattle.value_core.specs.Pairs.{find_key, put_key, without_key}
use Rattle.value_core.specs.ToKey.{key_of}
use Rattle.value_core.specs.declared.op_fault.OpFault.{OpFault}
use Rattle.value_core.specs.declared.op_fault.OpFault.TheVariants.{WrongType, Index}
use Rattle.value_core.specs.primitives.Kinds.{is_int, int_of}

-- the item at a number, if it is in range
abbrev pub item_at : List Value → ℤ → Option Value
item_at items (pos i) = slice_get items i
item_at items (negsuc i) = None

-- the item at a value, if that is an integer in range
abbrev pub item_of : List Value → Value → Option Value
item_of items index = if is_int index then item_at items (int_of index) else None

-- the value at a key, if that is of a kind of keys
abbrev pub value_at : List (Pair Value) → Value → Option Value
value_at pairs key = option_and_then (λ k. find_key k pairs) (key_of key)

abbrev pub count_step : one.Value-F Value → Result Value OpFault
count_step one.Nil = Ok (Int (pos 0))
count_step (one.Vector items) = Ok (Int (pos (length items)))
count_step (one.Map pairs) = Ok (Int (pos (length pairs)))
count_step _ = Err WrongType

abbrev pub empty_step : one.Value-F Value → Result Value OpFault
empty_step one.Nil = Ok (bool_value true)
empty_step (one.Vector items) = Ok (bool_value (length items == 0))
empty_step (one.Map pairs) = Ok (bool_value (length pairs == 0))
empty_step _ = Err WrongType

abbrev pub get_step : one.Value-F Value → Value → Value → Result Value OpFault
get_step one.Nil key default = Ok default
get_step (one.Vector items) key default = Ok (unwrap_or (item_of items key) default)
get_step (one.Map pairs) key default = Ok (unwrap_or (value_at pairs key) default)
get_step _ key default = Err WrongType

abbrev pub contains_step : one.Value-F Value → Value → Result Value OpFault
contains_step one.Nil key = Ok (bool_value false)
contains_step (one.Vector items) key = Ok (bool_value (is_some (item_of items key)))
contains_step (one.Map pairs) key = Ok (bool_value (is_some (value_at pairs key)))
contains_step _ key = Err WrongType

-- the item, or what is answered out of range
abbrev pub item_or : Option Value → Result Value OpFault → Result Value OpFault
item_or None otherwise = otherwise
item_or (Some item) otherwise = Ok item

abbrev pub nth_step : one.Value-F Value → Value → Result Value OpFault → Result Value OpFault
nth_step (one.Vector items) index otherwise = if is_int index then item_or (item_at items (int_of index)) otherwise else Err WrongType
nth_step _ index otherwise = Err WrongType

abbrev pub conj_step : one.Value-F Value → List Value → Result Value OpFault
conj_step (one.Vector items) more = Ok (Vector (items ++ more))
conj_step _ more = Err WrongType

-- values by twos: a key or an index, and what stands behind it
abbrev pub paired : List Value → List (Value × Value)
paired [] = []
paired (key ∷ []) = []
paired (key ∷ value ∷ rest) = (key, value) ∷ paired rest

abbrev pub is_key : Value → Bool
is_key v = is_some (key_of v)

-- the pairs with the value put at the key
abbrev pub put_entry : List (Pair Value) → Value × Value → List (Pair Value)
put_entry pairs e = option_map_or (λ k. put_key k e.1 pairs) (key_of e.0) pairs

-- the entries put in order, where all their keys are keys
abbrev pub put_rule : List (Pair Value) → List (Value × Value) → Result Value OpFault
put_rule pairs entries = if list_all (λ e. is_key e.0) entries then Ok (Map (fold put_entry pairs entries)) else Err WrongType

-- the items with the value at the index: set inside, appended at the length, and None elsewhere
abbrev pub placed : List Value → ℤ → Value → Option (List Value)
placed items (pos i) value = if nat_lt i (length items) then Some (slice_set items i value) else (if i == length items then Some (items ++ value ∷ []) else None)
placed items (negsuc i) value = None

abbrev pub place_entry : Option (List Value) → Value × Value → Option (List Value)
place_entry so_far e = option_and_then (λ items. placed items (int_of e.0) e.1) so_far

abbrev pub vector_or_index : Option (List Value) → Result Value OpFault
vector_or_index None = Err Index
vector_or_index (Some items) = Ok (Vector items)

-- the entries placed in order, where all their indices are integers
abbrev pub place_rule : List Value → List (Value × Value) → Result Value OpFault
place_rule items entries = if list_all (λ e. is_int e.0) entries then vector_or_index (fold place_entry (Some items) entries) else Err WrongType

abbrev pub assoc_step : one.Value-F Value → List (Value × Value) → Result Value OpFault
assoc_step one.Nil entries = put_rule [] entries
assoc_step (one.Map pairs) entries = put_rule pairs entries
assoc_step (one.Vector items) entries = place_rule items entries
assoc_step _ entries = Err WrongType

-- the pairs without the key; what is no key is in no map
abbrev pub drop_key : List (Pair Value) → Value → List (Pair Value)
drop_key pairs v = option_map_or (λ k. without_key k pairs) (key_of v) pairs

abbrev pub dissoc_step : one.Value-F Value → List Value → Result Value OpFault
dissoc_step one.Nil keys = Ok Nil
dissoc_step (one.Map pairs) keys = Ok (Map (fold drop_key pairs keys))
dissoc_step _ keys = Err WrongType

-- the value that a key is
abbrev pub key_value : Key → Value
key_value (bool_key b) = bool_value b
key_value (int_key n) = Int n
key_value (keyword_key s) = Kw s
key_value (string_key s) = Str s

abbrev pub keys_step : one.Value-F Value → Result Value OpFault
keys_step one.Nil = Ok (Vector [])
keys_step (one.Map pairs) = Ok (Vector (map (λ p. key_value p.key) pairs))
keys_step _ = Err WrongType

abbrev pub vals_step : one.Value-F Value → Result Value OpFault
vals_step one.Nil = Ok (Vector [])
vals_step (one.Map pairs) = Ok (Vector (map (λ p. p.value) pairs))
vals_step _ = Err WrongType

abbrev pub first_step : one.Value-F Value → Result Value OpFault
first_step one.Nil = Ok Nil
first_step (one.Vector items) = Ok (unwrap_or (slice_get items 0) Nil)
first_step _ = Err WrongType

abbrev pub last_step : one.Value-F Value → Result Value OpFault
last_step one.Nil = Ok Nil
last_step (one.Vector items) = Ok (unwrap_or (slice_get items (length items - 1)) Nil)
last_step _ = Err WrongType

abbrev pub rest_step : one.Value-F Value → Result Value OpFault
rest_step one.Nil = Ok (Vector [])
rest_step (one.Vector items) = Ok (Vector (drop 1 items))
rest_step _ = Err WrongType

-- the items from one place up to another, which are both in the vector and in order
abbrev pub between : List Value → ℤ → ℤ → Result Value OpFault
between items (pos i) (pos j) = if nat_le i j && nat_le j (length items) then Ok (Vector (take (j - i) (drop i items))) else Err Index
between items _ _ = Err Index

abbrev pub subvec_step : one.Value-F Value → Value → Result Value OpFault
subvec_step (one.Vector items) start = if is_int start then between items (int_of start) (pos (length items)) else Err WrongType
subvec_step _ start = Err WrongType

abbrev pub subvec_to_step : one.Value-F Value → Value → Value → Result Value OpFault
subvec_to_step (one.Vector items) start end = if is_int start && is_int end then between items (int_of start) (int_of end) else Err WrongType
subvec_to_step _ start end = Err WrongType

abbrev pub append_step : List Value → one.Value-F Value → Result Value OpFault
append_step items (one.Vector more) = Ok (Vector (items ++ more))
append_step items _ = Err WrongType

abbrev pub into_step : one.Value-F Value → one.Value-F Value → Result Value OpFault
into_step (one.Vector items) more = append_step items more
into_step _ more = Err WrongType
