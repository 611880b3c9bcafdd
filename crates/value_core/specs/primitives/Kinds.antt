-- The kinds of values, and what is read of a value of one kind.
use Rattle.std.specs.Prelude.{ℤ, pos, Bool, true, false, not}
use Rattle.value_core.specs.declared.value.Value.{Value}
use Rattle.value_core.specs.declared.value.Value.TheOpen as one
use Rattle.value_core.specs.declared.value.Value.TheViews.{out-Value}

abbrev pub is_nil_step : {A : Type 0} → one.Value-F A → Bool
is_nil_step one.Nil = true
is_nil_step _ = false

abbrev pub is_bool_step : {A : Type 0} → one.Value-F A → Bool
is_bool_step (one.Bool b) = true
is_bool_step _ = false

abbrev pub is_int_step : {A : Type 0} → one.Value-F A → Bool
is_int_step (one.Int n) = true
is_int_step _ = false

abbrev pub is_string_step : {A : Type 0} → one.Value-F A → Bool
is_string_step (one.Str s) = true
is_string_step _ = false

abbrev pub is_keyword_step : {A : Type 0} → one.Value-F A → Bool
is_keyword_step (one.Kw s) = true
is_keyword_step _ = false

abbrev pub is_vector_step : {A : Type 0} → one.Value-F A → Bool
is_vector_step (one.Vector items) = true
is_vector_step _ = false

abbrev pub is_map_step : {A : Type 0} → one.Value-F A → Bool
is_map_step (one.Map pairs) = true
is_map_step _ = false

-- only nil and false count as false
abbrev pub is_false_step : {A : Type 0} → one.Value-F A → Bool
is_false_step one.Nil = true
is_false_step (one.Bool b) = not b
is_false_step _ = false

-- an integer's number, and 0 for the other kinds
abbrev pub int_step : {A : Type 0} → one.Value-F A → ℤ
int_step (one.Int n) = n
int_step _ = pos 0

abbrev pub is_nil : Value → Bool
is_nil v = is_nil_step (out-Value v)

abbrev pub is_bool : Value → Bool
is_bool v = is_bool_step (out-Value v)

abbrev pub is_int : Value → Bool
is_int v = is_int_step (out-Value v)

abbrev pub is_string : Value → Bool
is_string v = is_string_step (out-Value v)

abbrev pub is_keyword : Value → Bool
is_keyword v = is_keyword_step (out-Value v)

abbrev pub is_vector : Value → Bool
is_vector v = is_vector_step (out-Value v)

abbrev pub is_map : Value → Bool
is_map v = is_map_step (out-Value v)

abbrev pub is_false : Value → Bool
is_false v = is_false_step (out-Value v)

abbrev pub int_of : Value → ℤ
int_of v = int_step (out-Value v)
