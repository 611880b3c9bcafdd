-- The values that are keys.
use Rattle.std.specs.Prelude.{Option, Some, None}
use Rattle.value_core.specs.declared.key.Key.{Key}
use Rattle.value_core.specs.declared.key.Key.TheVariants.{Bool as bool_key, Int as int_key, Kw as keyword_key, Str as string_key}
use Rattle.value_core.specs.declared.value.Value.{Value}
use Rattle.value_core.specs.declared.value.Value.TheOpen as one
use Rattle.value_core.specs.declared.value.Value.TheViews.{out-Value}

-- the key that one level of a value is, if it is of a kind of keys
abbrev pub key_step : {A : Type 0} → one.Value-F A → Option Key
key_step one.Nil = None
key_step (one.Bool b) = Some (bool_key b)
key_step (one.Int n) = Some (int_key n)
key_step (one.Str s) = Some (string_key s)
key_step (one.Kw s) = Some (keyword_key s)
key_step (one.Vector parts) = None
key_step (one.Map parts) = None
key_step (one.Ref n) = None
key_step (one.Actor n) = None
key_step (one.Future n) = None

-- the key that a value is, if it is one
abbrev pub key_of : Value → Option Key
key_of v = key_step (out-Value v)
