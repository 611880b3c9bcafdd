-- The kinds that the code asks for.
use Rattle.std.specs.Prelude.{Bool, not}
use Rattle.value_core.specs.declared.value.Value.{Value}
use Rattle.value_core.specs.primitives.Kinds.{is_nil, is_bool, is_int, is_string, is_keyword, is_vector, is_map, is_false}
use Rattle.value_ops.specs.declared.kinds.Kind.{Kind}
use Rattle.value_ops.specs.declared.kinds.Kind.TheVariants.{False, Nil, Some, Int, String, Keyword, Boolean, Vector, Map}

abbrev pub has_kind : Kind → Value → Bool
has_kind False v = is_false v
has_kind Nil v = is_nil v
has_kind Some v = not (is_nil v)
has_kind Int v = is_int v
has_kind String v = is_string v
has_kind Keyword v = is_keyword v
has_kind Boolean v = is_bool v
has_kind Vector v = is_vector v
has_kind Map v = is_map v
