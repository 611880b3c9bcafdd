-- The bytes of a text, which lie in it or are shared.
use Rattle.std.specs.Prelude.{ℕ, List}
use Rattle.value_core.specs.declared.text.Bytes.{Bytes}
use Rattle.value_core.specs.declared.text.Bytes.TheVariants.{Short, Long}

abbrev pub bytes_of : Bytes → List ℕ
bytes_of (Short bytes) = bytes.items
bytes_of (Long bytes) = bytes
