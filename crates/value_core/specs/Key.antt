-- Keys and their order.
use Rattle.std.specs.Prelude.{ℕ, ℤ, pos, Bool, false, List, []}
use Rattle.std.specs.declared.cmp.Ordering.{Ordering}
use Rattle.std.specs.Ordering.{nat_cmp, int_cmp, bool_cmp, on, then_cmp}
use Rattle.std.specs.Cmp.Lexicographic.{slice_cmp}
use Rattle.value_core.specs.declared.key.Key as the
use Rattle.value_core.specs.declared.key.Key.TheVariants.{Bool as bool_key, Int as int_key, Kw as keyword_key, Str as string_key}

-- where the kind of a key stands among the kinds: booleans, integers, keywords, strings
abbrev pub kind_of : the.Key → ℕ
kind_of (bool_key b) = 0
kind_of (int_key n) = 1
kind_of (keyword_key s) = 2
kind_of (string_key s) = 3

-- a boolean's value, and false for the other kinds
abbrev pub bool_of : the.Key → Bool
bool_of (bool_key b) = b
bool_of (int_key n) = false
bool_of (keyword_key s) = false
bool_of (string_key s) = false

-- an integer's value, and 0 for the other kinds
abbrev pub int_of : the.Key → ℤ
int_of (bool_key b) = pos 0
int_of (int_key n) = n
int_of (keyword_key s) = pos 0
int_of (string_key s) = pos 0

-- the bytes of a keyword or a string, and none for the other kinds
abbrev pub bytes_of : the.Key → List ℕ
bytes_of (bool_key b) = []
bytes_of (int_key n) = []
bytes_of (keyword_key s) = s
bytes_of (string_key s) = s

-- kind by kind, and inside a kind false first, by value, by bytes
unfoldable pub key_cmp : the.Key → the.Key → Ordering
key_cmp = then_cmp (on kind_of nat_cmp) (then_cmp (on bool_of bool_cmp) (then_cmp (on int_of int_cmp) (on bytes_of (slice_cmp nat_cmp))))
