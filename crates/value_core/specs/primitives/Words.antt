-- The words of the primitives, and how many arguments each takes.
use Rattle.std.specs.Prelude.{ℕ, ◌%◌, Bool, true, ◌==◌, ◌&&◌, ◌||◌, nat_le, List, codes}
use Rattle.value_core.specs.declared.op.Op.{Op}
use Rattle.value_core.specs.declared.op.Op.TheVariants as op

abbrev pub op_word : Op → List ℕ
op_word op.Add = codes "+"
op_word op.Multiply = codes "*"
op_word op.Subtract = codes "-"
op_word op.Inc = codes "inc"
op_word op.Dec = codes "dec"
op_word op.Max = codes "max"
op_word op.Min = codes "min"
op_word op.Quot = codes "quot"
op_word op.Rem = codes "rem"
op_word op.Mod = codes "mod"
op_word op.Below = codes "<"
op_word op.AtMost = codes "<="
op_word op.Above = codes ">"
op_word op.AtLeast = codes ">="
op_word op.Same = codes "="
op_word op.NotSame = codes "not="
op_word op.Not = codes "not"
op_word op.IsZero = codes "zero?"
op_word op.IsPositive = codes "pos?"
op_word op.IsNegative = codes "neg?"
op_word op.IsNil = codes "nil?"
op_word op.IsSome = codes "some?"
op_word op.IsInt = codes "int?"
op_word op.IsString = codes "string?"
op_word op.IsKeyword = codes "keyword?"
op_word op.IsBoolean = codes "boolean?"
op_word op.IsVector = codes "vector?"
op_word op.IsMap = codes "map?"
op_word op.Vector = codes "vector"
op_word op.Count = codes "count"
op_word op.Get = codes "get"
op_word op.Nth = codes "nth"
op_word op.Conj = codes "conj"
op_word op.Assoc = codes "assoc"
op_word op.Dissoc = codes "dissoc"
op_word op.Contains = codes "contains?"
op_word op.Keys = codes "keys"
op_word op.Vals = codes "vals"
op_word op.First = codes "first"
op_word op.Last = codes "last"
op_word op.Rest = codes "rest"
op_word op.IsEmpty = codes "empty?"
op_word op.Subvec = codes "subvec"
op_word op.Into = codes "into"
op_word op.Str = codes "str"

abbrev pub any_number : ℕ → Bool
any_number n = true

abbrev pub one : ℕ → Bool
one n = n == 1

abbrev pub two : ℕ → Bool
two n = n == 2

abbrev pub two_or_three : ℕ → Bool
two_or_three n = n == 2 || n == 3

abbrev pub one_or_more : ℕ → Bool
one_or_more n = nat_le 1 n

abbrev pub odd_from_three : ℕ → Bool
odd_from_three n = nat_le 3 n && n % 2 == 1

-- whether the primitive takes this number of arguments
abbrev pub takes_of : Op → ℕ → Bool
takes_of op.Add = any_number
takes_of op.Multiply = any_number
takes_of op.Subtract = one_or_more
takes_of op.Inc = one
takes_of op.Dec = one
takes_of op.Max = one_or_more
takes_of op.Min = one_or_more
takes_of op.Quot = two
takes_of op.Rem = two
takes_of op.Mod = two
takes_of op.Below = one_or_more
takes_of op.AtMost = one_or_more
takes_of op.Above = one_or_more
takes_of op.AtLeast = one_or_more
takes_of op.Same = one_or_more
takes_of op.NotSame = one_or_more
takes_of op.Not = one
takes_of op.IsZero = one
takes_of op.IsPositive = one
takes_of op.IsNegative = one
takes_of op.IsNil = one
takes_of op.IsSome = one
takes_of op.IsInt = one
takes_of op.IsString = one
takes_of op.IsKeyword = one
takes_of op.IsBoolean = one
takes_of op.IsVector = one
takes_of op.IsMap = one
takes_of op.Vector = any_number
takes_of op.Count = one
takes_of op.Get = two_or_three
takes_of op.Nth = two_or_three
takes_of op.Conj = one_or_more
takes_of op.Assoc = odd_from_three
takes_of op.Dissoc = one_or_more
takes_of op.Contains = two
takes_of op.Keys = one
takes_of op.Vals = one
takes_of op.First = one
takes_of op.Last = one
takes_of op.Rest = one
takes_of op.IsEmpty = one
takes_of op.Subvec = two_or_three
takes_of op.Into = two
takes_of op.Str = any_number
