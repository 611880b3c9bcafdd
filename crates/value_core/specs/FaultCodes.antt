-- The number and the name of a fault code.
use Rattle.std.specs.Prelude.{ℕ, List, codes}
use Rattle.value_core.specs.declared.code.Code.{Code}
use Rattle.value_core.specs.declared.code.Code.TheVariants as code

-- a fault code by its position
abbrev pub code_number : Code → ℕ
code_number code.WrongType = 1
code_number code.DivideByZero = 2
code_number code.Overflow = 3
code_number code.Index = 4
code_number code.NoTransaction = 5
code_number code.NoTurn = 6
code_number code.FutureEscapes = 7
code_number code.ForkTooDeep = 8
code_number code.TooDeep = 9
code_number code.MessageArity = 10

abbrev pub code_name : Code → List ℕ
code_name code.WrongType = codes "WrongType"
code_name code.DivideByZero = codes "DivideByZero"
code_name code.Overflow = codes "Overflow"
code_name code.Index = codes "Index"
code_name code.NoTransaction = codes "NoTransaction"
code_name code.NoTurn = codes "NoTurn"
code_name code.FutureEscapes = codes "FutureEscapes"
code_name code.ForkTooDeep = codes "ForkTooDeep"
code_name code.TooDeep = codes "TooDeep"
code_name code.MessageArity = codes "MessageArity"
