-- Worked rows, computed from the definitions.
use Rattle.std.proofs.Common.{◌≡◌, ℕ, pos, true, false, List, [], ◌∷◌, refl, ap, rules}
use Rattle.std.specs.Prelude.{codes}
use Rattle.std.specs.Fmt.{digits}
use Rattle.value_core.specs.declared.code.Code.TheVariants as code
use Rattle.value_core.specs.declared.op.Op.TheVariants as op
use Rattle.value_core.specs.declared.value.Value.{the_lemmas}
use Rattle.value_core.specs.declared.value.Value.TheVariants as value
use Rattle.value_core.specs.primitives.Kinds.{is_false}
use Rattle.value_core.specs.Texts.{line_of}
use Rattle.core_syntax.specs.declared.node.Node.{Node}
use Rattle.core_syntax.specs.declared.node.Node.TheVariants as node
use Rattle.core_syntax.specs.declared.row.Row.{Row}
use Rattle.core_syntax.specs.Table.{Table}
use Rattle.serial_model.specs.declared.answer.Answer.TheVariants as answer
use Rattle.serial_model.specs.declared.halt.Halt.TheVariants as halt
use Rattle.serial_model.specs.declared.request.Request.TheVariants as request
use Rattle.serial_model.specs.Eval.{come, end_of, eval, next, unguarded}
use Rattle.serial_model.specs.Operation.{Gives, applied}

-- a node at line 1 and that column
abbrev row : ℕ → Node → Row
row column node = record { node = node; at = record { line = 1; column = column } }

-- a table of these nodes, with no function
abbrev table : List Row → Table
table nodes = record { nodes = nodes; functions = []; written = 0; behaviours = []; main = record { index = 0 } }

-- `(+ 1 2)` takes three units of fuel
abbrev sum : Table
sum = table (row 4 (node.Int (pos 1)) ∷ row 6 (node.Int (pos 2)) ∷ row 1 (node.Op op.Add (record { index = 0 } ∷ record { index = 1 } ∷ [])) ∷ [])

one_and_two : applied op.Add (value.Int (pos 1) ∷ value.Int (pos 2) ∷ []) ≡ Gives (value.Int (pos 3))
one_and_two = search (rules, the_lemmas)

sum_is_three : next sum (record { index = 2 }) [] false [] 3 ≡ halt.Value (value.Int (pos 3))
unfolding next eval
sum_is_three = rw one_and_two refl

sum_is_spent : next sum (record { index = 2 }) [] false [] 2 ≡ halt.Spent
unfolding next eval
sum_is_spent = refl

-- fuel that is left over costs nothing
sum_at_a_million : next sum (record { index = 2 }) [] false [] 1000000 ≡ halt.Value (value.Int (pos 3))
unfolding next eval
sum_at_a_million = ap (λ outcome. end_of (come sum (eval unguarded sum false 999999) (record { line = 1; column = 1 }) outcome 999997 [])) one_and_two

-- `(if true 1 2)` enters the branch that is taken alone
abbrev choice : Table
choice = table (row 5 (node.Bool true) ∷ row 10 (node.Int (pos 1)) ∷ row 12 (node.Int (pos 2))
    ∷ row 1 (node.If (record { index = 0 }) (record { index = 1 }) (record { index = 2 })) ∷ [])

true_is_true : is_false (value.Bool true) ≡ false
true_is_true = search (rules, the_lemmas)

first_branch : next choice (record { index = 3 }) [] false [] 3 ≡ halt.Value (value.Int (pos 1))
unfolding next eval
first_branch = rw true_is_true refl

-- `(f 5)` with `(defn f [x] x)`
abbrev called : Table
called = record {
  nodes = row 13 (node.Local 0) ∷ row 19 (node.Int (pos 5)) ∷ row 16 (node.Call 0 [] (record { index = 1 } ∷ [])) ∷ [];
  functions = record { at = record { line = 1; column = 1 }; takes = 1; body = record { index = 0 } } ∷ [];
  written = 1;
  behaviours = [];
  main = record { index = 2 };
}

call_gives_five : next called (record { index = 2 }) [] false [] 3 ≡ halt.Value (value.Int (pos 5))
unfolding next eval
call_gives_five = refl

-- `(println 5)` asks, and is nil after its answer
abbrev printed : Table
printed = table (row 10 (node.Int (pos 5)) ∷ row 1 (node.Println (record { index = 0 } ∷ [])) ∷ [])

pub line_of_five : line_of (value.Int (pos 5) ∷ []) ≡ codes "5\n"
unfolding digits
line_of_five = search (rules, the_lemmas)

print_asks : next printed (record { index = 1 }) [] false [] 2 ≡ halt.Ask (request.Print (codes "5\n")) (record { line = 1; column = 1 })
unfolding next eval digits
print_asks = rw line_of_five refl

print_is_nil : next printed (record { index = 1 }) [] false (answer.Value value.Nil ∷ []) 2 ≡ halt.Value value.Nil
unfolding next eval digits
print_is_nil = refl

-- `(self)` in main is answered with a fault, at its own place
abbrev self_in_main : Table
self_in_main = table (row 7 node.SelfActor ∷ [])

self_fails : next self_in_main (record { index = 0 }) [] false (answer.Fault code.NoTurn ∷ []) 1 ≡ halt.Fault code.NoTurn (record { line = 1; column = 7 })
unfolding next eval
self_fails = refl

-- a turn with no value for its message fails at its own place
abbrev deaf : Table
deaf = table (row 22 (node.Local 0) ∷ row 8 (node.Turn 1 (record { index = 0 })) ∷ [])

message_too_short : next deaf (record { index = 1 }) [] false [] 9 ≡ halt.Fault code.MessageArity (record { line = 1; column = 8 })
unfolding next eval
message_too_short = refl
