-- Worked rows of a transaction on a ref: what a child sees, and whose writes prevail.
use Rattle.std.proofs.Common.{◌≡◌, ℕ, ℤ, pos, true, false, List, [], ◌∷◌, refl, ap, ◌∙◌, rules}
use Rattle.std.specs.Prelude.{suc, Option, None, Some}
use Rattle.value_core.specs.declared.value.Value as datum
use Rattle.value_core.specs.declared.value.Value.{the_lemmas}
use Rattle.value_core.specs.declared.value.Value.TheVariants as value
use Rattle.value_core.specs.Futures.{holds_future}
use Rattle.value_core.specs.Place.{Spot}
use Rattle.core_syntax.specs.declared.node.Node.{Node}
use Rattle.core_syntax.specs.declared.node.Node.TheVariants as node
use Rattle.core_syntax.specs.declared.node_id.NodeId.{NodeId}
use Rattle.core_syntax.specs.declared.row.Row.{Row}
use Rattle.core_syntax.specs.Table.{Table}
use Rattle.serial_model.specs.declared.answer.Answer.{Answer}
use Rattle.serial_model.specs.declared.answer.Answer.TheVariants as answer
use Rattle.serial_model.specs.declared.halt.Halt.{Halt}
use Rattle.serial_model.specs.declared.halt.Halt.TheVariants as halt
use Rattle.serial_model.specs.declared.request.Request.{Request}
use Rattle.serial_model.specs.declared.request.Request.TheVariants.{Deref, RefSet, Fork, Join}
use Rattle.serial_model.specs.Eval.{next, eval}
use Rattle.serial_model.specs.Log.{Log}
use Rattle.value_core.specs.Named.{Name, named}
use Rattle.serial_model.specs.Task.{Around, Here, Known, Outcome, Result, Call, On, End, Value, Nothing, And, fresh, goes, root_task, task, turns}

abbrev at : Spot
at = record { line = 1; column = 1 }

abbrev row : Node → Row
row node = record { node = node; at = at }

abbrev id : ℕ → NodeId
id index = record { index = index }

-- the ref, the transaction and the first child
abbrev r : Name
r = 0 ∷ 0 ∷ []

abbrev root : Name
root = 0 ∷ 1 ∷ []

abbrev child : Name
child = 0 ∷ 1 ∷ 0 ∷ []

abbrev int : ℕ → datum.Value
int n = value.Int (pos n)

abbrev given : datum.Value → Answer
given v = answer.Value v

abbrev table : List Row → Table
table nodes = record { nodes = nodes; functions = []; written = 0; behaviours = []; main = id 0 }

-- what a body, whose one local is the ref, does next in a transaction
abbrev does : Table → ℕ → List Answer → Halt
does table body answers = next table (id body) (value.Ref r ∷ []) true answers 12

abbrev asks : Request → Halt
asks request = halt.Ask request at

-- what the tasks are run with: a ref of 0
abbrev around : Table → Around
around table = record { program = table; fuel = 12; actor = None; store = λ ref. named ref ((r, int 0) ∷ []); finished = λ future. None }

-- the tasks that are forked where so many levels are left
abbrev calls : Table → ℕ → Call
calls table levels name body values view known = task (around table) levels name body values view known

-- the root task with that body, whose one local is the ref
abbrev run : Table → ℕ → Result
run table body = root_task (around table) root (id body) (value.Ref r ∷ [])

-- where a task goes on, and where it ends
abbrev goes_from : Table → ℕ → Call → ℕ → ℕ → Here → Result
goes_from table levels call body n here = turns (around table) levels call (id body) (value.Ref r ∷ []) [] n here

begins : (table : Table) (body : ℕ) → run table body ≡ goes_from table 16 (calls table 15) body 13 (fresh root Nothing)
unfolding task
begins table body = refl

-- one step of a task that goes on, and the last one
on : (table : Table) (levels : ℕ) (call : Call) (body n : ℕ) (here : Here) {halt : Halt} (after : Here)
    → does table body here.answers ≡ halt → goes (around table) levels call [] here halt ≡ On after
    → goes_from table levels call body (suc n) here ≡ goes_from table levels call body n after
unfolding turns
on table levels call body n here after asked moved = rw (asked, moved) refl

ends : (table : Table) (levels : ℕ) (call : Call) (body n : ℕ) (here : Here) {halt : Halt} (after : Here) (outcome : Outcome)
    → does table body here.answers ≡ halt → goes (around table) levels call [] here halt ≡ End outcome after
    → goes_from table levels call body (suc n) here ≡ record { outcome = outcome; log = after.log; known = after.known }
unfolding turns
ends table levels call body n here after outcome asked moved = rw (asked, moved) refl

-- a log without effects
abbrev log : Name → List (Name × datum.Value) → List Name → ℕ → Log
log name writes joined made = record { name = name; writes = writes; joined = joined; made = made; own = 0; effects = [] }

abbrev at_answers : List Answer → Log → Known → Here
at_answers answers log known = record { answers = answers; log = log; known = known }

-- an integer holds no future
int_is_sealed : (n : ℤ) → holds_future (value.Int n) ≡ false
int_is_sealed n = search (rules, the_lemmas)

-- `(do (fork (ref-set r 3)) nil)`: the write of a child that nobody joined is kept
abbrev kept : Table
kept = table (
    row (node.Local 0) ∷ row (node.Int (pos 3)) ∷ row (node.RefSet (id 0) (id 1)) ∷ row (node.Fork (id 2))
    ∷ row node.Nil ∷ row (node.Do (id 3 ∷ id 4 ∷ [])) ∷ [])

kept_child_0 : does kept 2 [] ≡ asks (RefSet r (int 3))
unfolding next eval datum.out-Value denote.Hole.Carrier.out
kept_child_0 = rw int_is_sealed refl

kept_child_1 : does kept 2 (given (int 3) ∷ []) ≡ halt.Value (int 3)
unfolding next eval datum.out-Value denote.Hole.Carrier.out
kept_child_1 = rw int_is_sealed refl

abbrev kept_child_log : Log
kept_child_log = log child ((r, int 3) ∷ []) [] 0

kept_child : task (around kept) 15 child (id 2) (value.Ref r ∷ []) [] Nothing ≡ record { outcome = Value (int 3); log = kept_child_log; known = Nothing }
unfolding task
kept_child = on _ _ _ _ _ _ (at_answers (given (int 3) ∷ []) kept_child_log Nothing) kept_child_0 refl
    ∙ ends _ _ _ _ _ _ (at_answers (given (int 3) ∷ []) kept_child_log Nothing) (Value (int 3)) kept_child_1 refl

abbrev kept_known : Known
kept_known = And child (Value (int 3)) kept_child_log Nothing Nothing

kept_root_0 : does kept 5 [] ≡ asks (Fork (id 2) (value.Ref r ∷ []))
unfolding next eval datum.out-Value denote.Hole.Carrier.out
kept_root_0 = refl

kept_root_1 : does kept 5 (given (value.Future child) ∷ []) ≡ halt.Value value.Nil
unfolding next eval datum.out-Value denote.Hole.Carrier.out
kept_root_1 = refl

kept_ends : run kept 5 ≡ record { outcome = Value value.Nil; log = log root ((r, int 3) ∷ []) (child ∷ []) 1; known = kept_known }
kept_ends = begins _ _
    ∙ on _ _ _ _ _ _ (at_answers (given (value.Future child) ∷ []) (log root [] [] 1) kept_known) kept_root_0 (rw kept_child refl)
    ∙ ends _ _ _ _ _ _ (at_answers (given (value.Future child) ∷ []) (log root ((r, int 3) ∷ []) (child ∷ []) 1) kept_known) (Value value.Nil) kept_root_1 refl

child_write_is_kept : (run kept 5).log.writes ≡ (r, int 3) ∷ []
child_write_is_kept = ap (λ result. result.log.writes) kept_ends

-- `(let [f (fork @r)] (ref-set r 2) (join f))`: a child doesn't see what is written after its fork
abbrev earlier : Table
earlier = table (
    row (node.Local 0) ∷ row (node.Deref (id 0)) ∷ row (node.Fork (id 1)) ∷ row (node.Int (pos 2))
    ∷ row (node.RefSet (id 0) (id 3)) ∷ row (node.Local 1) ∷ row (node.Join (id 5)) ∷ row (node.Do (id 4 ∷ id 6 ∷ [])) ∷ row (node.Let (id 2 ∷ []) (id 7)) ∷ [])

earlier_child_0 : does earlier 1 [] ≡ asks (Deref r)
unfolding next eval datum.out-Value denote.Hole.Carrier.out
earlier_child_0 = refl

earlier_child_1 : does earlier 1 (given (int 0) ∷ []) ≡ halt.Value (int 0)
unfolding next eval datum.out-Value denote.Hole.Carrier.out
earlier_child_1 = refl

abbrev earlier_child_log : Log
earlier_child_log = log child [] [] 0

earlier_child : task (around earlier) 15 child (id 1) (value.Ref r ∷ []) [] Nothing
    ≡ record { outcome = Value (int 0); log = earlier_child_log; known = Nothing }
unfolding task
earlier_child = on _ _ _ _ _ _ (at_answers (given (int 0) ∷ []) earlier_child_log Nothing) earlier_child_0 refl
    ∙ ends _ _ _ _ _ _ (at_answers (given (int 0) ∷ []) earlier_child_log Nothing) (Value (int 0)) earlier_child_1 refl

abbrev earlier_known : Known
earlier_known = And child (Value (int 0)) earlier_child_log Nothing Nothing

earlier_root_0 : does earlier 8 [] ≡ asks (Fork (id 1) (value.Ref r ∷ []))
unfolding next eval datum.out-Value denote.Hole.Carrier.out
earlier_root_0 = refl

earlier_root_1 : does earlier 8 (given (value.Future child) ∷ []) ≡ asks (RefSet r (int 2))
unfolding next eval datum.out-Value denote.Hole.Carrier.out
earlier_root_1 = rw int_is_sealed refl

earlier_root_2 : does earlier 8 (given (value.Future child) ∷ given (int 2) ∷ []) ≡ asks (Join child)
unfolding next eval datum.out-Value denote.Hole.Carrier.out
earlier_root_2 = rw int_is_sealed refl

earlier_root_3 : does earlier 8 (given (value.Future child) ∷ given (int 2) ∷ given (int 0) ∷ []) ≡ halt.Value (int 0)
unfolding next eval datum.out-Value denote.Hole.Carrier.out
earlier_root_3 = rw int_is_sealed refl

earlier_ends : run earlier 8 ≡ record { outcome = Value (int 0); log = log root ((r, int 2) ∷ []) (child ∷ []) 1; known = earlier_known }
earlier_ends = begins _ _
    ∙ on _ _ _ _ _ _ (at_answers (given (value.Future child) ∷ []) (log root [] [] 1) earlier_known) earlier_root_0 (rw earlier_child refl)
    ∙ on _ _ _ _ _ _ (at_answers (given (value.Future child) ∷ given (int 2) ∷ []) (log root ((r, int 2) ∷ []) [] 1) earlier_known) earlier_root_1 refl
    ∙ on _ _ _ _ _ _ (at_answers (given (value.Future child) ∷ given (int 2) ∷ given (int 0) ∷ []) (log root ((r, int 2) ∷ []) (child ∷ []) 1) earlier_known)
    earlier_root_2 refl
    ∙ ends _ _ _ _ _ _ (at_answers (given (value.Future child) ∷ given (int 2) ∷ given (int 0) ∷ []) (log root ((r, int 2) ∷ []) (child ∷ []) 1) earlier_known)
    (Value (int 0)) earlier_root_3 refl

child_reads_its_view : (run earlier 8).outcome ≡ Value (int 0)
child_reads_its_view = ap (λ result. result.outcome) earlier_ends

-- `(let [f (fork (ref-set r 1))] (ref-set r 2) (join f) @r)`: the child's write prevails
abbrev over_parent : Table
over_parent = table (
    row (node.Local 0) ∷ row (node.Int (pos 1)) ∷ row (node.RefSet (id 0) (id 1)) ∷ row (node.Fork (id 2))
    ∷ row (node.Int (pos 2)) ∷ row (node.RefSet (id 0) (id 4)) ∷ row (node.Local 1) ∷ row (node.Join (id 6)) ∷ row (node.Deref (id 0))
    ∷ row (node.Do (id 5 ∷ id 7 ∷ id 8 ∷ [])) ∷ row (node.Let (id 3 ∷ []) (id 9)) ∷ [])

over_parent_child_0 : does over_parent 2 [] ≡ asks (RefSet r (int 1))
unfolding next eval datum.out-Value denote.Hole.Carrier.out
over_parent_child_0 = rw int_is_sealed refl

over_parent_child_1 : does over_parent 2 (given (int 1) ∷ []) ≡ halt.Value (int 1)
unfolding next eval datum.out-Value denote.Hole.Carrier.out
over_parent_child_1 = rw int_is_sealed refl

abbrev over_parent_child_log : Log
over_parent_child_log = log child ((r, int 1) ∷ []) [] 0

over_parent_child : task (around over_parent) 15 child (id 2) (value.Ref r ∷ []) [] Nothing
    ≡ record { outcome = Value (int 1); log = over_parent_child_log; known = Nothing }
unfolding task
over_parent_child = on _ _ _ _ _ _ (at_answers (given (int 1) ∷ []) over_parent_child_log Nothing) over_parent_child_0 refl
    ∙ ends _ _ _ _ _ _ (at_answers (given (int 1) ∷ []) over_parent_child_log Nothing) (Value (int 1)) over_parent_child_1 refl

abbrev over_parent_known : Known
over_parent_known = And child (Value (int 1)) over_parent_child_log Nothing Nothing

over_parent_root_0 : does over_parent 10 [] ≡ asks (Fork (id 2) (value.Ref r ∷ []))
unfolding next eval datum.out-Value denote.Hole.Carrier.out
over_parent_root_0 = refl

over_parent_root_1 : does over_parent 10 (given (value.Future child) ∷ []) ≡ asks (RefSet r (int 2))
unfolding next eval datum.out-Value denote.Hole.Carrier.out
over_parent_root_1 = rw int_is_sealed refl

over_parent_root_2 : does over_parent 10 (given (value.Future child) ∷ given (int 2) ∷ []) ≡ asks (Join child)
unfolding next eval datum.out-Value denote.Hole.Carrier.out
over_parent_root_2 = rw int_is_sealed refl

over_parent_root_3 : does over_parent 10 (given (value.Future child) ∷ given (int 2) ∷ given (int 1) ∷ []) ≡ asks (Deref r)
unfolding next eval datum.out-Value denote.Hole.Carrier.out
over_parent_root_3 = rw int_is_sealed refl

over_parent_root_4 : does over_parent 10 (given (value.Future child) ∷ given (int 2) ∷ given (int 1) ∷ given (int 1) ∷ []) ≡ halt.Value (int 1)
unfolding next eval datum.out-Value denote.Hole.Carrier.out
over_parent_root_4 = rw int_is_sealed refl

over_parent_ends : run over_parent 10 ≡ record { outcome = Value (int 1); log = log root ((r, int 1) ∷ []) (child ∷ []) 1; known = over_parent_known }
over_parent_ends = begins _ _
    ∙ on _ _ _ _ _ _ (at_answers (given (value.Future child) ∷ []) (log root [] [] 1) over_parent_known) over_parent_root_0 (rw over_parent_child refl)
    ∙ on _ _ _ _ _ _ (at_answers (given (value.Future child) ∷ given (int 2) ∷ []) (log root ((r, int 2) ∷ []) [] 1) over_parent_known) over_parent_root_1 refl
    ∙ on _ _ _ _ _ _ (at_answers (given (value.Future child) ∷ given (int 2) ∷ given (int 1) ∷ []) (log root ((r, int 1) ∷ []) (child ∷ []) 1) over_parent_known)
    over_parent_root_2 refl
    ∙ on _ _ _ _ _ _ (at_answers (given (value.Future child) ∷ given (int 2) ∷ given (int 1) ∷ given (int 1) ∷ []) (log root ((r, int 1) ∷ []) (child ∷ []) 1) over_parent_known)
    over_parent_root_3 refl
    ∙ ends _ _ _ _ _ _ (at_answers (given (value.Future child) ∷ given (int 2) ∷ given (int 1) ∷ given (int 1) ∷ []) (log root ((r, int 1) ∷ []) (child ∷ []) 1) over_parent_known)
    (Value (int 1)) over_parent_root_4 refl

child_prevails : (run over_parent 10).outcome ≡ Value (int 1)
child_prevails = ap (λ result. result.outcome) over_parent_ends

-- `(let [f (fork (ref-set r 1))] (join f) (ref-set r 5) (join f) @r)`: a further join merges nothing
abbrev joined_twice : Table
joined_twice = table (
    row (node.Local 0) ∷ row (node.Int (pos 1)) ∷ row (node.RefSet (id 0) (id 1)) ∷ row (node.Fork (id 2))
    ∷ row (node.Int (pos 5)) ∷ row (node.RefSet (id 0) (id 4)) ∷ row (node.Local 1) ∷ row (node.Join (id 6)) ∷ row (node.Deref (id 0))
    ∷ row (node.Do (id 7 ∷ id 5 ∷ id 7 ∷ id 8 ∷ [])) ∷ row (node.Let (id 3 ∷ []) (id 9)) ∷ [])

joined_twice_child_0 : does joined_twice 2 [] ≡ asks (RefSet r (int 1))
unfolding next eval datum.out-Value denote.Hole.Carrier.out
joined_twice_child_0 = rw int_is_sealed refl

joined_twice_child_1 : does joined_twice 2 (given (int 1) ∷ []) ≡ halt.Value (int 1)
unfolding next eval datum.out-Value denote.Hole.Carrier.out
joined_twice_child_1 = rw int_is_sealed refl

abbrev joined_twice_child_log : Log
joined_twice_child_log = log child ((r, int 1) ∷ []) [] 0

joined_twice_child : task (around joined_twice) 15 child (id 2) (value.Ref r ∷ []) [] Nothing
    ≡ record { outcome = Value (int 1); log = joined_twice_child_log; known = Nothing }
unfolding task
joined_twice_child = on _ _ _ _ _ _ (at_answers (given (int 1) ∷ []) joined_twice_child_log Nothing) joined_twice_child_0 refl
    ∙ ends _ _ _ _ _ _ (at_answers (given (int 1) ∷ []) joined_twice_child_log Nothing) (Value (int 1)) joined_twice_child_1 refl

abbrev joined_twice_known : Known
joined_twice_known = And child (Value (int 1)) joined_twice_child_log Nothing Nothing

joined_twice_root_0 : does joined_twice 10 [] ≡ asks (Fork (id 2) (value.Ref r ∷ []))
unfolding next eval datum.out-Value denote.Hole.Carrier.out
joined_twice_root_0 = refl

joined_twice_root_1 : does joined_twice 10 (given (value.Future child) ∷ []) ≡ asks (Join child)
unfolding next eval datum.out-Value denote.Hole.Carrier.out
joined_twice_root_1 = refl

joined_twice_root_2 : does joined_twice 10 (given (value.Future child) ∷ given (int 1) ∷ []) ≡ asks (RefSet r (int 5))
unfolding next eval datum.out-Value denote.Hole.Carrier.out
joined_twice_root_2 = rw int_is_sealed refl

joined_twice_root_3 : does joined_twice 10 (given (value.Future child) ∷ given (int 1) ∷ given (int 5) ∷ []) ≡ asks (Join child)
unfolding next eval datum.out-Value denote.Hole.Carrier.out
joined_twice_root_3 = rw int_is_sealed refl

joined_twice_root_4 : does joined_twice 10 (given (value.Future child) ∷ given (int 1) ∷ given (int 5) ∷ given (int 1) ∷ []) ≡ asks (Deref r)
unfolding next eval datum.out-Value denote.Hole.Carrier.out
joined_twice_root_4 = rw int_is_sealed refl

joined_twice_root_5 : does joined_twice 10 (given (value.Future child) ∷ given (int 1) ∷ given (int 5) ∷ given (int 1) ∷ given (int 5) ∷ [])
    ≡ halt.Value (int 5)
unfolding next eval datum.out-Value denote.Hole.Carrier.out
joined_twice_root_5 = rw int_is_sealed refl

joined_twice_ends : run joined_twice 10 ≡ record { outcome = Value (int 5); log = log root ((r, int 5) ∷ []) (child ∷ []) 1; known = joined_twice_known }
joined_twice_ends = begins _ _
    ∙ on _ _ _ _ _ _ (at_answers (given (value.Future child) ∷ []) (log root [] [] 1) joined_twice_known) joined_twice_root_0 (rw joined_twice_child refl)
    ∙ on _ _ _ _ _ _ (at_answers (given (value.Future child) ∷ given (int 1) ∷ []) (log root ((r, int 1) ∷ []) (child ∷ []) 1) joined_twice_known)
    joined_twice_root_1 refl
    ∙ on _ _ _ _ _ _ (at_answers (given (value.Future child) ∷ given (int 1) ∷ given (int 5) ∷ []) (log root ((r, int 5) ∷ []) (child ∷ []) 1) joined_twice_known)
    joined_twice_root_2 refl
    ∙ on _ _ _ _ _ _ (at_answers (given (value.Future child) ∷ given (int 1) ∷ given (int 5) ∷ given (int 1) ∷ []) (log root ((r, int 5) ∷ []) (child ∷ []) 1) joined_twice_known)
    joined_twice_root_3 refl
    ∙ on _ _ _ _ _ _ (at_answers (given (value.Future child) ∷ given (int 1) ∷ given (int 5) ∷ given (int 1) ∷ given (int 5) ∷ []) (log root ((r, int 5) ∷ []) (child ∷ []) 1) joined_twice_known)
    joined_twice_root_4 refl
    ∙ ends _ _ _ _ _ _ (at_answers (given (value.Future child) ∷ given (int 1) ∷ given (int 5) ∷ given (int 1) ∷ given (int 5) ∷ []) (log root ((r, int 5) ∷ []) (child ∷ []) 1) joined_twice_known)
    (Value (int 5)) joined_twice_root_5 refl

further_join_merges_nothing : (run joined_twice 10).outcome ≡ Value (int 5)
further_join_merges_nothing = ap (λ result. result.outcome) joined_twice_ends
