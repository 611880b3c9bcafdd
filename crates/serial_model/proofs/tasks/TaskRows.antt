-- Worked rows of transactions with tasks, computed from the definitions.
use Rattle.std.proofs.Common.{◌≡◌, ℕ, true, false, pos, List, [], ◌∷◌, refl, rules}
use Rattle.std.specs.Prelude.{None, Some, codes, map}
use Rattle.std.specs.Option.{option_map}
use Rattle.value_core.specs.declared.code.Code.TheVariants as code
use Rattle.value_core.specs.declared.value.Value as datum
use Rattle.value_core.specs.declared.value.Value.{the_lemmas}
use Rattle.value_core.specs.declared.value.Value.TheVariants as value
use Rattle.value_core.specs.Futures.{holds_future}
use Rattle.value_core.specs.Texts.{line_of}
use Rattle.core_syntax.specs.declared.node.Node.{Node}
use Rattle.core_syntax.specs.declared.node.Node.TheVariants as node
use Rattle.core_syntax.specs.declared.node_id.NodeId.{NodeId}
use Rattle.core_syntax.specs.declared.row.Row.{Row}
use Rattle.core_syntax.specs.Table.{Table, finished}
use Rattle.serial_model.specs.declared.effect.What.{What}
use Rattle.serial_model.specs.declared.effect.What.TheVariants.{Bytes}
use Rattle.serial_model.specs.declared.entry.Entry.TheVariants.{Run}
use Rattle.serial_model.specs.Eval.{next, eval}
use Rattle.value_core.specs.Named.{Name}
use Rattle.serial_model.specs.Replay.{replay, replay_from}
use Rattle.serial_model.specs.State.{main_name}
use Rattle.serial_model.specs.Step.{step}
use Rattle.serial_model.specs.Task.{Result, Value, Fault, root_task, task, transaction, turns}

-- a node at line 1 and that column
abbrev row : ℕ → Node → Row
row column node = record { node = node; at = record { line = 1; column = column } }

abbrev id : ℕ → NodeId
id index = record { index = index }

abbrev table : List Row → Table
table nodes = record { nodes = nodes; functions = []; written = 0; behaviours = []; main = id 0 }

abbrev name : Name
name = 0 ∷ 0 ∷ []

-- the root task with that body, as the first thing that main makes
abbrev run : List Row → ℕ → Result
run nodes body = root_task (record { program = table nodes; fuel = 20; actor = None; store = λ ref. None; finished = λ future. None }) name (id body) []

abbrev line : List ℕ → What
line text = Bytes (line_of (value.Str text ∷ []))

abbrev done : Result → List What
done result = map (λ effect. effect.what) result.log.effects

-- `(let [f (fork (println "c"))] (println "a") (join f) (println "b") nil)`: what a child printed stands where it is joined
abbrev in_between : Result
in_between = run (
    row 1 (node.Str (codes "c")) ∷ row 1 (node.Println (id 0 ∷ [])) ∷ row 1 (node.Fork (id 1))
    ∷ row 1 (node.Str (codes "a")) ∷ row 1 (node.Println (id 3 ∷ []))
    ∷ row 1 (node.Local 0) ∷ row 1 (node.Join (id 5))
    ∷ row 1 (node.Str (codes "b")) ∷ row 1 (node.Println (id 7 ∷ []))
    ∷ row 1 node.Nil ∷ row 1 (node.Do (id 4 ∷ id 6 ∷ id 8 ∷ id 9 ∷ [])) ∷ row 1 (node.Let (id 2 ∷ []) (id 10)) ∷ []) 11

in_between_is_nil : in_between.outcome ≡ Value value.Nil
unfolding next eval task turns datum.out-Value denote.Hole.Carrier.out
in_between_is_nil = refl

prints_a_c_b : done in_between ≡ line (codes "a") ∷ line (codes "c") ∷ line (codes "b") ∷ []
unfolding next eval task turns datum.out-Value denote.Hole.Carrier.out
prints_a_c_b = refl

-- `(let [f (fork (println "f")) g (fork (join f))] (join f) (join g) nil)`: an effect that comes by two joins is kept once
abbrev twice : Result
twice = run (
    row 1 (node.Str (codes "f")) ∷ row 1 (node.Println (id 0 ∷ [])) ∷ row 1 (node.Fork (id 1))
    ∷ row 1 (node.Local 0) ∷ row 1 (node.Join (id 3)) ∷ row 1 (node.Fork (id 4))
    ∷ row 1 (node.Local 1) ∷ row 1 (node.Join (id 6))
    ∷ row 1 node.Nil ∷ row 1 (node.Do (id 4 ∷ id 7 ∷ id 8 ∷ [])) ∷ row 1 (node.Let (id 2 ∷ id 5 ∷ []) (id 9)) ∷ []) 10

prints_f_once : done twice ≡ line (codes "f") ∷ []
unfolding next eval task turns datum.out-Value denote.Hole.Carrier.out
prints_f_once = refl

-- `(do (fork (println "f")) nil)`: a child that nobody joined is joined at the end
abbrev unjoined : Result
unjoined = run (
    row 1 (node.Str (codes "f")) ∷ row 1 (node.Println (id 0 ∷ [])) ∷ row 1 (node.Fork (id 1))
    ∷ row 1 node.Nil ∷ row 1 (node.Do (id 2 ∷ id 3 ∷ [])) ∷ []) 4

joins_at_the_end : done unjoined ≡ line (codes "f") ∷ []
unfolding next eval task turns datum.out-Value denote.Hole.Carrier.out
joins_at_the_end = refl

-- `(do (fork (self)) nil)`: the child's fault is that of the task that joins it, with the child's place
abbrev failing : Result
failing = run (row 15 node.SelfActor ∷ row 9 (node.Fork (id 0)) ∷ row 22 node.Nil ∷ row 1 (node.Do (id 1 ∷ id 2 ∷ [])) ∷ []) 3

child_fault : failing.outcome ≡ Fault code.NoTurn (record { line = 1; column = 15 })
unfolding next eval task turns datum.out-Value denote.Hole.Carrier.out
child_fault = refl

-- `(dosync (fork 1))`: a future may not go out as the value, which is a fault of the dosync
abbrev leaking : Result
leaking = transaction (record { program = table (row 15 (node.Int (pos 1)) ∷ row 9 (node.Fork (id 0)) ∷ []); fuel = 20; actor = None; store = λ ref. None; finished = λ future. None })
    name (record { line = 1; column = 1 }) (id 1) []

future_is_seen : (future : Name) → holds_future (value.Future future) ≡ true
future_is_seen future = search (rules, the_lemmas)

leaking_is_a_fault : leaking.outcome ≡ Fault code.FutureEscapes (record { line = 1; column = 1 })
unfolding next eval task turns datum.out-Value denote.Hole.Carrier.out
leaking_is_a_fault = rw future_is_seen refl

-- nil holds no future
nil_is_sealed : holds_future value.Nil ≡ false
nil_is_sealed = search (rules, the_lemmas)

-- `(dosync (do (fork (println "f")) nil))` as a whole run: the line is printed by the commit
abbrev committing : Table
committing = finished (
    row 1 (node.Str (codes "f")) ∷ row 1 (node.Println (id 0 ∷ [])) ∷ row 1 (node.Fork (id 1))
    ∷ row 1 node.Nil ∷ row 1 (node.Do (id 2 ∷ id 3 ∷ [])) ∷ row 1 (node.Dosync (id 4)) ∷ []) (record { node = id 5; binds = false } ∷ []) [] 0 []

commit_prints : option_map (λ s. s.bytes) (replay (record { program = committing; limits = record { fuel = 9; units = 1 } }) (Run main_name ∷ [])) ≡ Some (line_of (value.Str (codes "f") ∷ []))
unfolding replay_from step next eval task turns datum.out-Value denote.Hole.Carrier.out
commit_prints = rw nil_is_sealed refl
