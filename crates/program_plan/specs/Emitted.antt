-- The nodes that an expression becomes: those of its parts, from left to right, and then its own.
use Rattle.std.specs.Prelude.{ℕ, ◌+◌, true, List, [], ◌∷◌, map, length}
use Rattle.value_core.specs.Place.{Spot}
use Rattle.core_syntax.specs.declared.function.Function.{Function}
use Rattle.core_syntax.specs.declared.node.Node.TheVariants.{Nil, Bool as constant, Int, Str, Kw, Local, If, Let, Call, Turn}
use Rattle.core_syntax.specs.declared.node_id.NodeId.{NodeId}
use Rattle.resolved_forms.specs.declared.expr.Expr.{Expr}
use Rattle.resolved_forms.specs.declared.expr.ExprKind.{ExprKind}
use Rattle.resolved_forms.specs.declared.expr.ExprKind.TheOpen as one
use Rattle.resolved_forms.specs.declared.expr.ExprKind.TheFolds.{fold-Expr, fold-ExprKind}
use Rattle.resolved_forms.specs.declared.expr.Looping.{Looping}
use Rattle.program_plan.specs.Applied.{applied}
use Rattle.program_plan.specs.Frame.{Frame, global_place, local_place, hidden_places, hidden_count, hidden_at, loop_frame}
use Rattle.program_plan.specs.Made.{Making, node, nothing, followed, gathered, in_loop}

-- what an expression makes in a frame: its nodes, with the id of the root
abbrev pub Emitting : Type 0
Emitting = Frame → Making NodeId

-- the local of that level
abbrev pub local : Spot → ℕ → Emitting
local at level frame = node at (Local (local_place frame level))

-- the parts one after another, with the ids of their roots
abbrev pub each : Frame → List Emitting → Making (List NodeId)
each frame parts = gathered (λ number part. part frame) 0 [] parts

-- what is made of all but the last, and the last
abbrev pub by_last : {X Y : Type 0} → Y → (List X → X → Y) → List X → Y
by_last none some [] = none
by_last none some (x ∷ []) = some [] x
by_last none some (x ∷ y ∷ xs) = by_last none (λ front last. some (x ∷ front) last) (y ∷ xs)

-- the bound expressions, and then the body
abbrev pub let_of : Spot → Frame → List Emitting → Emitting → Making NodeId
let_of at frame bound body =
    followed (each frame bound) (λ ids. followed (body frame) (λ id. node at (Let ids id)))

-- `(cond)` is nil, and `(cond c e rest)` is `(if c e (cond rest))`. A test with no result is evaluated for nothing
abbrev pub cond_of : Spot → Frame → List Emitting → Making NodeId
cond_of at frame [] = node at Nil
cond_of at frame (test ∷ []) = followed (test frame) (λ id. node at Nil)
cond_of at frame (test ∷ result ∷ rest) =
    followed (test frame) (λ condition. followed (result frame) (λ taken. followed (cond_of at frame rest) (λ others. node at (If condition taken others))))

-- `(and)` is true, `(and a)` is a, and `(and a rest)` is `(let [t a] (if t (and rest) t))`, with t of that level
abbrev pub and_of : Spot → Frame → ℕ → List Emitting → Making NodeId
and_of at frame level [] = node at (constant true)
and_of at frame level (part ∷ []) = part frame
and_of at frame level (part ∷ next ∷ parts) =
    followed (part frame) (λ value. followed (local at level frame) (λ test.
    followed (and_of at frame (level + 1) (next ∷ parts)) (λ rest. followed (local at level frame) (λ again.
    followed (node at (If test rest again)) (λ choice. node at (Let (value ∷ []) choice))))))

-- `(or)` is nil, `(or a)` is a, and `(or a rest)` is `(let [t a] (if t t (or rest)))`, with t of that level
abbrev pub or_of : Spot → Frame → ℕ → List Emitting → Making NodeId
or_of at frame level [] = node at Nil
or_of at frame level (part ∷ []) = part frame
or_of at frame level (part ∷ next ∷ parts) =
    followed (part frame) (λ value. followed (local at level frame) (λ test. followed (local at level frame) (λ again.
    followed (or_of at frame (level + 1) (next ∷ parts)) (λ rest.
    followed (node at (If test again rest)) (λ choice. node at (Let (value ∷ []) choice))))))

-- the function of a loop with that body: it takes its hidden arguments, and then its own
abbrev pub loop_function : Spot → Frame → Looping → NodeId → Function
loop_function at frame looping body = record {
  at = at;
  takes = hidden_count (hidden_at frame.layout.functions looping.number) + length looping.arguments;
  body = body;
}

-- a loop whose body is made: its initial values, and the root of the body
pub record Begun : Type 0 where
  pub values : List NodeId
  pub body : NodeId

abbrev pub begun_of : List NodeId → NodeId → Begun
begun_of values body = record { values = values; body = body }

-- the call of a loop's function with the locals that are its first arguments, round which the initial values are bound
abbrev pub loop_end : Spot → Frame → Looping → List NodeId → Making NodeId
loop_end at frame looping values =
    followed (each frame (map (local at) looping.arguments)) (λ arguments.
    followed (node at (Call looping.number (hidden_places frame (hidden_at frame.layout.functions looping.number)) arguments)) (λ call.
    node at (Let values call)))

-- `(loop [n e *] body)` is `(let [n e *] (L n *))`, with L a function of that body
abbrev pub loop_of : Spot → Frame → Looping → List Emitting → Emitting → Making NodeId
loop_of at frame looping initial body =
    followed (in_loop (λ begun. loop_function at frame looping begun.body)
    (followed (each frame initial) (λ values. followed (body (loop_frame frame looping.number looping.base)) (λ root. nothing (begun_of values root)))))
    (λ begun. loop_end at frame looping begun.values)

-- one level of an expression, with what each part makes in its place
abbrev pub kind_step : one.ExprKind-F (Spot → Emitting) Emitting → Spot → Emitting
kind_step one.Nil at frame = node at Nil
kind_step (one.Bool value) at frame = node at (constant value)
kind_step (one.Int value) at frame = node at (Int value)
kind_step (one.Str text) at frame = node at (Str text)
kind_step (one.Kw name) at frame = node at (Kw name)
kind_step (one.Local level) at frame = local at level frame
kind_step (one.Global number) at frame = node at (Local (global_place frame number))
kind_step (one.Apply head parts) at frame = followed (each frame parts) (λ ids. node at (applied frame head ids))
kind_step (one.Let parts) at frame = by_last (node at Nil) (let_of at frame) parts
kind_step (one.Cond parts) at frame = cond_of at frame parts
kind_step (one.And level parts) at frame = and_of at frame level parts
kind_step (one.Or level parts) at frame = or_of at frame level parts
kind_step (one.Loop looping parts) at frame = by_last (node at Nil) (loop_of at frame looping) parts

abbrev pub expr_step : one.Expr-F (Spot → Emitting) Emitting → Emitting
expr_step expr = expr.kind expr.at

abbrev pub emitted_kind : ExprKind → Spot → Emitting
emitted_kind = fold-ExprKind (Spot → Emitting) Emitting kind_step expr_step

abbrev pub emitted : Expr → Emitting
emitted = fold-Expr (Spot → Emitting) Emitting kind_step expr_step

-- a behaviour's body, and round it the turn that takes so many values
unfoldable pub turn_of : Spot → ℕ → Making NodeId → Making NodeId
turn_of at takes body = followed body (λ id. node at (Turn takes id))
