-- What the nodes of a table say: an expression is read back from the node that stands for it, child by child.
use Rattle.std.specs.Prelude.{◌≡◌, ℕ, ◌+◌, true, List, [], ◌∷◌, map, Some}
use Rattle.std.specs.List.{slice_get}
use Rattle.value_core.specs.Place.{Spot}
use Rattle.core_syntax.specs.declared.node.Node.{Node}
use Rattle.core_syntax.specs.declared.node.Node.TheVariants.{Nil, Bool as constant, Int, Str, Kw, Local, If, Let, Call}
use Rattle.core_syntax.specs.declared.node_id.NodeId.{NodeId}
use Rattle.core_syntax.specs.Table.{Table, node_at, place_at}
use Rattle.resolved_forms.specs.declared.expr.Expr.{Expr}
use Rattle.resolved_forms.specs.declared.expr.ExprKind.{ExprKind}
use Rattle.resolved_forms.specs.declared.expr.ExprKind.TheFolds.{rec-Expr, rec-ExprKind}
use Rattle.resolved_forms.specs.declared.expr.ExprKind.TheOpen as one
use Rattle.resolved_forms.specs.declared.expr.Looping.{Looping}
use Rattle.resolved_forms.specs.declared.head.Head.{Head}
use Rattle.program_plan.specs.Applied.{applied}
use Rattle.program_plan.specs.Emitted.{loop_function}
use Rattle.program_plan.specs.Frame.{Frame, global_place, local_place, hidden_places, hidden_at, loop_frame}

-- how an expression is read: in a frame, from the node with an id
abbrev pub Reading : Type 1
Reading = Frame → NodeId → Type 0

-- the node with the id is this one, and its place is that one
pub record Stands (table : Table) (at : Spot) (node : Node) (id : NodeId) : Type 0 where
  pub node_is : node_at table.nodes id ≡ Some node
  pub place_is : place_at table.nodes id ≡ Some at

-- the local of that level
abbrev pub IsLocal : Table → Spot → ℕ → Reading
IsLocal table at level frame id = Stands table at (Local (local_place frame level)) id

-- each part is read from the id in its position
abbrev pub ReadsEach : Frame → List Reading → List NodeId → Type 0
ReadsEach frame [] [] = Unit {0}
ReadsEach frame (part ∷ parts) (id ∷ ids) = part frame id × ReadsEach frame parts ids
ReadsEach frame _ _ = ⊥

-- each part but the last is read from the id in its position in the outer frame, and the last from the body in the inner
-- frame
abbrev pub ReadsBody : Frame → Frame → List Reading → List NodeId → NodeId → Type 0
ReadsBody outer inner (last ∷ []) [] body = last inner body
ReadsBody outer inner (part ∷ next ∷ parts) (id ∷ ids) body = part outer id × ReadsBody outer inner (next ∷ parts) ids body
ReadsBody outer inner _ _ body = ⊥

-- the node that the head makes of nodes from which the parts are read
pub record ReadsApply (table : Table) (at : Spot) (frame : Frame) (head : Head) (parts : List Reading) (id : NodeId) : Type 0 where
  pub ids : List NodeId
  pub stands : Stands table at (applied frame head ids) id
  pub parts_read : ReadsEach frame parts ids

-- the let of nodes from which the bound expressions and the body are read
pub record ReadsLet (table : Table) (at : Spot) (frame : Frame) (parts : List Reading) (id : NodeId) : Type 0 where
  pub bound : List NodeId
  pub body : NodeId
  pub stands : Stands table at (Let bound body) id
  pub parts_read : ReadsBody frame frame parts bound body

-- an if of nodes of these three kinds
pub record ReadsIf (table : Table) (at : Spot) (condition taken other : NodeId → Type 0) (id : NodeId) : Type 0 where
  pub condition_id : NodeId
  pub taken_id : NodeId
  pub other_id : NodeId
  pub stands : Stands table at (If condition_id taken_id other_id) id
  pub condition_read : condition condition_id
  pub taken_read : taken taken_id
  pub other_read : other other_id

-- a let of one value, with nodes of these two kinds
pub record ReadsBinding (table : Table) (at : Spot) (value body : NodeId → Type 0) (id : NodeId) : Type 0 where
  pub value_id : NodeId
  pub body_id : NodeId
  pub stands : Stands table at (Let (value_id ∷ []) body_id) id
  pub value_read : value value_id
  pub body_read : body body_id

-- `(cond)` is nil, and `(cond c e rest)` is `(if c e (cond rest))`; a test with no result is nil
abbrev pub ReadsCond : Table → Spot → Frame → List Reading → NodeId → Type 0
ReadsCond table at frame [] id = Stands table at Nil id
ReadsCond table at frame (test ∷ []) id = Stands table at Nil id
ReadsCond table at frame (test ∷ result ∷ rest) id = ReadsIf table at (test frame) (result frame) (ReadsCond table at frame rest) id

-- `(and)` is true, `(and a)` is a, and `(and a rest)` is `(let [t a] (if t (and rest) t))`, with t of that level
abbrev pub ReadsAnd : Table → Spot → Frame → ℕ → List Reading → NodeId → Type 0
ReadsAnd table at frame level [] id = Stands table at (constant true) id
ReadsAnd table at frame level (part ∷ []) id = part frame id
ReadsAnd table at frame level (part ∷ next ∷ parts) id =
    ReadsBinding table at (part frame)
    (ReadsIf table at (IsLocal table at level frame) (ReadsAnd table at frame (level + 1) (next ∷ parts)) (IsLocal table at level frame)) id

-- `(or)` is nil, `(or a)` is a, and `(or a rest)` is `(let [t a] (if t t (or rest)))`, with t of that level
abbrev pub ReadsOr : Table → Spot → Frame → ℕ → List Reading → NodeId → Type 0
ReadsOr table at frame level [] id = Stands table at Nil id
ReadsOr table at frame level (part ∷ []) id = part frame id
ReadsOr table at frame level (part ∷ next ∷ parts) id =
    ReadsBinding table at (part frame)
    (ReadsIf table at (IsLocal table at level frame) (IsLocal table at level frame) (ReadsOr table at frame (level + 1) (next ∷ parts))) id

-- `(loop [n e *] body)` is `(let [n e *] (L n *))`: L is the function with the loop's number, and the body of this function
-- is read in the loop's frame
pub record ReadsLoop (table : Table) (at : Spot) (frame : Frame) (looping : Looping) (parts : List Reading) (id : NodeId) : Type 0 where
  pub values : List NodeId
  pub call : NodeId
  pub arguments : List NodeId
  pub body : NodeId
  pub stands : Stands table at (Let values call) id
  pub calls : Stands table at (Call looping.number (hidden_places frame (hidden_at frame.layout.functions looping.number)) arguments) call
  pub arguments_are : ReadsEach frame (map (IsLocal table at) looping.arguments) arguments
  pub function : slice_get table.functions looping.number ≡ Some (loop_function at frame looping body)
  pub parts_read : ReadsBody frame (loop_frame frame looping.number looping.base) parts values body

-- without any part, not even a body, it is nil
abbrev pub IsNilOr : Table → Spot → List Reading → (NodeId → Type 0) → NodeId → Type 0
IsNilOr table at [] some id = Stands table at Nil id
IsNilOr table at (part ∷ parts) some id = some id

-- one level of an expression, with how each part of it is read
abbrev pub kind_step : Table → {X Y : Type 0} → (Y → Reading) → one.ExprKind-F X Y → Spot → Reading
kind_step table read one.Nil at frame id = Stands table at Nil id
kind_step table read (one.Bool value) at frame id = Stands table at (constant value) id
kind_step table read (one.Int value) at frame id = Stands table at (Int value) id
kind_step table read (one.Str text) at frame id = Stands table at (Str text) id
kind_step table read (one.Kw name) at frame id = Stands table at (Kw name) id
kind_step table read (one.Local level) at frame id = IsLocal table at level frame id
kind_step table read (one.Global number) at frame id = Stands table at (Local (global_place frame number)) id
kind_step table read (one.Apply head parts) at frame id = ReadsApply table at frame head (map read parts) id
kind_step table read (one.Let parts) at frame id = IsNilOr table at (map read parts) (ReadsLet table at frame (map read parts)) id
kind_step table read (one.Cond parts) at frame id = ReadsCond table at frame (map read parts) id
kind_step table read (one.And level parts) at frame id = ReadsAnd table at frame level (map read parts) id
kind_step table read (one.Or level parts) at frame id = ReadsOr table at frame level (map read parts) id
kind_step table read (one.Loop looping parts) at frame id = IsNilOr table at (map read parts) (ReadsLoop table at frame looping (map read parts)) id

-- how an expression of that kind is read, at its place
abbrev pub reading_of_kind : Table → ExprKind → Spot → Reading
reading_of_kind table = rec-ExprKind (Spot → Reading) Reading (λ X Y _ _ _ read. kind_step table read) (λ X Y _ _ kind _ expr. kind expr.kind expr.at)

-- how an expression is read, level by level
abbrev pub reading_of : Table → Expr → Reading
reading_of table = rec-Expr (Spot → Reading) Reading (λ X Y _ _ _ read. kind_step table read) (λ X Y _ _ kind _ expr. kind expr.kind expr.at)

-- in the table, the node with the id says what the expression does in the frame
abbrev pub Reads : Table → Frame → NodeId → Expr → Type 0
Reads table frame id expr = reading_of table expr frame id
