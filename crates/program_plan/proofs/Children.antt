-- The children of the nodes that are made.
use Rattle.std.proofs.Common.{◌≡◌, ℕ, ◌≤◌, List, [], ◌∷◌, ◌++◌, sym, subst, arith}
use Rattle.std.specs.Prelude.{All}
use Rattle.std.proofs.lemmas.List.Elements.{All-weaker, All-push, All-nil}
use Rattle.core_syntax.specs.declared.node.Node.{Node}
use Rattle.core_syntax.specs.declared.node_id.NodeId.{NodeId}
use Rattle.core_syntax.specs.WellFormed.{IsBelow, ChildrenBelow}
use Rattle.program_plan.specs.declared.chain.ChainPart.{ChainPart}
use Rattle.program_plan.specs.declared.chain.ChainPart.TheVariants as part
use Rattle.resolved_forms.specs.declared.head.Head.{Head}
use Rattle.resolved_forms.specs.declared.head.Head.TheVariants as head
use Rattle.program_plan.specs.Chains.{PartBelow}
use Rattle.program_plan.specs.Applied.{applied, fixed, sent}
use Rattle.program_plan.specs.Frame.{Frame}

pub All-below : (m n : ℕ) (ids : List NodeId) → m ≤ n → All (IsBelow m) ids → All (IsBelow n) ids
All-below m n ids le below = All-weaker (IsBelow m) (IsBelow n) (λ id lt. omega arith) ids below

-- with one more
pub All-below_push : (m n : ℕ) (ids more : List NodeId) (id : NodeId) → more ≡ ids ++ id ∷ [] → m ≤ n → All (IsBelow m) ids → IsBelow n id → All (IsBelow n) more
All-below_push m n ids more id pushed le below here = subst (λ l. All (IsBelow n) l) (sym pushed) (All-push (IsBelow n) ids id (All-below m n ids le below) here)

part_below : (m n : ℕ) → m ≤ n → (p : ChainPart) → PartBelow m p → PartBelow n p
part_below m n le (part.And value test) below = (let lt = below.0 in omega arith, let lt = below.1 in omega arith)
part_below m n le (part.Or value test again) below = (let lt = below.0 in omega arith, let lt = below.1 in omega arith, let lt = below.2 in omega arith)

pub parts_below : (m n : ℕ) (parts more : List ChainPart) (one : ChainPart) → more ≡ parts ++ one ∷ [] → m ≤ n → All (PartBelow m) parts → PartBelow n one → All (PartBelow n) more
parts_below m n parts more one pushed le below here =
    subst (λ l. All (PartBelow n) l) (sym pushed) (All-push (PartBelow n) parts one (All-weaker (PartBelow m) (PartBelow n) (part_below m n le) parts below) here)

fixed-below : (n : ℕ) (h : Head) (ids : List NodeId) → All (IsBelow n) ids → ChildrenBelow n (fixed h ids)
fixed-below n head.If (a ∷ b ∷ c ∷ []) below = below
fixed-below n head.RefSet (a ∷ b ∷ []) below = below
fixed-below n head.Ref (a ∷ []) below = below
fixed-below n head.Deref (a ∷ []) below = below
fixed-below n head.Fork (a ∷ []) below = below
fixed-below n head.Join (a ∷ []) below = below
fixed-below n head.Dosync (a ∷ []) below = below
fixed-below n head.SelfActor ids below = All-nil _
fixed-below n h ids below = All-nil _

sent-below : (n : ℕ) (ids : List NodeId) → All (IsBelow n) ids → ChildrenBelow n (sent ids)
sent-below n [] below = All-nil _
sent-below n (a ∷ ids) below = below

applied-children : (n : ℕ) (frame : Frame) (h : Head) (ids : List NodeId) → All (IsBelow n) ids → ChildrenBelow n (applied frame h ids)
applied-children n frame head.Vector ids below = below
applied-children n frame head.Map ids below = below
applied-children n frame head.Do ids below = below
applied-children n frame (head.Op op) ids below = below
applied-children n frame head.Println ids below = below
applied-children n frame (head.Call number) ids below = below
applied-children n frame (head.Spawn number) ids below = below
applied-children n frame (head.Become number) ids below = below
applied-children n frame head.Send ids below = sent-below n ids below
applied-children n frame head.If ids below = fixed-below n head.If ids below
applied-children n frame head.Ref ids below = fixed-below n head.Ref ids below
applied-children n frame head.Deref ids below = fixed-below n head.Deref ids below
applied-children n frame head.RefSet ids below = fixed-below n head.RefSet ids below
applied-children n frame head.Fork ids below = fixed-below n head.Fork ids below
applied-children n frame head.Join ids below = fixed-below n head.Join ids below
applied-children n frame head.Dosync ids below = fixed-below n head.Dosync ids below
applied-children n frame head.SelfActor ids below = All-nil _

pub applied-below : (n : ℕ) (frame : Frame) (h : Head) (ids : List NodeId) (node : Node) → node ≡ applied frame h ids → All (IsBelow n) ids → ChildrenBelow n node
applied-below n frame h ids node is below = subst (λ m. ChildrenBelow n m) (sym is) (applied-children n frame h ids below)
