-- The node that a head makes of its parts.
use Rattle.std.specs.Prelude.{List, [], ◌∷◌}
use Rattle.core_syntax.specs.declared.node.Node.{Node}
use Rattle.core_syntax.specs.declared.node.Node.TheVariants as node
use Rattle.core_syntax.specs.declared.node_id.NodeId.{NodeId}
use Rattle.resolved_forms.specs.declared.head.Head.{Head}
use Rattle.resolved_forms.specs.declared.head.Head.TheVariants as head
use Rattle.program_plan.specs.Frame.{Frame, hidden_places, hidden_at}

-- the node of a head that takes a fixed number of parts, and nil where there is another number of them
abbrev pub fixed : Head → List NodeId → Node
fixed head.If (condition ∷ taken ∷ other ∷ []) = node.If condition taken other
fixed head.RefSet (cell ∷ value ∷ []) = node.RefSet cell value
fixed head.Ref (value ∷ []) = node.Ref value
fixed head.Deref (cell ∷ []) = node.Deref cell
fixed head.Fork (body ∷ []) = node.Fork body
fixed head.Join (future ∷ []) = node.Join future
fixed head.Dosync (body ∷ []) = node.Dosync body
fixed head.SelfActor ids = node.SelfActor
fixed _ ids = node.Nil

-- a send to the first part, and nil where there is none
abbrev pub sent : List NodeId → Node
sent (receiver ∷ message) = node.Send receiver message
sent [] = node.Nil

-- the node over the parts with these ids, in a frame. A call, a spawn and a become hand on the hidden arguments
abbrev pub applied : Frame → Head → List NodeId → Node
applied frame head.Vector ids = node.Vector ids
applied frame head.Map ids = node.Map ids
applied frame head.Do ids = node.Do ids
applied frame (head.Op op) ids = node.Op op ids
applied frame head.Println ids = node.Println ids
applied frame (head.Call number) ids = node.Call number (hidden_places frame (hidden_at frame.layout.functions number)) ids
applied frame (head.Spawn number) ids = node.Spawn number (hidden_places frame (hidden_at frame.layout.behaviours number)) ids
applied frame (head.Become number) ids = node.Become number (hidden_places frame (hidden_at frame.layout.behaviours number)) ids
applied frame head.Send ids = sent ids
applied frame head ids = fixed head ids
