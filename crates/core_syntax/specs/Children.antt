-- The nodes that a node names.
use Rattle.std.specs.Prelude.{List, [], ◌∷◌, ◌++◌, map}
use Rattle.core_syntax.specs.declared.node.Node.{Node}
use Rattle.core_syntax.specs.declared.node.Node.TheVariants.{Nil, Bool, Int, Str, Kw, Local, Vector, Map, Do, If, Let, Call, Op, Println, Ref, Deref, RefSet, Fork, Join, Dosync, Spawn, Become, Send, SelfActor, Turn, Main}
use Rattle.core_syntax.specs.declared.node_id.NodeId.{NodeId}

-- the children of a node, in the order in which they are written
abbrev pub children : Node → List NodeId
-- a constant and a local have none
children Nil = []
children (Bool b) = []
children (Int n) = []
children (Str text) = []
children (Kw text) = []
children (Local place) = []
-- those of a vector are its items, of a map its keys and values, of a do its expressions
children (Vector items) = items
children (Map parts) = parts
children (Do parts) = parts
-- those of an if are the condition and the two branches
children (If condition then_node else_node) = condition ∷ then_node ∷ else_node ∷ []
-- those of a let are the bound expressions, and then the body
children (Let bound body) = bound ++ body ∷ []
-- those of a call, a primitive and a print are the written arguments
children (Call number hidden arguments) = arguments
children (Op op arguments) = arguments
children (Println arguments) = arguments
-- those of the forms of refs, tasks and transactions are their expressions
children (Ref value) = value ∷ []
children (Deref ref) = ref ∷ []
children (RefSet ref value) = ref ∷ value ∷ []
children (Fork body) = body ∷ []
children (Join future) = future ∷ []
children (Dosync body) = body ∷ []
-- those of a spawn and a become are the written arguments
children (Spawn number hidden arguments) = arguments
children (Become number hidden arguments) = arguments
-- those of a send are the receiver, and then the message
children (Send receiver message) = receiver ∷ message
-- self has none
children SelfActor = []
-- that of a turn is its body
children (Turn takes body) = body ∷ []
-- those of main are the nodes of its steps
children (Main steps) = map (λ step. step.node) steps
