-- Programs without actors.
use Rattle.std.specs.Prelude.{◌≡◌, Bool, true, false, All}
use Rattle.core_syntax.specs.declared.node.Node.{Node}
use Rattle.core_syntax.specs.declared.node.Node.TheVariants as node
use Rattle.core_syntax.specs.Table.{Table}
use Rattle.serial_model.specs.declared.request.Request.{Request}
use Rattle.serial_model.specs.declared.request.Request.TheVariants as request

-- the node makes an actor, gives one a behaviour, sends to one, or asks for its own
abbrev pub is_of_actors : Node → Bool
is_of_actors (node.Spawn number hidden written) = true
is_of_actors (node.Become number hidden written) = true
is_of_actors (node.Send receiver message) = true
is_of_actors node.SelfActor = true
is_of_actors _ = false

-- no node of the table is such a node
abbrev pub IsWithoutActors : Table → Type 0
IsWithoutActors table = All (λ row. is_of_actors row.node ≡ false) table.nodes

-- the request is none of those that such nodes make
abbrev pub NeedsNoActor : Request → Type 0
NeedsNoActor (request.Spawn behaviour state) = ⊥
NeedsNoActor (request.Send actor message) = ⊥
NeedsNoActor (request.Become behaviour state) = ⊥
NeedsNoActor request.SelfActor = ⊥
NeedsNoActor _ = Unit {0}
