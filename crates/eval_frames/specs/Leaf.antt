-- Nodes whose value shows at once.
use Rattle.std.specs.Prelude.{List, Option, None, Some}
use Rattle.value_core.specs.declared.value.Value.{Value}
use Rattle.value_core.specs.declared.value.Value.TheVariants as value
use Rattle.core_syntax.specs.declared.node.Node.{Node}
use Rattle.core_syntax.specs.declared.node.Node.TheVariants as node
use Rattle.serial_model.specs.Operation.{local_value}

-- the value of a constant, and of a local in that frame
abbrev pub leaf_of : List Value → Node → Option Value
leaf_of frame node.Nil = Some value.Nil
leaf_of frame (node.Bool truth) = Some (value.Bool truth)
leaf_of frame (node.Int number) = Some (value.Int number)
leaf_of frame (node.Str text) = Some (value.Str text)
leaf_of frame (node.Kw name) = Some (value.Kw name)
leaf_of frame (node.Local place) = Some (local_value frame place)
leaf_of frame other = None
