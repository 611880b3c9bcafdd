-- What is done with a value, in the current frame, after what is on the stack.
use Rattle.std.specs.Prelude.{ℕ, Bool, true, false, if◌then◌else◌, List, [], ◌∷◌, ◌++◌, drop, Option, None, Some}
use Rattle.std.specs.List.{slice_get}
use Rattle.value_core.specs.declared.value.Value.{Value}
use Rattle.value_core.specs.declared.value.Value.TheVariants as value
use Rattle.value_core.specs.primitives.Kinds.{is_false}
use Rattle.core_syntax.specs.declared.node.Node.{Node}
use Rattle.core_syntax.specs.declared.node.Node.TheVariants as node
use Rattle.core_syntax.specs.declared.node_id.NodeId.{NodeId}
use Rattle.core_syntax.specs.declared.row.Row.{Row}
use Rattle.core_syntax.specs.Table.{Table, node_at, steps_of}
use Rattle.serial_model.specs.declared.answer.Answer.{Answer}
use Rattle.serial_model.specs.Eval.{Out, Got, Next, Evals, then_go, each, in_turn, bind, choose, come, run_steps, unguarded, eval}
use Rattle.serial_model.specs.Operation.{arguments}
use Rattle.eval_step.specs.declared.item.Item.{Item}
use Rattle.eval_step.specs.declared.item.Item.TheVariants as item
use Rattle.eval_frames.specs.Finish.{finish}
use Rattle.eval_frames.specs.Frame.{shorter}

-- whether the frame is looked at again
abbrev pub needs_frame : List Item → Bool
needs_frame [] = false
needs_frame (item.Back outer ∷ stack) = false
needs_frame _ = true

-- The evaluation of a node in or outside a transaction. No bound but its fuel is met.
unfoldable pub run : Table → Bool → Evals
run table inside frame id fuel answers = eval unguarded table inside fuel frame id fuel answers

-- the parts of a do; another node has none
abbrev pub parts_of : Option Node → List NodeId
parts_of (Some (node.Do parts)) = parts
parts_of _ = []

-- the arguments of a node from that number on, and then its operation with these values before theirs
abbrev pub arguments_on : Table → Evals → List Value → Option Row → List Value → ℕ → ℕ → List Answer → Out
arguments_on table below frame None values number fuel answers = Got value.Nil fuel answers
arguments_on table below frame (Some row) values number fuel answers =
    each below frame (drop number (arguments row.node)) fuel answers (λ rest. come table below row.at (finish frame row.node (values ++ rest)))

-- the parts of a do from that number on
abbrev pub parts_on : Evals → List Value → Option Node → ℕ → ℕ → List Answer → Out
parts_on below frame found number fuel answers = in_turn below frame (drop number (parts_of found)) fuel answers

-- What a let binds from that number on, its body, and then what is done in the frame without what it has bound.
abbrev pub bound_on : Evals → List Value → Option Node → ℕ → (List Value → Next) → ℕ → List Answer → Out
bound_on below frame (Some (node.Let bound body)) number next fuel answers =
    then_go (bind below frame (drop number bound) body fuel answers) (next (shorter number frame))
bound_on below frame _ number next fuel answers = next frame value.Nil fuel answers

-- the steps of a main from that number on
abbrev pub steps_on : Evals → List Value → Option Node → ℕ → ℕ → List Answer → Out
steps_on below frame found number fuel answers = run_steps below frame (drop number (steps_of found)) fuel answers

-- a value that is bound if that is so
abbrev pub with_value : Bool → List Value → Value → List Value
with_value binds frame v = if binds then frame ++ v ∷ [] else frame

unfoldable pub resume : Table → Bool → List Value → List Item → Next
resume table inside frame [] v fuel answers = Got v fuel answers
resume table inside frame (item.Back outer ∷ stack) v fuel answers = resume table inside outer stack v fuel answers
resume table inside frame (item.Shrink count ∷ stack) v fuel answers = resume table inside (shorter count frame) stack v fuel answers
resume table inside frame (item.Arguments id values number ∷ stack) v fuel answers =
    then_go (arguments_on table (run table inside) frame (slice_get table.nodes id.index) (values ++ v ∷ []) number fuel answers) (resume table inside frame stack)
resume table inside frame (item.Choose taken other ∷ stack) v fuel answers =
    then_go (choose (run table inside) frame (is_false v) taken other fuel answers) (resume table inside frame stack)
resume table inside frame (item.Do id number ∷ stack) v fuel answers =
    then_go (parts_on (run table inside) frame (node_at table.nodes id) number fuel answers) (resume table inside frame stack)
resume table inside frame (item.Let id number ∷ stack) v fuel answers =
    bound_on (run table inside) (frame ++ v ∷ []) (node_at table.nodes id) number (λ outer. resume table inside outer stack) fuel answers
resume table inside frame (item.Steps id number binds ∷ stack) v fuel answers =
    steps_on (run table inside) (with_value binds frame v) (node_at table.nodes id) number fuel answers
