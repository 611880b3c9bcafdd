-- What the operation of a node comes to, once its arguments have their values.
use Rattle.std.specs.Prelude.{ℕ, Bool, if◌then◌else◌, List, [], ◌∷◌, ◌++◌, length, map, unwrap_or, Result, Ok, Err}
use Rattle.std.specs.List.{slice_get, list_any}
use Rattle.value_core.specs.declared.code.Code.{Code}
use Rattle.value_core.specs.declared.code.Code.TheVariants as code
use Rattle.value_core.specs.declared.op.Op.{Op}
use Rattle.value_core.specs.declared.op.Op.TheVariants as op
use Rattle.value_core.specs.declared.value.Value.{Value}
use Rattle.value_core.specs.declared.value.Value.TheVariants as value
use Rattle.value_core.specs.declared.value.Value.TheOpen as one
use Rattle.value_core.specs.declared.value.Value.TheViews.{out-Value}
use Rattle.value_core.specs.Futures.{holds_future}
use Rattle.value_core.specs.Texts.{line_of}
use Rattle.value_core.specs.declared.op_fault.OpFault.{OpFault}
use Rattle.value_core.specs.declared.op_fault.OpFault.TheVariants as fault
use Rattle.value_core.specs.primitives.Apply.{apply_of, limited}
use Rattle.value_core.specs.primitives.Parts.{paired, put_rule}
use Rattle.value_core.specs.primitives.Words.{takes_of}
use Rattle.core_syntax.specs.Children.{children}
use Rattle.core_syntax.specs.declared.node.Node.{Node}
use Rattle.core_syntax.specs.declared.node.Node.TheVariants as node
use Rattle.core_syntax.specs.declared.node_id.NodeId.{NodeId}
use Rattle.serial_model.specs.declared.request.Request.{Request}
use Rattle.serial_model.specs.declared.request.Request.TheVariants as request

-- a value, a fault, a request, or a call of the function with that number in that frame
pub data Action : Type 0 where
  Gives : Value → Action
  Faults : Code → Action
  Asks : Request → Action
  Calls : ℕ → List Value → Action

-- The arguments of a node are its children, evaluated from left to right. The body of a task or of a transaction is none,
-- and neither is what belongs to a turn or to main.
abbrev pub arguments : Node → List NodeId
arguments (node.Fork body) = []
arguments (node.Dosync body) = []
arguments (node.Turn takes body) = []
arguments (node.Main steps) = []
arguments other = children other

-- the value at that place of a frame, and nil outside it
abbrev pub local_value : List Value → ℕ → Value
local_value frame place = unwrap_or (slice_get frame place) value.Nil

-- the hidden arguments, which are taken from the frame
abbrev pub hidden_values : List Value → List ℕ → List Value
hidden_values frame places = map (local_value frame) places

-- the code of a primitive's fault; want of memory is none that a meaning has
abbrev pub code_of : OpFault → Code
code_of fault.WrongType = code.WrongType
code_of fault.DivideByZero = code.DivideByZero
code_of fault.Overflow = code.Overflow
code_of fault.Index = code.Index
code_of fault.TooDeep = code.TooDeep
code_of fault.Memory = code.WrongType

abbrev pub action_of : Result Value OpFault → Action
action_of (Ok v) = Gives v
action_of (Err fault) = Faults (code_of fault)

-- a primitive with a number of arguments that it doesn't take is of the wrong type
abbrev pub applied : Op → List Value → Action
applied op values = if takes_of op (length values) then action_of (apply_of op values) else Faults code.WrongType

-- a map of keys and values by turns; of equal keys the last prevails
abbrev pub mapped : List Value → Action
mapped values = action_of (limited (put_rule [] (paired values)))

abbrev pub some_future : List Value → Bool
some_future values = list_any holds_future values

-- the request, where no future would go out with these values
abbrev pub sealed : List Value → Request → Action
sealed values asked = if some_future values then Faults code.FutureEscapes else Asks asked

-- what is done with the name of a ref, an actor or a future; any other value is of the wrong type
abbrev pub with_ref : one.Value-F Value → (List ℕ → Action) → Action
with_ref (one.Ref name) act = act name
with_ref _ act = Faults code.WrongType

abbrev pub with_actor : one.Value-F Value → (List ℕ → Action) → Action
with_actor (one.Actor name) act = act name
with_actor _ act = Faults code.WrongType

abbrev pub with_future : one.Value-F Value → (List ℕ → Action) → Action
with_future (one.Future name) act = act name
with_future _ act = Faults code.WrongType

-- the forms of one argument and of two; with another number of values, which no node has, they are of the wrong type
abbrev pub of_one : (Value → Action) → List Value → Action
of_one form (v ∷ []) = form v
of_one form _ = Faults code.WrongType

abbrev pub of_two : (Value → Value → Action) → List Value → Action
of_two form (v ∷ w ∷ []) = form v w
of_two form _ = Faults code.WrongType

-- the first value, and those behind it
abbrev pub of_first : (Value → List Value → Action) → List Value → Action
of_first form (v ∷ more) = form v more
of_first form [] = Faults code.WrongType

abbrev pub deref_outcome : Value → Action
deref_outcome v = with_ref (out-Value v) (λ name. Asks (request.Deref name))

abbrev pub ref_set_outcome : Value → Value → Action
ref_set_outcome v w = with_ref (out-Value v) (λ name. sealed (w ∷ []) (request.RefSet name w))

abbrev pub join_outcome : Value → Action
join_outcome v = with_future (out-Value v) (λ name. Asks (request.Join name))

abbrev pub send_outcome : Value → List Value → Action
send_outcome v message = with_actor (out-Value v) (λ name. sealed message (request.Send name message))

-- What each node does in its frame with the values of its arguments. A turn or a main inside another node, which no
-- checked program has, is nil.
abbrev pub operate : List Value → Node → List Value → Action
operate frame node.Nil values = Gives value.Nil
operate frame (node.Bool b) values = Gives (value.Bool b)
operate frame (node.Int n) values = Gives (value.Int n)
operate frame (node.Str text) values = Gives (value.Str text)
operate frame (node.Kw name) values = Gives (value.Kw name)
operate frame (node.Local place) values = Gives (local_value frame place)
operate frame (node.Vector items) values = action_of (apply_of op.Vector values)
operate frame (node.Map parts) values = mapped values
operate frame (node.Call number hidden written) values = Calls number (hidden_values frame hidden ++ values)
operate frame (node.Op op written) values = applied op values
operate frame (node.Println written) values = Asks (request.Print (line_of values))
operate frame (node.Ref content) values = of_one (λ v. sealed (v ∷ []) (request.NewRef v)) values
operate frame (node.Deref cell) values = of_one deref_outcome values
operate frame (node.RefSet cell content) values = of_two ref_set_outcome values
operate frame (node.Fork body) values = Asks (request.Fork body frame)
operate frame (node.Join future) values = of_one join_outcome values
operate frame (node.Dosync body) values = Asks (request.Dosync body frame)
operate frame (node.Spawn number hidden written) values =
    sealed (hidden_values frame hidden ++ values) (request.Spawn number (hidden_values frame hidden ++ values))
operate frame (node.Become number hidden written) values =
    sealed (hidden_values frame hidden ++ values) (request.Become number (hidden_values frame hidden ++ values))
operate frame (node.Send receiver message) values = of_first send_outcome values
operate frame node.SelfActor values = Asks request.SelfActor
operate frame other values = Gives value.Nil
