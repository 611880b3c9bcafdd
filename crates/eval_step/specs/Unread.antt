-- Places of a frame that are not read any more.
use Rattle.std.specs.Prelude.{◌≡◌, ℕ, Bool, true, false, ◌==◌, List, ◌∷◌, All, drop}
use Rattle.std.specs.List.{list_any}
use Rattle.value_core.specs.declared.value.Value.{Value}
use Rattle.core_syntax.specs.declared.node.Node.{Node}
use Rattle.core_syntax.specs.declared.node.Node.TheVariants as node
use Rattle.core_syntax.specs.declared.node_id.NodeId.{NodeId}
use Rattle.core_syntax.specs.Table.{Table}
use Rattle.serial_model.specs.declared.answer.Answer.{Answer}
use Rattle.serial_model.specs.Operation.{arguments}
use Rattle.eval_frames.specs.Agreeing.{AgreeBut}
use Rattle.eval_step.specs.declared.context.Context.{Context}
use Rattle.eval_step.specs.declared.item.Item.{Item}
use Rattle.eval_step.specs.Resume.{run, resume}

-- whether the place is one of these
abbrev pub is_one_of : ℕ → List ℕ → Bool
is_one_of place places = list_any (λ other. other == place) places

-- Whether the operation of the node reads the place. A task and a transaction take the whole frame.
abbrev pub reads : ℕ → Node → Bool
reads place (node.Local other) = other == place
reads place (node.Call number hidden written) = is_one_of place hidden
reads place (node.Spawn number hidden written) = is_one_of place hidden
reads place (node.Become number hidden written) = is_one_of place hidden
reads place (node.Fork body) = true
reads place (node.Dosync body) = true
reads place (node.Turn takes body) = true
reads place (node.Main steps) = true
reads place other = false

-- the node is evaluated alike in frames that differ at most at the place
pub record Spares (table : Table) (place : ℕ) (id : NodeId) : Type 0 where
  pub same : (inside : Bool) (frame other : List Value) → AgreeBut place frame other → (fuel : ℕ) (answers : List Answer)
      → run table inside frame id fuel answers ≡ run table inside other id fuel answers

-- neither the operation of the node reads the place, nor one of its arguments from that number on
pub record SparesFrom (table : Table) (place number : ℕ) (which : Node) : Type 0 where
  pub own : reads place which ≡ false
  pub others : All (Spares table place) (drop number (arguments which))

-- the stack does the same with a value in frames that differ at most at the place
pub record SparesBehind (table : Table) (place : ℕ) (stack : List Item) : Type 0 where
  pub same : (inside : Bool) (frame other : List Value) → AgreeBut place frame other → (v : Value) (fuel : ℕ) (answers : List Answer)
      → resume table inside frame stack v fuel answers ≡ resume table inside other stack v fuel answers

-- so does the stack with that item before it
pub record ItemSpares (table : Table) (place : ℕ) (first : Item) : Type 0 where
  pub before : (stack : List Item) → SparesBehind table place stack → SparesBehind table place (first ∷ stack)

-- The two contexts have one stack, which does the same with a value in both.
pub record GoesOnAlike (table : Table) (old new : Context) : Type 0 where
  pub stack : new.stack ≡ old.stack
  pub same : (inside : Bool) (v : Value) (fuel : ℕ) (answers : List Answer)
      → resume table inside old.frame old.stack v fuel answers ≡ resume table inside new.frame old.stack v fuel answers
