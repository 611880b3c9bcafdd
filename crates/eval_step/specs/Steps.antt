-- What each step in a context comes to, in and outside a transaction.
use Rattle.std.specs.Prelude.{◌≡◌, ℕ, ◌+◌, ◌*◌, ◌<◌, Bool, List, [], ◌∷◌, ◌++◌, length, Option, None, Some}
use Rattle.std.specs.List.{slice_get}
use Rattle.value_core.specs.declared.value.Value.{Value}
use Rattle.value_core.specs.declared.value.Value.TheVariants as value
use Rattle.core_syntax.specs.declared.node_id.NodeId.{NodeId}
use Rattle.core_syntax.specs.declared.row.Row.{Row}
use Rattle.core_syntax.specs.Table.{Table, node_at}
use Rattle.serial_model.specs.declared.answer.Answer.{Answer}
use Rattle.serial_model.specs.Eval.{Out, Got, Evals, come, by_arguments, level, begin_at}
use Rattle.eval_step.specs.declared.context.Context.{Context}
use Rattle.eval_frames.specs.Control.{Control}
use Rattle.eval_step.specs.declared.item.Item.{Item}
use Rattle.eval_frames.specs.Finish.{finish}
use Rattle.eval_step.specs.Resume.{run, resume, arguments_on, parts_on, bound_on, steps_on}
use Rattle.eval_step.specs.declared.walk.Walk.{Walk}
use Rattle.eval_step.specs.Walk.{after, onto, weight, IsIn, ComesTo}

-- the operation of a row's node; with no row it is nil
abbrev pub operated : Table → Evals → List Value → Option Row → List Value → ℕ → List Answer → Out
operated table below frame None values fuel answers = Got value.Nil fuel answers
operated table below frame (Some row) values fuel answers = come table below row.at (finish frame row.node values) fuel answers

-- the arguments of a row's node and then its operation
abbrev pub argued : Table → Evals → List Value → Option Row → ℕ → List Answer → Out
argued table below frame None fuel answers = Got value.Nil fuel answers
argued table below frame (Some row) fuel answers = by_arguments table below frame row.at row.node fuel answers

-- what a row's node does
abbrev pub entered : Table → Bool → Evals → List Value → Option Row → ℕ → List Answer → Out
entered table inside below frame None fuel answers = Got value.Nil fuel answers
entered table inside below frame (Some row) fuel answers = level table inside below frame row.at row.node fuel answers

-- so much of a stack is allowed behind a step: one item more
abbrev pub one_more : Context → ℕ
one_more old = 2 * length old.stack + 3

-- so much of it is allowed behind a step that may lead to the arguments of a node
abbrev pub before_arguments : Context → ℕ
before_arguments old = 2 * length old.stack + 4

-- the body begins
abbrev pub Begins : Table → NodeId → Context → Context → Control → Type 0
Begins table body old new stands =
    (inside : Bool) → ComesTo table inside (begin_at (run table inside) body old.frame (slice_get table.nodes body.index)) (one_more old) new stands

-- a node is entered, in or outside a transaction
abbrev pub Enters : Table → Bool → NodeId → Context → Context → Control → Type 0
Enters table inside id old new stands =
    ComesTo table inside (λ fuel answers. after table inside old (entered table inside (run table inside) old.frame (slice_get table.nodes id.index) fuel answers)) (before_arguments old) new stands

-- a node that has arguments and an operation is entered
abbrev pub EntersArguments : Table → NodeId → Context → Context → Control → Type 0
EntersArguments table id old new stands = (inside : Bool) →
    ComesTo table inside (λ fuel answers. after table inside old (argued table (run table inside) old.frame (slice_get table.nodes id.index) fuel answers)) (before_arguments old) new stands

-- the arguments of a node from that number on, and then its operation with these values before theirs
abbrev pub TakesArgument : Table → NodeId → List Value → ℕ → Context → Context → Control → Type 0
TakesArgument table id values number old new stands = (inside : Bool) →
    ComesTo table inside (λ fuel answers. after table inside old (arguments_on table (run table inside) old.frame (slice_get table.nodes id.index) values number fuel answers)) (one_more old) new stands

-- the operation of a node with these values
abbrev pub Operates : Table → NodeId → List Value → Context → Context → Control → Type 0
Operates table id values old new stands = (inside : Bool) →
    ComesTo table inside (λ fuel answers. after table inside old (operated table (run table inside) old.frame (slice_get table.nodes id.index) values fuel answers)) (one_more old) new stands

-- the body of a function in its frame
abbrev pub CallsBody : Table → NodeId → List Value → Context → Context → Control → Type 0
CallsBody table body frame old new stands = (inside : Bool) →
    ComesTo table inside (λ fuel answers. after table inside old (run table inside frame body fuel answers)) (one_more old) new stands

-- the parts of a do from that number on
abbrev pub TakesPart : Table → NodeId → ℕ → Context → Context → Control → Type 0
TakesPart table id number old new stands = (inside : Bool) →
    ComesTo table inside (λ fuel answers. after table inside old (parts_on (run table inside) old.frame (node_at table.nodes id) number fuel answers)) (one_more old) new stands

-- what a let binds from that number on, and its body
abbrev pub TakesBound : Table → NodeId → ℕ → Context → Context → Control → Type 0
TakesBound table id number old new stands = (inside : Bool) →
    ComesTo table inside (bound_on (run table inside) old.frame (node_at table.nodes id) number (λ outer. resume table inside outer old.stack)) (one_more old) new stands

-- the steps of a main from that number on
abbrev pub TakesStep : Table → NodeId → ℕ → Context → Context → Control → Type 0
TakesStep table id number old new stands = (inside : Bool) →
    ComesTo table inside (steps_on (run table inside) old.frame (node_at table.nodes id) number) (one_more old) new stands

-- what an item and the stack below it do with a value
abbrev pub Resumes : Table → Item → Value → Context → Context → Control → Type 0
Resumes table first v old new stands = (inside : Bool) →
    ComesTo table inside (resume table inside old.frame (first ∷ old.stack) v) (before_arguments old) new stands

-- what the stack does with a value. It is no longer behind that
abbrev pub Delivers : Table → Value → Context → Context → Control → Type 0
Delivers table v old new stands = (inside : Bool) →
    ComesTo table inside (resume table inside old.frame old.stack v) (2 * length old.stack + 2) new stands

-- Entering a node costs one unit of fuel; with none left the evaluation is spent.
pub record EntersWithFuel (table : Table) (inside : Bool) (id : NodeId) (old new : Walk) (stands : Control) : Type 0 where
  pub same : (answers : List Answer) → after table inside old.context (run table inside old.context.frame id old.left answers) ≡ onto table inside stands new.context.frame new.context.stack new.left answers
  pub there : IsIn (length table.nodes) new.context.stack stands
  pub small : 4 * new.left + 2 * length new.context.stack + weight stands < 4 * old.left + 2 * length old.context.stack + 1

-- The node has a value that shows at once, which is that of an argument, and costs one unit of fuel.
pub record TakesLeaf (table : Table) (id : NodeId) (old new : Walk) : Type 0 where
  pub leaf : Value
  pub ran : (inside : Bool) (answers : List Answer) → run table inside old.context.frame id old.left answers ≡ Got leaf new.left answers
  pub values : new.registers.values ≡ old.registers.values ++ leaf ∷ []
  pub context : new.context ≡ old.context
  pub fewer : new.left < old.left
