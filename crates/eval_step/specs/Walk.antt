-- Where a machine stands, and what the body comes to from there.
use Rattle.std.specs.Prelude.{◌≡◌, ℕ, ◌+◌, ◌*◌, ◌<◌, ◌≤◌, Bool, true, false, List, [], length, All}
use Rattle.std.specs.List.{slice_get}
use Rattle.value_core.specs.declared.value.Value.{Value}
use Rattle.core_syntax.specs.Table.{Table}
use Rattle.serial_model.specs.declared.answer.Answer.{Answer}
use Rattle.serial_model.specs.declared.halt.Halt.{Halt}
use Rattle.serial_model.specs.declared.halt.Halt.TheVariants as halt
use Rattle.serial_model.specs.Eval.{Out, Got, Stop, Next, then_go, ask, begin_at}
use Rattle.eval_step.specs.declared.context.Context.{Context}
use Rattle.eval_frames.specs.Control.{Control}
use Rattle.eval_frames.specs.Control as control
use Rattle.eval_frames.specs.Control.{standing}
use Rattle.eval_step.specs.declared.item.Item.{Item}
use Rattle.eval_step.specs.declared.item.Item.TheVariants as item
use Rattle.eval_step.specs.declared.walk.Walk.{Walk}
use Rattle.eval_step.specs.Resume.{run, resume, arguments_on}

-- a request goes on with the next answer
abbrev pub halted : Next → Halt → ℕ → List Answer → Out
halted go (halt.Ask request at) fuel answers = then_go (ask request at fuel answers) go
halted go (halt.Value v) fuel answers = Got v fuel answers
halted go stop fuel answers = Stop stop

-- What the body comes to from there, with so much fuel and these answers. One that has failed comes to nothing.
abbrev pub onto : Table → Bool → Control → List Value → List Item → ℕ → List Answer → Out
onto table inside (control.Begin body) frame stack fuel answers =
    begin_at (run table inside) body frame (slice_get table.nodes body.index) fuel answers
onto table inside (control.Enter id) frame stack fuel answers = then_go (run table inside frame id fuel answers) (resume table inside frame stack)
onto table inside (control.Deliver v) frame stack fuel answers = resume table inside frame stack v fuel answers
onto table inside (control.Arguments id values number) frame stack fuel answers =
    then_go (arguments_on table (run table inside) frame (slice_get table.nodes id.index) values number fuel answers) (resume table inside frame stack)
onto table inside (control.Halted stop) frame stack fuel answers = halted (resume table inside frame stack) stop fuel answers
onto table inside control.Failed frame stack fuel answers = Stop halt.Spent

-- the nodes that the item names are among the first n
abbrev pub ItemIn : ℕ → Item → Type 0
ItemIn n (item.Back outer) = Unit {0}
ItemIn n (item.Shrink count) = Unit {0}
ItemIn n (item.Arguments id values number) = id.index < n
ItemIn n (item.Choose taken other) = (taken.index < n) × (other.index < n)
ItemIn n (item.Do id number) = id.index < n
ItemIn n (item.Let id number) = id.index < n
ItemIn n (item.Steps id number binds) = id.index < n

-- the node where the machine stands is among the first n, and before the body nothing is on the stack
abbrev pub ControlIn : ℕ → List Item → Control → Type 0
ControlIn n stack (control.Begin body) = (body.index < n) × (stack ≡ [])
ControlIn n stack (control.Enter id) = id.index < n
ControlIn n stack (control.Arguments id values number) = id.index < n
ControlIn n stack _ = Unit {0}

-- all nodes that are named are in the table
pub record IsIn (n : ℕ) (stack : List Item) (stands : Control) : Type 0 where
  pub items : All (ItemIn n) stack
  pub here : ControlIn n stack stands

-- memory was wanting
abbrev pub FailedAt : Control → Type 0
FailedAt control.Failed = Unit {0}
FailedAt _ = ⊥

-- memory was not wanting
abbrev pub Goes : Control → Type 0
Goes control.Failed = ⊥
Goes _ = Unit {0}

-- whether there is a step to do
abbrev pub goes_on : Control → Bool
goes_on (control.Halted stop) = false
goes_on control.Failed = false
goes_on _ = true

-- how much a step from there is worth, where a unit of fuel is worth four and an item of the stack two
abbrev pub weight : Control → ℕ
weight (control.Begin body) = 5
weight (control.Enter id) = 1
weight (control.Deliver v) = 3
weight (control.Arguments id values number) = 4
weight _ = 0

-- what is done with the value of an evaluation in a context
abbrev pub after : Table → Bool → Context → Out → Out
after table inside context out = then_go out (resume table inside context.frame context.stack)

-- From there it comes to what is meant, all nodes that are named are in the table, and the stack is short enough.
pub record ComesTo (table : Table) (inside : Bool) (meant : ℕ → List Answer → Out) (most : ℕ) (new : Context) (stands : Control) : Type 0 where
  pub same : (fuel : ℕ) (answers : List Answer) → meant fuel answers ≡ onto table inside stands new.frame new.stack fuel answers
  pub there : IsIn (length table.nodes) new.stack stands
  pub small : 2 * length new.stack + weight stands ≤ most

-- the items of a context name nodes of the table
abbrev pub ItemsIn : Table → Context → Type 0
ItemsIn table context = All (ItemIn (length table.nodes)) context.stack

-- where the walk stands
abbrev pub control_of : Walk → Control
control_of w = standing w.at w.registers

-- what the body comes to from where the walk stands
abbrev pub outcome_from : Table → Bool → Walk → List Answer → Out
outcome_from table inside w answers = onto table inside (control_of w) w.context.frame w.context.stack w.left answers

abbrev pub IsThere : Table → Walk → Type 0
IsThere table w = IsIn (length table.nodes) w.context.stack (control_of w)

abbrev pub work : Walk → ℕ
work w = 4 * w.left + 2 * length w.context.stack + weight (control_of w)

-- the body comes to the same from both, all nodes that are named are in the table, and less is left to do
pub record Moves (table : Table) (inside : Bool) (old new : Walk) : Type 0 where
  pub same : (answers : List Answer) → outcome_from table inside old answers ≡ outcome_from table inside new answers
  pub there : IsThere table new
  pub smaller : work new < work old

-- so it does in and outside a transaction
abbrev pub MovesAnyhow : Table → Walk → Walk → Type 0
MovesAnyhow table old new = (inside : Bool) → Moves table inside old new

-- the body comes to the same from both, and no more is left to do
pub record Keeps (table : Table) (old new : Walk) : Type 0 where
  pub same : (inside : Bool) (answers : List Answer) → outcome_from table inside old answers ≡ outcome_from table inside new answers
  pub there : IsThere table new
  pub most : work new ≤ work old

-- the body comes to the same from both, and the newer one stops there
pub record StopsAt (table : Table) (inside : Bool) (old new : Walk) (stop : Halt) : Type 0 where
  pub at : control_of new ≡ control.Halted stop
  pub goes : Goes (control_of old)
  pub same : (answers : List Answer) → outcome_from table inside old answers ≡ outcome_from table inside new answers
  pub there : IsThere table new
