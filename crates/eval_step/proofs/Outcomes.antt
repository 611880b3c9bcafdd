-- What the operation of a node comes to in a context.
use Rattle.std.proofs.Common.{◌≡◌, ◌≢◌, ◌∙◌, ℕ, ◌+◌, ◌*◌, ◌<◌, Bool, true, false, List, [], ◌∷◌, length, refl, sym, ap, subst}
use Rattle.std.specs.Prelude.{All, Some, if◌then◌else◌, Result, Ok, Err}
use Rattle.std.specs.List.{slice_get}
use Rattle.std.proofs.lemmas.List.Elements.{All-head}
use Rattle.value_core.specs.Place.{Spot}
use Rattle.value_core.specs.declared.value.Value.{Value}
use Rattle.value_core.specs.declared.value.Value.TheOpen as one
use Rattle.value_core.specs.declared.value.Value.TheViews.{out-Value}
use Rattle.value_core.specs.primitives.Apply.{apply_of, limited}
use Rattle.value_core.specs.primitives.Parts.{paired, put_rule}
use Rattle.value_core.specs.primitives.Words.{takes_of}
use Rattle.value_core.specs.declared.op_fault.OpFault.{OpFault}
use Rattle.value_core.specs.declared.op.Op.{Op}
use Rattle.value_core.specs.declared.op.Op.TheVariants as op
use Rattle.core_syntax.specs.declared.function.Function.{Function}
use Rattle.core_syntax.specs.declared.node.Node.{Node}
use Rattle.core_syntax.specs.declared.node.Node.TheVariants as node
use Rattle.core_syntax.specs.declared.node_id.NodeId.{NodeId}
use Rattle.core_syntax.specs.Table.{Table}
use Rattle.core_syntax.specs.WellFormed.{FunctionsBelow}
use Rattle.serial_model.specs.declared.answer.Answer.{Answer}
use Rattle.serial_model.specs.declared.halt.Halt.TheVariants as halt
use Rattle.serial_model.specs.declared.request.Request.{Request}
use Rattle.serial_model.specs.Eval.{then_go, come, call}
use Rattle.serial_model.specs.Operation.{Action, Gives, Faults, Asks, Calls, action_of, some_future, with_ref, with_actor, with_future, of_one, of_two, of_first, deref_outcome, ref_set_outcome, join_outcome, send_outcome, sealed}
use Rattle.eval_step.specs.declared.context.Context.{Context}
use Rattle.eval_frames.specs.Control.{Control}
use Rattle.eval_step.specs.declared.item.Item.{Item}
use Rattle.eval_frames.specs.Finish.{Acts, IsAct, finish}
use Rattle.eval_step.specs.Resume.{run, resume}
use Rattle.eval_step.specs.Steps.{operated, Operates, CallsBody}
use Rattle.eval_step.specs.Walk.{ComesTo, ItemIn}
use Rattle.eval_step.proofs.ComesTo.{comes_to_value, comes_to_halt}

module _ (table : Table) (frame : List Value) (stack : List Item) (items : All (ItemIn (length table.nodes)) stack) (id : NodeId) (which : Node) (at : Spot) (found : slice_get table.nodes id.index ≡ Some (record { node = which; at = at })) (values : List Value) where
  -- the operation is that of the node
  came : (inside : Bool) (meant : Action) (fuel : ℕ) (answers : List Answer) → meant ≡ finish frame which values
      → then_go (operated table (run table inside) frame (slice_get table.nodes id.index) values fuel answers) (resume table inside frame stack)
      ≡ then_go (come table (run table inside) at meant fuel answers) (resume table inside frame stack)
  came inside meant fuel answers is =
      ap (λ r. then_go (operated table (run table inside) frame r values fuel answers) (resume table inside frame stack)) found
      ∙ ap (λ outcome. then_go (come table (run table inside) at outcome fuel answers) (resume table inside frame stack)) (sym is)

  pub operates_calls : (number : ℕ) (callee : List Value) (function : Function) (new : Context) (stands : Control) → Calls number callee ≡ finish frame which values
      → slice_get table.functions number ≡ Some function
      → CallsBody table function.body callee (record { frame = frame; stack = stack }) new stands
      → Operates table id values (record { frame = frame; stack = stack }) new stands
  operates_calls number callee function new stands is there calls inside =
      let called = calls inside in record {
        same = λ fuel answers.
            came inside (Calls number callee) fuel answers is
            ∙ ap (λ found_function. then_go (call (run table inside) found_function callee fuel answers) (resume table inside frame stack)) there
            ∙ called.same fuel answers;
        there = called.there;
        small = called.small;
      }

  -- the operation comes to what stands there
  abbrev OperatesTo : Bool → Control → Type 0
  OperatesTo inside stands =
      ComesTo table inside (λ fuel answers. then_go (operated table (run table inside) frame (slice_get table.nodes id.index) values fuel answers) (resume table inside frame stack))
      (2 * length stack + 3) (record { frame = frame; stack = stack }) stands

  -- what is done without a call
  pub operates_acts : (stands : Control) → Acts (finish frame which values) at stands → Operates table id values (record { frame = frame; stack = stack }) (record { frame = frame; stack = stack }) stands
  operates_acts stands acts inside = on (finish frame which values) refl acts
    where
      on : (meant : Action) → meant ≡ finish frame which values → Acts meant at stands → OperatesTo inside stands
      on (Gives v) is done = subst (OperatesTo inside) (sym done) (comes_to_value table inside _ frame stack items v (λ fuel answers. came inside (Gives v) fuel answers is))
      on (Faults code) is done = subst (OperatesTo inside) (sym done) (comes_to_halt table inside _ frame stack items (halt.Fault code at) (λ fuel answers. came inside (Faults code) fuel answers is))
      on (Asks asked) is done = subst (OperatesTo inside) (sym done) (comes_to_halt table inside _ frame stack items (halt.Ask asked at) (λ fuel answers. came inside (Asks asked) fuel answers is))
      on (Calls number callee) is done = absurd done

-- a node of another kind is no primitive, no vector and no call
pub is-act : (which : Node) → ((op : Op) (written : List NodeId) → which ≢ node.Op op written) → ((items : List NodeId) → which ≢ node.Vector items)
    → ((number : ℕ) (hidden : List ℕ) (written : List NodeId) → which ≢ node.Call number hidden written) → IsAct which
is-act (node.Op op written) no_op no_vector no_call = absurd (no_op op written refl)
is-act (node.Vector items) no_op no_vector no_call = absurd (no_vector items refl)
is-act (node.Call number hidden written) no_op no_vector no_call = absurd (no_call number hidden written refl)
is-act other no_op no_vector no_call = tt

-- ---- a node calls only a function that it names
-- a function that is called is one of the first n
abbrev pub CalledBelow : ℕ → Action → Type 0
CalledBelow n (Calls number frame) = number < n
CalledBelow n _ = Unit {0}

never_outcome : (n : ℕ) (r : Result Value OpFault) → CalledBelow n (action_of r)
never_outcome n (Ok v) = tt
never_outcome n (Err fault) = tt

never_chosen : (n : ℕ) (b : Bool) (left right : Action) → CalledBelow n left → CalledBelow n right → CalledBelow n (if b then left else right)
never_chosen n true left right l r = l
never_chosen n false left right l r = r

never_sealed : (n : ℕ) (values : List Value) (asked : Request) → CalledBelow n (sealed values asked)
never_sealed n values asked = never_chosen n (some_future values) _ _ tt tt

never_one : (n : ℕ) (form : Value → Action) → ((v : Value) → CalledBelow n (form v)) → (values : List Value) → CalledBelow n (of_one form values)
never_one n form each [] = tt
never_one n form each (v ∷ []) = each v
never_one n form each (v ∷ w ∷ values) = tt

never_two : (n : ℕ) (form : Value → Value → Action) → ((v w : Value) → CalledBelow n (form v w)) → (values : List Value) → CalledBelow n (of_two form values)
never_two n form each [] = tt
never_two n form each (v ∷ []) = tt
never_two n form each (v ∷ w ∷ []) = each v w
never_two n form each (v ∷ w ∷ u ∷ values) = tt

never_first : (n : ℕ) (form : Value → List Value → Action) → ((v : Value) (more : List Value) → CalledBelow n (form v more)) → (values : List Value) → CalledBelow n (of_first form values)
never_first n form each [] = tt
never_first n form each (v ∷ more) = each v more

never_ref : (n : ℕ) (v : one.Value-F Value) (act : List ℕ → Action) → ((name : List ℕ) → CalledBelow n (act name)) → CalledBelow n (with_ref v act)
never_ref n (one.Ref name) act each = each name
never_ref n _ act each = tt

never_actor : (n : ℕ) (v : one.Value-F Value) (act : List ℕ → Action) → ((name : List ℕ) → CalledBelow n (act name)) → CalledBelow n (with_actor v act)
never_actor n (one.Actor name) act each = each name
never_actor n _ act each = tt

never_future : (n : ℕ) (v : one.Value-F Value) (act : List ℕ → Action) → ((name : List ℕ) → CalledBelow n (act name)) → CalledBelow n (with_future v act)
never_future n (one.Future name) act each = each name
never_future n _ act each = tt

called-below : (n : ℕ) (frame : List Value) (which : Node) (values : List Value) → FunctionsBelow n which → CalledBelow n (finish frame which values)
unfolding finish
called-below n frame (node.Call number hidden written) values below = All-head (λ k. k < n) number [] below
called-below n frame (node.Spawn number hidden written) values below = never_sealed n values _
called-below n frame (node.Become number hidden written) values below = never_sealed n values _
called-below n frame (node.Vector items) values below = never_outcome n (apply_of op.Vector values)
called-below n frame (node.Map parts) values below = never_outcome n (limited (put_rule [] (paired values)))
called-below n frame (node.Op which written) values below = never_chosen n (takes_of which (length values)) _ _ (never_outcome n (apply_of which values)) tt
called-below n frame (node.Ref content) values below = never_one n _ (λ v. never_sealed n (v ∷ []) _) values
called-below n frame (node.Deref cell) values below = never_one n deref_outcome (λ v. never_ref n (out-Value v) _ (λ name. tt)) values
called-below n frame (node.RefSet cell content) values below = never_two n ref_set_outcome (λ v w. never_ref n (out-Value v) _ (λ name. never_sealed n (w ∷ []) _)) values
called-below n frame (node.Join future) values below = never_one n join_outcome (λ v. never_future n (out-Value v) _ (λ name. tt)) values
called-below n frame (node.Send receiver message) values below = never_first n send_outcome (λ v more. never_actor n (out-Value v) _ (λ name. never_sealed n more _)) values
called-below n frame other values below = tt

-- a function that a node calls is there
pub called-there : (n : ℕ) (frame : List Value) (which : Node) (values : List Value) (number : ℕ) (callee : List Value) → FunctionsBelow n which → Calls number callee ≡ finish frame which values → number < n
called-there n frame which values number callee below is = subst (CalledBelow n) (sym is) (called-below n frame which values below)
