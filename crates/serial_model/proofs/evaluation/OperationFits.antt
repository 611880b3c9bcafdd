-- What the operation of a node that fits comes to hands on frames of the right sizes.
use Rattle.std.proofs.Common.{◌≡◌, ◌∙◌, ℕ, ◌+◌, Bool, true, false, ◌&&◌, List, [], ◌∷◌, ◌++◌, length, sym, ap, subst, cond, length-append}
use Rattle.std.specs.Prelude.{◌==◌, Option, None, Some, IsTrue}
use Rattle.std.proofs.lemmas.Bool.{eqb-true}
use Rattle.std.specs.Cmp.{second_so}
use Rattle.std.specs.List.{slice_get}
use Rattle.std.specs.Option.{option_map_or}
use Rattle.std.proofs.lemmas.List.{length-map}
use Rattle.value_core.specs.declared.code.Code.TheVariants as code
use Rattle.value_core.specs.declared.op.Op.{Op}
use Rattle.value_core.specs.declared.op.Op.TheVariants as op
use Rattle.value_core.specs.declared.value.Value.{Value}
use Rattle.value_core.specs.declared.value.Value.TheOpen as one
use Rattle.value_core.specs.declared.value.Value.TheViews.{out-Value}
use Rattle.value_core.specs.declared.op_fault.OpFault.{OpFault}
use Rattle.value_core.specs.primitives.Apply.{apply_of, limited}
use Rattle.value_core.specs.primitives.Parts.{paired, put_rule}
use Rattle.value_core.specs.primitives.Words.{takes_of}
use Rattle.std.specs.Prelude.{Result, Ok, Err}
use Rattle.core_syntax.specs.declared.function.Function.{Function}
use Rattle.core_syntax.specs.declared.node.Node.{Node}
use Rattle.core_syntax.specs.declared.node.Node.TheVariants as node
use Rattle.core_syntax.specs.declared.node_id.NodeId.{NodeId}
use Rattle.core_syntax.specs.Fits.{NodeFits, all_below, function_takes, fits}
use Rattle.core_syntax.specs.Table.{Table}
use Rattle.serial_model.specs.declared.request.Request.{Request}
use Rattle.serial_model.specs.declared.request.Request.TheVariants as request
use Rattle.serial_model.specs.Operation.{Action, Faults, Asks, arguments, operate, local_value, hidden_values, action_of, applied, some_future, sealed, with_ref, with_actor, with_future, of_one, of_two, of_first, deref_outcome, ref_set_outcome, join_outcome, send_outcome}
use Rattle.serial_model.proofs.evaluation.Agree.{AskFits, OutcomeFits, CallFits}

outcome_of_fits : (functions : List Function) (sizes : List ℕ) (result : Result Value OpFault) → OutcomeFits functions sizes (action_of result)
outcome_of_fits functions sizes (Ok v) = tt
outcome_of_fits functions sizes (Err fault) = tt

applied_fits : (functions : List Function) (sizes : List ℕ) (op : Op) (values : List Value) → OutcomeFits functions sizes (applied op values)
applied_fits functions sizes op values = on (takes_of op (length values))
  where
    on : (taken : Bool) → OutcomeFits functions sizes (cond taken (action_of (apply_of op values)) (Faults code.WrongType))
    on true = outcome_of_fits functions sizes (apply_of op values)
    on false = tt

sealed_fits : (functions : List Function) (sizes : List ℕ) (values : List Value) (asked : Request) → AskFits sizes asked → OutcomeFits functions sizes (sealed values asked)
sealed_fits functions sizes values asked fits = on (some_future values)
  where
    on : (escapes : Bool) → OutcomeFits functions sizes (cond escapes (Faults code.FutureEscapes) (Asks asked))
    on true = tt
    on false = fits

with_ref_fits : (functions : List Function) (sizes : List ℕ) (v : one.Value-F Value) (act : List ℕ → Action)
    → ((name : List ℕ) → OutcomeFits functions sizes (act name)) → OutcomeFits functions sizes (with_ref v act)
with_ref_fits functions sizes (one.Ref name) act fits = fits name
with_ref_fits functions sizes _ act fits = tt

with_actor_fits : (functions : List Function) (sizes : List ℕ) (v : one.Value-F Value) (act : List ℕ → Action)
    → ((name : List ℕ) → OutcomeFits functions sizes (act name)) → OutcomeFits functions sizes (with_actor v act)
with_actor_fits functions sizes (one.Actor name) act fits = fits name
with_actor_fits functions sizes _ act fits = tt

with_future_fits : (functions : List Function) (sizes : List ℕ) (v : one.Value-F Value) (act : List ℕ → Action)
    → ((name : List ℕ) → OutcomeFits functions sizes (act name)) → OutcomeFits functions sizes (with_future v act)
with_future_fits functions sizes (one.Future name) act fits = fits name
with_future_fits functions sizes _ act fits = tt

of_one_fits : (functions : List Function) (sizes : List ℕ) (form : Value → Action) (values : List Value)
    → ((v : Value) → OutcomeFits functions sizes (form v)) → OutcomeFits functions sizes (of_one form values)
of_one_fits functions sizes form [] fits = tt
of_one_fits functions sizes form (v ∷ []) fits = fits v
of_one_fits functions sizes form (v ∷ w ∷ more) fits = tt

of_two_fits : (functions : List Function) (sizes : List ℕ) (form : Value → Value → Action) (values : List Value)
    → ((v w : Value) → OutcomeFits functions sizes (form v w)) → OutcomeFits functions sizes (of_two form values)
of_two_fits functions sizes form [] fits = tt
of_two_fits functions sizes form (v ∷ []) fits = tt
of_two_fits functions sizes form (v ∷ w ∷ []) fits = fits v w
of_two_fits functions sizes form (v ∷ w ∷ u ∷ more) fits = tt

of_first_fits : (functions : List Function) (sizes : List ℕ) (form : Value → List Value → Action) (values : List Value)
    → ((v : Value) (more : List Value) → OutcomeFits functions sizes (form v more)) → OutcomeFits functions sizes (of_first form values)
of_first_fits functions sizes form [] fits = tt
of_first_fits functions sizes form (v ∷ more) fits = fits v more

deref_fits : (functions : List Function) (sizes : List ℕ) (v : Value) → OutcomeFits functions sizes (deref_outcome v)
deref_fits functions sizes v = with_ref_fits functions sizes (out-Value v) (λ name. Asks (request.Deref name)) (λ name. tt)

ref_set_fits : (functions : List Function) (sizes : List ℕ) (v w : Value) → OutcomeFits functions sizes (ref_set_outcome v w)
ref_set_fits functions sizes v w = with_ref_fits functions sizes (out-Value v) (λ name. sealed (w ∷ []) (request.RefSet name w))
    (λ name. sealed_fits functions sizes (w ∷ []) (request.RefSet name w) tt)

join_fits : (functions : List Function) (sizes : List ℕ) (v : Value) → OutcomeFits functions sizes (join_outcome v)
join_fits functions sizes v = with_future_fits functions sizes (out-Value v) (λ name. Asks (request.Join name)) (λ name. tt)

send_fits : (functions : List Function) (sizes : List ℕ) (v : Value) (message : List Value) → OutcomeFits functions sizes (send_outcome v message)
send_fits functions sizes v message = with_actor_fits functions sizes (out-Value v) (λ name. sealed message (request.Send name message))
    (λ name. sealed_fits functions sizes message (request.Send name message) tt)

-- a call whose number of arguments is taken
called : (table : Table) (size number count : ℕ) (hidden : List ℕ) → IsTrue (all_below size hidden && function_takes table number count) → CallFits (slice_get table.functions number) count
called table size number count hidden is = on (slice_get table.functions number) (second_so (all_below size hidden) (function_takes table number count) is)
  where
    on : (found : Option Function) → option_map_or (λ f. f.takes == count) found false ≡ true → CallFits found count
    on None never = absurd (cc)
    on (Some f) same = eqb-true f.takes count same

hidden_and_written : (frame : List Value) (hidden : List ℕ) (values : List Value) → length (hidden_values frame hidden ++ values) ≡ length hidden + length values
hidden_and_written frame hidden values = length-append (hidden_values frame hidden) values ∙ ap (λ n. n + length values) (length-map hidden (local_value frame))

call_fits : (table : Table) (size : ℕ) (frame : List Value) (number : ℕ) (hidden : List ℕ) (written : List NodeId) (values : List Value)
    → IsTrue (fits takes_of table size (node.Call number hidden written)) → length values ≡ length written
    → CallFits (slice_get table.functions number) (length (hidden_values frame hidden ++ values))
call_fits table size frame number hidden written values fits many =
    subst (CallFits (slice_get table.functions number)) (ap (λ n. length hidden + n) (sym many) ∙ sym (hidden_and_written frame hidden values))
    (called table size number (length hidden + length written) hidden fits)

pub operation_fits : (table : Table) (sizes : List ℕ) (frame : List Value) (n : Node) (values : List Value) → NodeFits takes_of table sizes (length frame) n
    → length values ≡ length (arguments n) → OutcomeFits table.functions sizes (operate frame n values)
operation_fits table sizes frame node.Nil values fits many = tt
operation_fits table sizes frame (node.Bool b) values fits many = tt
operation_fits table sizes frame (node.Int k) values fits many = tt
operation_fits table sizes frame (node.Str text) values fits many = tt
operation_fits table sizes frame (node.Kw name) values fits many = tt
operation_fits table sizes frame (node.Local place) values fits many = tt
operation_fits table sizes frame (node.Vector items) values fits many = outcome_of_fits table.functions sizes (apply_of op.Vector values)
operation_fits table sizes frame (node.Map parts) values fits many = outcome_of_fits table.functions sizes (limited (put_rule [] (paired values)))
operation_fits table sizes frame (node.Do parts) values fits many = tt
operation_fits table sizes frame (node.If condition taken other) values fits many = tt
operation_fits table sizes frame (node.Let bound body) values fits many = tt
operation_fits table sizes frame (node.Call number hidden written) values fits many = call_fits table (length frame) frame number hidden written values fits.itself many
operation_fits table sizes frame (node.Op op written) values fits many = applied_fits table.functions sizes op values
operation_fits table sizes frame (node.Println written) values fits many = tt
operation_fits table sizes frame (node.Ref content) values fits many =
    of_one_fits table.functions sizes (λ v. sealed (v ∷ []) (request.NewRef v)) values (λ v. sealed_fits table.functions sizes (v ∷ []) (request.NewRef v) tt)
operation_fits table sizes frame (node.Deref cell) values fits many = of_one_fits table.functions sizes deref_outcome values (deref_fits table.functions sizes)
operation_fits table sizes frame (node.RefSet cell content) values fits many = of_two_fits table.functions sizes ref_set_outcome values (ref_set_fits table.functions sizes)
operation_fits table sizes frame (node.Fork body) values fits many = fits.inside.0
operation_fits table sizes frame (node.Join future) values fits many = of_one_fits table.functions sizes join_outcome values (join_fits table.functions sizes)
operation_fits table sizes frame (node.Dosync body) values fits many = fits.inside.0
operation_fits table sizes frame (node.Spawn number hidden written) values fits many =
    let state = hidden_values frame hidden ++ values in sealed_fits table.functions sizes state (request.Spawn number state) tt
operation_fits table sizes frame (node.Become number hidden written) values fits many =
    let state = hidden_values frame hidden ++ values in sealed_fits table.functions sizes state (request.Become number state) tt
operation_fits table sizes frame (node.Send receiver message) values fits many = of_first_fits table.functions sizes send_outcome values (send_fits table.functions sizes)
operation_fits table sizes frame node.SelfActor values fits many = tt
operation_fits table sizes frame (node.Turn takes body) values fits many = tt
operation_fits table sizes frame (node.Main steps) values fits many = tt
