-- The evaluations of a program whose nodes fit meet no node that doesn't.
use Rattle.std.proofs.Common.{◌≡◌, ◌∙◌, ◌⊎◌, inl, inr, ℕ, zero, suc, ◌<◌, Bool, true, false, List, length, map, refl, sym, ap, subst, cond, get_or}
use Rattle.std.specs.Prelude.{◌==◌, Option, None, Some, IsSomeAnd}
use Rattle.std.specs.List.{slice_get}
use Rattle.std.specs.Option.{option_map}
use Rattle.std.proofs.lemmas.Option.{slice_get_within, slice_get-get_or}
use Rattle.std.proofs.lemmas.Bool.{eqb-true}
use Rattle.std.proofs.lemmas.List.Elements.{All-contains}
use Rattle.value_core.specs.Place.{Spot}
use Rattle.value_core.specs.declared.code.Code.TheVariants as code
use Rattle.value_core.specs.declared.value.Value.{Value}
use Rattle.value_core.specs.declared.value.Value.TheVariants as value
use Rattle.value_core.specs.primitives.Kinds.{is_false}
use Rattle.value_core.specs.primitives.Words.{takes_of}
use Rattle.core_syntax.specs.declared.node.Node.{Node}
use Rattle.core_syntax.specs.declared.node.Node.TheVariants as node
use Rattle.core_syntax.specs.declared.node_id.NodeId.{NodeId}
use Rattle.core_syntax.specs.declared.row.Row.{Row}
use Rattle.core_syntax.specs.Children.{children}
use Rattle.core_syntax.specs.Fits.{AreSizes, IsFitting, NodeFits, HaveSizes, step_sizes}
use Rattle.core_syntax.specs.Table.{Table}
use Rattle.core_syntax.specs.WellFormed.{IsWellFormed, IsTurn, IsTurnAt}
use Rattle.serial_model.specs.declared.answer.Answer.{Answer}
use Rattle.serial_model.specs.declared.halt.Halt.{Halt}
use Rattle.serial_model.specs.declared.halt.Halt.TheVariants as halt
use Rattle.serial_model.specs.declared.request.Request.TheVariants as request
use Rattle.serial_model.specs.Eval.{Out, Got, Stop, Evals, come, by_arguments, dosync, choose, level, unguarded, enter, eval, turn as turn_out, begin, begin_at, end_of, guarded_out, next}
use Rattle.serial_model.specs.Fitting.{fitting, IsBegun, main, turn, task, transaction as transaction_begun, MeetsNoMisfit}
use Rattle.serial_model.specs.Operation.{arguments, operate}
use Rattle.serial_model.proofs.evaluation.Agree.{Agree, EvalsAgree, OutFits, HaltFits, all_of_size, got_agrees, stop_agrees, then_agrees, each_agrees, in_turn_agrees, bind_agrees, choose_agrees, come_agrees, run_steps_agrees}
use Rattle.serial_model.proofs.evaluation.OperationFits.{operation_fits}

-- the arguments of a node are children that have its size
arguments_fit : (table : Table) (sizes : List ℕ) (size : ℕ) (n : Node) → NodeFits takes_of table sizes size n → HaveSizes sizes (children n) (all_of_size size (children n))
    → HaveSizes sizes (arguments n) (all_of_size size (arguments n))
arguments_fit table sizes size (node.Fork body) fits have = tt
arguments_fit table sizes size (node.Dosync body) fits have = tt
arguments_fit table sizes size (node.Turn takes body) fits have = tt
arguments_fit table sizes size (node.Main steps) fits have = tt
arguments_fit table sizes size node.Nil fits have = have
arguments_fit table sizes size (node.Bool b) fits have = have
arguments_fit table sizes size (node.Int k) fits have = have
arguments_fit table sizes size (node.Str text) fits have = have
arguments_fit table sizes size (node.Kw name) fits have = have
arguments_fit table sizes size (node.Local place) fits have = have
arguments_fit table sizes size (node.Vector items) fits have = have
arguments_fit table sizes size (node.Map parts) fits have = have
arguments_fit table sizes size (node.Do parts) fits have = have
arguments_fit table sizes size (node.If condition taken other) fits have = have
arguments_fit table sizes size (node.Let bound body) fits have = have
arguments_fit table sizes size (node.Call number hidden written) fits have = have
arguments_fit table sizes size (node.Op op written) fits have = have
arguments_fit table sizes size (node.Println written) fits have = have
arguments_fit table sizes size (node.Ref content) fits have = have
arguments_fit table sizes size (node.Deref cell) fits have = have
arguments_fit table sizes size (node.RefSet cell content) fits have = have
arguments_fit table sizes size (node.Join future) fits have = have
arguments_fit table sizes size (node.Spawn number hidden written) fits have = have
arguments_fit table sizes size (node.Become number hidden written) fits have = have
arguments_fit table sizes size (node.Send receiver message) fits have = have
arguments_fit table sizes size node.SelfActor fits have = have

-- two evaluations of one table's nodes, whose frames have these sizes
record Side (table : Table) (sizes : List ℕ) (ev fv : Evals) : Type 0 where
  pub are : AreSizes takes_of table sizes
  pub agree : EvalsAgree sizes ev fv

by_arguments_agrees : (table : Table) (sizes : List ℕ) (ev fv : Evals) → Side table sizes ev fv → (frame : List Value) (at : Spot) (n : Node) (fuel : ℕ) (answers : List Answer)
    → NodeFits takes_of table sizes (length frame) n → HaveSizes sizes (children n) (all_of_size (length frame) (children n))
    → Agree sizes (by_arguments table ev frame at n fuel answers) (by_arguments table fv frame at n fuel answers)
by_arguments_agrees table sizes ev fv side frame at n fuel answers fits have =
    each_agrees sizes ev fv side.agree frame (arguments n) fuel answers (λ values. come table ev at (operate frame n values)) (λ values. come table fv at (operate frame n values))
    (arguments_fit table sizes (length frame) n fits have)
    (λ values fuel answers many. come_agrees sizes table ev fv side.agree side.are.functions at (operate frame n values) fuel answers (operation_fits table sizes frame n values fits many))

transaction_agrees : (table : Table) (sizes : List ℕ) (inside : Bool) (ev fv : Evals) → Side table sizes ev fv → (frame : List Value) (at : Spot) (body : NodeId) (fuel : ℕ) (answers : List Answer)
    → NodeFits takes_of table sizes (length frame) (node.Dosync body)
    → Agree sizes (dosync table inside ev frame at body fuel answers) (dosync table inside fv frame at body fuel answers)
transaction_agrees table sizes true ev fv side frame at body fuel answers fits = side.agree frame body fuel answers fits.inside.0
transaction_agrees table sizes false ev fv side frame at body fuel answers fits = by_arguments_agrees table sizes ev fv side frame at (node.Dosync body) fuel answers fits fits.inside

level_agrees : (table : Table) (sizes : List ℕ) (inside : Bool) (ev fv : Evals) → Side table sizes ev fv → (frame : List Value) (at : Spot) (n : Node) (fuel : ℕ) (answers : List Answer)
    → NodeFits takes_of table sizes (length frame) n → Agree sizes (level table inside ev frame at n fuel answers) (level table inside fv frame at n fuel answers)
level_agrees table sizes inside ev fv side frame at (node.Do parts) fuel answers fits = in_turn_agrees sizes ev fv side.agree frame parts fuel answers fits.inside
level_agrees table sizes inside ev fv side frame at (node.If condition taken other) fuel answers fits =
    then_agrees sizes (ev frame condition fuel answers) (fv frame condition fuel answers)
    (λ v fuel answers. choose ev frame (is_false v) taken other fuel answers) (λ v fuel answers. choose fv frame (is_false v) taken other fuel answers)
    (side.agree frame condition fuel answers fits.inside.0)
    (λ v fuel answers. choose_agrees sizes ev fv side.agree frame (is_false v) taken other fuel answers fits.inside.1.0 fits.inside.1.1.0)
level_agrees table sizes inside ev fv side frame at (node.Let bound body) fuel answers fits = bind_agrees sizes ev fv side.agree frame bound body fuel answers fits.inside
level_agrees table sizes inside ev fv side frame at (node.Dosync body) fuel answers fits = transaction_agrees table sizes inside ev fv side frame at body fuel answers fits
level_agrees table sizes inside ev fv side frame at node.Nil fuel answers fits = by_arguments_agrees table sizes ev fv side frame at node.Nil fuel answers fits fits.inside
level_agrees table sizes inside ev fv side frame at (node.Bool b) fuel answers fits = by_arguments_agrees table sizes ev fv side frame at (node.Bool b) fuel answers fits fits.inside
level_agrees table sizes inside ev fv side frame at (node.Int k) fuel answers fits = by_arguments_agrees table sizes ev fv side frame at (node.Int k) fuel answers fits fits.inside
level_agrees table sizes inside ev fv side frame at (node.Str text) fuel answers fits = by_arguments_agrees table sizes ev fv side frame at (node.Str text) fuel answers fits fits.inside
level_agrees table sizes inside ev fv side frame at (node.Kw name) fuel answers fits = by_arguments_agrees table sizes ev fv side frame at (node.Kw name) fuel answers fits fits.inside
level_agrees table sizes inside ev fv side frame at (node.Local place) fuel answers fits = by_arguments_agrees table sizes ev fv side frame at (node.Local place) fuel answers fits fits.inside
level_agrees table sizes inside ev fv side frame at (node.Vector items) fuel answers fits = by_arguments_agrees table sizes ev fv side frame at (node.Vector items) fuel answers fits fits.inside
level_agrees table sizes inside ev fv side frame at (node.Map parts) fuel answers fits = by_arguments_agrees table sizes ev fv side frame at (node.Map parts) fuel answers fits fits.inside
level_agrees table sizes inside ev fv side frame at (node.Call number hidden written) fuel answers fits = by_arguments_agrees table sizes ev fv side frame at (node.Call number hidden written) fuel answers fits fits.inside
level_agrees table sizes inside ev fv side frame at (node.Op op written) fuel answers fits = by_arguments_agrees table sizes ev fv side frame at (node.Op op written) fuel answers fits fits.inside
level_agrees table sizes inside ev fv side frame at (node.Println written) fuel answers fits = by_arguments_agrees table sizes ev fv side frame at (node.Println written) fuel answers fits fits.inside
level_agrees table sizes inside ev fv side frame at (node.Ref content) fuel answers fits = by_arguments_agrees table sizes ev fv side frame at (node.Ref content) fuel answers fits fits.inside
level_agrees table sizes inside ev fv side frame at (node.Deref cell) fuel answers fits = by_arguments_agrees table sizes ev fv side frame at (node.Deref cell) fuel answers fits fits.inside
level_agrees table sizes inside ev fv side frame at (node.RefSet cell content) fuel answers fits = by_arguments_agrees table sizes ev fv side frame at (node.RefSet cell content) fuel answers fits fits.inside
level_agrees table sizes inside ev fv side frame at (node.Fork body) fuel answers fits = by_arguments_agrees table sizes ev fv side frame at (node.Fork body) fuel answers fits fits.inside
level_agrees table sizes inside ev fv side frame at (node.Join future) fuel answers fits = by_arguments_agrees table sizes ev fv side frame at (node.Join future) fuel answers fits fits.inside
level_agrees table sizes inside ev fv side frame at (node.Spawn number hidden written) fuel answers fits = by_arguments_agrees table sizes ev fv side frame at (node.Spawn number hidden written) fuel answers fits fits.inside
level_agrees table sizes inside ev fv side frame at (node.Become number hidden written) fuel answers fits = by_arguments_agrees table sizes ev fv side frame at (node.Become number hidden written) fuel answers fits fits.inside
level_agrees table sizes inside ev fv side frame at (node.Send receiver message) fuel answers fits = by_arguments_agrees table sizes ev fv side frame at (node.Send receiver message) fuel answers fits fits.inside
level_agrees table sizes inside ev fv side frame at node.SelfActor fuel answers fits = by_arguments_agrees table sizes ev fv side frame at node.SelfActor fuel answers fits fits.inside
level_agrees table sizes inside ev fv side frame at (node.Turn takes body) fuel answers fits = got_agrees sizes value.Nil fuel answers
level_agrees table sizes inside ev fv side frame at (node.Main steps) fuel answers fits = got_agrees sizes value.Nil fuel answers

-- a node that fits comes to the same under the guard
guard_passes : (amiss : Out) (table : Table) (sizes : List ℕ) (size : ℕ) (n : Node) (a b : Out) → NodeFits takes_of table sizes size n → Agree sizes a b
    → Agree sizes (fitting amiss table size n a) (unguarded size n b)
guard_passes amiss table sizes size n a b node_fits agree = subst (λ passes. Agree sizes (cond passes a amiss) b) (sym node_fits.itself) agree

enter_agrees : (amiss : Out) (table : Table) (sizes : List ℕ) (inside : Bool) (ev fv : Evals) → Side table sizes ev fv → (frame : List Value) (id : NodeId) (fuel : ℕ) (answers : List Answer)
    → slice_get sizes id.index ≡ Some (length frame)
    → Agree sizes (enter (fitting amiss table) table inside ev frame (slice_get table.nodes id.index) fuel answers) (enter unguarded table inside fv frame (slice_get table.nodes id.index) fuel answers)
enter_agrees amiss table sizes inside ev fv side frame id fuel answers sized = on (slice_get table.nodes id.index) refl fuel
  where
    on : (row : Option Row) → slice_get table.nodes id.index ≡ row → (fuel : ℕ)
        → Agree sizes (enter (fitting amiss table) table inside ev frame row fuel answers) (enter unguarded table inside fv frame row fuel answers)
    on None is zero = stop_agrees sizes halt.Spent tt
    on (Some row) is zero = stop_agrees sizes halt.Spent tt
    on None is (suc fuel) = got_agrees sizes value.Nil fuel answers
    on (Some row) is (suc fuel) =
        let node_fits = side.are.nodes id.index row (length frame) is sized in
        guard_passes amiss table sizes (length frame) row.node (level table inside ev frame row.at row.node fuel answers) (level table inside fv frame row.at row.node fuel answers)
        node_fits (level_agrees table sizes inside ev fv side frame row.at row.node fuel answers node_fits)

eval_agrees : (amiss : Out) (table : Table) (sizes : List ℕ) → AreSizes takes_of table sizes → (inside : Bool) (depth : ℕ)
    → EvalsAgree sizes (eval (fitting amiss table) table inside depth) (eval unguarded table inside depth)
unfolding eval
eval_agrees amiss table sizes are inside zero = λ frame id fuel answers sized. stop_agrees sizes halt.Spent tt
eval_agrees amiss table sizes are inside (suc depth) = λ frame id fuel answers sized.
    enter_agrees amiss table sizes inside (λ frame id fuel answers. eval (fitting amiss table) table inside depth frame id fuel answers) (λ frame id fuel answers. eval unguarded table inside depth frame id fuel answers)
    (record { are = are; agree = eval_agrees amiss table sizes are inside depth }) frame id fuel answers sized

-- a body begins with values that fit: as many as its frame has, or any, where it is a turn
data Fits (table : Table) (sizes : List ℕ) (body : NodeId) (values : List Value) : Type 0 where
  sized : slice_get sizes body.index ≡ Some (length values) → Fits table sizes body values
  turns : IsTurnAt table.nodes body → Fits table sizes body values

-- each node that is there has a size
size_of : (table : Table) (sizes : List ℕ) → AreSizes takes_of table sizes → (k : ℕ) (row : Row) → slice_get table.nodes k ≡ Some row → slice_get sizes k ≡ Some (get_or sizes k 0)
size_of table sizes are k row is = slice_get-get_or sizes k 0 (subst (λ n. k < n) (sym are.each) (slice_get_within table.nodes k row is))

turn_agrees : (table : Table) (sizes : List ℕ) (ev fv : Evals) → Side table sizes ev fv → (values : List Value) (at : Spot) (takes : ℕ) (inner : NodeId) (fuel : ℕ) (answers : List Answer)
    → slice_get sizes inner.index ≡ Some takes → Agree sizes (turn_out ev values at (length values == takes) inner fuel answers) (turn_out fv values at (length values == takes) inner fuel answers)
turn_agrees table sizes ev fv side values at takes inner fuel answers has = on (length values == takes) refl
  where
    on : (fitted : Bool) → (length values == takes) ≡ fitted → Agree sizes (turn_out ev values at fitted inner fuel answers) (turn_out fv values at fitted inner fuel answers)
    on true is = side.agree values inner fuel answers (has ∙ ap Some (sym (eqb-true (length values) takes is)))
    on false is = stop_agrees sizes (halt.Fault code.MessageArity at) tt

begin_agrees : (table : Table) (sizes : List ℕ) (ev fv : Evals) → Side table sizes ev fv → (body : NodeId) (values : List Value) (at : Spot) (n : Node) (size : ℕ) (fuel : ℕ) (answers : List Answer)
    → NodeFits takes_of table sizes size n → (size ≡ length values) ⊎ IsTurn n → slice_get sizes body.index ≡ Some size
    → Agree sizes (begin ev body values at n fuel answers) (begin fv body values at n fuel answers)
begin_agrees table sizes ev fv side body values at (node.Turn takes inner) size fuel answers fits starts is = turn_agrees table sizes ev fv side values at takes inner fuel answers fits.inside.0
begin_agrees table sizes ev fv side body values at (node.Main steps) size fuel answers fits (inl same) is =
    run_steps_agrees sizes ev fv side.agree values steps fuel answers (subst (λ k. HaveSizes sizes (map (λ step. step.node) steps) (step_sizes k steps)) same fits.inside)
begin_agrees table sizes ev fv side body values at (node.Main steps) size fuel answers fits (inr none) is = absurd none
begin_agrees table sizes ev fv side body values at node.Nil size fuel answers fits (inl same) is = side.agree values body fuel answers (is ∙ ap Some same)
begin_agrees table sizes ev fv side body values at node.Nil size fuel answers fits (inr none) is = absurd none
begin_agrees table sizes ev fv side body values at (node.Bool b) size fuel answers fits (inl same) is = side.agree values body fuel answers (is ∙ ap Some same)
begin_agrees table sizes ev fv side body values at (node.Bool b) size fuel answers fits (inr none) is = absurd none
begin_agrees table sizes ev fv side body values at (node.Int k) size fuel answers fits (inl same) is = side.agree values body fuel answers (is ∙ ap Some same)
begin_agrees table sizes ev fv side body values at (node.Int k) size fuel answers fits (inr none) is = absurd none
begin_agrees table sizes ev fv side body values at (node.Str text) size fuel answers fits (inl same) is = side.agree values body fuel answers (is ∙ ap Some same)
begin_agrees table sizes ev fv side body values at (node.Str text) size fuel answers fits (inr none) is = absurd none
begin_agrees table sizes ev fv side body values at (node.Kw name) size fuel answers fits (inl same) is = side.agree values body fuel answers (is ∙ ap Some same)
begin_agrees table sizes ev fv side body values at (node.Kw name) size fuel answers fits (inr none) is = absurd none
begin_agrees table sizes ev fv side body values at (node.Local place) size fuel answers fits (inl same) is = side.agree values body fuel answers (is ∙ ap Some same)
begin_agrees table sizes ev fv side body values at (node.Local place) size fuel answers fits (inr none) is = absurd none
begin_agrees table sizes ev fv side body values at (node.Vector items) size fuel answers fits (inl same) is = side.agree values body fuel answers (is ∙ ap Some same)
begin_agrees table sizes ev fv side body values at (node.Vector items) size fuel answers fits (inr none) is = absurd none
begin_agrees table sizes ev fv side body values at (node.Map parts) size fuel answers fits (inl same) is = side.agree values body fuel answers (is ∙ ap Some same)
begin_agrees table sizes ev fv side body values at (node.Map parts) size fuel answers fits (inr none) is = absurd none
begin_agrees table sizes ev fv side body values at (node.Do parts) size fuel answers fits (inl same) is = side.agree values body fuel answers (is ∙ ap Some same)
begin_agrees table sizes ev fv side body values at (node.Do parts) size fuel answers fits (inr none) is = absurd none
begin_agrees table sizes ev fv side body values at (node.If condition taken other) size fuel answers fits (inl same) is = side.agree values body fuel answers (is ∙ ap Some same)
begin_agrees table sizes ev fv side body values at (node.If condition taken other) size fuel answers fits (inr none) is = absurd none
begin_agrees table sizes ev fv side body values at (node.Let bound last) size fuel answers fits (inl same) is = side.agree values body fuel answers (is ∙ ap Some same)
begin_agrees table sizes ev fv side body values at (node.Let bound last) size fuel answers fits (inr none) is = absurd none
begin_agrees table sizes ev fv side body values at (node.Call number hidden written) size fuel answers fits (inl same) is = side.agree values body fuel answers (is ∙ ap Some same)
begin_agrees table sizes ev fv side body values at (node.Call number hidden written) size fuel answers fits (inr none) is = absurd none
begin_agrees table sizes ev fv side body values at (node.Op op written) size fuel answers fits (inl same) is = side.agree values body fuel answers (is ∙ ap Some same)
begin_agrees table sizes ev fv side body values at (node.Op op written) size fuel answers fits (inr none) is = absurd none
begin_agrees table sizes ev fv side body values at (node.Println written) size fuel answers fits (inl same) is = side.agree values body fuel answers (is ∙ ap Some same)
begin_agrees table sizes ev fv side body values at (node.Println written) size fuel answers fits (inr none) is = absurd none
begin_agrees table sizes ev fv side body values at (node.Ref content) size fuel answers fits (inl same) is = side.agree values body fuel answers (is ∙ ap Some same)
begin_agrees table sizes ev fv side body values at (node.Ref content) size fuel answers fits (inr none) is = absurd none
begin_agrees table sizes ev fv side body values at (node.Deref cell) size fuel answers fits (inl same) is = side.agree values body fuel answers (is ∙ ap Some same)
begin_agrees table sizes ev fv side body values at (node.Deref cell) size fuel answers fits (inr none) is = absurd none
begin_agrees table sizes ev fv side body values at (node.RefSet cell content) size fuel answers fits (inl same) is = side.agree values body fuel answers (is ∙ ap Some same)
begin_agrees table sizes ev fv side body values at (node.RefSet cell content) size fuel answers fits (inr none) is = absurd none
begin_agrees table sizes ev fv side body values at (node.Fork task_body) size fuel answers fits (inl same) is = side.agree values body fuel answers (is ∙ ap Some same)
begin_agrees table sizes ev fv side body values at (node.Fork task_body) size fuel answers fits (inr none) is = absurd none
begin_agrees table sizes ev fv side body values at (node.Join future) size fuel answers fits (inl same) is = side.agree values body fuel answers (is ∙ ap Some same)
begin_agrees table sizes ev fv side body values at (node.Join future) size fuel answers fits (inr none) is = absurd none
begin_agrees table sizes ev fv side body values at (node.Dosync task_body) size fuel answers fits (inl same) is = side.agree values body fuel answers (is ∙ ap Some same)
begin_agrees table sizes ev fv side body values at (node.Dosync task_body) size fuel answers fits (inr none) is = absurd none
begin_agrees table sizes ev fv side body values at (node.Spawn number hidden written) size fuel answers fits (inl same) is = side.agree values body fuel answers (is ∙ ap Some same)
begin_agrees table sizes ev fv side body values at (node.Spawn number hidden written) size fuel answers fits (inr none) is = absurd none
begin_agrees table sizes ev fv side body values at (node.Become number hidden written) size fuel answers fits (inl same) is = side.agree values body fuel answers (is ∙ ap Some same)
begin_agrees table sizes ev fv side body values at (node.Become number hidden written) size fuel answers fits (inr none) is = absurd none
begin_agrees table sizes ev fv side body values at (node.Send receiver message) size fuel answers fits (inl same) is = side.agree values body fuel answers (is ∙ ap Some same)
begin_agrees table sizes ev fv side body values at (node.Send receiver message) size fuel answers fits (inr none) is = absurd none
begin_agrees table sizes ev fv side body values at node.SelfActor size fuel answers fits (inl same) is = side.agree values body fuel answers (is ∙ ap Some same)
begin_agrees table sizes ev fv side body values at node.SelfActor size fuel answers fits (inr none) is = absurd none

begins : (amiss : Out) (table : Table) (sizes : List ℕ) → AreSizes takes_of table sizes → (body : NodeId) (values : List Value) (inside : Bool) (answers : List Answer) (fuel : ℕ)
    → Fits table sizes body values
    → Agree sizes (guarded_out (fitting amiss table) table body values inside answers fuel) (guarded_out unguarded table body values inside answers fuel)
begins amiss table sizes are body values inside answers fuel fit = on (slice_get table.nodes body.index) refl fit
  where
    side : Side table sizes (eval (fitting amiss table) table inside fuel) (eval unguarded table inside fuel)
    side = record { are = are; agree = eval_agrees amiss table sizes are inside fuel }

    on : (row : Option Row) → slice_get table.nodes body.index ≡ row → Fits table sizes body values
        → Agree sizes (begin_at (eval (fitting amiss table) table inside fuel) body values row fuel answers) (begin_at (eval unguarded table inside fuel) body values row fuel answers)
    on None is (sized fits) = side.agree values body fuel answers fits
    on None is (turns is_turn) = absurd (subst (λ row. IsSomeAnd (option_map (λ r. r.node) row) IsTurn) is is_turn)
    on (Some row) is (sized fits) =
        begin_agrees table sizes (eval (fitting amiss table) table inside fuel) (eval unguarded table inside fuel) side body values row.at row.node (length values) fuel answers
        (are.nodes body.index row (length values) is fits) (inl refl) fits
    on (Some row) is (turns is_turn) =
        let there = size_of table sizes are body.index row is in
        begin_agrees table sizes (eval (fitting amiss table) table inside fuel) (eval unguarded table inside fuel) side body values row.at row.node (get_or sizes body.index 0) fuel answers
        (are.nodes body.index row (get_or sizes body.index 0) is there) (inr (subst (λ row. IsSomeAnd (option_map (λ r. r.node) row) IsTurn) is is_turn)) there

-- what an evaluation asks for fits
asked_fits : (table : Table) (sizes : List ℕ) → AreSizes takes_of table sizes → (body : NodeId) (values : List Value) (inside : Bool) (answers : List Answer) (fuel : ℕ) (end : Halt)
    → Fits table sizes body values → next table body values inside answers fuel ≡ end → HaltFits sizes end
unfolding next
asked_fits table sizes are body values inside answers fuel end fit is =
    subst (HaltFits sizes) is (on (guarded_out unguarded table body values inside answers fuel) (begins (Stop halt.Spent) table sizes are body values inside answers fuel fit).fits)
  where
    on : (out : Out) → OutFits sizes out → HaltFits sizes (end_of out)
    on (Got v fuel answers) fits = tt
    on (Stop at_end) fits = fits

begun_fits : (table : Table) (sizes : List ℕ) → AreSizes takes_of table sizes → IsWellFormed table → (body : NodeId) (values : List Value) → IsBegun table body values → Fits table sizes body values
begun_fits table sizes are formed body values main = sized are.main
begun_fits table sizes are formed body values (turn b given there) = turns (All-contains (λ b. IsTurnAt table.nodes b.body) table.behaviours b formed.turns_there there)
begun_fits table sizes are formed inner frame (task {body} {values = args} {at} inside answers fuel begun asks) =
    sized (asked_fits table sizes are body args inside answers fuel (halt.Ask (request.Fork inner frame) at) (begun_fits table sizes are formed body args begun) asks)
begun_fits table sizes are formed inner frame (transaction_begun {body} {values = args} {at} inside answers fuel begun asks) =
    sized (asked_fits table sizes are body args inside answers fuel (halt.Ask (request.Dosync inner frame) at) (begun_fits table sizes are formed body args begun) asks)

-- whatever a program's evaluation begins with, and whatever it is answered, it meets no node that doesn't fit
pub meets_no_misfit : (table : Table) → IsWellFormed table → IsFitting takes_of table → (body : NodeId) (values : List Value) → IsBegun table body values → MeetsNoMisfit table body values
meets_no_misfit table formed fitting body values begun = λ amiss inside answers fuel.
    (begins amiss table fitting.sizes fitting.are body values inside answers fuel (begun_fits table fitting.sizes fitting.are formed body values begun)).same
