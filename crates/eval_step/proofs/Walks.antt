-- Steps of a walk.
use Rattle.std.proofs.Common.{◌≡◌, ◌∙◌, ℕ, suc, ◌+◌, ◌<◌, Bool, true, List, [], ◌∷◌, ◌++◌, length, refl, sym, ap, subst, arith}
use Rattle.std.specs.Prelude.{All, IsSomeAnd, Option, None, Some}
use Rattle.std.specs.List.{slice_get}
use Rattle.std.proofs.lemmas.Option.{none-some, same_Some}
use Rattle.value_core.specs.Place.{Spot}
use Rattle.value_core.specs.declared.value.Value.{Value}
use Rattle.core_syntax.specs.declared.node.Node.{Node}
use Rattle.core_syntax.specs.declared.node.Node.TheVariants as node
use Rattle.core_syntax.specs.declared.node_id.NodeId.{NodeId}
use Rattle.core_syntax.specs.declared.row.Row.{Row}
use Rattle.core_syntax.specs.Table.{Table, node_at}
use Rattle.core_syntax.specs.WellFormed.{ChildrenBelow}
use Rattle.serial_model.specs.declared.answer.Answer.{Answer}
use Rattle.serial_model.specs.declared.halt.Halt.TheVariants as halt
use Rattle.serial_model.specs.Eval.{Got, Evals, enter, unguarded, eval, level, then_go}
use Rattle.serial_model.specs.Operation.{arguments}
use Rattle.serial_model.proofs.evaluation.Bounds.{enter-alike}
use Rattle.eval_frames.specs.declared.at.At.{At}
use Rattle.eval_frames.specs.declared.at.At.TheVariants as stand
use Rattle.eval_step.specs.declared.context.Context.{Context}
use Rattle.eval_step.specs.declared.item.Item.{Item}
use Rattle.eval_step.specs.declared.item.Item.TheVariants as item
use Rattle.eval_frames.specs.declared.registers.Registers.{Registers}
use Rattle.eval_frames.specs.declared.registers.Stop.{Stop}
use Rattle.eval_step.specs.declared.walk.Walk.{Walk}
use Rattle.eval_frames.specs.Control.{Control, standing}
use Rattle.eval_frames.specs.Control as control
use Rattle.eval_frames.specs.Leaf.{leaf_of}
use Rattle.eval_step.specs.Resume.{run, resume, arguments_on}
use Rattle.eval_step.specs.Steps.{entered, Begins, Enters, EntersWithFuel, TakesArgument, TakesLeaf, Delivers}
use Rattle.eval_step.specs.Walk.{IsThere, ItemIn, Keeps, Moves, MovesAnyhow, onto, after, weight, outcome_from}
use Rattle.eval_step.proofs.EnteringSteps.{takes_next_argument}
use Rattle.eval_step.proofs.Rows.{row_at}
use Rattle.eval_step.proofs.Runs.{run-agrees, run-spent}
use Rattle.eval_step.proofs.Taking.{arguments_on-next}

-- entering a node costs one unit of fuel, before anything else
pub run-enters : (table : Table) (inside : Bool) (frame : List Value) (id : NodeId) (fuel : ℕ) (answers : List Answer)
    → run table inside frame id (suc fuel) answers ≡ entered table inside (run table inside) frame (slice_get table.nodes id.index) fuel answers
unfolding run eval
run-enters table inside frame id fuel answers =
    let bound = enter-alike fuel _ _ (run-agrees table inside fuel) table inside frame (slice_get table.nodes id.index) fuel answers (omega arith) in
    bound.same ∙ on (run table inside) (slice_get table.nodes id.index)
  where
    on : (below : Evals) (row : Option Row) → enter unguarded table inside below frame row (suc fuel) answers ≡ entered table inside below frame row fuel answers
    on below None = refl
    on below (Some row) = refl

pub enters_with_fuel : (table : Table) (inside : Bool) (id : NodeId) (old : Walk) (new : Context) (left : ℕ) (at : At) (registers : Registers) (stands : Control) → old.left ≡ suc left
    → Enters table inside id old.context new stands
    → EntersWithFuel table inside id old (record { at = at; registers = registers; context = new; left = left }) stands
enters_with_fuel table inside id old new left at registers stands is enters = record {
  same = λ answers.
      ap (λ fuel. after table inside old.context (run table inside old.context.frame id fuel answers)) is
      ∙ ap (after table inside old.context) (run-enters table inside old.context.frame id left answers)
      ∙ enters.same left answers;
  there = enters.there;
  small = let small = enters.small in omega arith;
}

-- with no fuel left the evaluation is spent
pub enters_spent : (table : Table) (inside : Bool) (id : NodeId) (old : Walk) (registers : Registers) → old.left ≡ 0 → All (ItemIn (length table.nodes)) old.context.stack
    → EntersWithFuel table inside id old (record { at = old.at; registers = registers; context = old.context; left = old.left }) (control.Halted halt.Spent)
enters_spent table inside id old registers is items = record {
  same = λ answers.
      ap (λ fuel. after table inside old.context (run table inside old.context.frame id fuel answers)) is
      ∙ ap (after table inside old.context) (run-spent table inside old.context.frame id answers);
  there = record { items = items; here = tt };
  small = omega arith;
}

-- a node whose value shows at once comes to it, for one unit of fuel
pub leaf-runs : (table : Table) (inside : Bool) (frame : List Value) (id : NodeId) (which : Node) (v : Value) (fuel : ℕ) (answers : List Answer)
    → node_at table.nodes id ≡ Some which → leaf_of frame which ≡ Some v → run table inside frame id (suc fuel) answers ≡ Got v fuel answers
leaf-runs table inside frame id which v fuel answers seen shows =
    let r = row_at table.nodes id which seen in
    run-enters table inside frame id fuel answers
    ∙ ap (λ row. entered table inside (run table inside) frame row fuel answers) r.found
    ∙ on which r.at shows
  where
    same : (w : Value) → Some w ≡ Some v → Got w fuel answers ≡ Got v fuel answers
    same w is = ap (λ x. Got x fuel answers) (same_Some w v is)

    on : (n : Node) (at : Spot) → leaf_of frame n ≡ Some v → level table inside (run table inside) frame at n fuel answers ≡ Got v fuel answers
    on node.Nil at is = same _ is
    on (node.Bool truth) at is = same _ is
    on (node.Int number) at is = same _ is
    on (node.Str text) at is = same _ is
    on (node.Kw name) at is = same _ is
    on (node.Local place) at is = same _ is
    on (node.Vector ids) at is = absurd (none-some v is)
    on (node.Map ids) at is = absurd (none-some v is)
    on (node.Do ids) at is = absurd (none-some v is)
    on (node.If condition taken other) at is = absurd (none-some v is)
    on (node.Let ids body) at is = absurd (none-some v is)
    on (node.Call number hidden ids) at is = absurd (none-some v is)
    on (node.Op op ids) at is = absurd (none-some v is)
    on (node.Println ids) at is = absurd (none-some v is)
    on (node.Ref content) at is = absurd (none-some v is)
    on (node.Deref cell) at is = absurd (none-some v is)
    on (node.RefSet cell content) at is = absurd (none-some v is)
    on (node.Fork body) at is = absurd (none-some v is)
    on (node.Join future) at is = absurd (none-some v is)
    on (node.Dosync body) at is = absurd (none-some v is)
    on (node.Spawn number hidden ids) at is = absurd (none-some v is)
    on (node.Become number hidden ids) at is = absurd (none-some v is)
    on (node.Send receiver message) at is = absurd (none-some v is)
    on node.SelfActor at is = absurd (none-some v is)
    on (node.Turn takes body) at is = absurd (none-some v is)
    on (node.Main steps) at is = absurd (none-some v is)

-- such a node is taken as an argument
pub takes_leaf : (table : Table) (id : NodeId) (which : Node) (old : Walk) (values : List Value) (left : ℕ) (at : At) (value : Value) (stop : Stop)
    → node_at table.nodes id ≡ Some which → old.left ≡ suc left → IsSomeAnd (leaf_of old.context.frame which) (λ v. values ≡ old.registers.values ++ v ∷ [])
    → TakesLeaf table id old (record { at = at; registers = record { value = value; values = values; stop = stop }; context = old.context; left = left })
takes_leaf table id which old values left at value stop seen is pushed = on (leaf_of old.context.frame which) refl pushed
  where
    on : (found : Option Value) → leaf_of old.context.frame which ≡ found → IsSomeAnd found (λ v. values ≡ old.registers.values ++ v ∷ [])
        → TakesLeaf table id old (record { at = at; registers = record { value = value; values = values; stop = stop }; context = old.context; left = left })
    on None shows none = absurd none
    on (Some v) shows longer = record {
      leaf = v;
      ran = λ inside answers.
          ap (λ fuel. run table inside old.context.frame id fuel answers) is
          ∙ leaf-runs table inside old.context.frame id which v left answers seen shows;
      values = longer;
      context = refl;
      fewer = omega arith;
    }

-- ---- a step is a move
module _ (table : Table) (inside : Bool) (prior : Walk) (stood : At) where
  abbrev pub from : Walk
  from = record { at = stood; registers = prior.registers; context = prior.context; left = prior.left }

  -- what stands there
  from_there : (stands : Control) (answers : List Answer) → standing stood prior.registers ≡ stands
      → outcome_from table inside from answers ≡ onto table inside stands prior.context.frame prior.context.stack prior.left answers
  from_there stands answers is = ap (λ c. onto table inside c prior.context.frame prior.context.stack prior.left answers) is

  module _ (at : At) (registers : Registers) where
    pub moves_begin : (body : NodeId) (new : Context) → standing stood prior.registers ≡ control.Begin body → Begins table body prior.context new (standing at registers)
        → Moves table inside from (record { at = at; registers = registers; context = new; left = prior.left })
    moves_begin body new is begins =
        let begun = begins inside in
        let small = begun.small in
        let e : weight (standing stood prior.registers) ≡ 5 = ap weight is in
        record { same = λ answers. from_there (control.Begin body) answers is ∙ begun.same prior.left answers; there = begun.there; smaller = omega arith }

    pub moves_deliver : (v : Value) (new : Context) → standing stood prior.registers ≡ control.Deliver v → Delivers table v prior.context new (standing at registers)
        → Moves table inside from (record { at = at; registers = registers; context = new; left = prior.left })
    moves_deliver v new is delivers =
        let delivered = delivers inside in
        let small = delivered.small in
        let e : weight (standing stood prior.registers) ≡ 3 = ap weight is in
        record { same = λ answers. from_there (control.Deliver v) answers is ∙ delivered.same prior.left answers; there = delivered.there; smaller = omega arith }

    pub moves_enter : (id : NodeId) (new : Context) (left : ℕ) (before : At) → standing stood prior.registers ≡ control.Enter id
        → EntersWithFuel table inside id prior (record { at = before; registers = registers; context = new; left = left }) (standing at registers)
        → Moves table inside from (record { at = at; registers = registers; context = new; left = left })
    moves_enter id new left before is enters =
        let small = enters.small in
        let e : weight (standing stood prior.registers) ≡ 1 = ap weight is in
        record { same = λ answers. from_there (control.Enter id) answers is ∙ enters.same answers; there = enters.there; smaller = omega arith }

    pub moves_argument : (id : NodeId) (values : List Value) (number : ℕ) (new : Context) → standing stood prior.registers ≡ control.Arguments id values number
        → TakesArgument table id values number prior.context new (standing at registers)
        → Moves table inside from (record { at = at; registers = registers; context = new; left = prior.left })
    moves_argument id values number new is takes =
        let taken = takes inside in
        let small = taken.small in
        let e : weight (standing stood prior.registers) ≡ 4 = ap weight is in
        record { same = λ answers. from_there (control.Arguments id values number) answers is ∙ taken.same prior.left answers; there = taken.there; smaller = omega arith }

-- an argument whose value shows at once is taken with it
pub moves_leaf : (table : Table) (old new : Walk) (id : NodeId) (which : Node) (number : ℕ) (argument : NodeId) → All (ItemIn (length table.nodes)) old.context.stack
    → node_at table.nodes id ≡ Some which → slice_get (arguments which) number ≡ Some argument → id.index < length table.nodes → TakesLeaf table argument old new
    → MovesAnyhow table (record { at = stand.Arguments id number; registers = old.registers; context = old.context; left = old.left })
    (record { at = stand.Arguments id (number + 1); registers = new.registers; context = new.context; left = new.left })
moves_leaf table old new id which number argument items seen argument_found there taken inside =
    let r = row_at table.nodes id which seen in
    let row : Row = record { node = which; at = r.at } in
    let found : slice_get table.nodes id.index ≡ Some row = r.found in
    let frame = old.context.frame in
    let stack = old.context.stack in
    let fewer = taken.fewer in
    let P : Context → Type 0 = λ context. Moves table inside (record { at = stand.Arguments id number; registers = old.registers; context = old.context; left = old.left })
    (record { at = stand.Arguments id (number + 1); registers = new.registers; context = context; left = new.left }) in
    subst P (sym taken.context) (record {
      same = λ answers.
          ap (λ r. then_go (arguments_on table (run table inside) frame r old.registers.values number old.left answers) (resume table inside frame stack)) found
          ∙ ap (λ out. then_go out (resume table inside frame stack)) (arguments_on-next table (run table inside) frame row old.registers.values number argument old.left answers argument_found)
          ∙ ap (λ out. then_go (then_go out (λ v fuel answers. arguments_on table (run table inside) frame (Some row) (old.registers.values ++ v ∷ []) (number + 1) fuel answers)) (resume table inside frame stack)) (taken.ran inside answers)
          ∙ ap (λ values. then_go (arguments_on table (run table inside) frame (Some row) values (number + 1) new.left answers) (resume table inside frame stack)) (sym taken.values)
          ∙ ap (λ r. then_go (arguments_on table (run table inside) frame r new.registers.values (number + 1) new.left answers) (resume table inside frame stack)) (sym found);
      there = record { items = items; here = there };
      smaller = omega arith;
    })

-- another argument is entered, with the values before it in an item
pub moves_into : (table : Table) (old : Walk) (id : NodeId) (which : Node) (number : ℕ) (argument : NodeId) (registers : Registers) (new : Context) (same : Walk) → same ≡ old
    → All (ItemIn (length table.nodes)) old.context.stack → node_at table.nodes id ≡ Some which → slice_get (arguments which) number ≡ Some argument → ChildrenBelow id.index which
    → id.index < length table.nodes → new.frame ≡ same.context.frame → new.stack ≡ item.Arguments id same.registers.values (number + 1) ∷ same.context.stack
    → MovesAnyhow table (record { at = stand.Arguments id number; registers = old.registers; context = old.context; left = old.left })
    (record { at = stand.Enter argument; registers = registers; context = new; left = same.left })
moves_into table old id which number argument registers new same is items seen found below there framed pushed =
    let P : List Value → ℕ → Type 0 = λ frame left. MovesAnyhow table (record { at = stand.Arguments id number; registers = old.registers; context = old.context; left = old.left })
    (record { at = stand.Enter argument; registers = registers; context = record { frame = frame; stack = new.stack }; left = left }) in
    let kept : Walk → List Item = λ w. item.Arguments id w.registers.values (number + 1) ∷ w.context.stack in
    let frame_is : new.frame ≡ old.context.frame = framed ∙ ap (λ (w : Walk). w.context.frame) is in
    subst (λ f. P f same.left) (sym frame_is) (subst (P old.context.frame) (sym (ap (λ (w : Walk). w.left) is)) (λ inside.
    moves_argument table inside old (stand.Arguments id number) (stand.Enter argument) registers
    id old.registers.values number (record { frame = old.context.frame; stack = new.stack }) refl
    (takes_next_argument table old.context.frame old.context.stack items id which old.registers.values number argument new.stack seen found below there (pushed ∙ ap kept is))))

-- ---- one after another
pub keeps-still : (table : Table) (old : Walk) → IsThere table old → Keeps table old old
keeps-still table old there = record { same = λ inside answers. refl; there = there; most = omega arith }

pub keeps-moves : (table : Table) (old mid new : Walk) → Keeps table old mid → MovesAnyhow table mid new → MovesAnyhow table old new
keeps-moves table old mid new keeps moves inside =
    let moved = moves inside in
    let most = keeps.most in
    let smaller = moved.smaller in
    record { same = λ answers. keeps.same inside answers ∙ moved.same answers; there = moved.there; smaller = omega arith }

pub keeps-more : (table : Table) (old mid new : Walk) → Keeps table old mid → MovesAnyhow table mid new → Keeps table old new
keeps-more table old mid new keeps moves =
    let moved = moves true in
    let most = keeps.most in
    let smaller = moved.smaller in
    record { same = λ inside answers. keeps.same inside answers ∙ (moves inside).same answers; there = moved.there; most = omega arith }
