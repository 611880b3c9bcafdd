-- A node is entered, or a body begins.
use Rattle.std.proofs.lemmas.List.Elements.{All-nil, All-head, All-tail}
use Rattle.core_syntax.specs.WellFormed.{IsBelow, ChildrenBelow}
use Rattle.std.proofs.Common.{eq-eqb, ◌≡◌, ◌≢◌, ◌∙◌, ℕ, ◌+◌, ◌*◌, ◌<◌, ◌≤◌, Bool, true, false, List, [], ◌∷◌, length, refl, sym, ap, subst, arith}
use Rattle.std.specs.Prelude.{All, Some}
use Rattle.std.specs.List.{slice_get}
use Rattle.value_core.specs.Place.{Spot}
use Rattle.value_core.specs.declared.value.Value.{Value}
use Rattle.core_syntax.specs.declared.node.Node.{Node}
use Rattle.core_syntax.specs.declared.node.Node.TheVariants as node
use Rattle.core_syntax.specs.declared.node_id.NodeId.{NodeId}
use Rattle.core_syntax.specs.declared.step.Step.{Step}
use Rattle.core_syntax.specs.Table.{Table, node_at}
use Rattle.serial_model.specs.declared.answer.Answer.{Answer}
use Rattle.serial_model.specs.Eval.{Out, Evals, then_go, level, by_arguments, dosync, in_turn, begin_at, run_steps, turn}
use Rattle.serial_model.specs.Operation.{local_value}
use Rattle.eval_step.specs.declared.context.Context.{Context}
use Rattle.eval_frames.specs.Control.{Control}
use Rattle.eval_frames.specs.Control as control
use Rattle.eval_step.specs.declared.item.Item.{Item}
use Rattle.eval_step.specs.declared.item.Item.TheVariants as item
use Rattle.eval_step.specs.Resume.{run, resume, parts_on, bound_on, steps_on}
use Rattle.eval_step.specs.Steps.{argued, entered, Begins, Enters, EntersArguments, TakesPart, TakesBound, TakesStep}
use Rattle.eval_step.specs.Unread.{GoesOnAlike}
use Rattle.eval_step.specs.Walk.{ItemIn}
use Rattle.eval_step.proofs.ComesTo.{comes_to_pushed, comes_to_node, comes_to_more}
use Rattle.eval_step.proofs.Sequencing.{then_go-assoc, then_go-nothing}
use Rattle.eval_step.proofs.Rows.{row_at}
use Rattle.eval_step.proofs.Taking.{drop_zero, bound_on-first}

module _ (table : Table) (inside : Bool) (frame : List Value) (stack : List Item) (items : All (ItemIn (length table.nodes)) stack) (id : NodeId) (which : Node) (seen : node_at table.nodes id ≡ Some which) where
  -- what is entered is that node
  enters_node : (at : Spot) (fuel : ℕ) (answers : List Answer) → slice_get table.nodes id.index ≡ Some (record { node = which; at = at })
      → then_go (entered table inside (run table inside) frame (slice_get table.nodes id.index) fuel answers) (resume table inside frame stack)
      ≡ then_go (level table inside (run table inside) frame at which fuel answers) (resume table inside frame stack)
  enters_node at fuel answers found = ap (λ r. then_go (entered table inside (run table inside) frame r fuel answers) (resume table inside frame stack)) found

  pub enters_do : (parts : List NodeId) (new : Context) (stands : Control) → which ≡ node.Do parts
      → TakesPart table id 0 (record { frame = frame; stack = stack }) new stands → Enters table inside id (record { frame = frame; stack = stack }) new stands
  enters_do parts new stands is takes =
      let r = row_at table.nodes id which seen in
      let taken = takes inside in record {
        same = λ fuel answers.
            enters_node r.at fuel answers r.found
            ∙ ap (λ n. then_go (level table inside (run table inside) frame r.at n fuel answers) (resume table inside frame stack)) is
            ∙ ap (λ ids. then_go (in_turn (run table inside) frame ids fuel answers) (resume table inside frame stack)) (sym (drop_zero parts))
            ∙ ap (λ n. then_go (parts_on (run table inside) frame n 0 fuel answers) (resume table inside frame stack)) (sym (seen ∙ ap (λ n. Some n) is))
            ∙ taken.same fuel answers;
        there = taken.there;
        small = let small = taken.small in omega arith;
      }

  pub enters_let : (bound : List NodeId) (body : NodeId) (new : Context) (stands : Control) → which ≡ node.Let bound body
      → TakesBound table id 0 (record { frame = frame; stack = stack }) new stands → Enters table inside id (record { frame = frame; stack = stack }) new stands
  enters_let bound body new stands is takes =
      let r = row_at table.nodes id which seen in
      let taken = takes inside in record {
        same = λ fuel answers.
            enters_node r.at fuel answers r.found
            ∙ ap (λ n. then_go (level table inside (run table inside) frame r.at n fuel answers) (resume table inside frame stack)) is
            ∙ bound_on-first (run table inside) frame bound body (λ outer. resume table inside outer stack) fuel answers
            ∙ ap (λ n. bound_on (run table inside) frame n 0 (λ outer. resume table inside outer stack) fuel answers) (sym (seen ∙ ap (λ n. Some n) is))
            ∙ taken.same fuel answers;
        there = taken.there;
        small = let small = taken.small in omega arith;
      }

  pub enters_if : (condition taken other : NodeId) (new : List Item) → which ≡ node.If condition taken other
      → ChildrenBelow id.index which → id.index < length table.nodes → new ≡ item.Choose taken other ∷ stack
      → Enters table inside id (record { frame = frame; stack = stack }) (record { frame = frame; stack = new }) (control.Enter condition)
  unfolding resume
  enters_if condition taken other new is below there pushed =
      let r = row_at table.nodes id which seen in
      let all : All (IsBelow id.index) (condition ∷ taken ∷ other ∷ []) = subst (ChildrenBelow id.index) is below in
      let rest : All (IsBelow id.index) (taken ∷ other ∷ []) = All-tail (IsBelow id.index) condition (taken ∷ other ∷ []) all in
      let first : condition.index < id.index = All-head (IsBelow id.index) condition (taken ∷ other ∷ []) all in
      let second : taken.index < id.index = All-head (IsBelow id.index) taken (other ∷ []) rest in
      let third : other.index < id.index = All-head (IsBelow id.index) other [] (All-tail (IsBelow id.index) taken (other ∷ []) rest) in
      comes_to_more table inside _ (length stack) _ _ (comes_to_pushed table inside _ frame stack items new (item.Choose taken other) condition pushed (omega arith, omega arith) (omega arith) (λ fuel answers.
      enters_node r.at fuel answers r.found
      ∙ ap (λ n. then_go (level table inside (run table inside) frame r.at n fuel answers) (resume table inside frame stack)) is
      ∙ then_go-assoc (run table inside frame condition fuel answers) _ _))

  pub enters_inside : (body : NodeId) → which ≡ node.Dosync body → inside ≡ true → body.index < length table.nodes
      → Enters table inside id (record { frame = frame; stack = stack }) (record { frame = frame; stack = stack }) (control.Enter body)
  enters_inside body is within below =
      let r = row_at table.nodes id which seen in
      comes_to_more table inside _ (length stack) _ _ (comes_to_node table inside _ frame stack items body below (λ fuel answers.
      enters_node r.at fuel answers r.found
      ∙ ap (λ n. then_go (level table inside (run table inside) frame r.at n fuel answers) (resume table inside frame stack)) is
      ∙ ap (λ b. then_go (dosync table b (run table inside) frame r.at body fuel answers) (resume table inside frame stack)) within))

  -- a node whose level is its arguments and its operation
  pub enters_others : (new : Context) (stands : Control)
      → ((at : Spot) (fuel : ℕ) (answers : List Answer) → level table inside (run table inside) frame at which fuel answers ≡ by_arguments table (run table inside) frame at which fuel answers)
      → EntersArguments table id (record { frame = frame; stack = stack }) new stands → Enters table inside id (record { frame = frame; stack = stack }) new stands
  enters_others new stands plain takes =
      let r = row_at table.nodes id which seen in
      let taken = takes inside in record {
        same = λ fuel answers.
            enters_node r.at fuel answers r.found
            ∙ ap (λ out. then_go out (resume table inside frame stack)) (plain r.at fuel answers)
            ∙ ap (λ row. then_go (argued table (run table inside) frame row fuel answers) (resume table inside frame stack)) (sym r.found)
            ∙ taken.same fuel answers;
        there = taken.there;
        small = taken.small;
      }

-- a transaction outside one
pub level-outside : (table : Table) (inside : Bool) (below : Evals) (frame : List Value) (which : Node) (body : NodeId) (at : Spot) (fuel : ℕ) (answers : List Answer) → which ≡ node.Dosync body → inside ≡ false
    → level table inside below frame at which fuel answers ≡ by_arguments table below frame at which fuel answers
level-outside table inside below frame which body at fuel answers is out =
    ap (λ n. level table inside below frame at n fuel answers) is
    ∙ ap (λ b. dosync table b below frame at body fuel answers) out
    ∙ ap (λ n. by_arguments table below frame at n fuel answers) (sym is)

-- a node with arguments and an operation
pub level-plain : (table : Table) (inside : Bool) (below : Evals) (frame : List Value) (which : Node) (at : Spot) (fuel : ℕ) (answers : List Answer)
    → ((parts : List NodeId) → which ≢ node.Do parts) → ((condition taken other : NodeId) → which ≢ node.If condition taken other)
    → ((bound : List NodeId) (body : NodeId) → which ≢ node.Let bound body) → ((body : NodeId) → which ≢ node.Dosync body)
    → level table inside below frame at which fuel answers ≡ by_arguments table below frame at which fuel answers
level-plain table inside below frame (node.Do parts) at fuel answers no_do no_if no_let no_dosync = absurd (no_do parts refl)
level-plain table inside below frame (node.If condition taken other) at fuel answers no_do no_if no_let no_dosync = absurd (no_if condition taken other refl)
level-plain table inside below frame (node.Let bound body) at fuel answers no_do no_if no_let no_dosync = absurd (no_let bound body refl)
level-plain table inside below frame (node.Dosync body) at fuel answers no_do no_if no_let no_dosync = absurd (no_dosync body refl)
level-plain table inside below frame other at fuel answers no_do no_if no_let no_dosync = refl

-- ---- a body begins
module _ (table : Table) (frame : List Value) (stack : List Item) (empty : stack ≡ []) (body : NodeId) (which : Node) (seen : node_at table.nodes body ≡ Some which) where
  no_items : All (ItemIn (length table.nodes)) stack
  no_items = subst (All (ItemIn (length table.nodes))) (sym empty) (All-nil _)

  -- with the value of the whole body nothing is done
  last : (inside : Bool) (out : Out) → out ≡ then_go out (resume table inside frame stack)
  unfolding resume
  last inside out = sym (then_go-nothing out) ∙ ap (λ s. then_go out (resume table inside frame s)) (sym empty)

  pub begins_main : (steps : List Step) (new : Context) (stands : Control) → which ≡ node.Main steps
      → TakesStep table body 0 (record { frame = frame; stack = stack }) new stands → Begins table body (record { frame = frame; stack = stack }) new stands
  begins_main steps new stands is takes inside =
      let r = row_at table.nodes body (node.Main steps) (seen ∙ ap (λ n. Some n) is) in
      let taken = takes inside in record {
        same = λ fuel answers.
            ap (λ row. begin_at (run table inside) body frame row fuel answers) r.found
            ∙ ap (λ s. run_steps (run table inside) frame s fuel answers) (sym (drop_zero steps))
            ∙ ap (λ n. steps_on (run table inside) frame n 0 fuel answers) (sym (seen ∙ ap (λ n. Some n) is))
            ∙ taken.same fuel answers;
        there = taken.there;
        small = taken.small;
      }

  pub begins_turn : (takes : ℕ) (inner : NodeId) → which ≡ node.Turn takes inner → length frame ≡ takes → ChildrenBelow body.index which → body.index < length table.nodes
      → Begins table body (record { frame = frame; stack = stack }) (record { frame = frame; stack = stack }) (control.Enter inner)
  begins_turn takes inner is fits below there inside =
      let r = row_at table.nodes body (node.Turn takes inner) (seen ∙ ap (λ n. Some n) is) in
      let less : inner.index < body.index = All-head (IsBelow body.index) inner [] (subst (ChildrenBelow body.index) is below) in
      comes_to_node table inside _ frame stack no_items inner (omega arith) (λ fuel answers.
      ap (λ row. begin_at (run table inside) body frame row fuel answers) r.found
      ∙ ap (λ b. turn (run table inside) frame r.at b inner fuel answers) (eq-eqb (length frame) takes fits)
      ∙ last inside (run table inside frame inner fuel answers))

  pub begins_plain : body.index < length table.nodes → ((steps : List Step) → which ≢ node.Main steps) → ((takes : ℕ) (inner : NodeId) → which ≢ node.Turn takes inner)
      → Begins table body (record { frame = frame; stack = stack }) (record { frame = frame; stack = stack }) (control.Enter body)
  begins_plain below no_main no_turn inside =
      let r = row_at table.nodes body which seen in
      comes_to_node table inside _ frame stack no_items body below (λ fuel answers.
      ap (λ row. begin_at (run table inside) body frame row fuel answers) r.found
      ∙ on which r.at fuel answers no_main no_turn
      ∙ last inside (run table inside frame body fuel answers))
    where
      on : (n : Node) (at : Spot) (fuel : ℕ) (answers : List Answer) → ((steps : List Step) → n ≢ node.Main steps) → ((takes : ℕ) (inner : NodeId) → n ≢ node.Turn takes inner)
          → begin_at (run table inside) body frame (Some (record { node = n; at = at })) fuel answers ≡ run table inside frame body fuel answers
      on (node.Main steps) at fuel answers main turned = absurd (main steps refl)
      on (node.Turn takes inner) at fuel answers main turned = absurd (turned takes inner refl)
      on other at fuel answers main turned = refl

-- a local is read, in a context that goes on alike with its value
pub enters_local : (table : Table) (inside : Bool) (frame : List Value) (stack : List Item) (items : All (ItemIn (length table.nodes)) stack) (id : NodeId) (which : Node) (seen : node_at table.nodes id ≡ Some which)
    (place : ℕ) (v : Value) (new : Context) → which ≡ node.Local place → v ≡ local_value frame place → GoesOnAlike table (record { frame = frame; stack = stack }) new
    → Enters table inside id (record { frame = frame; stack = stack }) new (control.Deliver v)
enters_local table inside frame stack items id which seen place v new is read alike =
    let r = row_at table.nodes id which seen in
    let P : List Item → Type 0 = λ s. 2 * length s + 3 ≤ 2 * length stack + 4 in
    record {
      same = λ fuel answers.
          enters_node table inside frame stack items id which seen r.at fuel answers r.found
          ∙ ap (λ n. then_go (level table inside (run table inside) frame r.at n fuel answers) (resume table inside frame stack)) is
          ∙ ap (λ w. resume table inside frame stack w fuel answers) (sym read)
          ∙ alike.same inside v fuel answers
          ∙ ap (λ s. resume table inside new.frame s v fuel answers) (sym alike.stack);
      there = record { items = subst (All (ItemIn (length table.nodes))) (sym alike.stack) items; here = tt };
      small = subst P (sym alike.stack) (omega arith);
    }
