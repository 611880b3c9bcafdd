-- A value is handed on to what is on the stack.
use Rattle.std.proofs.Common.{◌≡◌, ◌∙◌, ℕ, ◌+◌, ◌*◌, ◌<◌, Bool, true, false, List, [], ◌∷◌, ◌++◌, length, refl, sym, ap, subst, arith}
use Rattle.std.specs.Prelude.{All, if◌then◌else◌}
use Rattle.std.specs.List.{slice_get}
use Rattle.std.proofs.lemmas.List.Elements.{All-nil}
use Rattle.value_core.specs.declared.value.Value.{Value}
use Rattle.value_core.specs.primitives.Kinds.{is_false}
use Rattle.core_syntax.specs.declared.node_id.NodeId.{NodeId}
use Rattle.core_syntax.specs.Table.{Table, node_at}
use Rattle.serial_model.specs.declared.answer.Answer.{Answer}
use Rattle.serial_model.specs.declared.halt.Halt.TheVariants as halt
use Rattle.serial_model.specs.Eval.{Evals, then_go, choose}
use Rattle.eval_step.specs.declared.context.Context.{Context}
use Rattle.eval_frames.specs.Control.{Control}
use Rattle.eval_frames.specs.Control as control
use Rattle.eval_step.specs.declared.item.Item.{Item}
use Rattle.eval_step.specs.declared.item.Item.TheVariants as item
use Rattle.eval_frames.specs.Frame.{shorter}
use Rattle.eval_step.specs.Resume.{run, resume, arguments_on, bound_on, steps_on, with_value}
use Rattle.eval_step.specs.Steps.{TakesPart, TakesBound, TakesStep, Resumes, Delivers}
use Rattle.eval_step.specs.Walk.{ItemIn, ComesTo}
use Rattle.eval_step.proofs.ComesTo.{comes_to_node, comes_to_value, comes_to_arguments, comes_to_more}

chosen : (below : Evals) (frame : List Value) (b : Bool) (taken other : NodeId) (fuel : ℕ) (answers : List Answer)
    → choose below frame b taken other fuel answers ≡ below frame (if b then other else taken) fuel answers
chosen below frame true taken other fuel answers = refl
chosen below frame false taken other fuel answers = refl

chosen_in : (n : ℕ) (b : Bool) (taken other : NodeId) → taken.index < n → other.index < n → (if b then other else taken).index < n
chosen_in n true taken other first second = second
chosen_in n false taken other first second = first

-- the item is known in another way
pub resumes-along : (table : Table) (first exact : Item) (v : Value) (old new : Context) (stands : Control) → first ≡ exact → Resumes table exact v old new stands → Resumes table first v old new stands
resumes-along table first exact v old new stands is = subst (λ (i : Item). Resumes table i v old new stands) (sym is)

module _ (table : Table) (frame : List Value) (stack : List Item) (items : All (ItemIn (length table.nodes)) stack) (v : Value) where
  pub resumes_back : (outer : List Value) → Resumes table (item.Back outer) v (record { frame = frame; stack = stack }) (record { frame = outer; stack = stack }) (control.Deliver v)
  unfolding resume
  resumes_back outer inside = comes_to_more table inside _ (length stack) _ _ (comes_to_value table inside _ outer stack items v (λ fuel answers. refl))

  pub resumes_shrink : (count : ℕ) (new : List Value) → new ≡ shorter count frame
      → Resumes table (item.Shrink count) v (record { frame = frame; stack = stack }) (record { frame = new; stack = stack }) (control.Deliver v)
  unfolding resume
  resumes_shrink count new is inside =
      comes_to_more table inside _ (length stack) _ _ (comes_to_value table inside _ new stack items v (λ fuel answers. ap (λ f. resume table inside f stack v fuel answers) (sym is)))

  pub resumes_arguments : (id : NodeId) (values all : List Value) (number : ℕ) → id.index < length table.nodes → all ≡ values ++ v ∷ []
      → Resumes table (item.Arguments id values number) v (record { frame = frame; stack = stack }) (record { frame = frame; stack = stack }) (control.Arguments id all number)
  unfolding resume
  resumes_arguments id values all number there is inside =
      comes_to_arguments table inside _ frame stack items id all number there (λ fuel answers.
      ap (λ l. then_go (arguments_on table (run table inside) frame (slice_get table.nodes id.index) l number fuel answers) (resume table inside frame stack)) (sym is))

  pub resumes_choose : (taken other id : NodeId) → id ≡ (if is_false v then other else taken) → taken.index < length table.nodes → other.index < length table.nodes
      → Resumes table (item.Choose taken other) v (record { frame = frame; stack = stack }) (record { frame = frame; stack = stack }) (control.Enter id)
  unfolding resume
  resumes_choose taken other id is first second inside =
      let P : NodeId → Type 0 = λ n. n.index < length table.nodes in
      comes_to_more table inside _ (length stack) _ _ (comes_to_node table inside _ frame stack items id (subst P (sym is) (chosen_in (length table.nodes) (is_false v) taken other first second)) (λ fuel answers.
      ap (λ out. then_go out (resume table inside frame stack)) (chosen (run table inside) frame (is_false v) taken other fuel answers)
      ∙ ap (λ n. then_go (run table inside frame n fuel answers) (resume table inside frame stack)) (sym is)))

  pub resumes_do : (id : NodeId) (number : ℕ) (new : Context) (stands : Control) → TakesPart table id number (record { frame = frame; stack = stack }) new stands
      → Resumes table (item.Do id number) v (record { frame = frame; stack = stack }) new stands
  unfolding resume
  resumes_do id number new stands takes inside = let taken = takes inside in record { same = λ fuel answers. taken.same fuel answers; there = taken.there; small = let small = taken.small in omega arith }

  pub resumes_let : (id : NodeId) (number : ℕ) (longer : List Value) (new : Context) (stands : Control) → longer ≡ frame ++ v ∷ []
      → TakesBound table id number (record { frame = longer; stack = stack }) new stands
      → Resumes table (item.Let id number) v (record { frame = frame; stack = stack }) new stands
  unfolding resume
  resumes_let id number longer new stands is takes inside =
      let taken = takes inside in record {
        same = λ fuel answers.
            ap (λ f. bound_on (run table inside) f (node_at table.nodes id) number (λ outer. resume table inside outer stack) fuel answers) (sym is)
            ∙ taken.same fuel answers;
        there = taken.there;
        small = let small = taken.small in omega arith;
      }

  pub resumes_steps : (id : NodeId) (number : ℕ) (binds : Bool) (longer : List Value) (new : Context) (stands : Control) → longer ≡ with_value binds frame v
      → TakesStep table id number (record { frame = longer; stack = stack }) new stands
      → Resumes table (item.Steps id number binds) v (record { frame = frame; stack = stack }) new stands
  unfolding resume
  resumes_steps id number binds longer new stands is takes inside =
      let taken = takes inside in record {
        same = λ fuel answers.
            ap (λ f. steps_on (run table inside) f (node_at table.nodes id) number fuel answers) (sym is)
            ∙ taken.same fuel answers;
        there = taken.there;
        small = let small = taken.small in omega arith;
      }

-- the first item takes it
pub delivers_item : (table : Table) (frame : List Value) (stack rest : List Item) (first : Item) (v : Value) (new : Context) (stands : Control) → stack ≡ first ∷ rest
    → Resumes table first v (record { frame = frame; stack = rest }) new stands → Delivers table v (record { frame = frame; stack = stack }) new stands
delivers_item table frame stack rest first v new stands is resumes inside =
    let done = resumes inside in
    let P : List Item → Type 0 = λ s. ComesTo table inside (resume table inside frame s v) (2 * length s + 2) new stands in
    let small = done.small in
    subst P (sym is) (record { same = done.same; there = done.there; small = omega arith })

-- with no item it is the value of the whole
pub delivers_last : (table : Table) (frame left : List Value) (stack : List Item) (v : Value) (new : List Item) → stack ≡ [] → new ≡ []
    → Delivers table v (record { frame = frame; stack = stack }) (record { frame = left; stack = new }) (control.Halted (halt.Value v))
unfolding resume
delivers_last table frame left stack v new is no_more inside =
    let items : All (ItemIn (length table.nodes)) new = subst (All (ItemIn (length table.nodes))) (sym no_more) (All-nil _) in
    let e : length new ≡ 0 = ap length no_more in
    let Q : List Item → Type 0 = λ s. ComesTo table inside (resume table inside frame s v) (2 * length s + 2) (record { frame = left; stack = new }) (control.Halted (halt.Value v)) in
    subst Q (sym is) (record { same = λ fuel answers. refl; there = record { items = items; here = tt }; small = omega arith })
