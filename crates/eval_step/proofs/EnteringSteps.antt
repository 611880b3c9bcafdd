-- The steps that enter a node.
use Rattle.std.proofs.Common.{◌≡◌, ◌∙◌, ℕ, ◌+◌, ◌<◌, ◌≤◌, true, false, List, [], ◌∷◌, ◌++◌, length, map, get_or, refl, sym, ap, subst, arith}
use Rattle.std.specs.Prelude.{All, None, Some}
use Rattle.std.specs.List.{slice_get}
use Rattle.std.proofs.lemmas.Option.{none-some}
use Rattle.std.proofs.lemmas.List.Elements.{All-get_or, All-nil, All-cons, All-head, All-tail}
use Rattle.value_core.specs.declared.value.Value.{Value}
use Rattle.core_syntax.specs.declared.node.Node.{Node}
use Rattle.core_syntax.specs.declared.node.Node.TheVariants as node
use Rattle.core_syntax.specs.declared.node_id.NodeId.{NodeId}
use Rattle.core_syntax.specs.declared.row.Row.{Row}
use Rattle.core_syntax.specs.declared.step.Step.{Step}
use Rattle.core_syntax.specs.Children.{children}
use Rattle.core_syntax.specs.Table.{Table, node_at, steps_of}
use Rattle.core_syntax.specs.WellFormed.{IsBelow, ChildrenBelow}
use Rattle.serial_model.specs.Eval.{then_go}
use Rattle.serial_model.specs.Operation.{arguments}
use Rattle.serial_model.proofs.evaluation.Agree.{all_at}
use Rattle.eval_frames.specs.Control as control
use Rattle.eval_step.specs.declared.item.Item.{Item}
use Rattle.eval_step.specs.declared.item.Item.TheVariants as item
use Rattle.eval_frames.specs.Finish.{hidden_of}
use Rattle.eval_step.specs.Resume.{run, resume, needs_frame, arguments_on, parts_of, bound_on}
use Rattle.eval_step.specs.Steps.{operated, argued, EntersArguments, TakesArgument, Operates, CallsBody, TakesPart, TakesBound, TakesStep}
use Rattle.eval_step.specs.Walk.{ItemIn}
use Rattle.eval_step.proofs.Sequencing.{then_go-assoc, then_go-same}
use Rattle.eval_step.proofs.Taking.{arguments_on-first, arguments_on-next, arguments_on-end, parts_on-next, parts_on-last, bound_on-next, bound_on-end, steps_on-next}
use Rattle.eval_step.proofs.Rows.{row_at}
use Rattle.eval_step.proofs.ComesTo.{comes_to_pushed, comes_to_node, comes_to_arguments, resume-unneeded}

-- an argument is one of the children
pub argument-below : (k : ℕ) (which : Node) (number : ℕ) (id : NodeId) → slice_get (arguments which) number ≡ Some id → ChildrenBelow k which → id.index < k
argument-below k (node.Fork body) number id found below = absurd (none-some id found)
argument-below k (node.Dosync body) number id found below = absurd (none-some id found)
argument-below k (node.Turn takes body) number id found below = absurd (none-some id found)
argument-below k (node.Main steps) number id found below = absurd (none-some id found)
argument-below k other number id found below = all_at (IsBelow k) (children other) number id below found

-- the parts of a do, the expressions and the body of a let, and the steps of a main are among its children
parts-below : (k : ℕ) (which : Node) (ids : List NodeId) → ids ≡ parts_of (Some which) → ChildrenBelow k which → All (IsBelow k) ids
parts-below k which ids are below = subst (All (IsBelow k)) (sym are) (on which below)
  where
    on : (n : Node) → ChildrenBelow k n → All (IsBelow k) (parts_of (Some n))
    on (node.Do parts) all = all
    on other all = All-nil (IsBelow k)

All-front : {X : Type 0} (P : X → Type 0) (xs ys : List X) → All P (xs ++ ys) → All P xs
All-front P [] ys all = All-nil P
All-front P (x ∷ xs) ys all = All-cons P x xs (All-head P x (xs ++ ys) all) (All-front P xs ys (All-tail P x (xs ++ ys) all))

body-below : (k : ℕ) (bound : List NodeId) (body : NodeId) → All (IsBelow k) (bound ++ body ∷ []) → body.index < k
body-below k [] body all = All-head (IsBelow k) body [] all
body-below k (id ∷ bound) body all = body-below k bound body (All-tail (IsBelow k) id (bound ++ body ∷ []) all)

All-unmapped : {X Y : Type 0} (P : Y → Type 0) (f : X → Y) (xs : List X) → All P (map f xs) → All (λ x. P (f x)) xs
All-unmapped P f [] all = All-nil (λ y. P (f y))
All-unmapped P f (x ∷ xs) all = All-cons (λ y. P (f y)) x xs (All-head P (f x) (map f xs) all) (All-unmapped P f xs (All-tail P (f x) (map f xs) all))

steps-below : (k : ℕ) (which : Node) (steps : List Step) → steps ≡ steps_of (Some which) → ChildrenBelow k which → All (λ s. IsBelow k s.node) steps
steps-below k which steps are below = let P : List Step → Type 0 = All (λ s. IsBelow k s.node) in subst P (sym are) (on which below)
  where
    on : (n : Node) → ChildrenBelow k n → All (λ s. IsBelow k s.node) (steps_of (Some n))
    on (node.Main all) every = All-unmapped (IsBelow k) (λ s. s.node) all every
    on other every = All-nil _

module _ (table : Table) (frame : List Value) (stack : List Item) (items : All (ItemIn (length table.nodes)) stack) where
  -- ---- arguments
  pub takes_next_argument : (id : NodeId) (which : Node) (values : List Value) (number : ℕ) (argument : NodeId) (new : List Item)
      → node_at table.nodes id ≡ Some which → slice_get (arguments which) number ≡ Some argument
      → ChildrenBelow id.index which → id.index < length table.nodes → new ≡ item.Arguments id values (number + 1) ∷ stack
      → TakesArgument table id values number (record { frame = frame; stack = stack }) (record { frame = frame; stack = new }) (control.Enter argument)
  unfolding resume
  takes_next_argument id which values number argument new seen argument_found below there pushed inside =
      let r = row_at table.nodes id which seen in
      let row : Row = record { node = which; at = r.at } in
      let found : slice_get table.nodes id.index ≡ Some row = r.found in
      let lower : argument.index < id.index = argument-below id.index which number argument argument_found below in
      comes_to_pushed table inside _ frame stack items new (item.Arguments id values (number + 1)) argument pushed there (omega arith) (λ fuel answers.
      ap (λ r. then_go (arguments_on table (run table inside) frame r values number fuel answers) (resume table inside frame stack)) found
      ∙ ap (λ out. then_go out (resume table inside frame stack)) (arguments_on-next table (run table inside) frame row values number argument fuel answers argument_found)
      ∙ then_go-assoc (run table inside frame argument fuel answers) _ _
      ∙ then_go-same (run table inside frame argument fuel answers) _ _ (λ v left_fuel left_answers.
      ap (λ r. then_go (arguments_on table (run table inside) frame r (values ++ v ∷ []) (number + 1) left_fuel left_answers) (resume table inside frame stack)) (sym found)))

  pub takes_no_argument : (id : NodeId) (which : Node) (values : List Value) (number : ℕ) (new : _) (stands : _)
      → node_at table.nodes id ≡ Some which → slice_get (arguments which) number ≡ None
      → Operates table id values (record { frame = frame; stack = stack }) new stands
      → TakesArgument table id values number (record { frame = frame; stack = stack }) new stands
  takes_no_argument id which values number new stands seen none operates inside =
      let r = row_at table.nodes id which seen in
      let row : Row = record { node = which; at = r.at } in
      let found : slice_get table.nodes id.index ≡ Some row = r.found in
      let done = operates inside in record {
        same = λ fuel answers.
            ap (λ r. then_go (arguments_on table (run table inside) frame r values number fuel answers) (resume table inside frame stack)) found
            ∙ ap (λ out. then_go out (resume table inside frame stack)) (arguments_on-end table (run table inside) frame row values number fuel answers none)
            ∙ ap (λ r. then_go (operated table (run table inside) frame r values fuel answers) (resume table inside frame stack)) (sym found)
            ∙ done.same fuel answers;
        there = done.there;
        small = done.small;
      }

  pub enters_arguments : (id : NodeId) (which : Node) (values : List Value) → node_at table.nodes id ≡ Some which → values ≡ hidden_of frame which → id.index < length table.nodes
      → EntersArguments table id (record { frame = frame; stack = stack }) (record { frame = frame; stack = stack }) (control.Arguments id values 0)
  enters_arguments id which values seen hidden there inside =
      let r = row_at table.nodes id which seen in
      let row : Row = record { node = which; at = r.at } in
      let found : slice_get table.nodes id.index ≡ Some row = r.found in
      comes_to_arguments table inside _ frame stack items id values 0 there (λ fuel answers.
      ap (λ r. then_go (argued table (run table inside) frame r fuel answers) (resume table inside frame stack)) found
      ∙ ap (λ out. then_go out (resume table inside frame stack)) (arguments_on-first table (run table inside) frame row fuel answers)
      ∙ ap (λ hidden. then_go (arguments_on table (run table inside) frame (Some row) hidden 0 fuel answers) (resume table inside frame stack)) (sym hidden)
      ∙ ap (λ r. then_go (arguments_on table (run table inside) frame r values 0 fuel answers) (resume table inside frame stack)) (sym found))

  -- ---- calls
  pub calls_body : (body : NodeId) (callee : List Value) (new : List Item) → body.index < length table.nodes
      → needs_frame stack ≡ true → new ≡ item.Back frame ∷ stack
      → CallsBody table body callee (record { frame = frame; stack = stack }) (record { frame = callee; stack = new }) (control.Enter body)
  unfolding resume
  calls_body body callee new there needs pushed inside =
      comes_to_pushed table inside _ callee stack items new (item.Back frame) body pushed tt there (λ fuel answers. refl)

  pub calls_body_last : (body : NodeId) (callee : List Value) → body.index < length table.nodes → needs_frame stack ≡ false
      → CallsBody table body callee (record { frame = frame; stack = stack }) (record { frame = callee; stack = stack }) (control.Enter body)
  calls_body_last body callee there needs inside =
      comes_to_node table inside _ callee stack items body there (λ fuel answers.
      then_go-same (run table inside callee body fuel answers) _ _ (λ v left_fuel left_answers. resume-unneeded table inside frame callee stack v left_fuel left_answers needs))

  -- ---- parts
  pub takes_next_part : (id : NodeId) (which : Node) (ids : List NodeId) (number : ℕ) (d : NodeId) (new : List Item)
      → node_at table.nodes id ≡ Some which → ids ≡ parts_of (Some which) → ChildrenBelow id.index which → id.index < length table.nodes
      → number + 1 < length ids → new ≡ item.Do id (number + 1) ∷ stack
      → TakesPart table id number (record { frame = frame; stack = stack }) (record { frame = frame; stack = new }) (control.Enter (get_or ids number d))
  unfolding resume
  takes_next_part id which ids number d new seen are below there lt pushed inside =
      let part : NodeId = get_or ids number d in
      let found : ids ≡ parts_of (node_at table.nodes id) = are ∙ ap parts_of (sym seen) in
      let less : part.index < id.index = All-get_or (IsBelow id.index) ids number d (omega arith) (parts-below id.index which ids are below) in
      let longer : number + 1 < length (parts_of (node_at table.nodes id)) = subst (λ (l : List NodeId). number + 1 < length l) found lt in
      comes_to_pushed table inside _ frame stack items new (item.Do id (number + 1)) part pushed there (omega arith) (λ fuel answers.
      ap (λ out. then_go out (resume table inside frame stack)) (parts_on-next (run table inside) frame (node_at table.nodes id) number part d fuel answers longer (ap (λ l. get_or l number d) found))
      ∙ then_go-assoc (run table inside frame part fuel answers) _ _)

  pub takes_last_part : (id : NodeId) (which : Node) (ids : List NodeId) (number : ℕ) (d : NodeId)
      → node_at table.nodes id ≡ Some which → ids ≡ parts_of (Some which) → ChildrenBelow id.index which → id.index < length table.nodes
      → number < length ids → length ids ≤ number + 1
      → TakesPart table id number (record { frame = frame; stack = stack }) (record { frame = frame; stack = stack }) (control.Enter (get_or ids number d))
  takes_last_part id which ids number d seen are below there lt le inside =
      let part : NodeId = get_or ids number d in
      let found : ids ≡ parts_of (node_at table.nodes id) = are ∙ ap parts_of (sym seen) in
      let less : part.index < id.index = All-get_or (IsBelow id.index) ids number d lt (parts-below id.index which ids are below) in
      let longer : number < length (parts_of (node_at table.nodes id)) = subst (λ (l : List NodeId). number < length l) found lt in
      let ends : length (parts_of (node_at table.nodes id)) ≤ number + 1 = subst (λ (l : List NodeId). length l ≤ number + 1) found le in
      comes_to_node table inside _ frame stack items part (omega arith) (λ fuel answers.
      ap (λ out. then_go out (resume table inside frame stack)) (parts_on-last (run table inside) frame (node_at table.nodes id) number part d fuel answers longer ends (ap (λ l. get_or l number d) found)))

  -- ---- bound expressions
  pub takes_next_bound : (id : NodeId) (which : Node) (bound : List NodeId) (body : NodeId) (ids : List NodeId) (number : ℕ) (d : NodeId) (new : List Item)
      → node_at table.nodes id ≡ Some which → which ≡ node.Let bound body → ids ≡ bound → ChildrenBelow id.index which → id.index < length table.nodes
      → number < length ids → new ≡ item.Let id (number + 1) ∷ stack
      → TakesBound table id number (record { frame = frame; stack = stack }) (record { frame = frame; stack = new }) (control.Enter (get_or ids number d))
  unfolding resume
  takes_next_bound id which bound body ids number d new seen is are below there lt pushed inside =
      let first : NodeId = get_or ids number d in
      let found : node_at table.nodes id ≡ Some (node.Let bound body) = seen ∙ ap (λ n. Some n) is in
      let all : All (IsBelow id.index) bound = All-front (IsBelow id.index) bound (body ∷ []) (subst (ChildrenBelow id.index) is below) in
      let same : first ≡ get_or bound number d = ap (λ l. get_or l number d) are in
      let longer : number < length bound = subst (λ (l : List NodeId). number < length l) are lt in
      let less : (get_or bound number d).index < id.index = All-get_or (IsBelow id.index) bound number d longer all in
      let e : first.index ≡ (get_or bound number d).index = ap (λ (n : NodeId). n.index) same in
      comes_to_pushed table inside _ frame stack items new (item.Let id (number + 1)) first pushed there (omega arith) (λ fuel answers.
      ap (λ r. bound_on (run table inside) frame r number (λ outer. resume table inside outer stack) fuel answers) found
      ∙ bound_on-next (run table inside) frame bound body number (λ outer. resume table inside outer stack) first d fuel answers longer same
      ∙ then_go-same (run table inside frame first fuel answers) _ _ (λ v left_fuel left_answers.
      ap (λ r. bound_on (run table inside) (frame ++ v ∷ []) r (number + 1) (λ outer. resume table inside outer stack) left_fuel left_answers) (sym found)))

  pub takes_body : (id : NodeId) (which : Node) (bound : List NodeId) (body : NodeId) (ids : List NodeId) (number : ℕ) (new : List Item)
      → node_at table.nodes id ≡ Some which → which ≡ node.Let bound body → ids ≡ bound → ChildrenBelow id.index which → id.index < length table.nodes
      → length ids ≤ number → new ≡ item.Shrink number ∷ stack
      → TakesBound table id number (record { frame = frame; stack = stack }) (record { frame = frame; stack = new }) (control.Enter body)
  unfolding resume
  takes_body id which bound body ids number new seen is are below there le pushed inside =
      let found : node_at table.nodes id ≡ Some (node.Let bound body) = seen ∙ ap (λ n. Some n) is in
      let less : body.index < id.index = body-below id.index bound body (subst (ChildrenBelow id.index) is below) in
      let ends : length bound ≤ number = subst (λ (l : List NodeId). length l ≤ number) are le in
      comes_to_pushed table inside _ frame stack items new (item.Shrink number) body pushed tt (omega arith) (λ fuel answers.
      ap (λ r. bound_on (run table inside) frame r number (λ outer. resume table inside outer stack) fuel answers) found
      ∙ bound_on-end (run table inside) frame bound body number (λ outer. resume table inside outer stack) fuel answers ends)

  pub takes_body_last : (id : NodeId) (which : Node) (bound : List NodeId) (body : NodeId) (ids : List NodeId) (number : ℕ)
      → node_at table.nodes id ≡ Some which → which ≡ node.Let bound body → ids ≡ bound → ChildrenBelow id.index which → id.index < length table.nodes
      → length ids ≤ number → needs_frame stack ≡ false
      → TakesBound table id number (record { frame = frame; stack = stack }) (record { frame = frame; stack = stack }) (control.Enter body)
  takes_body_last id which bound body ids number seen is are below there le needs inside =
      let found : node_at table.nodes id ≡ Some (node.Let bound body) = seen ∙ ap (λ n. Some n) is in
      let less : body.index < id.index = body-below id.index bound body (subst (ChildrenBelow id.index) is below) in
      let ends : length bound ≤ number = subst (λ (l : List NodeId). length l ≤ number) are le in
      comes_to_node table inside _ frame stack items body (omega arith) (λ fuel answers.
      ap (λ r. bound_on (run table inside) frame r number (λ outer. resume table inside outer stack) fuel answers) found
      ∙ bound_on-end (run table inside) frame bound body number (λ outer. resume table inside outer stack) fuel answers ends
      ∙ then_go-same (run table inside frame body fuel answers) _ _ (λ v left_fuel left_answers. resume-unneeded table inside _ frame stack v left_fuel left_answers needs))

  -- ---- steps
  pub takes_next_step : (id : NodeId) (which : Node) (all : List Step) (number : ℕ) (d : Step) (new : List Item)
      → node_at table.nodes id ≡ Some which → all ≡ steps_of (Some which) → ChildrenBelow id.index which → id.index < length table.nodes
      → number < length all → new ≡ item.Steps id (number + 1) (get_or all number d).binds ∷ stack
      → TakesStep table id number (record { frame = frame; stack = stack }) (record { frame = frame; stack = new }) (control.Enter (get_or all number d).node)
  unfolding resume
  takes_next_step id which all number d new seen are below there lt pushed inside =
      let step : Step = get_or all number d in
      let found : all ≡ steps_of (node_at table.nodes id) = are ∙ ap steps_of (sym seen) in
      let less : step.node.index < id.index = All-get_or (λ s. IsBelow id.index s.node) all number d lt (steps-below id.index which all are below) in
      let longer : number < length (steps_of (node_at table.nodes id)) = subst (λ (l : List Step). number < length l) found lt in
      comes_to_pushed table inside _ frame stack items new (item.Steps id (number + 1) step.binds) step.node pushed there (omega arith) (λ fuel answers.
      steps_on-next (run table inside) frame (node_at table.nodes id) number step d fuel answers longer (ap (λ l. get_or l number d) found))
