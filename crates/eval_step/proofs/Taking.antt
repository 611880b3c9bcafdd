-- The arguments, parts, bound expressions and steps of a node, one after another.
use Rattle.std.proofs.Common.{◌≡◌, ◌∙◌, ℕ, zero, suc, ◌+◌, ◌-◌, ◌<◌, ◌≤◌, List, [], ◌∷◌, ◌++◌, length, drop, take, get_or, refl, sym, ap, arith, append_assoc, append-nil, length-append, drop-cons, add-one}
use Rattle.std.specs.Prelude.{Option, None, Some}
use Rattle.std.specs.List.{slice_get}
use Rattle.std.proofs.lemmas.List.{drop_all, take_all, take-append-le}
use Rattle.std.proofs.lemmas.Option.{none-some, same_Some}
use Rattle.value_core.specs.declared.value.Value.{Value}
use Rattle.core_syntax.specs.declared.node.Node.{Node}
use Rattle.core_syntax.specs.declared.node.Node.TheVariants as node
use Rattle.core_syntax.specs.declared.node_id.NodeId.{NodeId}
use Rattle.core_syntax.specs.declared.row.Row.{Row}
use Rattle.core_syntax.specs.declared.step.Step.{Step}
use Rattle.core_syntax.specs.Table.{Table, steps_of}
use Rattle.serial_model.specs.declared.answer.Answer.{Answer}
use Rattle.serial_model.specs.Eval.{Out, Next, Evals, then_go, each, in_turn, bind, come, run_steps}
use Rattle.serial_model.specs.Operation.{arguments, operate}
use Rattle.eval_frames.specs.Finish.{finish, hidden_of}
use Rattle.eval_frames.specs.Frame.{shorter}
use Rattle.eval_step.specs.Resume.{arguments_on, parts_of, parts_on, bound_on, steps_on, with_value}
use Rattle.eval_step.specs.Steps.{operated, argued}
use Rattle.eval_step.proofs.Sequencing.{then_go-assoc, then_go-same}

-- ---- lists from a place on
pub drop_some : {X : Type 0} (xs : List X) (number : ℕ) (x : X) → slice_get xs number ≡ Some x → drop number xs ≡ x ∷ drop (number + 1) xs
drop_some xs number x found = rw add-one (on xs number found)
  where
    on : (ys : List _) (k : ℕ) → slice_get ys k ≡ Some x → drop k ys ≡ x ∷ drop (suc k) ys
    on [] zero is = absurd (none-some x is)
    on [] (suc k) is = absurd (none-some x is)
    on (y ∷ ys) zero is = λ i. same_Some y x is i ∷ ys
    on (y ∷ ys) (suc k) is = on ys k is

pub drop_none : {X : Type 0} (xs : List X) (number : ℕ) → slice_get xs number ≡ None → drop number xs ≡ []
drop_none [] zero none = refl
drop_none [] (suc k) none = refl
drop_none (y ∷ ys) zero none = absurd (none-some y (sym none))
drop_none (y ∷ ys) (suc k) none = drop_none ys k none

pub drop_here : {X : Type 0} (xs : List X) (number : ℕ) (x d : X) → number < length xs → x ≡ get_or xs number d → drop number xs ≡ x ∷ drop (number + 1) xs
drop_here xs number x d lt here = rw add-one (drop-cons xs number d lt ∙ ap (λ y. y ∷ drop (suc number) xs) (sym here))

pub drop_zero : {X : Type 0} (xs : List X) → drop 0 xs ≡ xs
drop_zero [] = refl
drop_zero (x ∷ xs) = refl

-- ---- frames
pub shorter-push : (number : ℕ) (frame : List Value) (v : Value) → shorter (number + 1) (frame ++ v ∷ []) ≡ shorter number frame
shorter-push number frame v =
    let size : length (frame ++ v ∷ []) - (number + 1) ≡ length frame - number = simp length-append (omega arith) in
    ap (λ n. take n (frame ++ v ∷ [])) size ∙ take-append-le (length frame - number) frame (v ∷ []) (omega arith)

pub shorter-zero : (frame : List Value) → shorter 0 frame ≡ frame
shorter-zero frame = take_all (length frame - 0) frame (omega arith)

-- ---- arguments
-- the operation with the hidden arguments before the others is that of the node
pub operate-finish : (frame : List Value) (which : Node) (values : List Value) → operate frame which values ≡ finish frame which (hidden_of frame which ++ values)
unfolding finish
operate-finish frame (node.Call number hidden written) values = refl
operate-finish frame (node.Spawn number hidden written) values = refl
operate-finish frame (node.Become number hidden written) values = refl
operate-finish frame other values = refl

module _ (table : Table) (below : Evals) (frame : List Value) (row : Row) where
  -- what is done with the values of the arguments
  at_end : List Value → List Value → ℕ → List Answer → Out
  at_end values rest fuel answers = come table below row.at (finish frame row.node (values ++ rest)) fuel answers

  pub arguments_on-first : (fuel : ℕ) (answers : List Answer)
      → argued table below frame (Some row) fuel answers ≡ arguments_on table below frame (Some row) (hidden_of frame row.node) 0 fuel answers
  arguments_on-first fuel answers =
      (λ i. each below frame (sym (drop_zero (arguments row.node)) i) fuel answers (λ rest. come table below row.at (operate-finish frame row.node rest i)))

  pub arguments_on-next : (values : List Value) (number : ℕ) (argument : NodeId) (fuel : ℕ) (answers : List Answer) → slice_get (arguments row.node) number ≡ Some argument
      → arguments_on table below frame (Some row) values number fuel answers
      ≡ then_go (below frame argument fuel answers) (λ v fuel answers. arguments_on table below frame (Some row) (values ++ v ∷ []) (number + 1) fuel answers)
  arguments_on-next values number argument fuel answers found =
      ap (λ ids. each below frame ids fuel answers (λ rest. come table below row.at (finish frame row.node (values ++ rest)))) (drop_some (arguments row.node) number argument found)
      ∙ then_go-same (below frame argument fuel answers) _ _ (λ v left_fuel left_answers i.
      each below frame (drop (number + 1) (arguments row.node)) left_fuel left_answers (λ rest. come table below row.at (finish frame row.node (sym (append_assoc values (v ∷ []) rest) i))))

  pub arguments_on-end : (values : List Value) (number : ℕ) (fuel : ℕ) (answers : List Answer) → slice_get (arguments row.node) number ≡ None
      → arguments_on table below frame (Some row) values number fuel answers ≡ operated table below frame (Some row) values fuel answers
  arguments_on-end values number fuel answers none =
      ap (λ ids. each below frame ids fuel answers (λ rest. come table below row.at (finish frame row.node (values ++ rest)))) (drop_none (arguments row.node) number none)
      ∙ ap (λ all. come table below row.at (finish frame row.node all) fuel answers) (append-nil values)

-- ---- parts
in_turn-more : (below : Evals) (frame : List Value) (id : NodeId) (ids : List NodeId) (fuel : ℕ) (answers : List Answer) → 0 < length ids
    → in_turn below frame (id ∷ ids) fuel answers ≡ then_go (below frame id fuel answers) (λ v fuel answers. in_turn below frame ids fuel answers)
in_turn-more below frame id [] fuel answers some = absurd (omega arith)
in_turn-more below frame id (next ∷ ids) fuel answers some = refl

pub parts_on-next : (below : Evals) (frame : List Value) (found : Option Node) (number : ℕ) (part d : NodeId) (fuel : ℕ) (answers : List Answer)
    → number + 1 < length (parts_of found) → part ≡ get_or (parts_of found) number d
    → parts_on below frame found number fuel answers ≡ then_go (below frame part fuel answers) (λ v fuel answers. parts_on below frame found (number + 1) fuel answers)
parts_on-next below frame found number part d fuel answers lt here =
    ap (λ ids. in_turn below frame ids fuel answers) (drop_here (parts_of found) number part d (omega arith) here)
    ∙ in_turn-more below frame part (drop (number + 1) (parts_of found)) fuel answers (some (parts_of found) (number + 1) lt)
  where
    some : (ids : List NodeId) (k : ℕ) → k < length ids → 0 < length (drop k ids)
    some [] k less = absurd (omega arith)
    some (id ∷ ids) zero less = omega arith
    some (id ∷ ids) (suc k) less = some ids k (omega arith)

pub parts_on-last : (below : Evals) (frame : List Value) (found : Option Node) (number : ℕ) (part d : NodeId) (fuel : ℕ) (answers : List Answer)
    → number < length (parts_of found) → length (parts_of found) ≤ number + 1 → part ≡ get_or (parts_of found) number d
    → parts_on below frame found number fuel answers ≡ below frame part fuel answers
parts_on-last below frame found number part d fuel answers lt le here =
    ap (λ ids. in_turn below frame ids fuel answers) (drop_here (parts_of found) number part d lt here ∙ ap (λ ids. part ∷ ids) (drop_all (number + 1) (parts_of found) le))

pub parts_on-none : (below : Evals) (frame : List Value) (found : Option Node) (number : ℕ) (fuel : ℕ) (answers : List Answer)
    → length (parts_of found) ≤ number → parts_on below frame found number fuel answers ≡ in_turn below frame [] fuel answers
parts_on-none below frame found number fuel answers le = ap (λ ids. in_turn below frame ids fuel answers) (drop_all number (parts_of found) le)

-- ---- bound expressions
pub bound_on-next : (below : Evals) (frame : List Value) (bound : List NodeId) (body : NodeId) (number : ℕ) (next : List Value → Next) (id d : NodeId) (fuel : ℕ) (answers : List Answer)
    → number < length bound → id ≡ get_or bound number d
    → bound_on below frame (Some (node.Let bound body)) number next fuel answers
    ≡ then_go (below frame id fuel answers) (λ v fuel answers. bound_on below (frame ++ v ∷ []) (Some (node.Let bound body)) (number + 1) next fuel answers)
bound_on-next below frame bound body number next id d fuel answers lt here =
    ap (λ ids. then_go (bind below frame ids body fuel answers) (next (shorter number frame))) (drop_here bound number id d lt here)
    ∙ then_go-assoc (below frame id fuel answers) _ _
    ∙ then_go-same (below frame id fuel answers) _ _ (λ v left_fuel left_answers.
    ap (λ outer. then_go (bind below (frame ++ v ∷ []) (drop (number + 1) bound) body left_fuel left_answers) (next outer)) (sym (shorter-push number frame v)))

pub bound_on-end : (below : Evals) (frame : List Value) (bound : List NodeId) (body : NodeId) (number : ℕ) (next : List Value → Next) (fuel : ℕ) (answers : List Answer)
    → length bound ≤ number
    → bound_on below frame (Some (node.Let bound body)) number next fuel answers ≡ then_go (below frame body fuel answers) (next (shorter number frame))
bound_on-end below frame bound body number next fuel answers le =
    ap (λ ids. then_go (bind below frame ids body fuel answers) (next (shorter number frame))) (drop_all number bound le)

pub bound_on-first : (below : Evals) (frame : List Value) (bound : List NodeId) (body : NodeId) (next : List Value → Next) (fuel : ℕ) (answers : List Answer)
    → then_go (bind below frame bound body fuel answers) (next frame) ≡ bound_on below frame (Some (node.Let bound body)) 0 next fuel answers
bound_on-first below frame bound body next fuel answers =
    (λ i. then_go (bind below frame (sym (drop_zero bound) i) body fuel answers) (next (sym (shorter-zero frame) i)))

-- ---- steps
pub steps_on-next : (below : Evals) (frame : List Value) (found : Option Node) (number : ℕ) (step d : Step) (fuel : ℕ) (answers : List Answer)
    → number < length (steps_of found) → step ≡ get_or (steps_of found) number d
    → steps_on below frame found number fuel answers
    ≡ then_go (below frame step.node fuel answers) (λ v fuel answers. steps_on below (with_value step.binds frame v) found (number + 1) fuel answers)
steps_on-next below frame found number step d fuel answers lt here = ap (λ steps. run_steps below frame steps fuel answers) (drop_here (steps_of found) number step d lt here)

pub steps_on-end : (below : Evals) (frame : List Value) (found : Option Node) (number : ℕ) (fuel : ℕ) (answers : List Answer)
    → length (steps_of found) ≤ number → steps_on below frame found number fuel answers ≡ run_steps below frame [] fuel answers
steps_on-end below frame found number fuel answers le = ap (λ steps. run_steps below frame steps fuel answers) (drop_all number (steps_of found) le)
