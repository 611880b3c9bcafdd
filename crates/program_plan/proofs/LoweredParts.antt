-- Parts of a program to which more is made.
use Rattle.std.proofs.Common.{◌≡◌, ◌∙◌, ℕ, ◌+◌, Bool, true, false, List, [], ◌∷◌, ◌++◌, length, refl, sym, ap, subst, arith, length-append}
use Rattle.std.specs.Prelude.{Result, Ok, Err, IfOk, All, count_by, cond, if◌then◌else◌}
use Rattle.std.specs.List.{range_with_len}
use Rattle.std.proofs.lemmas.List.Elements.{All-weaker, All-push}
use Rattle.std.proofs.lemmas.List.FromFn.{length-range_with_len}
use Rattle.std.proofs.lemmas.List.Sums.{sum_by-append}
use Rattle.value_core.specs.Place.{Spot}
use Rattle.core_syntax.specs.declared.behaviour.Behaviour.{Behaviour}
use Rattle.core_syntax.specs.declared.build_no.BuildNo.{BuildNo}
use Rattle.core_syntax.specs.declared.function.Function.{Function}
use Rattle.core_syntax.specs.declared.node.Node.TheVariants.{Turn}
use Rattle.core_syntax.specs.declared.node_id.NodeId.{NodeId}
use Rattle.core_syntax.specs.declared.row.Row.{Row}
use Rattle.core_syntax.specs.declared.step.Step.{Step}
use Rattle.core_syntax.specs.WellFormed.{IsBelow, IsTurnAt}
use Rattle.core_syntax.proofs.Appends.{slice_get-push}
use Rattle.core_syntax.proofs.Tables.{IsTurnAt-append}
use Rattle.program_plan.specs.Made.{Draft, Making, Makes, node, extended, answered}
use Rattle.program_plan.specs.Sound.{IsLowered}
use Rattle.program_plan.proofs.Numbers.{range-push}

longer : (rows more : List Row) (globals : List ℕ) (functions : List Function) (behaviours : List Behaviour) (steps : List Step)
    → IsLowered rows globals functions behaviours steps → IsLowered (rows ++ more) globals functions behaviours steps
longer rows more globals functions behaviours steps parts =
    let long = length-append rows more in
    let n = length rows in
    let m = length (rows ++ more) in
    record {
      numbers = parts.numbers;
      steps_there = All-weaker (λ step. IsBelow n step.node) (λ step. IsBelow m step.node) (λ step lt. omega arith) steps parts.steps_there;
      bodies_there = All-weaker (λ function. IsBelow n function.body) (λ function. IsBelow m function.body) (λ function lt. omega arith) functions parts.bodies_there;
      turns_there = All-weaker (λ behaviour. IsTurnAt rows behaviour.body) (λ behaviour. IsTurnAt (rows ++ more) behaviour.body) (λ behaviour turn. IsTurnAt-append rows more behaviour.body turn) behaviours parts.turns_there;
    }

-- what is made stands behind what was there
pub IsLowered-makes : {A : Type 0} {p : Making A} {s u : Draft} {x : A} (globals : List ℕ) (functions : List Function) (behaviours : List Behaviour) (steps : List Step)
    → Makes p s (Ok x) u → IsLowered s.rows globals functions behaviours steps → IsLowered u.rows globals functions behaviours steps
unfolding extended
IsLowered-makes {A} {p} {s} {u} {x} globals functions behaviours steps made parts =
    subst (λ (d : Draft). IsLowered d.rows globals functions behaviours steps) (sym made.made.0) (longer s.rows (p (length s.rows)).rows globals functions behaviours steps parts)

pub IsLowered-function : (rows : List Row) (globals : List ℕ) (functions all : List Function) (behaviours : List Behaviour) (steps : List Step) (function : Function)
    → all ≡ functions ++ function ∷ [] → IsBelow (length rows) function.body → IsLowered rows globals functions behaviours steps → IsLowered rows globals all behaviours steps
IsLowered-function rows globals functions all behaviours steps function pushed below parts = record {
  numbers = parts.numbers;
  steps_there = parts.steps_there;
  bodies_there = subst (λ l. All (λ f. IsBelow (length rows) f.body) l) (sym pushed) (All-push (λ f. IsBelow (length rows) f.body) functions function parts.bodies_there below);
  turns_there = parts.turns_there;
}

pub IsLowered-behaviour : (rows : List Row) (globals : List ℕ) (functions : List Function) (behaviours all : List Behaviour) (steps : List Step) (behaviour : Behaviour)
    → all ≡ behaviours ++ behaviour ∷ [] → IsTurnAt rows behaviour.body → IsLowered rows globals functions behaviours steps → IsLowered rows globals functions all steps
IsLowered-behaviour rows globals functions behaviours all steps behaviour pushed turn parts = record {
  numbers = parts.numbers;
  steps_there = parts.steps_there;
  bodies_there = parts.bodies_there;
  turns_there = subst (λ l. All (λ b. IsTurnAt rows b.body) l) (sym pushed) (All-push (λ b. IsTurnAt rows b.body) behaviours behaviour parts.turns_there turn);
}

-- a turn that is pushed is there
makes_turn : {s u : Draft} {id : NodeId} (at : Spot) (takes : ℕ) (body : NodeId) → Makes (node at (Turn takes body)) s (Ok id) u → IsTurnAt u.rows id
unfolding extended answered node
makes_turn {s} {u} {id} at takes body made =
    let row : Row = record { node = Turn takes body; at = at } in
    let pushed : List Row = s.rows ++ row ∷ [] in
    let here : IsTurnAt pushed (record { index = length s.rows }) = rw (slice_get-push s.rows row) tt in
    subst (λ (d : Draft). IsTurnAt d.rows id) (sym made.made.0) (subst (λ i. IsTurnAt pushed i) (sym made.made.1) here)

pub IsLowered-step : (rows : List Row) (globals more : List ℕ) (functions : List Function) (behaviours : List Behaviour) (steps all : List Step) (step : Step)
    → all ≡ steps ++ step ∷ [] → more ≡ (if step.binds then globals ++ length globals ∷ [] else globals) → IsBelow (length rows) step.node
    → IsLowered rows globals functions behaviours steps → IsLowered rows more functions behaviours all
IsLowered-step rows globals more functions behaviours steps all step pushed numbered below parts = record {
  numbers = subst (λ l. more ≡ range_with_len 0 (count_by (λ s. s.binds) l)) (sym pushed) (numbered ∙ on step.binds refl);
  steps_there = subst (λ l. All (λ s. IsBelow (length rows) s.node) l) (sym pushed) (All-push (λ s. IsBelow (length rows) s.node) steps step parts.steps_there below);
  bodies_there = parts.bodies_there;
  turns_there = parts.turns_there;
}
  where
    n : ℕ
    n = count_by (λ s. s.binds) steps

    counted : count_by (λ s. s.binds) (steps ++ step ∷ []) ≡ n + (0 + cond step.binds 1 0)
    counted = sum_by-append (λ s. cond s.binds 1 0) steps (step ∷ [])

    same : globals ≡ range_with_len 0 n
    same = parts.numbers

    on : (b : Bool) → step.binds ≡ b → (if b then globals ++ length globals ∷ [] else globals) ≡ range_with_len 0 (count_by (λ s. s.binds) (steps ++ step ∷ []))
    on true is =
        let count : count_by (λ s. s.binds) (steps ++ step ∷ []) ≡ n + 1 = counted ∙ ap (λ c. n + (0 + cond c 1 0)) is in
        let long : length globals ≡ n = ap length same ∙ length-range_with_len 0 n in
        ap (λ l. l ++ length globals ∷ []) same ∙ ap (λ k. range_with_len 0 n ++ k ∷ []) long ∙ sym (range-push n) ∙ ap (range_with_len 0) (sym count)
    on false is =
        let count : count_by (λ s. s.binds) (steps ++ step ∷ []) ≡ n = counted ∙ (ap (λ c. n + (0 + cond c 1 0)) is ∙ (let none : n + 0 ≡ n = omega arith in none)) in
        same ∙ ap (range_with_len 0) (sym count)

pub turn_if : {s u : Draft} (r : Result NodeId BuildNo) (at : Spot) (takes : ℕ) (body : NodeId) → Makes (node at (Turn takes body)) s r u → IfOk r (λ id. IsTurnAt u.rows id)
turn_if (Ok id) at takes body made = makes_turn at takes body made
turn_if (Err e) at takes body made = tt
