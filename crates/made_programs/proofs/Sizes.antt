-- How many nodes forms become at most.
use Rattle.std.proofs.Common.{◌≡◌, ◌≤◌, ℕ, ◌+◌, false, arith, List, [], ◌∷◌, length, length-append, refl, ap}
use Rattle.std.specs.Prelude.{None, nat_lt}
use Rattle.std.proofs.lemmas.Bool.Decides.{nat_tests}
use Rattle.value_core.specs.Place.{Spot}
use Rattle.core_syntax.specs.Limit.{node_limit}
use Rattle.core_syntax.specs.declared.node_id.NodeId.{NodeId}
use Rattle.resolved_forms.specs.declared.layout.Layout.{Layout}
use Rattle.resolved_forms.specs.declared.top.Top.{Top}
use Rattle.resolved_forms.specs.declared.top.TopKind.{TopKind}
use Rattle.resolved_forms.specs.declared.top.TopKind.TheVariants.{Global, Value, Function as Defined, Behaviour as Reacts}
use Rattle.program_plan.specs.Emitted.{turn_of}
use Rattle.program_plan.specs.Lowered.{Parts, first_past_from, top_making, with_root, with_top}
use Rattle.program_plan.specs.Made.{Draft, Making, answered, extended}
use Rattle.made_programs.proofs.ExprTrees.{HasRows, rows_followed, rows_node}

-- how many nodes a form becomes at most
pub record IsSized (most : ℕ) (top : Top) : Type 0 where
  pub is : (layout : Layout) (parts : Parts) → HasRows most (top_making layout parts top.kind)

pub rows_turn : (at : Spot) (takes most : ℕ) (p : Making NodeId) → HasRows most p → HasRows (most + 1) (turn_of at takes p)
unfolding turn_of
rows_turn at takes most p h = rows_followed most 1 p _ h (λ id. rows_node at _)

abbrev pub AreSized : List ℕ → List Top → Type 0
AreSized [] [] = Unit {0}
AreSized (most ∷ mosts) (top ∷ tops) = IsSized most top × AreSized mosts tops
AreSized _ _ = ⊥

abbrev pub sum : List ℕ → ℕ
sum [] = 0
sum (n ∷ ns) = n + sum ns

its_draft : (layout : Layout) (at : Spot) (kind : TopKind) (parts : Parts) (draft : Draft) (root : NodeId) → (with_root layout at kind parts draft root).draft ≡ draft
its_draft layout at (Global expr) parts draft root = refl
its_draft layout at (Value expr) parts draft root = refl
its_draft layout at (Defined params body) parts draft root = refl
its_draft layout at (Reacts head body) parts draft root = refl

one_more : (layout : Layout) (parts : Parts) (top : Top) (most : ℕ) → IsSized most top → length (with_top layout parts top).draft.rows ≤ length parts.draft.rows + most
unfolding extended
one_more layout parts top most h =
    let making = top_making layout parts top.kind in
    let rows = (making (length parts.draft.rows)).rows in
    let is = ap (λ (d : Draft). length d.rows) (its_draft layout top.at top.kind parts (extended making parts.draft) (answered making parts.draft)) in
    omega (arith, is, length-append parts.draft.rows rows, (h.is layout parts).at_most (length parts.draft.rows))

pub not_past : (layout : Layout) (parts : Parts) (mosts : List ℕ) (tops : List Top) → AreSized mosts tops → length parts.draft.rows + sum mosts ≤ 1000000 → first_past_from layout parts tops ≡ None
not_past layout parts [] [] h few = refl
not_past layout parts [] (top ∷ tops) h few = absurd h
not_past layout parts (most ∷ mosts) [] h few = absurd h
not_past layout parts (most ∷ mosts) (top ∷ tops) h few =
    let first = one_more layout parts top most h.0 in
    let test : nat_lt node_limit (length (with_top layout parts top).draft.rows) ≡ false = not_more (length (with_top layout parts top).draft.rows) (omega (arith, first, few)) in
    rw test (not_past layout (with_top layout parts top) mosts tops h.1 (omega (arith, first, few)))
  where
    not_more : (n : ℕ) → n ≤ 1000000 → nat_lt node_limit n ≡ false
    not_more n small = grind (arith, nat_tests)
