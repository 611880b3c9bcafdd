-- Nothing is wrong with the core forms of a program that is made.
use Rattle.std.proofs.Common.{◌≡◌, ◌<◌, ◌≤◌, ℕ, ◌^◌, List, ap, ◌∙◌}
use Rattle.std.specs.Prelude.{codes}
use Rattle.scope_names.specs.declared.definition.Definition.{Definition}
use Rattle.scope_names.specs.Ops.{op_of}
use Rattle.scope_names.specs.Shapes.{Function, Behaviour, Global, Value, shape_of}
use Rattle.scope_check.specs.declared.declared.Declared.{Declared}
use Rattle.scope_check.specs.Declaring.{declare, declare_shape, nothing, with_behaviour, with_function, with_global}
use Rattle.scope_check.specs.Tops.{shaped_top, top_of}
use Rattle.made_programs.proofs.CoreTrees.{CoreTree, behaviour_by, behaviour_is, behind_first, behind_third, core_of, cores_of, first_of, function_by, function_is, global_by, global_is, parts_in, place_of, reaction_by, second_of, third_of, value_by, value_top_is}
use Rattle.made_programs.proofs.MadeTrees.{counter_tree, done_tree, move_tree, refs_tree, send_tree, spawn_tree, teller_tree, total_tree}
use Rattle.made_programs.proofs.Placed.{Places}
use Rattle.made_programs.proofs.Shapes.{behaviour_shape, function_shape, loop_shape, send_shape, spawn_shape}
use Rattle.made_programs.proofs.Sugared.{move_core, plain, send_core, spawn_core, word_of}

-- what the forms define, one after another
abbrev pub with_move : Declared
with_move = with_function (codes "move") 3 nothing

abbrev pub with_total : Declared
with_total = with_function (codes "total") 3 with_move

abbrev pub with_counter : Declared
with_counter = with_behaviour (codes "counter") 2 with_total

abbrev pub with_teller : Declared
with_teller = with_behaviour (codes "teller") 2 with_counter

abbrev pub with_refs : Declared
with_refs = with_global (codes "refs") with_teller

abbrev pub with_done : Declared
with_done = with_global (codes "done") with_refs

abbrev pub with_spawn : ℕ → Declared → Declared
with_spawn teller d = with_global (word_of teller) d

abbrev pub all_declared : Declared
all_declared = with_spawn 7 (with_spawn 6 (with_spawn 5 (with_spawn 4 (with_spawn 3 (with_spawn 2 (with_spawn 1 (with_spawn 0 with_done)))))))

-- a form that is a function, a behaviour, a global or an expression
module _ (c : CoreTree) where
  abbrev pub IsFunction : List ℕ → Type 0
  IsFunction name = shape_of (core_of c) ≡ Function name (cores_of (parts_in (third_of c))) (cores_of (behind_third c))

  abbrev pub IsBehaviour : List ℕ → Type 0
  IsBehaviour name = shape_of (core_of c) ≡ Behaviour name (reaction_by (place_of (third_of c)) (parts_in (second_of (third_of c))) (parts_in (third_of (third_of c))) (behind_third (third_of c)))

  abbrev pub IsGlobal : List ℕ → Type 0
  IsGlobal name = shape_of (core_of c) ≡ Global name (core_of (third_of c))

  module _ (name : List ℕ) (number : ℕ) (definitions : List Definition) (loops : ℕ) where
    pub function_top_of : IsFunction name → top_of (core_of c) number definitions loops ≡ function_by (place_of c) number (parts_in (third_of c)) (behind_third c) definitions loops
    function_top_of is = ap (λ s. shaped_top s (core_of c) number definitions loops) is ∙ function_is (place_of c) number (parts_in (third_of c)) (behind_third c) definitions loops

    pub behaviour_top_of : IsBehaviour name → top_of (core_of c) number definitions loops
        ≡ behaviour_by (place_of c) (place_of (third_of c)) (parts_in (second_of (third_of c))) (parts_in (third_of (third_of c))) (behind_third (third_of c)) definitions loops
    behaviour_top_of is =
        ap (λ s. shaped_top s (core_of c) number definitions loops) is
        ∙ behaviour_is (place_of c) (place_of (third_of c)) (parts_in (second_of (third_of c))) (parts_in (third_of (third_of c))) (behind_third (third_of c)) definitions loops

    pub global_top_of : IsGlobal name → top_of (core_of c) number definitions loops ≡ global_by (place_of c) (third_of c) definitions loops
    global_top_of is = ap (λ s. shaped_top s (core_of c) number definitions loops) is ∙ global_is (place_of c) (third_of c) definitions loops

    pub value_top_of : shape_of (core_of c) ≡ Value → top_of (core_of c) number definitions loops ≡ value_by (place_of c) c definitions loops
    value_top_of is = ap (λ s. shaped_top s (core_of c) number definitions loops) is ∙ value_top_is (place_of c) c definitions loops

module _ (p : Places move_tree) where
  pub move_shape : IsFunction (move_core p) (codes "move")
  move_shape = let c = move_core p in function_shape (place_of c) (place_of (first_of c)) (place_of (second_of c)) (place_of (third_of c)) (codes "move") (parts_in (third_of c)) (behind_third c)

  pub move_declared : declare (core_of (move_core p)) nothing ≡ with_move
  unfolding op_of
  move_declared = ap (λ s. declare_shape s p.0 nothing) move_shape

module _ (p : Places total_tree) where
  pub total_shape : IsFunction (plain total_tree p) (codes "total")
  total_shape = let c = plain total_tree p in function_shape (place_of c) (place_of (first_of c)) (place_of (second_of c)) (place_of (third_of c)) (codes "total") (parts_in (third_of c)) (behind_third c)

  pub total_declared : declare (core_of (plain total_tree p)) with_move ≡ with_total
  unfolding op_of
  total_declared = ap (λ s. declare_shape s p.0 with_move) total_shape

module _ (p : Places counter_tree) where
  pub counter_shape : IsBehaviour (plain counter_tree p) (codes "counter")
  counter_shape =
      let c = plain counter_tree p in
      let r = third_of c in
      behaviour_shape (place_of c) (place_of (first_of c)) (place_of (second_of c)) (place_of r) (place_of (first_of r)) (place_of (second_of r)) (place_of (third_of r))
      (codes "counter") (parts_in (second_of r)) (parts_in (third_of r)) (behind_third r)

  pub counter_declared : declare (core_of (plain counter_tree p)) with_total ≡ with_counter
  unfolding op_of
  counter_declared = ap (λ s. declare_shape s p.0 with_total) counter_shape

module _ (p : Places teller_tree) where
  pub teller_shape : IsBehaviour (plain teller_tree p) (codes "teller")
  teller_shape =
      let c = plain teller_tree p in
      let r = third_of c in
      behaviour_shape (place_of c) (place_of (first_of c)) (place_of (second_of c)) (place_of r) (place_of (first_of r)) (place_of (second_of r)) (place_of (third_of r))
      (codes "teller") (parts_in (second_of r)) (parts_in (third_of r)) (behind_third r)

  pub teller_declared : declare (core_of (plain teller_tree p)) with_counter ≡ with_teller
  unfolding op_of
  teller_declared = ap (λ s. declare_shape s p.0 with_counter) teller_shape

module _ (p : Places refs_tree) where
  pub refs_shape : IsGlobal (plain refs_tree p) (codes "refs")
  refs_shape =
      let c = plain refs_tree p in
      let v = third_of c in
      loop_shape (place_of c) (place_of (first_of c)) (place_of (second_of c)) (place_of v) (place_of (first_of v)) (codes "refs") (second_of v) (third_of v)

  pub refs_declared : declare (core_of (plain refs_tree p)) with_teller ≡ with_refs
  unfolding op_of
  refs_declared = ap (λ s. declare_shape s p.0 with_teller) refs_shape

module _ (size : ℕ) (small : size < 2 ^ 63) (p : Places (done_tree size small)) where
  pub done_shape : IsGlobal (plain (done_tree size small) p) (codes "done")
  done_shape =
      let c = plain (done_tree size small) p in
      let v = third_of c in
      spawn_shape (place_of c) (place_of (first_of c)) (place_of (second_of c)) (place_of v) (place_of (first_of v)) (codes "done") (behind_first (parts_in v))

  pub done_declared : declare (core_of (plain (done_tree size small) p)) with_refs ≡ with_done
  unfolding op_of
  done_declared = ap (λ s. declare_shape s p.0 with_refs) done_shape

module _ (teller : ℕ) (small : teller < 8) (p : Places (spawn_tree teller small)) where
  pub spawned_shape : IsGlobal (spawn_core teller small p) (word_of teller)
  spawned_shape =
      let c = spawn_core teller small p in
      let v = third_of c in
      spawn_shape (place_of c) (place_of (first_of c)) (place_of (second_of c)) (place_of v) (place_of (first_of v)) (word_of teller) (behind_first (parts_in v))

module _ (teller from to amount : ℕ) (small : teller < 8) (low : from < 100) (other : to < 100) (few : amount ≤ 50) (p : Places (send_tree teller from to amount small low other few)) where
  pub sent_shape : shape_of (core_of (send_core teller from to amount small low other few p)) ≡ Value
  sent_shape = let c = send_core teller from to amount small low other few p in send_shape (place_of c) (place_of (first_of c)) (behind_first (parts_in c))
