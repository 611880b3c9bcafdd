-- What the top-level forms of a program that is made come to.
use Rattle.std.proofs.Common.{◌≡◌, ◌<◌, ◌≤◌, ℕ, ◌+◌, ◌^◌, pos, List, [], ◌∷◌, refl}
use Rattle.std.specs.Prelude.{codes}
use Rattle.value_core.specs.Place.{Spot}
use Rattle.value_core.specs.declared.op.Op.{Op}
use Rattle.value_core.specs.declared.op.Op.TheVariants as op
use Rattle.scope_names.specs.declared.definition.Definition.{Definition}
use Rattle.scope_names.specs.Finding.{find}
use Rattle.scope_names.specs.Ops.{op_of}
use Rattle.scope_names.specs.Special.{special_of}
use Rattle.resolved_forms.specs.declared.head.Head.TheVariants as head
use Rattle.resolved_forms.specs.declared.expr.Looping.{Looping}
use Rattle.resolved_forms.specs.declared.top.TopKind.{TopKind}
use Rattle.resolved_forms.specs.declared.top.TopKind.TheVariants.{Value as value_kind, Function as function_kind, Behaviour as behaviour_kind, Global as global_kind}
use Rattle.scope_check.specs.Tops.{TopResolved, top_at}
use Rattle.made_programs.proofs.CoreTrees.{CoreTree, CoreTrees, behaviour_by, behind_third, first_in, function_by, global_by, parts_in, place_of, second_of, third_of, value_by}
use Rattle.made_programs.proofs.ExprTrees.{ExprTree, ExprTrees, expr_from}
use Rattle.made_programs.proofs.MadeTrees.{below_eight, counter_tree, done_tree, move_tree, refs_tree, send_tree, spawn_tree, teller_tree, total_tree}
use Rattle.made_programs.proofs.Placed.{Places}
use Rattle.made_programs.proofs.Scoped.{all_declared}
use Rattle.made_programs.proofs.Sugared.{move_core, plain, send_core, spawn_core}

abbrev pub definitions : List Definition
definitions = all_declared.definitions

abbrev pub function_from : CoreTree → ℕ → TopResolved
function_from c number = function_by (place_of c) number (parts_in (third_of c)) (behind_third c) definitions 2

abbrev pub behaviour_from : CoreTree → TopResolved
behaviour_from c = behaviour_by (place_of c) (place_of (third_of c)) (parts_in (second_of (third_of c))) (parts_in (third_of (third_of c))) (behind_third (third_of c)) definitions 2

abbrev pub args : List ExprTree → ExprTrees
args [] = ExprTrees.none
args (t ∷ ts) = ExprTrees.more t (args ts)

-- a form with nothing wrong
abbrev pub fine : Spot → TopKind → ℕ → TopResolved
fine at kind loops = record { top = top_at at kind; loops = loops; refusals = [] }

-- an alter of the local of that level by the one of level 2, with the two made names behind the parameters
abbrev pub alter_tree : ℕ → Op → ExprTree
alter_tree ref op =
    ExprTree.bound (ExprTree.level ref) (ExprTree.level 2)
    (ExprTree.apply head.RefSet (args (ExprTree.level 3 ∷ ExprTree.apply (head.Op op) (args (ExprTree.apply head.Deref (args (ExprTree.level 3 ∷ [])) ∷ ExprTree.level 4 ∷ [])) ∷ [])))

abbrev pub move_body : ExprTree
move_body = ExprTree.round head.Dosync (ExprTree.apply head.Do (args (alter_tree 0 op.Subtract ∷ alter_tree 1 op.Add ∷ ExprTree.nil ∷ [])))

abbrev pub move_kind : Places move_tree → TopKind
move_kind p = function_kind 3 (expr_from move_body (first_in (behind_third (move_core p))))

pub move_fine : (p : Places move_tree) → function_from (move_core p) 0 ≡ fine p.0 (move_kind p) 2
unfolding find op_of special_of
move_fine p = refl

abbrev pub total_body : ExprTree
total_body =
    ExprTree.apply head.If (args (ExprTree.apply (head.Op op.Same) (args (ExprTree.level 1 ∷ ExprTree.apply (head.Op op.Count) (args (ExprTree.level 0 ∷ [])) ∷ []))
    ∷ ExprTree.level 2
    ∷ ExprTree.apply (head.Call 1) (args (ExprTree.level 0 ∷ ExprTree.apply (head.Op op.Inc) (args (ExprTree.level 1 ∷ []))
    ∷ ExprTree.apply (head.Op op.Add) (args (ExprTree.level 2 ∷ ExprTree.apply head.Deref (args (ExprTree.apply (head.Op op.Nth) (args (ExprTree.level 0 ∷ ExprTree.level 1 ∷ [])) ∷ [])) ∷ [])) ∷ [])) ∷ []))

abbrev pub total_kind : Places total_tree → TopKind
total_kind p = function_kind 3 (expr_from total_body (first_in (behind_third (plain total_tree p))))

pub total_fine : (p : Places total_tree) → function_from (plain total_tree p) 1 ≡ fine p.0 (total_kind p) 2
unfolding find op_of special_of
total_fine p = refl

abbrev pub counter_body : ExprTree
counter_body =
    ExprTree.apply head.If (args (ExprTree.apply (head.Op op.Same) (args (ExprTree.level 0 ∷ ExprTree.integer (pos 1) ∷ []))
    ∷ ExprTree.apply head.Println (args (ExprTree.string (codes "total") ∷ ExprTree.apply head.Dosync (args (ExprTree.apply (head.Call 1) (args (ExprTree.level 1 ∷ ExprTree.integer (pos 0) ∷ ExprTree.integer (pos 0) ∷ [])) ∷ [])) ∷ []))
    ∷ ExprTree.starts (head.Become 0) (args (ExprTree.apply (head.Op op.Dec) (args (ExprTree.level 0 ∷ [])) ∷ ExprTree.level 1 ∷ [])) ∷ []))

abbrev pub counter_kind : Places counter_tree → TopKind
counter_kind p =
    let r = third_of (plain counter_tree p) in
    behaviour_kind (record { at = place_of r; state = 2; message = 0 }) (expr_from counter_body (first_in (behind_third r)))

pub counter_fine : (p : Places counter_tree) → behaviour_from (plain counter_tree p) ≡ fine p.0 (counter_kind p) 2
unfolding find op_of special_of
counter_fine p = refl

abbrev pub teller_body : ExprTree
teller_body =
    ExprTree.apply head.Do (args (ExprTree.apply (head.Call 0) (args (ExprTree.apply (head.Op op.Nth) (args (ExprTree.level 1 ∷ ExprTree.level 2 ∷ []))
    ∷ ExprTree.apply (head.Op op.Nth) (args (ExprTree.level 1 ∷ ExprTree.level 3 ∷ [])) ∷ ExprTree.level 4 ∷ []))
    ∷ ExprTree.apply head.Send (args (ExprTree.level 0 ∷ [])) ∷ []))

-- its two forms stand at its own place
abbrev pub teller_forms : CoreTree → CoreTree
teller_forms r = CoreTree.list (place_of r) (CoreTrees.more r (behind_third r))

abbrev pub teller_kind : Places teller_tree → TopKind
teller_kind p =
    let r = third_of (plain teller_tree p) in
    behaviour_kind (record { at = place_of r; state = 2; message = 3 }) (expr_from teller_body (teller_forms r))

pub teller_fine : (p : Places teller_tree) → behaviour_from (plain teller_tree p) ≡ fine p.0 (teller_kind p) 2
unfolding find op_of special_of
teller_fine p = refl

abbrev pub refs_loop : Looping
refs_loop = record { number = 2; base = 0; arguments = 0 ∷ 1 ∷ [] }

abbrev pub refs_value : ExprTree
refs_value =
    ExprTree.loop refs_loop (ExprTree.items head.Vector ExprTrees.none) (ExprTree.integer (pos 0))
    (ExprTree.apply head.If (args (ExprTree.apply (head.Op op.Same) (args (ExprTree.level 1 ∷ ExprTree.integer (pos 100) ∷ []))
    ∷ ExprTree.level 0
    ∷ ExprTree.apply (head.Call 2) (args (ExprTree.apply (head.Op op.Conj) (args (ExprTree.level 0 ∷ ExprTree.apply head.Ref (args (ExprTree.integer (pos 1000) ∷ [])) ∷ []))
    ∷ ExprTree.apply (head.Op op.Inc) (args (ExprTree.level 1 ∷ [])) ∷ [])) ∷ [])))

abbrev pub refs_kind : Places refs_tree → TopKind
refs_kind p = global_kind (expr_from refs_value (third_of (plain refs_tree p)))

pub refs_fine : (p : Places refs_tree) → global_by p.0 (third_of (plain refs_tree p)) definitions 2 ≡ fine p.0 (refs_kind p) 3
unfolding find op_of special_of
refs_fine p = refl

abbrev pub done_value : ℕ → ExprTree
done_value size = ExprTree.starts (head.Spawn 0) (args (ExprTree.integer (pos size) ∷ ExprTree.global 0 ∷ []))

abbrev pub done_kind : (size : ℕ) (small : size < 2 ^ 63) → Places (done_tree size small) → TopKind
done_kind size small p = global_kind (expr_from (done_value size) (third_of (plain (done_tree size small) p)))

pub done_fine : (size : ℕ) (small : size < 2 ^ 63) (p : Places (done_tree size small)) → global_by p.0 (third_of (plain (done_tree size small) p)) definitions 3 ≡ fine p.0 (done_kind size small p) 3
unfolding find op_of special_of
done_fine size small p = refl

abbrev pub spawn_value : ExprTree
spawn_value = ExprTree.starts (head.Spawn 1) (args (ExprTree.global 1 ∷ ExprTree.global 0 ∷ []))

abbrev pub spawn_kind : (teller : ℕ) (small : teller < 8) → Places (spawn_tree teller small) → TopKind
spawn_kind teller small p = global_kind (expr_from spawn_value (third_of (spawn_core teller small p)))

pub spawn_fine : (teller : ℕ) (small : teller < 8) (p : Places (spawn_tree teller small)) → global_by p.0 (third_of (spawn_core teller small p)) definitions 3 ≡ fine p.0 (spawn_kind teller small p) 3
unfolding find op_of special_of
spawn_fine teller small p = refl

-- a send of three integers to a global
abbrev pub send_value : ℕ → ℕ → ℕ → ℕ → ExprTree
send_value teller from to amount = ExprTree.apply head.Send (args (ExprTree.global (2 + teller) ∷ ExprTree.integer (pos from) ∷ ExprTree.integer (pos to) ∷ ExprTree.integer (pos amount) ∷ []))

module _ (from to amount : ℕ) (low : from < 100) (other : to < 100) (few : amount ≤ 50) where
  abbrev pub send_kind : (teller : ℕ) (small : teller < 8) → Places (send_tree teller from to amount small low other few) → TopKind
  send_kind teller small p = value_kind (expr_from (send_value teller from to amount) (send_core teller from to amount small low other few p))

  abbrev SendsAt : ℕ → Type 0
  SendsAt teller = (small : teller < 8) (p : Places (send_tree teller from to amount small low other few))
      → value_by p.0 (send_core teller from to amount small low other few p) definitions 3 ≡ fine p.0 (send_kind teller small p) 3

  pub send_fine : (teller : ℕ) → teller < 8 → SendsAt teller
  unfolding find op_of special_of
  send_fine = below_eight SendsAt (λ s p. refl) (λ s p. refl) (λ s p. refl) (λ s p. refl) (λ s p. refl) (λ s p. refl) (λ s p. refl) (λ s p. refl)
