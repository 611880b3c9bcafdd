-- The top-level forms of a program that is made, one after another: nothing is wrong with them.
use Rattle.std.proofs.Common.{◌≡◌, ◌<◌, ℕ, zero, suc, ◌+◌, ◌^◌, arith, List, [], ◌∷◌, ◌++◌, map, refl, ap, ◌∙◌}
use Rattle.std.specs.Prelude.{None, codes}
use Rattle.std.specs.List.{range_with_len}
use Rattle.sexpr_reader.specs.declared.form.Form.{Form}
use Rattle.program_maker.specs.MadeText.{transfer}
use Rattle.sugar.specs.Meaning.{Meaning, cores}
use Rattle.sugar.specs.Expansion.{expanded, meaning}
use Rattle.scope_names.specs.Ops.{op_of}
use Rattle.scope_names.specs.Shapes.{Global}
use Rattle.scope_check.specs.declared.declared.Declared.{Declared}
use Rattle.scope_check.specs.Check.{declared_in, resolved_in, tops_in, globals_in, wrong_in}
use Rattle.scope_check.specs.Declaring.{declare_all, declare_shape, nothing}
use Rattle.scope_refusals.specs.First.{first_of}
use Rattle.scope_check.specs.Tops.{TopsResolved, tops_of}
use Rattle.made_programs.proofs.CoreTrees.{CoreTree, behind_third, core_of, first_in, place_of, third_of}
use Rattle.made_programs.proofs.ExprTrees.{ExprTree}
use Rattle.made_programs.proofs.Forms.{AllGo, Before, Goes, MadeForm, all_fine, cores_of_all, declared_all, expanded_all, resolved_all, tops_of_all}
use Rattle.made_programs.proofs.FormKinds.{behaviour_form, behaviour_goes, function_form, function_goes, global_form, global_goes, value_form, value_goes}
use Rattle.made_programs.proofs.MadeTrees.{amount_small, from_small, made_trees, move_tree, teller_small, to_small, total_tree, counter_tree, teller_tree, refs_tree, done_tree, spawn_tree, transfer_tree}
use Rattle.made_programs.proofs.Placed.{Places, meaning_is, meant, placed}
use Rattle.made_programs.proofs.Scoped.{all_declared, counter_declared, counter_shape, done_declared, done_shape, move_declared, move_shape, refs_declared, refs_shape, sent_shape, spawned_shape, teller_declared, teller_shape, total_declared, total_shape, with_counter, with_done, with_move, with_refs, with_spawn, with_teller, with_total}
use Rattle.made_programs.proofs.Sugared.{counter_is, done_is, move_core, move_is, plain, refs_is, send_core, send_is, send_made, spawn_core, spawn_is, spawn_made, teller_is, total_is, word_of}
use Rattle.made_programs.proofs.Topped.{counter_body, counter_fine, done_fine, done_value, move_body, move_fine, refs_fine, refs_value, send_fine, send_value, spawn_fine, spawn_value, teller_body, teller_fine, teller_forms, total_body, total_fine}
use Rattle.made_programs.proofs.Trees.{Tree}

-- where each of some trees stands
abbrev pub ListPlaces : List Tree → Type 0
ListPlaces [] = Unit {0}
ListPlaces (t ∷ ts) = Places t × ListPlaces ts

abbrev pub placed_list : (ts : List Tree) → ListPlaces ts → List Form
placed_list [] p = []
placed_list (t ∷ ts) p = placed t p.0 ∷ placed_list ts p.1

abbrev meant_list : (ts : List Tree) → ListPlaces ts → List Meaning
meant_list [] p = []
meant_list (t ∷ ts) p = meant t p.0 ∷ meant_list ts p.1

meanings_list : (ts : List Tree) (p : ListPlaces ts) → map meaning (placed_list ts p) ≡ meant_list ts p
meanings_list [] p = refl
meanings_list (t ∷ ts) p = ap (λ m. m ∷ map meaning (placed_list ts p.1)) (meaning_is t p.0) ∙ ap (λ ms. meant t p.0 ∷ ms) (meanings_list ts p.1)

-- what stands before the first form, and before one behind the first: that one makes four names
abbrev pub first : Before
first = record { made = 0; declared = nothing; functions = 0; loops = 2; globals = 0 }

abbrev behind : Declared → ℕ → ℕ → ℕ → Before
behind d functions loops globals = record { made = 4; declared = d; functions = functions; loops = loops; globals = globals }

abbrev pub last : Before
last = behind all_declared 2 3 10

-- the transfers
module _ (number : ℕ) where
  abbrev pub SendPlaces : List ℕ → Type 0
  SendPlaces indices = ListPlaces (map (transfer_tree number) indices)

  abbrev pub sent : ℕ → ExprTree
  sent index = send_value (transfer number index).teller (transfer number index).from (transfer number index).to (transfer number index).amount

  abbrev sent_core : (index : ℕ) → Places (transfer_tree number index) → CoreTree
  sent_core index p =
      send_core (transfer number index).teller (transfer number index).from (transfer number index).to (transfer number index).amount
      (teller_small number index) (from_small number index) (to_small number index) (amount_small number index) p

  abbrev pub send_form : (index : ℕ) → Places (transfer_tree number index) → MadeForm
  send_form index p = value_form (meant (transfer_tree number index) p) (sent_core index p) (sent index) 10

  abbrev pub send_forms : (indices : List ℕ) → SendPlaces indices → List MadeForm
  send_forms [] p = []
  send_forms (index ∷ indices) p = send_form index p.0 ∷ send_forms indices p.1

  send_goes : (index : ℕ) (p : Places (transfer_tree number index)) → Goes (send_form index p) last last
  send_goes index p =
      let t = transfer number index in
      let shape = sent_shape t.teller t.from t.to t.amount (teller_small number index) (from_small number index) (to_small number index) (amount_small number index) p in
      value_goes (meant (transfer_tree number index) p) (sent_core index p) (sent index) last last
      (record {
        expanded = send_is t.teller t.from t.to t.amount (teller_small number index) (from_small number index) (to_small number index) (amount_small number index) p 4;
        made =
            ap (λ n. 4 + n)
            (send_made t.teller t.from t.to t.amount (teller_small number index) (from_small number index) (to_small number index) (amount_small number index) p);
        declared = ap (λ s. declare_shape s p.0 all_declared) shape;
      })
      shape
      (send_fine t.from t.to t.amount (from_small number index) (to_small number index) (amount_small number index) t.teller (teller_small number index) (teller_small number index) p)
      refl refl

  sends_go : (indices : List ℕ) (p : SendPlaces indices) → AllGo (send_forms indices p) last last
  sends_go [] p = refl
  sends_go (index ∷ indices) p = (last, send_goes index p.0, sends_go indices p.1)

-- a teller that is spawned
abbrev spawn_form : (teller : ℕ) (small : teller < 8) → Places (spawn_tree teller small) → ℕ → MadeForm
spawn_form teller small p globals = global_form (meant (spawn_tree teller small) p) (spawn_core teller small p) spawn_value globals

spawn_goes : (teller : ℕ) (small : teller < 8) (p : Places (spawn_tree teller small)) (d : Declared) (globals : ℕ)
    → declare_shape (Global (word_of teller) (core_of (third_of (spawn_core teller small p)))) p.0 d ≡ with_spawn teller d
    → Goes (spawn_form teller small p globals) (behind d 2 3 globals) (behind (with_spawn teller d) 2 3 (globals + 1))
spawn_goes teller small p d globals new =
    let shape = spawned_shape teller small p in
    global_goes (meant (spawn_tree teller small) p) (spawn_core teller small p) spawn_value (behind d 2 3 globals) (behind (with_spawn teller d) 2 3 (globals + 1))
    (record { expanded = spawn_is teller small p 4; made = ap (λ n. 4 + n) (spawn_made teller small p); declared = ap (λ s. declare_shape s p.0 d) shape ∙ new })
    (word_of teller) shape (spawn_fine teller small p) refl refl

-- the whole program
module _ (number size : ℕ) (small : size < 2 ^ 63) (q : ListPlaces (made_trees number size small)) where
  abbrev spawn_forms : List MadeForm
  spawn_forms =
      spawn_form 0 (omega arith) q.1.1.1.1.1.1.0 2 ∷ spawn_form 1 (omega arith) q.1.1.1.1.1.1.1.0 3
      ∷ spawn_form 2 (omega arith) q.1.1.1.1.1.1.1.1.0 4 ∷ spawn_form 3 (omega arith) q.1.1.1.1.1.1.1.1.1.0 5
      ∷ spawn_form 4 (omega arith) q.1.1.1.1.1.1.1.1.1.1.0 6 ∷ spawn_form 5 (omega arith) q.1.1.1.1.1.1.1.1.1.1.1.0 7
      ∷ spawn_form 6 (omega arith) q.1.1.1.1.1.1.1.1.1.1.1.1.0 8 ∷ spawn_form 7 (omega arith) q.1.1.1.1.1.1.1.1.1.1.1.1.1.0 9 ∷ []

  abbrev pub definition_forms : List MadeForm
  definition_forms =
      function_form (meant move_tree q.0) (move_core q.0) move_body 3 0
      ∷ function_form (meant total_tree q.1.0) (plain total_tree q.1.0) total_body 3 0
      ∷ behaviour_form (meant counter_tree q.1.1.0) (plain counter_tree q.1.1.0) counter_body
      (record { at = place_of (third_of (plain counter_tree q.1.1.0)); state = 2; message = 0 })
      (first_in (behind_third (third_of (plain counter_tree q.1.1.0)))) 0
      ∷ behaviour_form (meant teller_tree q.1.1.1.0) (plain teller_tree q.1.1.1.0) teller_body
      (record { at = place_of (third_of (plain teller_tree q.1.1.1.0)); state = 2; message = 3 })
      (teller_forms (third_of (plain teller_tree q.1.1.1.0))) 0
      ∷ global_form (meant refs_tree q.1.1.1.1.0) (plain refs_tree q.1.1.1.1.0) refs_value 0
      ∷ global_form (meant (done_tree size small) q.1.1.1.1.1.0) (plain (done_tree size small) q.1.1.1.1.1.0) (done_value size) 1
      ∷ spawn_forms

  abbrev pub sends : List MadeForm
  sends = send_forms number (range_with_len 0 size) q.1.1.1.1.1.1.1.1.1.1.1.1.1.1

  abbrev pub made_forms : List MadeForm
  made_forms = definition_forms ++ sends

  move_goes : Goes (function_form (meant move_tree q.0) (move_core q.0) move_body 3 0) first (behind with_move 1 2 0)
  move_goes =
      function_goes (meant move_tree q.0) (move_core q.0) move_body first (behind with_move 1 2 0)
      (record { expanded = move_is q.0; made = refl; declared = move_declared q.0 }) (codes "move") 3 (move_shape q.0) (move_fine q.0) refl refl

  abbrev spawned : ℕ → Declared
  spawned zero = with_done
  spawned (suc n) = with_spawn n (spawned n)

  abbrev spawned_at : ℕ → Before
  spawned_at n = behind (spawned n) 2 3 (2 + n)

  spawns_go : AllGo (spawn_forms ++ sends) (spawned_at 0) last
  unfolding op_of
  spawns_go = (
    spawned_at 1,
    spawn_goes 0 (omega arith) q.1.1.1.1.1.1.0 (spawned 0) 2 refl,
    (
      spawned_at 2,
      spawn_goes 1 (omega arith) q.1.1.1.1.1.1.1.0 (spawned 1) 3 refl,
      (
        spawned_at 3,
        spawn_goes 2 (omega arith) q.1.1.1.1.1.1.1.1.0 (spawned 2) 4 refl,
        (
          spawned_at 4,
          spawn_goes 3 (omega arith) q.1.1.1.1.1.1.1.1.1.0 (spawned 3) 5 refl,
          (
            spawned_at 5,
            spawn_goes 4 (omega arith) q.1.1.1.1.1.1.1.1.1.1.0 (spawned 4) 6 refl,
            (
              spawned_at 6,
              spawn_goes 5 (omega arith) q.1.1.1.1.1.1.1.1.1.1.1.0 (spawned 5) 7 refl,
              (
                spawned_at 7,
                spawn_goes 6 (omega arith) q.1.1.1.1.1.1.1.1.1.1.1.1.0 (spawned 6) 8 refl,
                (spawned_at 8, spawn_goes 7 (omega arith) q.1.1.1.1.1.1.1.1.1.1.1.1.1.0 (spawned 7) 9 refl, sends_go number (range_with_len 0 size) q.1.1.1.1.1.1.1.1.1.1.1.1.1.1),
              ),
            ),
          ),
        ),
      ),
    ),
  )

  pub all_go : AllGo made_forms first last
  unfolding op_of
  all_go = (
    behind with_move 1 2 0,
    move_goes,
    (
      behind with_total 2 2 0,
      function_goes (meant total_tree q.1.0) (plain total_tree q.1.0) total_body (behind with_move 1 2 0) (behind with_total 2 2 0)
          (record { expanded = total_is q.1.0 4; made = refl; declared = total_declared q.1.0 }) (codes "total") 3 (total_shape q.1.0) (total_fine q.1.0) refl refl,
      (
        behind with_counter 2 2 0,
        behaviour_goes (meant counter_tree q.1.1.0) (plain counter_tree q.1.1.0) counter_body (behind with_total 2 2 0) (behind with_counter 2 2 0)
            (record { expanded = counter_is q.1.1.0 4; made = refl; declared = counter_declared q.1.1.0 })
            (codes "counter") _ (first_in (behind_third (third_of (plain counter_tree q.1.1.0)))) (counter_shape q.1.1.0) (counter_fine q.1.1.0) refl refl,
        (
          behind with_teller 2 2 0,
          behaviour_goes (meant teller_tree q.1.1.1.0) (plain teller_tree q.1.1.1.0) teller_body (behind with_counter 2 2 0) (behind with_teller 2 2 0)
              (record { expanded = teller_is q.1.1.1.0 4; made = refl; declared = teller_declared q.1.1.1.0 })
              (codes "teller") _ (teller_forms (third_of (plain teller_tree q.1.1.1.0))) (teller_shape q.1.1.1.0) (teller_fine q.1.1.1.0) refl refl,
          (
            behind with_refs 2 3 1,
            global_goes (meant refs_tree q.1.1.1.1.0) (plain refs_tree q.1.1.1.1.0) refs_value (behind with_teller 2 2 0) (behind with_refs 2 3 1)
                (record { expanded = refs_is q.1.1.1.1.0 4; made = refl; declared = refs_declared q.1.1.1.1.0 }) (codes "refs") (refs_shape q.1.1.1.1.0) (refs_fine q.1.1.1.1.0) refl refl,
            (
              behind with_done 2 3 2,
              global_goes (meant (done_tree size small) q.1.1.1.1.1.0) (plain (done_tree size small) q.1.1.1.1.1.0) (done_value size) (behind with_refs 2 3 1) (behind with_done 2 3 2)
                  (record { expanded = done_is size small q.1.1.1.1.1.0 4; made = refl; declared = done_declared size small q.1.1.1.1.1.0 })
                  (codes "done") (done_shape size small q.1.1.1.1.1.0) (done_fine size small q.1.1.1.1.1.0) refl refl,
              spawns_go,
            ),
          ),
        ),
      ),
    ),
  )

  -- ---- what the forms of the text come to
  abbrev pub forms : List Form
  forms = placed_list (made_trees number size small) q

  core_forms : expanded forms ≡ cores_of_all made_forms
  core_forms = ap (λ ms. cores ms 0) (meanings_list (made_trees number size small) q ∙ meanings_are) ∙ expanded_all made_forms first last all_go
    where
      sends_are : (indices : List ℕ) (p : SendPlaces number indices) → meant_list (map (transfer_tree number) indices) p ≡ map (λ (f : MadeForm). f.meaning) (send_forms number indices p)
      sends_are [] p = refl
      sends_are (index ∷ indices) p = ap (λ ms. meant (transfer_tree number index) p.0 ∷ ms) (sends_are indices p.1)

      meanings_are : meant_list (made_trees number size small) q ≡ map (λ (f : MadeForm). f.meaning) made_forms
      meanings_are = ap (λ ms. map (λ (f : MadeForm). f.meaning) definition_forms ++ ms) (sends_are (range_with_len 0 size) q.1.1.1.1.1.1.1.1.1.1.1.1.1.1)

  declared_forms : declared_in forms ≡ all_declared
  declared_forms = ap (λ cs. declare_all cs nothing) core_forms ∙ declared_all made_forms first last all_go

  resolved_forms : resolved_in forms ≡ all_fine made_forms 3
  resolved_forms =
      ap (λ cs. tops_of cs 0 (declared_in forms).definitions (declared_in forms).functions) core_forms
      ∙ ap (λ (d : Declared). tops_of (cores_of_all made_forms) 0 d.definitions d.functions) declared_forms ∙ resolved_all made_forms first last all_go

  pub no_wrong : wrong_in forms ≡ None
  no_wrong =
      ap (λ (d : Declared). first_of (d.refusals ++ (resolved_in forms).refusals)) declared_forms
      ∙ ap (λ (r : TopsResolved). first_of r.refusals) resolved_forms

  pub tops_are : tops_in forms ≡ tops_of_all made_forms
  tops_are = ap (λ (r : TopsResolved). r.tops) resolved_forms

  pub ten_globals : globals_in forms ≡ 10
  ten_globals = ap (λ (d : Declared). d.globals) declared_forms
