-- Core forms by their shape, and what they come to where they stand.
use Rattle.std.proofs.Common.{◌≡◌, ℕ, ℤ, List, [], ◌∷◌, ◌++◌, length, refl, ap, ◌∙◌, rules}
use Rattle.value_core.specs.Place.{Spot}
use Rattle.sexpr_reader.specs.Cursor.{start}
use Rattle.sugar.specs.declared.core_form.Core.{Core}
use Rattle.sugar.specs.declared.core_form.CoreKind.{the_lemmas}
use Rattle.sugar.specs.declared.core_form.CoreKind.TheVariants as core
use Rattle.sugar.specs.Meaning.{core_at}
use Rattle.scope_names.specs.Names.{made_name}
use Rattle.scope_names.specs.declared.definition.Definition.{Definition}
use Rattle.resolved_forms.specs.declared.expr.ExprKind.TheVariants as expr
use Rattle.scope_check.specs.Heads.{list_value}
use Rattle.scope_check.specs.Parts.{body}
use Rattle.scope_check.specs.Resolved.{Meaning}
use Rattle.scope_check.specs.Scope.{binding}
use Rattle.scope_check.specs.Tops.{TopResolved, behaviour_top, function_stand, global_top, value_top, function_top, made_top, outside, parameters, top_scope}
use Rattle.resolved_forms.specs.declared.top.TopKind.TheVariants.{Function as function_kind, Behaviour as behaviour_kind, Global as global_kind, Value as value_kind}
use Rattle.scope_names.specs.Shapes.{Reaction}
use Rattle.scope_check.specs.Value.{meaning, meanings, constant, name_of, nameless, vector_of}

-- nil, an integer, a string, a name, a name that is made (with its text), or some of them in brackets, each with its place
mutual
  pub data CoreTree : Type 0 where
    nil : Spot → CoreTree
    integer : Spot → ℤ → CoreTree
    string : Spot → List ℕ → CoreTree
    word : Spot → List ℕ → CoreTree
    fresh : Spot → (n : ℕ) (name : List ℕ) → made_name n ≡ name → CoreTree
    list : Spot → CoreTrees → CoreTree
    vector : Spot → CoreTrees → CoreTree

  pub data CoreTrees : Type 0 where
    none : CoreTrees
    more : CoreTree → CoreTrees → CoreTrees

abbrev mutual
  pub core_of : CoreTree → Core
  core_of (CoreTree.nil at) = core_at at core.Nil
  core_of (CoreTree.integer at n) = core_at at (core.Int n)
  core_of (CoreTree.string at text) = core_at at (core.Str text)
  core_of (CoreTree.word at name) = core_at at (core.Sym name)
  core_of (CoreTree.fresh at n name is) = core_at at (core.Fresh n)
  core_of (CoreTree.list at cs) = core_at at (core.List (cores_of cs))
  core_of (CoreTree.vector at cs) = core_at at (core.Vector (cores_of cs))

  pub cores_of : CoreTrees → List Core
  cores_of CoreTrees.none = []
  cores_of (CoreTrees.more c cs) = core_of c ∷ cores_of cs

abbrev mutual
  pub valued : CoreTree → Meaning
  valued (CoreTree.nil at) = constant expr.Nil at
  valued (CoreTree.integer at n) = constant (expr.Int n) at
  valued (CoreTree.string at text) = constant (expr.Str text) at
  valued (CoreTree.word at name) = name_of name at
  valued (CoreTree.fresh at n name is) = name_of name at
  valued (CoreTree.list at cs) = nameless at (list_value at (all_valued cs))
  valued (CoreTree.vector at cs) = vector_of (all_valued cs) at

  pub all_valued : CoreTrees → List Meaning
  all_valued CoreTrees.none = []
  all_valued (CoreTrees.more c cs) = valued c ∷ all_valued cs

value-Nil : (at : Spot) → meaning (core_at at core.Nil) ≡ constant expr.Nil at
value-Nil at = search (rules, the_lemmas)

value-Int : (at : Spot) (n : ℤ) → meaning (core_at at (core.Int n)) ≡ constant (expr.Int n) at
value-Int at n = search (rules, the_lemmas)

value-Str : (at : Spot) (text : List ℕ) → meaning (core_at at (core.Str text)) ≡ constant (expr.Str text) at
value-Str at text = search (rules, the_lemmas)

value-Sym : (at : Spot) (name : List ℕ) → meaning (core_at at (core.Sym name)) ≡ name_of name at
value-Sym at name = search (rules, the_lemmas)

value-Fresh : (at : Spot) (n : ℕ) → meaning (core_at at (core.Fresh n)) ≡ name_of (made_name n) at
value-Fresh at n = search (rules, the_lemmas)

value-List : (at : Spot) (parts : List Core) → meaning (core_at at (core.List parts)) ≡ nameless at (list_value at (meanings parts))
value-List at parts = search (rules, the_lemmas)

value-Vector : (at : Spot) (parts : List Core) → meaning (core_at at (core.Vector parts)) ≡ vector_of (meanings parts) at
value-Vector at parts = search (rules, the_lemmas)

mutual
  pub value_is : (c : CoreTree) → meaning (core_of c) ≡ valued c
  value_is (CoreTree.nil at) = value-Nil at
  value_is (CoreTree.integer at n) = value-Int at n
  value_is (CoreTree.string at text) = value-Str at text
  value_is (CoreTree.word at name) = value-Sym at name
  value_is (CoreTree.fresh at n name is) = value-Fresh at n ∙ ap (λ x. name_of x at) is
  value_is (CoreTree.list at cs) = value-List at (cores_of cs) ∙ ap (λ ms. nameless at (list_value at ms)) (values_are cs)
  value_is (CoreTree.vector at cs) = value-Vector at (cores_of cs) ∙ ap (λ ms. vector_of ms at) (values_are cs)

  pub values_are : (cs : CoreTrees) → meanings (cores_of cs) ≡ all_valued cs
  values_are CoreTrees.none = refl
  values_are (CoreTrees.more c cs) = ap (λ m. m ∷ meanings (cores_of cs)) (value_is c) ∙ ap (λ ms. valued c ∷ ms) (values_are cs)

-- the top-level forms
abbrev pub function_by : Spot → ℕ → CoreTrees → CoreTrees → List Definition → ℕ → TopResolved
function_by at number params parts definitions loops =
    let scope = top_scope definitions (function_stand number (length (cores_of params))) in
    let ps = parameters (all_valued params) scope loops in
    let inner = body at (all_valued parts) (binding ps.names scope) ps.loops in
    made_top at (function_kind (length (cores_of params)) inner.expr) ps.refusals inner

pub function_is : (at : Spot) (number : ℕ) (params parts : CoreTrees) (definitions : List Definition) (loops : ℕ)
    → function_top at number (cores_of params) (cores_of parts) definitions loops ≡ function_by at number params parts definitions loops
function_is at number params parts definitions loops =
    let scope = top_scope definitions (function_stand number (length (cores_of params))) in
    let top : List Meaning → List Meaning → TopResolved = λ ms ns.
    let ps = parameters ms scope loops in
    let inner = body at ns (binding ps.names scope) ps.loops in
    made_top at (function_kind (length (cores_of params)) inner.expr) ps.refusals inner in
    ap (λ ms. top ms (meanings (cores_of parts))) (values_are params) ∙ ap (λ ns. top (all_valued params) ns) (values_are parts)

abbrev pub behaviour_by : Spot → Spot → CoreTrees → CoreTrees → CoreTrees → List Definition → ℕ → TopResolved
behaviour_by at place states messages parts definitions loops =
    let scope = top_scope definitions outside in
    let state = parameters (all_valued states) scope loops in
    let message = parameters (all_valued messages) (binding state.names scope) state.loops in
    let inner = body place (all_valued parts) (binding message.names (binding state.names scope)) message.loops in
    made_top at (behaviour_kind (record { at = place; state = length (cores_of states); message = length (cores_of messages) }) inner.expr) (state.refusals ++ message.refusals) inner

abbrev pub reaction_by : Spot → CoreTrees → CoreTrees → CoreTrees → Reaction
reaction_by place states messages parts = record { at = place; state = cores_of states; message = cores_of messages; body = cores_of parts }

pub behaviour_is : (at place : Spot) (states messages parts : CoreTrees) (definitions : List Definition) (loops : ℕ)
    → behaviour_top at (reaction_by place states messages parts) definitions loops ≡ behaviour_by at place states messages parts definitions loops
behaviour_is at place states messages parts definitions loops =
    let scope = top_scope definitions outside in
    let top : List Meaning → List Meaning → List Meaning → TopResolved = λ ms ns os.
    let state = parameters ms scope loops in
    let message = parameters ns (binding state.names scope) state.loops in
    let inner = body place os (binding message.names (binding state.names scope)) message.loops in
    made_top at (behaviour_kind (record { at = place; state = length (cores_of states); message = length (cores_of messages) }) inner.expr) (state.refusals ++ message.refusals) inner in
    ap (λ ms. top ms (meanings (cores_of messages)) (meanings (cores_of parts))) (values_are states)
    ∙ ap (λ ns. top (all_valued states) ns (meanings (cores_of parts))) (values_are messages) ∙ ap (λ os. top (all_valued states) (all_valued messages) os) (values_are parts)

abbrev pub global_by : Spot → CoreTree → List Definition → ℕ → TopResolved
global_by at value definitions loops =
    let inner = (valued value).value (top_scope definitions outside) loops in
    made_top at (global_kind inner.expr) [] inner

pub global_is : (at : Spot) (value : CoreTree) (definitions : List Definition) (loops : ℕ) → global_top at (core_of value) definitions loops ≡ global_by at value definitions loops
global_is at value definitions loops =
    ap (λ (m : Meaning). let inner = m.value (top_scope definitions outside) loops in made_top at (global_kind inner.expr) [] inner) (value_is value)

abbrev pub value_by : Spot → CoreTree → List Definition → ℕ → TopResolved
value_by at value definitions loops =
    let inner = (valued value).value (top_scope definitions outside) loops in
    made_top at (value_kind inner.expr) [] inner

pub value_top_is : (at : Spot) (value : CoreTree) (definitions : List Definition) (loops : ℕ) → value_top at (core_of value) definitions loops ≡ value_by at value definitions loops
value_top_is at value definitions loops =
    ap (λ (m : Meaning). let inner = m.value (top_scope definitions outside) loops in made_top at (value_kind inner.expr) [] inner) (value_is value)

-- the parts of a core form in brackets
abbrev pub parts_in : CoreTree → CoreTrees
parts_in (CoreTree.list at cs) = cs
parts_in (CoreTree.vector at cs) = cs
parts_in _ = CoreTrees.none

abbrev pub first_in : CoreTrees → CoreTree
first_in CoreTrees.none = CoreTree.nil start
first_in (CoreTrees.more c cs) = c

abbrev pub behind_first : CoreTrees → CoreTrees
behind_first CoreTrees.none = CoreTrees.none
behind_first (CoreTrees.more c cs) = cs

abbrev pub place_of : CoreTree → Spot
place_of c = (core_of c).at

abbrev pub first_of : CoreTree → CoreTree
first_of c = first_in (parts_in c)

abbrev pub second_of : CoreTree → CoreTree
second_of c = first_in (behind_first (parts_in c))

abbrev pub third_of : CoreTree → CoreTree
third_of c = first_in (behind_first (behind_first (parts_in c)))

abbrev pub behind_third : CoreTree → CoreTrees
behind_third c = behind_first (behind_first (behind_first (parts_in c)))
