-- What the file defines is what its forms come to.
use Rattle.std.proofs.Common.{◌≡◌, ◌∙◌, ℕ, ◌+◌, ◌<◌, Bool, true, false, if◌then◌else◌, List, [], ◌∷◌, ◌++◌, length, None, Some, refl, sym, ap, subst, arith, append_assoc, append-nil, length-append}
use Rattle.std.specs.Prelude.{All}
use Rattle.std.specs.List.{slice_get}
use Rattle.std.specs.Str.{bytes_eq}
use Rattle.std.proofs.lemmas.List.Elements.{All-nil, All-head, All-tail, All-push, All-weaker}
use Rattle.std.proofs.lemmas.Option.{none-some, same_Some}
use Rattle.value_core.specs.Place.{Spot}
use Rattle.sugar.specs.declared.core_form.Core.{Core}
use Rattle.core_syntax.proofs.Appends.{slice_get-append_left, slice_get-push}
use Rattle.scope_check.specs.declared.declared.Declared.{Declared}
use Rattle.scope_names.specs.declared.definition.Definition.{Definition}
use Rattle.scope_names.specs.declared.definition.What.{What}
use Rattle.scope_names.specs.declared.definition.What.TheVariants as what
use Rattle.scope_refusals.specs.declared.refusal.Refusal.{Refusal}
use Rattle.resolved_forms.specs.declared.top.Top.{Top}
use Rattle.resolved_forms.specs.declared.top.TopKind.{TopKind}
use Rattle.resolved_forms.specs.declared.top.TopKind.TheVariants as top
use Rattle.scope_check.specs.Declaring.{nothing, taken, twice, with_function, with_behaviour, with_global, declare_shape, declare, declare_all}
use Rattle.resolved_forms.specs.FormsInRange.{functions_behind, kind_params, kind_states, params_of, states_of}
use Rattle.scope_refusals.specs.First.{first_from, first_of, sooner}
use Rattle.scope_names.specs.Names.{defined}
use Rattle.scope_names.specs.Shapes.{Shape, Function, Behaviour, Global, Value, Malformed, shape_of}
use Rattle.scope_check.specs.Tops.{shaped_top, top_of, tops_of}
use Rattle.scope_check.proofs.Ranged.{WhatRanged}
use Rattle.scope_check.proofs.RangedForms.{no_first, no_rest}

abbrev pub kind_globals : TopKind → ℕ
kind_globals (top.Global value) = 1
kind_globals _ = 0

-- how many globals the forms bind
abbrev pub globals_of : List Top → ℕ
globals_of [] = 0
globals_of (form ∷ forms) = kind_globals form.kind + globals_of forms

-- what a name stands for is among functions of these parameters, behaviours of these states and so many globals
abbrev pub IsAmong : List ℕ → List ℕ → ℕ → What → Type 0
IsAmong params states globals x = WhatRanged (record { functions = params; behaviours = states; globals = globals }) x

-- what was declared agrees with the forms so far
pub record Agrees (d : Declared) (params states : List ℕ) (globals : ℕ) : Type 0 where
  pub among : All (λ x. IsAmong params states globals x.what) d.definitions
  pub functions : d.functions ≡ length params
  pub behaviours : d.behaviours ≡ length states
  pub globals_are : d.globals ≡ globals

among_more : (params more states others : List ℕ) (globals further : ℕ) (w : What) → IsAmong params states globals w → IsAmong (params ++ more) (states ++ others) (globals + further) w
among_more params more states others globals further (what.Function number takes) is = slice_get-append_left params more number takes is
among_more params more states others globals further (what.Behaviour number state) is = slice_get-append_left states others number state is
among_more params more states others globals further (what.Global number) is = omega arith

all_among : (params more states others : List ℕ) (globals further : ℕ) (ds : List Definition) → All (λ x. IsAmong params states globals x.what) ds
    → All (λ x. IsAmong (params ++ more) (states ++ others) (globals + further) x.what) ds
all_among params more states others globals further ds all =
    All-weaker (λ (x : Definition). IsAmong params states globals x.what) (λ (x : Definition). IsAmong (params ++ more) (states ++ others) (globals + further) x.what)
    (λ x is. among_more params more states others globals further x.what is) ds all

-- a form that defines nothing
same_agrees : (d : Declared) (params states : List ℕ) (globals : ℕ) → Agrees d params states globals → Agrees d (params ++ []) (states ++ []) (globals + 0)
same_agrees d params states globals agrees =
    let none : globals ≡ globals + 0 = omega arith in
    subst (λ p. Agrees d p (states ++ []) (globals + 0)) (sym (append-nil params))
    (subst (λ s. Agrees d params s (globals + 0)) (sym (append-nil states)) (subst (λ g. Agrees d params states g) none agrees))

function_agrees : (b : Bool) (name : List ℕ) (takes : ℕ) (at : Spot) (d : Declared) (params states : List ℕ) (globals : ℕ) → Agrees d params states globals
    → (if b then twice at d else with_function name takes d).refusals ≡ [] → Agrees (if b then twice at d else with_function name takes d) (params ++ takes ∷ []) (states ++ []) (globals + 0)
function_agrees true name takes at d params states globals agrees right = let wrong = no_rest d.refusals (_ ∷ []) right in absurd (cc)
function_agrees false name takes at d params states globals agrees right =
    let there : slice_get (params ++ takes ∷ []) d.functions ≡ Some takes = ap (slice_get (params ++ takes ∷ [])) agrees.functions ∙ slice_get-push params takes in
    record {
      among = All-push (λ (x : Definition). IsAmong (params ++ takes ∷ []) (states ++ []) (globals + 0) x.what) d.definitions _ (all_among params (takes ∷ []) states [] globals 0 d.definitions agrees.among) there;
      functions = ap (λ n. n + 1) agrees.functions ∙ sym (length-append params (takes ∷ []));
      behaviours = agrees.behaviours ∙ sym (ap length (append-nil states));
      globals_are = agrees.globals_are ∙ (let none : globals ≡ globals + 0 = omega arith in none);
    }

behaviour_agrees : (b : Bool) (name : List ℕ) (state : ℕ) (at : Spot) (d : Declared) (params states : List ℕ) (globals : ℕ) → Agrees d params states globals
    → (if b then twice at d else with_behaviour name state d).refusals ≡ [] → Agrees (if b then twice at d else with_behaviour name state d) (params ++ []) (states ++ state ∷ []) (globals + 0)
behaviour_agrees true name state at d params states globals agrees right = let wrong = no_rest d.refusals (_ ∷ []) right in absurd (cc)
behaviour_agrees false name state at d params states globals agrees right =
    let there : slice_get (states ++ state ∷ []) d.behaviours ≡ Some state = ap (slice_get (states ++ state ∷ [])) agrees.behaviours ∙ slice_get-push states state in
    record {
      among = All-push (λ (x : Definition). IsAmong (params ++ []) (states ++ state ∷ []) (globals + 0) x.what) d.definitions _ (all_among params [] states (state ∷ []) globals 0 d.definitions agrees.among) there;
      functions = agrees.functions ∙ sym (ap length (append-nil params));
      behaviours = ap (λ n. n + 1) agrees.behaviours ∙ sym (length-append states (state ∷ []));
      globals_are = agrees.globals_are ∙ (let none : globals ≡ globals + 0 = omega arith in none);
    }

global_agrees : (b : Bool) (name : List ℕ) (at : Spot) (d : Declared) (params states : List ℕ) (globals : ℕ) → Agrees d params states globals
    → (if b then twice at d else with_global name d).refusals ≡ [] → Agrees (if b then twice at d else with_global name d) (params ++ []) (states ++ []) (globals + 1)
global_agrees true name at d params states globals agrees right = let wrong = no_rest d.refusals (_ ∷ []) right in absurd (cc)
global_agrees false name at d params states globals agrees right =
    let there : d.globals < globals + 1 = let same = agrees.globals_are in omega arith in
    record {
      among = All-push (λ (x : Definition). IsAmong (params ++ []) (states ++ []) (globals + 1) x.what) d.definitions _ (all_among params [] states [] globals 1 d.definitions agrees.among) there;
      functions = agrees.functions ∙ sym (ap length (append-nil params));
      behaviours = agrees.behaviours ∙ sym (ap length (append-nil states));
      globals_are = ap (λ n. n + 1) agrees.globals_are;
    }

shape_agrees : (shape : Shape) (form : Core) (number : ℕ) (definitions : List Definition) (loops : ℕ) (d : Declared) (params states : List ℕ) (globals : ℕ) → Agrees d params states globals
    → (declare_shape shape form.at d).refusals ≡ []
    → Agrees (declare_shape shape form.at d) (params ++ kind_params (shaped_top shape form number definitions loops).top.kind) (states ++ kind_states (shaped_top shape form number definitions loops).top.kind)
    (globals + kind_globals (shaped_top shape form number definitions loops).top.kind)
shape_agrees (Function name ps body) form number definitions loops d params states globals agrees right = function_agrees (taken name d) name (length ps) form.at d params states globals agrees right
shape_agrees (Behaviour name reaction) form number definitions loops d params states globals agrees right = behaviour_agrees (taken name d) name (length reaction.state) form.at d params states globals agrees right
shape_agrees (Global name value) form number definitions loops d params states globals agrees right = global_agrees (taken name d) name form.at d params states globals agrees right
shape_agrees Value form number definitions loops d params states globals agrees right = same_agrees d params states globals agrees
shape_agrees Malformed form number definitions loops d params states globals agrees right = same_agrees d params states globals agrees

-- where nothing is wrong in the end, nothing was wrong before
taken_before : (b : Bool) (at : Spot) (d other : Declared) → other.refusals ≡ d.refusals → (if b then twice at d else other).refusals ≡ [] → d.refusals ≡ []
taken_before true at d other same right = no_first d.refusals (_ ∷ []) right
taken_before false at d other same right = sym same ∙ right

shape_before : (shape : Shape) (at : Spot) (d : Declared) → (declare_shape shape at d).refusals ≡ [] → d.refusals ≡ []
shape_before (Function name ps body) at d right = taken_before (taken name d) at d (with_function name (length ps) d) refl right
shape_before (Behaviour name reaction) at d right = taken_before (taken name d) at d (with_behaviour name (length reaction.state) d) refl right
shape_before (Global name value) at d right = taken_before (taken name d) at d (with_global name d) refl right
shape_before Value at d right = right
shape_before Malformed at d right = right

right_before : (forms : List Core) (d : Declared) → (declare_all forms d).refusals ≡ [] → d.refusals ≡ []
right_before [] d right = right
right_before (form ∷ forms) d right = shape_before (shape_of form) form.at d (right_before forms (declare form d) right)

forms_agree : (forms : List Core) (number : ℕ) (definitions : List Definition) (loops : ℕ) (d : Declared) (params states : List ℕ) (globals : ℕ) → Agrees d params states globals → (declare_all forms d).refusals ≡ []
    → Agrees (declare_all forms d) (params ++ params_of (tops_of forms number definitions loops).tops) (states ++ states_of (tops_of forms number definitions loops).tops)
    (globals + globals_of (tops_of forms number definitions loops).tops)
forms_agree [] number definitions loops d params states globals agrees right = same_agrees d params states globals agrees
forms_agree (form ∷ forms) number definitions loops d params states globals agrees right =
    let first = top_of form number definitions loops in
    let kind = first.top.kind in
    let rest = tops_of forms (functions_behind kind number) definitions first.loops in
    let here = shape_agrees (shape_of form) form number definitions loops d params states globals agrees (right_before forms (declare form d) right) in
    let all = forms_agree forms (functions_behind kind number) definitions first.loops (declare form d) (params ++ kind_params kind) (states ++ kind_states kind) (globals + kind_globals kind) here right in
    let sum : globals + kind_globals kind + globals_of rest.tops ≡ globals + (kind_globals kind + globals_of rest.tops) = omega arith in
    subst (λ p. Agrees (declare_all forms (declare form d)) p (states ++ (kind_states kind ++ states_of rest.tops)) (globals + (kind_globals kind + globals_of rest.tops))) (append_assoc params (kind_params kind) (params_of rest.tops))
    (subst (λ s. Agrees (declare_all forms (declare form d)) ((params ++ kind_params kind) ++ params_of rest.tops) s (globals + (kind_globals kind + globals_of rest.tops))) (append_assoc states (kind_states kind) (states_of rest.tops))
    (subst (λ g. Agrees (declare_all forms (declare form d)) ((params ++ kind_params kind) ++ params_of rest.tops) ((states ++ kind_states kind) ++ states_of rest.tops) g) sum all))

-- all that the file declares agrees with its forms
pub file_agrees : (forms : List Core) (definitions : List Definition) (loops : ℕ) → (declare_all forms nothing).refusals ≡ []
    → Agrees (declare_all forms nothing) (params_of (tops_of forms 0 definitions loops).tops) (states_of (tops_of forms 0 definitions loops).tops) (globals_of (tops_of forms 0 definitions loops).tops)
file_agrees forms definitions loops right =
    let tops = (tops_of forms 0 definitions loops).tops in
    let same : 0 + globals_of tops ≡ globals_of tops = omega arith in
    subst (λ g. Agrees (declare_all forms nothing) (params_of tops) (states_of tops) g) same
    (forms_agree forms 0 definitions loops nothing [] [] 0 (record { among = All-nil _; functions = refl; behaviours = refl; globals_are = refl }) right)

-- what a name stands for is among what the file declares
pub defined_among : (P : What → Type 0) (ds : List Definition) (name : List ℕ) (w : What) → All (λ x. P x.what) ds → defined ds name ≡ Some w → P w
defined_among P [] name w all is = absurd (none-some w is)
defined_among P (d ∷ ds) name w all is = on (bytes_eq d.name name) is (λ behind. defined_among P ds name w (All-tail (λ (x : Definition). P x.what) d ds all) behind)
  where
    on : (b : Bool) → (if b then Some d.what else defined ds name) ≡ Some w → (defined ds name ≡ Some w → P w) → P w
    on true e further = subst P (same_Some d.what w e) (All-head (λ (x : Definition). P x.what) d ds all)
    on false e further = further e

some_first : (best : Refusal) (others : List Refusal) → first_from (Some best) others ≡ None → ⊥
some_first best [] is = absurd (cc)
some_first best (other ∷ others) is = some_first (sooner (Some best) other) others is

-- where no refusal is the first there is none
pub none_first : (refusals : List Refusal) → first_of refusals ≡ None → refusals ≡ []
none_first [] is = refl
none_first (refusal ∷ refusals) is = absurd (some_first (sooner None refusal) refusals is)
