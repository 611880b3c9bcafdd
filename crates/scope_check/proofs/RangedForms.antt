-- Forms that come to expressions in range, one after another.
use Rattle.std.proofs.Common.{◌≡◌, ◌∙◌, ℕ, suc, ◌+◌, Bool, true, false, List, [], ◌∷◌, ◌++◌, length, Option, None, Some, refl, sym, ap, subst, length-append}
use Rattle.std.specs.Prelude.{IfSome}
use Rattle.value_core.specs.Place.{Spot}
use Rattle.scope_names.specs.declared.definition.Definition.{Definition}
use Rattle.scope_refusals.specs.declared.kind.ScopeKind.{ScopeKind}
use Rattle.resolved_forms.specs.declared.head.Head.{Head}
use Rattle.resolved_forms.specs.declared.head.Head.TheVariants as head
use Rattle.resolved_forms.specs.InRange.{Signatures, apply, as_deep, more, nil, none, one_deeper}
use Rattle.scope_check.specs.declared.rule.Rule.{Rule}
use Rattle.scope_check.specs.declared.rule.Rule.TheVariants as rule
use Rattle.scope_check.specs.declared.stand.Target.{Target}
use Rattle.scope_check.specs.Heads.{taking, formed, bound, bound_name, checked_name}
use Rattle.scope_check.specs.Parts.{each, behind, is_none, applied, body}
use Rattle.scope_check.specs.Resolved.{Resolved, Bound, Bindings, Meaning, failed}
use Rattle.scope_check.specs.Scope.{Scope, inside, binding, with_stand}
use Rattle.scope_check.specs.Tails.{part_stand}
use Rattle.scope_check.proofs.Ranged.{HeadRanged, Ranged, RangedParts}

-- where nothing is wrong with several things, nothing is wrong with each
pub no_first : {X : Type 0} (xs ys : List X) → xs ++ ys ≡ [] → xs ≡ []
no_first [] ys is = refl
no_first (x ∷ xs) ys is = absurd (cc)

pub no_rest : {X : Type 0} (xs ys : List X) → xs ++ ys ≡ [] → ys ≡ []
no_rest [] ys is = is
no_rest (x ∷ xs) ys is = absurd (cc)

-- what a form comes to in a scope is ranged, where nothing is wrong
abbrev pub IsRanged : Signatures → Scope → ℕ → Resolved → Type 0
IsRanged file scope loops due = due.refusals ≡ [] → Ranged file loops due.loops (length scope.locals) scope.stand.target due.expr

-- names with ranged expressions for them
pub record RangedBound (file : Signatures) (target : Option Target) (loops depth : ℕ) (due : Bound) : Type 0 where
  pub parts : RangedParts file one_deeper target loops due.loops depth due.exprs
  pub as_many : length due.names ≡ length due.exprs

abbrev pub RangedBindings : Signatures → List Definition → Bindings → Type 0
RangedBindings file definitions bindings =
    (scope : Scope) (loops : ℕ) → scope.definitions ≡ definitions → (bindings.bind scope loops).refusals ≡ [] → RangedBound file scope.stand.target loops (length scope.locals) (bindings.bind scope loops)

-- a form whose expressions are ranged wherever it stands in that file
pub record RangedMeaning (file : Signatures) (definitions : List Definition) (m : Meaning) : Type 0 where
  pub value : (scope : Scope) (loops : ℕ) → scope.definitions ≡ definitions → IsRanged file scope loops (m.value scope loops)
  pub bindings : IfSome m.bindings (RangedBindings file definitions)

abbrev pub RangedMeanings : Signatures → List Definition → List Meaning → Type 0
RangedMeanings file definitions [] = Unit {0}
RangedMeanings file definitions (m ∷ ms) = RangedMeaning file definitions m × RangedMeanings file definitions ms

pub failed_ranged : (file : Signatures) (scope : Scope) (kind : ScopeKind) (at : Spot) (loops : ℕ) → IsRanged file scope loops (failed kind at loops)
failed_ranged file scope kind at loops wrong = absurd (cc)

pub taking_ranged : (file : Signatures) (scope : Scope) (b : Bool) (at : Spot) (right : Resolved) (loops : ℕ) → (b ≡ true → IsRanged file scope loops right) → IsRanged file scope loops (taking b at right loops)
taking_ranged file scope true at right loops ranged = ranged refl
taking_ranged file scope false at right loops ranged = λ wrong. absurd (cc)

pub formed_ranged : (file : Signatures) (scope : Scope) (b : Bool) (at : Spot) (right : Resolved) (loops : ℕ) → IsRanged file scope loops right → IsRanged file scope loops (formed b at right loops)
formed_ranged file scope true at right loops ranged = ranged
formed_ranged file scope false at right loops ranged = λ wrong. absurd (cc)

-- how deep the next part stands
abbrev pub rule_step : Rule → ℕ → ℕ
rule_step rule.Plain depth = as_deep depth
rule_step rule.Last depth = as_deep depth
rule_step rule.Branches depth = as_deep depth
rule_step rule.Results depth = as_deep depth
rule_step rule.Chain depth = one_deeper depth

behind_definitions : (rule : Rule) (scope : Scope) → (behind rule scope).definitions ≡ scope.definitions
behind_definitions rule.Plain scope = refl
behind_definitions rule.Last scope = refl
behind_definitions rule.Branches scope = refl
behind_definitions rule.Results scope = refl
behind_definitions rule.Chain scope = refl

behind_target : (rule : Rule) (scope : Scope) → (behind rule scope).stand.target ≡ scope.stand.target
behind_target rule.Plain scope = refl
behind_target rule.Last scope = refl
behind_target rule.Branches scope = refl
behind_target rule.Results scope = refl
behind_target rule.Chain scope = refl

behind_depth : (rule : Rule) (scope : Scope) → length (behind rule scope).locals ≡ rule_step rule (length scope.locals)
behind_depth rule.Plain scope = refl
behind_depth rule.Last scope = refl
behind_depth rule.Branches scope = refl
behind_depth rule.Results scope = refl
behind_depth rule.Chain scope = length-append scope.locals ([] ∷ [])

pub each_length : (rule : Rule) (i : ℕ) (scope : Scope) (parts : List Meaning) (loops : ℕ) → length (each rule i scope parts loops).exprs ≡ length parts
each_length rule i scope [] loops = refl
each_length rule i scope (part ∷ parts) loops =
    ap (λ n. suc n) (each_length rule (suc i) (behind rule scope) parts (part.value (with_stand (part_stand rule i (is_none parts) scope.stand) scope) loops).loops)

-- the name of a binding has no loops, where nothing is wrong with it
pub name_loops : (name : Option (List ℕ)) (part : Meaning) (scope : Scope) (loops : ℕ) → (checked_name name part scope loops).refusals ≡ [] → (checked_name name part scope loops).loops ≡ loops
name_loops (Some name) part scope loops named = refl
name_loops None part scope loops named = absurd (cc)

module _ (file : Signatures) (definitions : List Definition) where
  each_in : (rule : Rule) (i : ℕ) (scope : Scope) (parts : List Meaning) (loops depth : ℕ) (target : Option Target) → RangedMeanings file definitions parts
      → scope.definitions ≡ definitions → length scope.locals ≡ depth → scope.stand.target ≡ target → (each rule i scope parts loops).refusals ≡ []
      → RangedParts file (rule_step rule) target loops (each rule i scope parts loops).loops depth (each rule i scope parts loops).exprs
  each_in rule i scope [] loops depth target ranged known deep aims none_wrong = none
  each_in rule i scope (part ∷ parts) loops depth target ranged known deep aims none_wrong =
      let here = with_stand (part_stand rule i (is_none parts) scope.stand) scope in
      let first = part.value here loops in
      let next = behind rule scope in
      let rest = each rule (suc i) next parts first.loops in
      let own : Ranged file loops first.loops (length scope.locals) scope.stand.target first.expr = ranged.0.value here loops known (no_first first.refusals rest.refusals none_wrong) in
      more (subst (λ t. Ranged file loops first.loops depth t first.expr) aims (subst (λ n. Ranged file loops first.loops n scope.stand.target first.expr) deep own))
      (each_in rule (suc i) next parts first.loops (rule_step rule depth) target ranged.1 (behind_definitions rule scope ∙ known)
      (behind_depth rule scope ∙ ap (rule_step rule) deep) (behind_target rule scope ∙ aims) (no_rest first.refusals rest.refusals none_wrong))

  -- forms side by side
  pub each_ranged : (rule : Rule) (scope : Scope) (parts : List Meaning) (loops : ℕ) → RangedMeanings file definitions parts → scope.definitions ≡ definitions → (each rule 0 scope parts loops).refusals ≡ []
      → RangedParts file (rule_step rule) scope.stand.target loops (each rule 0 scope parts loops).loops (length scope.locals) (each rule 0 scope parts loops).exprs
  each_ranged rule scope parts loops ranged known none_wrong = each_in rule 0 scope parts loops (length scope.locals) scope.stand.target ranged known refl refl none_wrong

  bound_in : (parts : List Meaning) (scope : Scope) (loops depth : ℕ) (target : Option Target) → RangedMeanings file definitions parts
      → scope.definitions ≡ definitions → length scope.locals ≡ depth → scope.stand.target ≡ target → (bound parts scope loops).refusals ≡ []
      → RangedBound file target loops depth (bound parts scope loops)
  bound_in [] scope loops depth target ranged known deep aims none_wrong = record { parts = none; as_many = refl }
  bound_in (binder ∷ []) scope loops depth target ranged known deep aims none_wrong = record { parts = none; as_many = refl }
  bound_in (binder ∷ value ∷ rest) scope loops depth target ranged known deep aims none_wrong =
      let checked = checked_name binder.name binder scope loops in
      let first = value.value (inside scope) checked.loops in
      let name = bound_name binder.name in
      let next = binding (name ∷ []) scope in
      let behind = bound rest next first.loops in
      let ahead = no_first (checked.refusals ++ first.refusals) behind.refusals none_wrong in
      let named = no_first checked.refusals first.refusals ahead in
      let own : Ranged file checked.loops first.loops (length scope.locals) scope.stand.target first.expr = ranged.1.0.value (inside scope) checked.loops known (no_rest checked.refusals first.refusals ahead) in
      let left = bound_in rest next first.loops (one_deeper depth) target ranged.1.1 known (length-append scope.locals (name ∷ []) ∙ ap (λ n. n + 1) deep) aims (no_rest (checked.refusals ++ first.refusals) behind.refusals none_wrong) in
      record {
        parts = more
            (subst (λ n. Ranged file n first.loops depth target first.expr) (name_loops binder.name binder scope loops named)
            (subst (λ t. Ranged file checked.loops first.loops depth t first.expr) aims (subst (λ n. Ranged file checked.loops first.loops n scope.stand.target first.expr) deep own)))
            left.parts;
        as_many = ap (λ n. suc n) left.as_many;
      }

  pub bound_ranged : (parts : List Meaning) → RangedMeanings file definitions parts → (scope : Scope) (loops : ℕ) → scope.definitions ≡ definitions → (bound parts scope loops).refusals ≡ []
      → RangedBound file scope.stand.target loops (length scope.locals) (bound parts scope loops)
  bound_ranged parts ranged scope loops known none_wrong = bound_in parts scope loops (length scope.locals) scope.stand.target ranged known refl refl none_wrong

  -- a head over forms that bind nothing for one another
  pub applied_ranged : (h : Head) (r : Rule) (at : Spot) (parts : List Meaning) (scope : Scope) (loops : ℕ) → ((n : ℕ) → rule_step r n ≡ n) → HeadRanged file scope.stand.target (length parts) h
      → RangedMeanings file definitions parts → scope.definitions ≡ definitions → IsRanged file scope loops (applied h r at parts scope loops)
  applied_ranged h r at parts scope loops plain head_ranged ranged known none_wrong =
      let several = each r 0 scope parts loops in
      apply (subst (λ n. HeadRanged file scope.stand.target n h) (sym (each_length r 0 scope parts loops)) head_ranged)
      (subst (λ (f : ℕ → ℕ). RangedParts file f scope.stand.target loops several.loops (length scope.locals) several.exprs) (λ i n. plain n i) (each_ranged r scope parts loops ranged known none_wrong))

  -- a body
  pub body_ranged : (at : Spot) (parts : List Meaning) (scope : Scope) (loops : ℕ) → RangedMeanings file definitions parts → scope.definitions ≡ definitions → IsRanged file scope loops (body at parts scope loops)
  body_ranged at [] scope loops ranged known none_wrong = nil
  body_ranged at (part ∷ []) scope loops ranged known none_wrong = ranged.0.value scope loops known none_wrong
  body_ranged at (part ∷ next ∷ parts) scope loops ranged known none_wrong =
      applied_ranged head.Do rule.Last at (part ∷ next ∷ parts) scope loops (λ n. refl) tt ranged known none_wrong
