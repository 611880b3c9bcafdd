-- Core forms come to expressions in range.
use Rattle.std.proofs.Common.{◌≡◌, ℕ, ◌%◌, ◌==◌, List, [], ◌∷◌, length, map, Some, refl, sym, subst}
use Rattle.value_core.specs.Place.{Spot}
use Rattle.sugar.specs.declared.core_form.Core.{Core}
use Rattle.sugar.specs.declared.core_form.CoreKind.{CoreKind}
use Rattle.sugar.specs.declared.core_form.CoreKind.TheOpen as one
use Rattle.sugar.specs.declared.core_form.CoreKind.TheViews.{roll-CoreKind, roll-Core}
use Rattle.sugar.specs.declared.core_form.CoreKind.TheFolds.{fold-CoreKind, fold-roll-Core, fold-roll-CoreKind, ind-Core, map-CoreKind, map-Core}
use Rattle.scope_names.specs.declared.definition.Definition.{Definition}
use Rattle.scope_names.specs.declared.definition.What.{What}
use Rattle.scope_names.specs.declared.definition.What.TheVariants as what
use Rattle.scope_refusals.specs.declared.kind.ScopeKind.TheVariants.{Unknown, BadForm}
use Rattle.resolved_forms.specs.declared.expr.ExprKind.{ExprKind}
use Rattle.resolved_forms.specs.declared.expr.ExprKind.TheVariants as expr
use Rattle.scope_names.specs.declared.found.Found.{Found}
use Rattle.scope_names.specs.declared.found.Found.TheVariants as found
use Rattle.resolved_forms.specs.declared.head.Head.TheVariants as head
use Rattle.resolved_forms.specs.InRange.{Signatures, bool, expr_at, global, int, kw, local, nil, str}
use Rattle.scope_check.specs.declared.rule.Rule.TheVariants as rule
use Rattle.scope_names.specs.Names.{defined, made_name}
use Rattle.scope_check.specs.Parts.{applied}
use Rattle.scope_check.specs.Resolved.{Meaning}
use Rattle.scope_check.specs.Scope.{Scope, find_in}
use Rattle.scope_check.specs.Value.{found_value, name_of, constant, bad_kind, kind_step, core_step, meaning, meanings}
use Rattle.scope_check.proofs.Ranged.{Ranged, WhatRanged}
use Rattle.scope_check.proofs.RangedForms.{IsRanged, RangedMeaning, RangedMeanings, failed_ranged, formed_ranged, bound_ranged, applied_ranged}
use Rattle.scope_check.proofs.RangedHeads.{FoundRanged, find_ranged, list_ranged}

module _ (file : Signatures) (definitions : List Definition) (ready : (name : List ℕ) (what : What) → defined definitions name ≡ Some what → WhatRanged file what) where
  found_ranged : (f : Found) (at : Spot) (scope : Scope) (loops : ℕ) → FoundRanged file (length scope.locals) f → IsRanged file scope loops (found_value f at loops)
  found_ranged (found.Local level) at scope loops is = λ none_wrong. local level is
  found_ranged (found.Defined (what.Global number)) at scope loops is = λ none_wrong. global number is
  found_ranged (found.Defined (what.Function number takes)) at scope loops is = failed_ranged file scope BadForm at loops
  found_ranged (found.Defined (what.Behaviour number state)) at scope loops is = failed_ranged file scope BadForm at loops
  found_ranged found.Nothing at scope loops is = failed_ranged file scope Unknown at loops
  found_ranged found.Reserved at scope loops is = failed_ranged file scope BadForm at loops

  name_ranged : (name : List ℕ) (at : Spot) → RangedMeaning file definitions (name_of name at)
  name_ranged name at = record {
    value = λ scope loops known. found_ranged (find_in scope name) at scope loops (find_ranged file definitions ready scope name known);
    bindings = tt;
  }

  constant_ranged : (kind : ExprKind) (at : Spot) → ((scope : Scope) (loops : ℕ) → Ranged file loops loops (length scope.locals) scope.stand.target (expr_at at kind)) → RangedMeaning file definitions (constant kind at)
  constant_ranged kind at ranged = record { value = λ scope loops known none_wrong. ranged scope loops; bindings = tt }

  -- what is meant by parts that are ranged
  abbrev KindRanged : CoreKind → Type 0
  KindRanged kind = (at : Spot) → RangedMeaning file definitions (fold-CoreKind (Spot → Meaning) Meaning kind_step core_step kind at)

  abbrev CoreRanged : Core → Type 0
  CoreRanged core = RangedMeaning file definitions (meaning core)

  parts_ranged : (parts : List ((core : Core) × CoreRanged core)) → RangedMeanings file definitions (map meaning (map (λ e. e.0) parts))
  parts_ranged [] = tt
  parts_ranged (part ∷ parts) = (part.1, parts_ranged parts)

  level_ranged : (y : one.CoreKind-F ((kind : CoreKind) × KindRanged kind) ((core : Core) × CoreRanged core)) (at : Spot)
      → RangedMeaning file definitions (kind_step (map-CoreKind CoreKind Core (Spot → Meaning) Meaning (fold-CoreKind (Spot → Meaning) Meaning kind_step core_step) meaning
      (map-CoreKind ((kind : CoreKind) × KindRanged kind) ((core : Core) × CoreRanged core) CoreKind Core (λ e. e.0) (λ e. e.0) y)) at)
  level_ranged one.Nil at = constant_ranged expr.Nil at (λ scope loops. nil)
  level_ranged (one.Bool b) at = constant_ranged (expr.Bool b) at (λ scope loops. bool b)
  level_ranged (one.Int n) at = constant_ranged (expr.Int n) at (λ scope loops. int n)
  level_ranged (one.Str text) at = constant_ranged (expr.Str text) at (λ scope loops. str text)
  level_ranged (one.Kw name) at = constant_ranged (expr.Kw name) at (λ scope loops. kw name)
  level_ranged (one.Sym name) at = name_ranged name at
  level_ranged (one.Fresh n) at = name_ranged (made_name n) at
  level_ranged (one.List parts) at = record {
    value = λ scope loops known. list_ranged file definitions ready at (map meaning (map (λ e. e.0) parts)) scope loops (parts_ranged parts) known;
    bindings = tt;
  }
  level_ranged (one.Vector parts) at = record {
    value = λ scope loops known. applied_ranged file definitions head.Vector rule.Plain at (map meaning (map (λ e. e.0) parts)) scope loops (λ n. refl) tt (parts_ranged parts) known;
    bindings = bound_ranged file definitions (map meaning (map (λ e. e.0) parts)) (parts_ranged parts);
  }
  level_ranged (one.Map parts) at = record {
    value = λ scope loops known.
        let ms = map meaning (map (λ e. e.0) parts) in
        formed_ranged file scope (length ms % 2 == 0) at (applied head.Map rule.Plain at ms scope loops) loops (applied_ranged file definitions head.Map rule.Plain at ms scope loops (λ n. refl) tt (parts_ranged parts) known);
    bindings = tt;
  }
  level_ranged (one.Bad kind) at = record { value = λ scope loops known. failed_ranged file scope (bad_kind kind) at loops; bindings = tt }

  -- every core form
  pub meaning_ranged : (core : Core) → RangedMeaning file definitions (meaning core)
  meaning_ranged = ind-Core KindRanged CoreRanged
      (λ x y is. subst (λ z. KindRanged (roll-CoreKind z)) is (λ at.
      subst (λ (f : Spot → Meaning). RangedMeaning file definitions (f at))
      (sym (fold-roll-CoreKind (Spot → Meaning) Meaning kind_step core_step (map-CoreKind ((kind : CoreKind) × KindRanged kind) ((core : Core) × CoreRanged core) CoreKind Core (λ e. e.0) (λ e. e.0) y)))
      (level_ranged y at)))
      (λ x y is. subst (λ z. CoreRanged (roll-Core z)) is
      (subst (λ m. RangedMeaning file definitions m)
      (sym (fold-roll-Core (Spot → Meaning) Meaning kind_step core_step (map-Core ((kind : CoreKind) × KindRanged kind) ((core : Core) × CoreRanged core) CoreKind Core (λ e. e.0) (λ e. e.0) y)))
      (y.kind.1 y.at)))

  pub meanings_ranged : (cores : List Core) → RangedMeanings file definitions (meanings cores)
  meanings_ranged [] = tt
  meanings_ranged (core ∷ cores) = (meaning_ranged core, meanings_ranged cores)
