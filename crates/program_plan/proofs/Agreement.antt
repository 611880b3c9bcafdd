-- Resolved forms have one program at most, are refused in one way at most, and never both.
use Rattle.std.proofs.Common.{◌≡◌, ℕ, List, Option, None, Some, refl, sym, ap, ◌∙◌}
use Rattle.core_syntax.specs.Table.{Table}
use Rattle.value_core.specs.Place.{Spot}
use Rattle.plan_errors.specs.declared.error.PlanKind.{PlanKind}
use Rattle.resolved_forms.specs.declared.top.Top.{Top}
use Rattle.program_plan.specs.Lowered.{first_past, program_of}
use Rattle.program_plan.specs.Planned.{IsPlanned, IsUnplanned, early, too_many, Reached, early_in, layout_in}
use Rattle.resolved_forms.proofs.ReachedOnce.{reached_once}

pub one_some : {A : Type 0} (o : Option A) (x y : A) → o ≡ Some x → o ≡ Some y → x ≡ y
one_some o x y a b = let same : Some x ≡ Some y = sym a ∙ b in cc

pub some_or_none : {A : Type 0} (o : Option A) (x : A) → o ≡ Some x → o ≡ None → ⊥
some_or_none o x a b = let same : Some x ≡ None = sym a ∙ b in absurd (cc)

module _ (tops : List Top) (globals : ℕ) where
  early_same : (xs ys : List (List ℕ)) → Reached tops globals xs → Reached tops globals ys → early_in tops xs ≡ early_in tops ys
  early_same xs ys a b = ap (early_in tops) (reached_once _ _ _ _ a b)

  past_same : (xs ys : List (List ℕ)) → Reached tops globals xs → Reached tops globals ys → first_past (layout_in tops xs) tops ≡ first_past (layout_in tops ys) tops
  past_same xs ys a b = ap (λ lists. first_past (layout_in tops lists) tops) (reached_once _ _ _ _ a b)

  pub planned_once : (table other : Table) → IsPlanned tops globals table → IsPlanned tops globals other → table ≡ other
  planned_once table other p q = p.is ∙ ap (λ lists. program_of (layout_in tops lists) tops) (reached_once _ _ _ _ p.reached q.reached) ∙ sym q.is

  pub unplanned_once : (kind other : PlanKind) (at place : Spot) → IsUnplanned tops globals kind at → IsUnplanned tops globals other place → (kind ≡ other) × (at ≡ place)
  unplanned_once kind other at place (early xs r e) (early ys s f) = (refl, one_some _ _ _ (sym (early_same xs ys r s) ∙ e) f)
  unplanned_once kind other at place (early xs r e) (too_many ys s f q) = absurd (some_or_none _ _ (sym (early_same xs ys r s) ∙ e) f)
  unplanned_once kind other at place (too_many xs r e p) (early ys s f) = absurd (some_or_none _ _ f (sym (early_same xs ys r s) ∙ e))
  unplanned_once kind other at place (too_many xs r e p) (too_many ys s f q) = (refl, one_some _ _ _ (sym (past_same xs ys r s) ∙ p) q)

  pub planned_or_not : (table : Table) (kind : PlanKind) (at : Spot) → IsPlanned tops globals table → IsUnplanned tops globals kind at → ⊥
  planned_or_not table kind at p (early xs r e) = some_or_none _ _ e (early_same xs p.lists r p.reached ∙ p.none_early)
  planned_or_not table kind at p (too_many xs r e q) = some_or_none _ _ q (past_same xs p.lists r p.reached ∙ p.within)
