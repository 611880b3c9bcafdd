-- What a core form comes to where it stands.
use Rattle.std.specs.Prelude.{ℕ, Bool, List, [], ◌∷◌, ◌++◌, Option}
use Rattle.value_core.specs.Place.{Spot}
use Rattle.scope_refusals.specs.declared.kind.ScopeKind.{ScopeKind}
use Rattle.resolved_forms.specs.declared.expr.Expr.{Expr}
use Rattle.resolved_forms.specs.declared.expr.ExprKind.{ExprKind}
use Rattle.resolved_forms.specs.declared.expr.ExprKind.TheVariants as expr
use Rattle.resolved_forms.specs.InRange.{expr_at}
use Rattle.scope_refusals.specs.declared.refusal.Refusal.{Refusal}
use Rattle.scope_check.specs.Scope.{Scope}

-- the expression, the number of the next loop, and what is wrong
pub record Resolved : Type 0 where
  pub expr : Expr
  pub loops : ℕ
  pub refusals : List Refusal

-- the same of several forms, one after another
pub record Several : Type 0 where
  pub exprs : List Expr
  pub loops : ℕ
  pub refusals : List Refusal

-- the same of names with the expressions that are bound to them
pub record Bound : Type 0 where
  pub exprs : List Expr
  pub names : List (List ℕ)
  pub loops : ℕ
  pub refusals : List Refusal

-- what a vector is as the bindings of a let: whether names and expressions go by turns, and what is bound
pub record Bindings : Type 0 where
  pub is_even : Bool
  pub bind : Scope → ℕ → Bound

-- a core form: its place, its name and its bindings where it has them, and what it comes to as an expression, in a scope
-- and with a number for the next loop
pub record Meaning : Type 0 where
  pub at : Spot
  pub name : Option (List ℕ)
  pub bindings : Option Bindings
  pub value : Scope → ℕ → Resolved

abbrev pub nil_at : Spot → Expr
nil_at at = expr_at at expr.Nil

abbrev pub resolved : Spot → ExprKind → ℕ → Resolved
resolved at kind loops = record { expr = expr_at at kind; loops = loops; refusals = [] }

abbrev pub refusal : ScopeKind → Spot → Refusal
refusal kind at = record { kind = kind; at = at }

-- no expression, since this is wrong
abbrev pub failed : ScopeKind → Spot → ℕ → Resolved
failed kind at loops = record { expr = nil_at at; loops = loops; refusals = refusal kind at ∷ [] }

abbrev pub none : ℕ → Several
none loops = record { exprs = []; loops = loops; refusals = [] }

abbrev pub before : Resolved → Several → Several
before first rest = record { exprs = first.expr ∷ rest.exprs; loops = rest.loops; refusals = first.refusals ++ rest.refusals }

-- one form and then others, whose loops are numbered behind its own
abbrev pub joined : Resolved → (ℕ → Several) → Several
joined first rest = before first (rest first.loops)
