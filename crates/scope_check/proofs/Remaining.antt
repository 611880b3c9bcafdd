-- What is left to do in the middle of some parts.
use Rattle.std.proofs.Common.{◌≡◌, ℕ, List, ◌++◌, take}
use Rattle.resolved_forms.specs.declared.expr.Expr.{Expr}
use Rattle.scope_check.specs.declared.resolver.Resolver.{Resolver}
use Rattle.resolved_forms.specs.declared.top.Top.{Top}
use Rattle.scope_check.specs.Resolved.{Several, Bound}
use Rattle.scope_check.specs.Tops.{TopsResolved}

-- behind these expressions the others are left, of all that are due
pub record StillGives (start now : Resolver) (depth : ℕ) (exprs : List Expr) (left due : Several) : Type 0 where
  pub definitions : now.definitions ≡ start.definitions
  pub locals : take depth now.locals ≡ start.locals
  pub exprs_left : exprs ++ left.exprs ≡ due.exprs
  pub loops_left : left.loops ≡ due.loops
  pub refusals_left : now.refusals ++ left.refusals ≡ start.refusals ++ due.refusals

pub record StillBinds (start now : Resolver) (exprs : List Expr) (left due : Bound) : Type 0 where
  pub definitions : now.definitions ≡ start.definitions
  pub names_left : now.locals ++ left.names ≡ start.locals ++ due.names
  pub exprs_left : exprs ++ left.exprs ≡ due.exprs
  pub loops_left : left.loops ≡ due.loops
  pub refusals_left : now.refusals ++ left.refusals ≡ start.refusals ++ due.refusals

pub record StillTops (start now : Resolver) (tops : List Top) (left due : TopsResolved) : Type 0 where
  pub definitions : now.definitions ≡ start.definitions
  pub locals : now.locals ≡ start.locals
  pub tops_left : tops ++ left.tops ≡ due.tops
  pub loops_left : left.loops ≡ due.loops
  pub refusals_left : now.refusals ++ left.refusals ≡ start.refusals ++ due.refusals
