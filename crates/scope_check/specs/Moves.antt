-- What a step of the resolver does.
use Rattle.std.specs.Prelude.{◌≡◌, ℕ, List, [], ◌∷◌, ◌++◌}
use Rattle.resolved_forms.specs.declared.expr.Expr.{Expr}
use Rattle.scope_check.specs.declared.lets.Begun.{Begun}
use Rattle.scope_refusals.specs.declared.refusal.Refusal.{Refusal}
use Rattle.scope_check.specs.declared.resolver.Resolver.{Resolver}
use Rattle.scope_check.specs.declared.rule.Rule.{Rule}
use Rattle.scope_check.specs.declared.stand.Stand.{Stand}
use Rattle.resolved_forms.specs.declared.top.Top.{Top}
use Rattle.scope_check.specs.Heads.{looping, loop_stand}
use Rattle.scope_check.specs.Parts.{behind}
use Rattle.scope_check.specs.Resolved.{Resolved, Several, Bound}
use Rattle.scope_check.specs.Scope.{Scope}
use Rattle.scope_check.specs.Tops.{TopResolved, TopsResolved}

-- the scope of a form that stands so where the resolver is
abbrev pub scope_in : Resolver → Stand → Scope
scope_in r stand = record { definitions = r.definitions; locals = r.locals; stand = stand }

-- the resolver has the next number and what is wrong further on, and is else as before
pub record Moves (old new : Resolver) (loops : ℕ) (refusals : List Refusal) : Type 0 where
  pub definitions : new.definitions ≡ old.definitions
  pub locals : new.locals ≡ old.locals
  pub loops_now : new.loops ≡ loops
  pub refusals_now : new.refusals ≡ old.refusals ++ refusals

-- it gives the expression that is due
pub record Gives (old new : Resolver) (due : Resolved) (expr : Expr) : Type 0 where
  pub is : expr ≡ due.expr
  pub moves : Moves old new due.loops due.refusals

pub record GivesAll (old new : Resolver) (due : Several) (exprs : List Expr) : Type 0 where
  pub are : exprs ≡ due.exprs
  pub moves : Moves old new due.loops due.refusals

-- it has the names bound too
pub record Bears (old new : Resolver) (due : Bound) : Type 0 where
  pub definitions : new.definitions ≡ old.definitions
  pub locals : new.locals ≡ old.locals ++ due.names
  pub loops_now : new.loops ≡ due.loops
  pub refusals_now : new.refusals ≡ old.refusals ++ due.refusals

pub record BindsAll (old new : Resolver) (due : Bound) (exprs : List Expr) : Type 0 where
  pub are : exprs ≡ due.exprs
  pub bears : Bears old new due

-- it gives a loop's own function too, and where the loop's body stands
pub record Begins (old new : Resolver) (stand : Stand) (due : Bound) (begun : Begun) : Type 0 where
  pub own : begun.own ≡ looping old.loops (scope_in old stand) due.names
  pub inside : begun.inside ≡ loop_stand (looping old.loops (scope_in old stand) due.names)
  pub are : begun.exprs ≡ due.exprs
  pub bears : Bears old new due

-- it gives the expression that is due, and has the name bound
pub record BindsOne (old new : Resolver) (name : List ℕ) (due : Resolved) (expr : Expr) : Type 0 where
  pub is : expr ≡ due.expr
  pub definitions : new.definitions ≡ old.definitions
  pub locals : new.locals ≡ old.locals ++ name ∷ []
  pub loops_now : new.loops ≡ due.loops
  pub refusals_now : new.refusals ≡ old.refusals ++ due.refusals

-- it gives the name, and notes what is wrong with it
pub record NamesOne (old new : Resolver) (due : List ℕ) (checked : Resolved) (name : List ℕ) : Type 0 where
  pub is : name ≡ due
  pub moves : Moves old new checked.loops checked.refusals

-- one part of a chain lies behind
pub record Passes (rule : Rule) (old new : Resolver) : Type 0 where
  pub definitions : new.definitions ≡ old.definitions
  pub scope : (stand : Stand) → scope_in new stand ≡ behind rule (scope_in old stand)
  pub loops_now : new.loops ≡ old.loops
  pub refusals_now : new.refusals ≡ old.refusals

-- it gives the top-level form that is due
pub record GivesTop (old new : Resolver) (due : TopResolved) (top : Top) : Type 0 where
  pub is : top ≡ due.top
  pub moves : Moves old new due.loops due.refusals

pub record GivesTops (old new : Resolver) (due : TopsResolved) (tops : List Top) : Type 0 where
  pub are : tops ≡ due.tops
  pub moves : Moves old new due.loops due.refusals
