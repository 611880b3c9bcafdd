-- Forms side by side, and bodies.
use Rattle.std.specs.Prelude.{ℕ, suc, Bool, true, false, List, [], ◌∷◌}
use Rattle.value_core.specs.Place.{Spot}
use Rattle.resolved_forms.specs.declared.expr.Expr.{Expr}
use Rattle.resolved_forms.specs.declared.expr.ExprKind.{ExprKind}
use Rattle.resolved_forms.specs.declared.expr.ExprKind.TheVariants as expr
use Rattle.resolved_forms.specs.declared.head.Head.{Head}
use Rattle.resolved_forms.specs.declared.head.Head.TheVariants as head
use Rattle.scope_check.specs.declared.rule.Rule.{Rule}
use Rattle.scope_check.specs.declared.rule.Rule.TheVariants as rule
use Rattle.scope_check.specs.Resolved.{Resolved, Several, Meaning, none, joined, resolved}
use Rattle.resolved_forms.specs.InRange.{expr_at}
use Rattle.scope_check.specs.Scope.{Scope, with_stand, binding}
use Rattle.scope_check.specs.Tails.{part_stand}

-- in a chain each part is a local without a name for those behind it
abbrev pub behind : Rule → Scope → Scope
behind rule.Chain scope = binding ([] ∷ []) scope
behind _ scope = scope

abbrev pub is_none : List Meaning → Bool
is_none [] = true
is_none (part ∷ parts) = false

-- the parts from the i-th on, in their order
abbrev pub each : Rule → ℕ → Scope → List Meaning → ℕ → Several
each rule i scope [] loops = none loops
each rule i scope (part ∷ parts) loops =
    joined (part.value (with_stand (part_stand rule i (is_none parts) scope.stand) scope) loops) (each rule (suc i) (behind rule scope) parts)

-- an expression made of several ones
abbrev pub made_of : Spot → (List Expr → ExprKind) → Several → Resolved
made_of at kind parts = record { expr = expr_at at (kind parts.exprs); loops = parts.loops; refusals = parts.refusals }

abbrev pub applied : Head → Rule → Spot → List Meaning → Scope → ℕ → Resolved
applied head rule at parts scope loops = made_of at (expr.Apply head) (each rule 0 scope parts loops)

-- a body of one expression is that expression, of none it is nil, of more it is a do
abbrev pub body : Spot → List Meaning → Scope → ℕ → Resolved
body at [] scope loops = resolved at expr.Nil loops
body at (part ∷ []) scope loops = part.value scope loops
body at (part ∷ next ∷ parts) scope loops = applied head.Do rule.Last at (part ∷ next ∷ parts) scope loops

abbrev pub around : Spot → Head → Resolved → Resolved
around at head inner = record { expr = expr_at at (expr.Apply head (inner.expr ∷ [])); loops = inner.loops; refusals = inner.refusals }
