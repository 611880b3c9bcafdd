-- The numbers of the loops of an expression.
use Rattle.std.proofs.Common.{◌≡◌, ◌∙◌, ℕ, List, [], ◌∷◌, ◌++◌, ap}
use Rattle.resolved_forms.specs.declared.expr.Expr.{Expr}
use Rattle.resolved_forms.specs.declared.expr.ExprKind.{ExprKind}
use Rattle.resolved_forms.specs.declared.expr.ExprKind.TheFolds.{fold-Expr, fold-ExprKind, fold_out-Expr, fold_out-ExprKind, map-ExprKind}
use Rattle.resolved_forms.specs.declared.expr.ExprKind.TheOpen as one
use Rattle.resolved_forms.specs.declared.expr.ExprKind.TheViews.{out-ExprKind}

-- those of several parts, one part after another
abbrev pub joined : List (List ℕ) → List ℕ
joined [] = []
joined (part ∷ parts) = part ++ joined parts

-- a loop stands before those in its parts; one with no parts is none
abbrev pub of_loop : ℕ → List (List ℕ) → List ℕ
of_loop number [] = []
of_loop number (part ∷ parts) = number ∷ joined (part ∷ parts)

-- one level, with the numbers in each part in its place
abbrev pub numbers_step : one.ExprKind-F (List ℕ) (List ℕ) → List ℕ
numbers_step (one.Apply head parts) = joined parts
numbers_step (one.Let parts) = joined parts
numbers_step (one.Cond parts) = joined parts
numbers_step (one.And level parts) = joined parts
numbers_step (one.Or level parts) = joined parts
numbers_step (one.Loop looping parts) = of_loop looping.number parts
numbers_step _ = []

-- those of an expression are those of what it is, whatever its place
abbrev pub expr_step : one.Expr-F (List ℕ) (List ℕ) → List ℕ
expr_step expr = expr.kind

-- the numbers of the loops in what an expression is
abbrev pub numbers_of_kind : ExprKind → List ℕ
numbers_of_kind = fold-ExprKind (List ℕ) (List ℕ) numbers_step expr_step

-- the numbers of the loops, each loop before those in it
abbrev pub loop_numbers : Expr → List ℕ
loop_numbers = fold-Expr (List ℕ) (List ℕ) numbers_step expr_step

pub numbers_at : (expr : Expr) → loop_numbers expr ≡ numbers_of_kind expr.kind
numbers_at expr = fold_out-Expr (List ℕ) (List ℕ) numbers_step expr_step expr

-- the numbers of a level whose outermost part is known
pub numbers_out : (kind : ExprKind) (layer : one.ExprKind-F ExprKind Expr) → out-ExprKind kind ≡ layer
    → numbers_of_kind kind ≡ numbers_step (map-ExprKind ExprKind Expr (List ℕ) (List ℕ) numbers_of_kind loop_numbers layer)
numbers_out kind layer is =
    fold_out-ExprKind (List ℕ) (List ℕ) numbers_step expr_step kind
    ∙ ap (λ (l : one.ExprKind-F ExprKind Expr). numbers_step (map-ExprKind ExprKind Expr (List ℕ) (List ℕ) numbers_of_kind loop_numbers l)) is
