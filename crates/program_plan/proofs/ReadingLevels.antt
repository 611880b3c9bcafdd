-- The reading of an expression, one level of it at a time.
use Rattle.std.proofs.Common.{◌≡◌, ◌∙◌, List, map, refl, sym, ap}
use Rattle.std.proofs.lemmas.Simd.{map-map}
use Rattle.value_core.specs.Place.{Spot}
use Rattle.core_syntax.specs.Table.{Table}
use Rattle.resolved_forms.specs.declared.expr.Expr.{Expr}
use Rattle.resolved_forms.specs.declared.expr.ExprKind.{ExprKind}
use Rattle.resolved_forms.specs.declared.expr.ExprKind.TheFolds.{rec-roll-Expr, rec-roll-ExprKind, map-ExprKind}
use Rattle.resolved_forms.specs.declared.expr.ExprKind.TheOpen as one
use Rattle.resolved_forms.specs.declared.expr.ExprKind.TheViews.{out-Expr, out-ExprKind, roll-Expr, roll-ExprKind, roll-out-Expr, roll-out-ExprKind}
use Rattle.program_plan.specs.Reads.{Reading, ReadsApply, ReadsLet, ReadsCond, ReadsAnd, ReadsOr, ReadsLoop, IsNilOr, kind_step, reading_of, reading_of_kind}

module _ (table : Table) {X Y : Type 0} (v : Y → Expr) (w : X → ExprKind) (read : Expr → Reading) where
  over : {B : Type 1} (of_parts : List Reading → B) (parts : List Y) → of_parts (map (λ p. read (v p)) parts) ≡ of_parts (map read (map v parts))
  over of_parts parts = ap of_parts (sym (map-map read v parts))

  -- a level is read the same whatever its parts are called
  natural : (x : one.ExprKind-F X Y) → kind_step table {X = X} (λ p. read (v p)) x ≡ kind_step table read (map-ExprKind X Y ExprKind Expr w v x)
  natural one.Nil = refl
  natural (one.Bool value) = refl
  natural (one.Int value) = refl
  natural (one.Str text) = refl
  natural (one.Kw name) = refl
  natural (one.Local level) = refl
  natural (one.Global number) = refl
  natural (one.Apply head parts) = over (λ l at frame id. ReadsApply table at frame head l id) parts
  natural (one.Let parts) = over (λ l at frame id. IsNilOr table at l (ReadsLet table at frame l) id) parts
  natural (one.Cond parts) = over (λ l at frame id. ReadsCond table at frame l id) parts
  natural (one.And level parts) = over (λ l at frame id. ReadsAnd table at frame level l id) parts
  natural (one.Or level parts) = over (λ l at frame id. ReadsOr table at frame level l id) parts
  natural (one.Loop looping parts) = over (λ l at frame id. IsNilOr table at l (ReadsLoop table at frame looping l) id) parts

pub reading-roll_kind : (table : Table) (x : one.ExprKind-F ExprKind Expr) → reading_of_kind table (roll-ExprKind x) ≡ kind_step table (reading_of table) x
reading-roll_kind table x =
    rec-roll-ExprKind (Spot → Reading) Reading (λ X Y _ _ _ read. kind_step table read) (λ X Y _ _ kind _ expr. kind expr.kind expr.at) (λ X Y w v kinds read layer. natural table v w read layer) x

pub reading-roll : (table : Table) (x : one.Expr-F ExprKind Expr) → reading_of table (roll-Expr x) ≡ reading_of_kind table x.kind x.at
reading-roll table x =
    rec-roll-Expr (Spot → Reading) Reading (λ X Y _ _ _ read. kind_step table read) (λ X Y _ _ kind _ expr. kind expr.kind expr.at) (λ X Y w v kinds read layer. refl) x

-- the reading of an expression is that of its outermost level
pub reading-out : (table : Table) (expr : Expr) → reading_of table expr ≡ kind_step table (reading_of table) (out-ExprKind expr.kind) expr.at
reading-out table expr =
    ap (reading_of table) (sym (roll-out-Expr expr)) ∙ reading-roll table (out-Expr expr)
    ∙ ap (λ (kind : ExprKind). reading_of_kind table kind expr.at) (sym (roll-out-ExprKind expr.kind))
    ∙ ap (λ (reading : Spot → Reading). reading expr.at) (reading-roll_kind table (out-ExprKind expr.kind))

-- the same where the outermost level is known
pub reading_at : (table : Table) (expr : Expr) (layer : one.ExprKind-F ExprKind Expr) → out-ExprKind expr.kind ≡ layer → reading_of table expr ≡ kind_step table (reading_of table) layer expr.at
reading_at table expr layer is = reading-out table expr ∙ ap (λ (l : one.ExprKind-F ExprKind Expr). kind_step table (reading_of table) l expr.at) is
