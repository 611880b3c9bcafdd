-- What one level of an expression names and makes.
use Rattle.std.proofs.Common.{◌≡◌, ℕ, Bool, List, map, rules}
use Rattle.std.specs.Prelude.{ℤ}
use Rattle.value_core.specs.Place.{Spot}
use Rattle.resolved_forms.specs.declared.expr.Expr.{Expr}
use Rattle.resolved_forms.specs.declared.expr.ExprKind.{the_lemmas}
use Rattle.resolved_forms.specs.declared.expr.ExprKind.TheOpen as one
use Rattle.resolved_forms.specs.declared.expr.ExprKind.TheVariants as expr
use Rattle.resolved_forms.specs.declared.expr.Looping.{Looping}
use Rattle.resolved_forms.specs.declared.head.Head.{Head}
use Rattle.program_plan.specs.Emitted as made
use Rattle.program_plan.specs.Emitted.{Emitting, emitted}
use Rattle.resolved_forms.specs.InRange.{expr_at}
use Rattle.resolved_forms.specs.Survey as named
use Rattle.resolved_forms.specs.Survey.{surveyed}

module _ (behaviours : ℕ) (at : Spot) where
  pub surveyed_nil : surveyed behaviours (expr_at at expr.Nil) ≡ named.nothing
  surveyed_nil = search (rules, the_lemmas)

  pub surveyed_bool : (b : Bool) → surveyed behaviours (expr_at at (expr.Bool b)) ≡ named.nothing
  surveyed_bool b = search (rules, the_lemmas)

  pub surveyed_int : (n : ℤ) → surveyed behaviours (expr_at at (expr.Int n)) ≡ named.nothing
  surveyed_int n = search (rules, the_lemmas)

  pub surveyed_str : (text : List ℕ) → surveyed behaviours (expr_at at (expr.Str text)) ≡ named.nothing
  surveyed_str text = search (rules, the_lemmas)

  pub surveyed_kw : (name : List ℕ) → surveyed behaviours (expr_at at (expr.Kw name)) ≡ named.nothing
  surveyed_kw name = search (rules, the_lemmas)

  pub surveyed_local : (level : ℕ) → surveyed behaviours (expr_at at (expr.Local level)) ≡ named.of_local level
  surveyed_local level = search (rules, the_lemmas)

  pub surveyed_global : (number : ℕ) → surveyed behaviours (expr_at at (expr.Global number)) ≡ named.of_global number
  surveyed_global number = search (rules, the_lemmas)

  pub surveyed_apply : (head : Head) (parts : List Expr) → surveyed behaviours (expr_at at (expr.Apply head parts)) ≡ named.kind_step behaviours (one.Apply head (map (surveyed behaviours) parts))
  surveyed_apply head parts = search (rules, the_lemmas)

  pub surveyed_let : (parts : List Expr) → surveyed behaviours (expr_at at (expr.Let parts)) ≡ named.all_of (map (surveyed behaviours) parts)
  surveyed_let parts = search (rules, the_lemmas)

  pub surveyed_cond : (parts : List Expr) → surveyed behaviours (expr_at at (expr.Cond parts)) ≡ named.all_of (map (surveyed behaviours) parts)
  surveyed_cond parts = search (rules, the_lemmas)

  pub surveyed_and : (level : ℕ) (parts : List Expr) → surveyed behaviours (expr_at at (expr.And level parts)) ≡ named.all_of (map (surveyed behaviours) parts)
  surveyed_and level parts = search (rules, the_lemmas)

  pub surveyed_or : (level : ℕ) (parts : List Expr) → surveyed behaviours (expr_at at (expr.Or level parts)) ≡ named.all_of (map (surveyed behaviours) parts)
  surveyed_or level parts = search (rules, the_lemmas)

  pub surveyed_loop : (own : Looping) (parts : List Expr) → surveyed behaviours (expr_at at (expr.Loop own parts)) ≡ named.of_loop_parts behaviours own (map (surveyed behaviours) parts)
  surveyed_loop own parts = search (rules, the_lemmas)

module _ (at : Spot) where
  pub emitted_nil : emitted (expr_at at expr.Nil) ≡ made.kind_step one.Nil at
  emitted_nil = search (rules, the_lemmas)

  pub emitted_bool : (b : Bool) → emitted (expr_at at (expr.Bool b)) ≡ made.kind_step (one.Bool b) at
  emitted_bool b = search (rules, the_lemmas)

  pub emitted_int : (n : ℤ) → emitted (expr_at at (expr.Int n)) ≡ made.kind_step (one.Int n) at
  emitted_int n = search (rules, the_lemmas)

  pub emitted_str : (text : List ℕ) → emitted (expr_at at (expr.Str text)) ≡ made.kind_step (one.Str text) at
  emitted_str text = search (rules, the_lemmas)

  pub emitted_kw : (name : List ℕ) → emitted (expr_at at (expr.Kw name)) ≡ made.kind_step (one.Kw name) at
  emitted_kw name = search (rules, the_lemmas)

  pub emitted_local : (level : ℕ) → emitted (expr_at at (expr.Local level)) ≡ made.local at level
  emitted_local level = search (rules, the_lemmas)

  pub emitted_global : (number : ℕ) → emitted (expr_at at (expr.Global number)) ≡ made.kind_step (one.Global number) at
  emitted_global number = search (rules, the_lemmas)

  pub emitted_apply : (head : Head) (parts : List Expr) → emitted (expr_at at (expr.Apply head parts)) ≡ made.kind_step (one.Apply head (map emitted parts)) at
  emitted_apply head parts = search (rules, the_lemmas)

  pub emitted_let : (parts : List Expr) → emitted (expr_at at (expr.Let parts)) ≡ made.kind_step (one.Let (map emitted parts)) at
  emitted_let parts = search (rules, the_lemmas)

  pub emitted_cond : (parts : List Expr) → emitted (expr_at at (expr.Cond parts)) ≡ made.kind_step (one.Cond (map emitted parts)) at
  emitted_cond parts = search (rules, the_lemmas)

  pub emitted_and : (level : ℕ) (parts : List Expr) → emitted (expr_at at (expr.And level parts)) ≡ made.kind_step (one.And level (map emitted parts)) at
  emitted_and level parts = search (rules, the_lemmas)

  pub emitted_or : (level : ℕ) (parts : List Expr) → emitted (expr_at at (expr.Or level parts)) ≡ made.kind_step (one.Or level (map emitted parts)) at
  emitted_or level parts = search (rules, the_lemmas)

  pub emitted_loop : (own : Looping) (parts : List Expr) → emitted (expr_at at (expr.Loop own parts)) ≡ made.kind_step (one.Loop own (map emitted parts)) at
  emitted_loop own parts = search (rules, the_lemmas)
