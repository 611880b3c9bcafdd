-- Loops are numbered one after another: forms side by side, and bodies.
use Rattle.std.proofs.Common.{◌≡◌, ◌∙◌, ℕ, suc, ◌+◌, Bool, true, false, List, [], ◌∷◌, ◌++◌, map, Option, None, Some, refl, sym, ap, subst, append_assoc, append-nil}
use Rattle.std.specs.Prelude.{ℤ}
use Rattle.value_core.specs.Place.{Spot}
use Rattle.scope_refusals.specs.declared.kind.ScopeKind.{ScopeKind}
use Rattle.resolved_forms.specs.declared.expr.Expr.{Expr}
use Rattle.resolved_forms.specs.declared.expr.ExprKind.{ExprKind}
use Rattle.resolved_forms.specs.declared.expr.ExprKind.TheOpen as one
use Rattle.resolved_forms.specs.declared.expr.ExprKind.TheVariants as expr
use Rattle.resolved_forms.specs.declared.expr.Looping.{Looping}
use Rattle.resolved_forms.specs.declared.head.Head.{Head}
use Rattle.resolved_forms.specs.declared.head.Head.TheVariants as head
use Rattle.scope_refusals.specs.declared.refusal.Refusal.{Refusal}
use Rattle.scope_check.specs.declared.rule.Rule.{Rule}
use Rattle.scope_check.specs.declared.rule.Rule.TheVariants as rule
use Rattle.scope_check.specs.Heads.{taking, formed}
use Rattle.scope_check.specs.Parts.{each, made_of, applied, body, around, behind, is_none}
use Rattle.scope_check.specs.Resolved.{Resolved, Several, Bound, Bindings, Meaning, resolved, failed}
use Rattle.resolved_forms.specs.InRange.{expr_at}
use Rattle.scope_check.specs.Scope.{Scope, with_stand}
use Rattle.scope_check.specs.Tails.{part_stand}
use Rattle.program_plan.proofs.Holding.{Follow, Follow-append}
use Rattle.resolved_forms.proofs.LoopNumbers.{joined, of_loop, loop_numbers, numbers_of_kind, numbers_at, numbers_out}

-- those of several expressions
abbrev pub numbers_of_all : List Expr → List ℕ
numbers_of_all exprs = joined (map loop_numbers exprs)

-- where nothing is wrong, the loops have the numbers from one on, and the next loop has the number behind them
pub record IsNumbered (from : ℕ) (due : Resolved) : Type 0 where
  pub follow : due.refusals ≡ [] → Follow from due.loops (loop_numbers due.expr)

pub record AreNumbered (from : ℕ) (exprs : List Expr) (to : ℕ) (refusals : List Refusal) : Type 0 where
  pub follow : refusals ≡ [] → Follow from to (numbers_of_all exprs)

abbrev pub BindingsNumbered : Option Bindings → Type 0
BindingsNumbered None = Unit {0}
BindingsNumbered (Some bindings) =
    (scope : Scope) (loops : ℕ) → AreNumbered loops (bindings.bind scope loops).exprs (bindings.bind scope loops).loops (bindings.bind scope loops).refusals

-- so it is with a form wherever it stands
pub record MeaningNumbered (meaning : Meaning) : Type 0 where
  pub value : (scope : Scope) (loops : ℕ) → IsNumbered loops (meaning.value scope loops)
  pub bindings : BindingsNumbered meaning.bindings

abbrev pub AllNumbered : List Meaning → Type 0
AllNumbered [] = Unit {0}
AllNumbered (part ∷ parts) = MeaningNumbered part × AllNumbered parts

pub none_appended : (xs ys : List Refusal) → xs ++ ys ≡ [] → (xs ≡ []) × (ys ≡ [])
none_appended [] ys none = (refl, none)
none_appended (x ∷ xs) ys none = absurd (cc)

-- numbers of one level
pub numbers-Nil : numbers_of_kind expr.Nil ≡ []
numbers-Nil = numbers_out expr.Nil one.Nil expr.outs-Nil

pub numbers-Bool : (value : Bool) → numbers_of_kind (expr.Bool value) ≡ []
numbers-Bool value = numbers_out (expr.Bool value) (one.Bool value) (expr.outs-Bool value)

pub numbers-Int : (value : ℤ) → numbers_of_kind (expr.Int value) ≡ []
numbers-Int value = numbers_out (expr.Int value) (one.Int value) (expr.outs-Int value)

pub numbers-Str : (text : List ℕ) → numbers_of_kind (expr.Str text) ≡ []
numbers-Str text = numbers_out (expr.Str text) (one.Str text) (expr.outs-Str text)

pub numbers-Kw : (name : List ℕ) → numbers_of_kind (expr.Kw name) ≡ []
numbers-Kw name = numbers_out (expr.Kw name) (one.Kw name) (expr.outs-Kw name)

pub numbers-Local : (level : ℕ) → numbers_of_kind (expr.Local level) ≡ []
numbers-Local level = numbers_out (expr.Local level) (one.Local level) (expr.outs-Local level)

pub numbers-Global : (number : ℕ) → numbers_of_kind (expr.Global number) ≡ []
numbers-Global number = numbers_out (expr.Global number) (one.Global number) (expr.outs-Global number)

pub numbers-Apply : (h : Head) (parts : List Expr) → numbers_of_kind (expr.Apply h parts) ≡ numbers_of_all parts
numbers-Apply h parts = numbers_out (expr.Apply h parts) (one.Apply h parts) (expr.outs-Apply h parts)

pub numbers-Let : (parts : List Expr) → numbers_of_kind (expr.Let parts) ≡ numbers_of_all parts
numbers-Let parts = numbers_out (expr.Let parts) (one.Let parts) (expr.outs-Let parts)

pub numbers-Cond : (parts : List Expr) → numbers_of_kind (expr.Cond parts) ≡ numbers_of_all parts
numbers-Cond parts = numbers_out (expr.Cond parts) (one.Cond parts) (expr.outs-Cond parts)

pub numbers-And : (level : ℕ) (parts : List Expr) → numbers_of_kind (expr.And level parts) ≡ numbers_of_all parts
numbers-And level parts = numbers_out (expr.And level parts) (one.And level parts) (expr.outs-And level parts)

pub numbers-Or : (level : ℕ) (parts : List Expr) → numbers_of_kind (expr.Or level parts) ≡ numbers_of_all parts
numbers-Or level parts = numbers_out (expr.Or level parts) (one.Or level parts) (expr.outs-Or level parts)

pub numbers-Loop : (own : Looping) (parts : List Expr) → numbers_of_kind (expr.Loop own parts) ≡ of_loop own.number (map loop_numbers parts)
numbers-Loop own parts = numbers_out (expr.Loop own parts) (one.Loop own parts) (expr.outs-Loop own parts)

-- an expression with these numbers
pub at_kind : {from : ℕ} {due : Resolved} (numbers : List ℕ) → numbers_of_kind due.expr.kind ≡ numbers → (due.refusals ≡ [] → Follow from due.loops numbers) → IsNumbered from due
at_kind {from} {due} numbers is follow = record { follow = λ none. subst (Follow from due.loops) (sym (numbers_at due.expr ∙ is)) (follow none) }

pub resolved_numbered : (at : Spot) (kind : ExprKind) (loops : ℕ) → numbers_of_kind kind ≡ [] → IsNumbered loops (resolved at kind loops)
resolved_numbered at kind loops is = at_kind [] is (λ none. refl)

pub failed_numbered : (kind : ScopeKind) (at : Spot) (loops : ℕ) → IsNumbered loops (failed kind at loops)
failed_numbered kind at loops = at_kind [] numbers-Nil (λ none. refl)

pub formed_numbered : (b : Bool) (at : Spot) (right : Resolved) (loops : ℕ) → IsNumbered loops right → IsNumbered loops (formed b at right loops)
formed_numbered true at right loops numbered = numbered
formed_numbered false at right loops numbered = failed_numbered _ at loops

pub taking_numbered : (b : Bool) (at : Spot) (right : Resolved) (loops : ℕ) → IsNumbered loops right → IsNumbered loops (taking b at right loops)
taking_numbered true at right loops numbered = numbered
taking_numbered false at right loops numbered = failed_numbered _ at loops

pub made_numbered : (at : Spot) (kind : List Expr → ExprKind) (from : ℕ) (parts : Several) → ((exprs : List Expr) → numbers_of_kind (kind exprs) ≡ numbers_of_all exprs)
    → AreNumbered from parts.exprs parts.loops parts.refusals → IsNumbered from (made_of at kind parts)
made_numbered at kind from parts is numbered = at_kind (numbers_of_all parts.exprs) (is parts.exprs) numbered.follow

-- forms side by side
pub each_numbered : (r : Rule) (i : ℕ) (scope : Scope) (parts : List Meaning) (loops : ℕ) → AllNumbered parts
    → AreNumbered loops (each r i scope parts loops).exprs (each r i scope parts loops).loops (each r i scope parts loops).refusals
each_numbered r i scope [] loops numbered = record { follow = λ none. refl }
each_numbered r i scope (part ∷ parts) loops numbered =
    let inner = with_stand (part_stand r i (is_none parts) scope.stand) scope in
    let first = part.value inner loops in
    let rest = each r (suc i) (behind r scope) parts first.loops in
    record {
      follow = λ none.
          let both = none_appended first.refusals rest.refusals none in
          Follow-append loops first.loops rest.loops (loop_numbers first.expr) (numbers_of_all rest.exprs)
          ((numbered.0.value inner loops).follow both.0) ((each_numbered r (suc i) (behind r scope) parts first.loops numbered.1).follow both.1);
    }

pub applied_numbered : (h : Head) (r : Rule) (at : Spot) (parts : List Meaning) (scope : Scope) (loops : ℕ) → AllNumbered parts → IsNumbered loops (applied h r at parts scope loops)
applied_numbered h r at parts scope loops numbered = made_numbered at (expr.Apply h) loops (each r 0 scope parts loops) (numbers-Apply h) (each_numbered r 0 scope parts loops numbered)

pub body_numbered : (at : Spot) (parts : List Meaning) (scope : Scope) (loops : ℕ) → AllNumbered parts → IsNumbered loops (body at parts scope loops)
body_numbered at [] scope loops numbered = resolved_numbered at expr.Nil loops numbers-Nil
body_numbered at (part ∷ []) scope loops numbered = numbered.0.value scope loops
body_numbered at (part ∷ next ∷ parts) scope loops numbered = applied_numbered head.Do rule.Last at (part ∷ next ∷ parts) scope loops numbered

pub around_numbered : (at : Spot) (h : Head) (from : ℕ) (inner : Resolved) → IsNumbered from inner → IsNumbered from (around at h inner)
around_numbered at h from inner numbered =
    at_kind (loop_numbers inner.expr) (numbers-Apply h (inner.expr ∷ []) ∙ append-nil (loop_numbers inner.expr)) numbered.follow

-- expressions with one behind them
numbers-last : (exprs : List Expr) (last : Expr) → numbers_of_all (exprs ++ last ∷ []) ≡ numbers_of_all exprs ++ loop_numbers last
numbers-last [] last = append-nil (loop_numbers last)
numbers-last (e ∷ exprs) last = ap (λ l. loop_numbers e ++ l) (numbers-last exprs last) ∙ sym (append_assoc (loop_numbers e) (numbers_of_all exprs) (loop_numbers last))

loop-last : (number : ℕ) (exprs : List Expr) (last : Expr) → of_loop number (map loop_numbers (exprs ++ last ∷ [])) ≡ number ∷ (numbers_of_all exprs ++ loop_numbers last)
loop-last number [] last = ap (λ l. number ∷ l) (append-nil (loop_numbers last))
loop-last number (e ∷ exprs) last = ap (λ l. number ∷ l) (numbers-last (e ∷ exprs) last)

-- what is bound, and then a body
pub with_body : (from : ℕ) (first : Bound) (inner : Resolved) → AreNumbered from first.exprs first.loops first.refusals → IsNumbered first.loops inner
    → AreNumbered from (first.exprs ++ inner.expr ∷ []) inner.loops (first.refusals ++ inner.refusals)
with_body from first inner bound_numbered inner_numbered = record {
  follow = λ none.
      let both = none_appended first.refusals inner.refusals none in
      subst (Follow from inner.loops) (sym (numbers-last first.exprs inner.expr))
      (Follow-append from first.loops inner.loops (numbers_of_all first.exprs) (loop_numbers inner.expr) (bound_numbered.follow both.0) (inner_numbered.follow both.1));
}

pub with_loop : (own : Looping) (at : Spot) (first : Bound) (inner : Resolved)
    → AreNumbered (own.number + 1) (first.exprs ++ inner.expr ∷ []) inner.loops (first.refusals ++ inner.refusals)
    → IsNumbered own.number (record { expr = expr_at at (expr.Loop own (first.exprs ++ inner.expr ∷ [])); loops = inner.loops; refusals = first.refusals ++ inner.refusals })
with_loop own at first inner numbered =
    at_kind (own.number ∷ numbers_of_all (first.exprs ++ inner.expr ∷ []))
    (numbers-Loop own (first.exprs ++ inner.expr ∷ []) ∙ loop-last own.number first.exprs inner.expr ∙ ap (λ l. own.number ∷ l) (sym (numbers-last first.exprs inner.expr)))
    (λ none. (refl, numbered.follow none))
