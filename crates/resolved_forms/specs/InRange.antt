-- Resolved expressions whose levels and numbers are in range, and whose heads take as many parts as they have.
use Rattle.std.specs.Prelude.{◌≡◌, ◌⊎◌, ℤ, ℕ, ◌+◌, ◌<◌, ◌≤◌, Bool, List, [], ◌∷◌, ◌++◌, length, Option, Some, Contains, IsTrue}
use Rattle.std.specs.List.{slice_get}
use Rattle.value_core.specs.Place.{Spot}
use Rattle.value_core.specs.primitives.Words.{takes_of}
use Rattle.resolved_forms.specs.declared.expr.Expr.{Expr}
use Rattle.resolved_forms.specs.declared.expr.ExprKind.{ExprKind}
use Rattle.resolved_forms.specs.declared.expr.ExprKind.TheVariants.{Nil, Bool as constant, Int, Str, Kw, Local, Global, Apply, Let, Cond, And, Or, Loop}
use Rattle.resolved_forms.specs.declared.head.Head.{Head}
use Rattle.resolved_forms.specs.declared.head.Head.TheVariants as head

abbrev pub expr_at : Spot → ExprKind → Expr
expr_at at kind = record { at = at; kind = kind }

-- what expressions may name: functions with so many parameters each, behaviours with so many state parameters each, and so
-- many globals
pub record Signatures : Type 0 where
  pub functions : List ℕ
  pub behaviours : List ℕ
  pub globals : ℕ

-- the function or loop to which `recur` goes, and how many arguments it takes
pub record Target : Type 0 where
  pub number : ℕ
  pub takes : ℕ

-- the head takes so many parts
abbrev pub Takes : Signatures → Option Target → ℕ → Head → Type 0
Takes file target count (head.Op op) = IsTrue (takes_of op count)
Takes file target count (head.Call number) = (slice_get file.functions number ≡ Some count) ⊎ (target ≡ Some (record { number = number; takes = count }))
Takes file target count (head.Spawn number) = slice_get file.behaviours number ≡ Some count
Takes file target count (head.Become number) = slice_get file.behaviours number ≡ Some count
Takes file target count _ = Unit {0}

-- how many locals are round the next part: as many, or one more
abbrev pub as_deep : ℕ → ℕ
as_deep depth = depth

abbrev pub one_deeper : ℕ → ℕ
one_deeper depth = depth + 1

mutual
  -- An expression with so many locals round it and that target. Its loops have the numbers from `start` up to `end`, each loop
  -- before those in it.
  pub data InRange (file : Signatures) : ℕ → ℕ → ℕ → Option Target → Expr → Type 0 where
    nil : {start depth : ℕ} {target : Option Target} {at : Spot} → InRange file start start depth target (expr_at at Nil)
    bool : {start depth : ℕ} {target : Option Target} {at : Spot} (b : Bool) → InRange file start start depth target (expr_at at (constant b))
    int : {start depth : ℕ} {target : Option Target} {at : Spot} (n : ℤ) → InRange file start start depth target (expr_at at (Int n))
    str : {start depth : ℕ} {target : Option Target} {at : Spot} (text : List ℕ) → InRange file start start depth target (expr_at at (Str text))
    kw : {start depth : ℕ} {target : Option Target} {at : Spot} (name : List ℕ) → InRange file start start depth target (expr_at at (Kw name))
    local : {start depth : ℕ} {target : Option Target} {at : Spot} (level : ℕ) → level < depth → InRange file start start depth target (expr_at at (Local level))
    global : {start depth : ℕ} {target : Option Target} {at : Spot} (number : ℕ) → number < file.globals → InRange file start start depth target (expr_at at (Global number))
    apply : {start end depth : ℕ} {target : Option Target} {at : Spot} {h : Head} {parts : List Expr} → Takes file target (length parts) h
        → AreInRange file as_deep target start end depth parts → InRange file start end depth target (expr_at at (Apply h parts))
    binds : {start mid end depth : ℕ} {target : Option Target} {at : Spot} {bound : List Expr} {body : Expr} → AreInRange file one_deeper target start mid depth bound
        → InRange file mid end (depth + length bound) target body → InRange file start end depth target (expr_at at (Let (bound ++ body ∷ [])))
    cond : {start end depth : ℕ} {target : Option Target} {at : Spot} {parts : List Expr} → AreInRange file as_deep target start end depth parts
        → InRange file start end depth target (expr_at at (Cond parts))
    conj : {start end depth : ℕ} {target : Option Target} {at : Spot} {parts : List Expr} → AreInRange file one_deeper target start end depth parts
        → InRange file start end depth target (expr_at at (And depth parts))
    disj : {start end depth : ℕ} {target : Option Target} {at : Spot} {parts : List Expr} → AreInRange file one_deeper target start end depth parts
        → InRange file start end depth target (expr_at at (Or depth parts))
    loop : {start mid end depth : ℕ} {target : Option Target} {at : Spot} {arguments : List ℕ} {initial : List Expr} {body : Expr} → length arguments ≡ length initial
        → ((level : ℕ) → Contains arguments level → (depth ≤ level) × (level < depth + length initial))
        → AreInRange file one_deeper target (start + 1) mid depth initial
        → InRange file mid end (depth + length initial) (Some (record { number = start; takes = length arguments })) body
        → InRange file start end depth target (expr_at at (Loop (record { number = start; base = depth; arguments = arguments }) (initial ++ body ∷ [])))

  -- expressions one after another
  pub data AreInRange (file : Signatures) : (ℕ → ℕ) → Option Target → ℕ → ℕ → ℕ → List Expr → Type 0 where
    none : {next : ℕ → ℕ} {target : Option Target} {start depth : ℕ} → AreInRange file next target start start depth []
    more : {next : ℕ → ℕ} {target : Option Target} {start mid end depth : ℕ} {part : Expr} {parts : List Expr} → InRange file start mid depth target part
        → AreInRange file next target mid end (next depth) parts → AreInRange file next target start end depth (part ∷ parts)
