-- A loop: its own function, its bindings and its body.
use Rattle.std.proofs.Common.{◌≡◌, ℕ, ◌+◌, ◌-◌, ◌%◌, ◌≤◌, ◌==◌, true, List, [], ◌∷◌, ◌++◌, length, take, drop, get_or, Result, Ok, Err, IfOk, sym, ap, subst, ◌∙◌, arith, append_assoc, rules}
use Rattle.std.proofs.Math.Seq.{drop-append_seam, take-append_seam, take-length}
use Rattle.std.proofs.lemmas.Bool.Decides.{Decides-eqb}
use Rattle.std.proofs.lemmas.List.{length-map}
use Rattle.value_core.specs.Place.{Spot}
use Rattle.sugar.specs.declared.core_form.Core.{Core}
use Rattle.sugar.specs.declared.core_form.CoreKind.{the_lemmas}
use Rattle.sugar.specs.declared.core_form.CoreKind.TheVariants.{Vector}
use Rattle.resolved_forms.specs.declared.expr.Expr.{Expr}
use Rattle.resolved_forms.specs.declared.expr.ExprKind.TheVariants.{Loop}
use Rattle.scope_check.specs.declared.lets.Begun.{Begun}
use Rattle.scope_check.specs.declared.resolver.Resolver.{Resolver}
use Rattle.scope_check.specs.declared.stand.Stand.{Stand}
use Rattle.scope_check.specs.Heads.{bound, formed, looping, loop_of, loop_scope, loop_stand, loop_with, loop_value}
use Rattle.scope_check.specs.Moves.{scope_in, Begins, Gives}
use Rattle.scope_locals.specs.Innermost.{levels_of}
use Rattle.scope_check.specs.Parts.{body}
use Rattle.scope_check.specs.Resolved.{Bound, Meaning}
use Rattle.resolved_forms.specs.InRange.{expr_at}
use Rattle.scope_check.specs.Scope.{Scope}
use Rattle.scope_check.specs.Value.{meaning, meanings, vector_of}
use Rattle.scope_check.proofs.Steps.{same_scope}

pub arguments_behind : (now outer names : List (List ℕ)) (base : ℕ) → now ≡ outer ++ names → base ≡ length outer → levels_of now (drop base now) ≡ levels_of (outer ++ names) names
arguments_behind now outer names base is long =
    ap (λ l. levels_of l (drop base l)) is ∙ ap (λ n. levels_of (outer ++ names) (drop n (outer ++ names))) long ∙ ap (levels_of (outer ++ names)) (drop-append_seam outer names)

-- a form and those behind it
pub first_and_rest : (xs : List Core) (x : Core) → 1 ≤ length xs → x ≡ get_or xs 0 x → meanings xs ≡ meaning x ∷ meanings (take (length xs - 1) (drop 1 xs))
first_and_rest [] x long is = absurd (omega arith)
first_and_rest (y ∷ ys) x long is =
    let less_one : length (y ∷ ys) - 1 ≡ length ys = omega arith in
    ap (λ z. meaning z ∷ meanings ys) (sym is) ∙ ap (λ l. meaning x ∷ meanings l) (sym (ap (λ n. take n ys) less_one ∙ take-length ys))

vector_meaning : (at : Spot) (bs : List Core) → meaning (record { at = at; kind = Vector bs }) ≡ vector_of (meanings bs) at
vector_meaning at bs = search (rules, the_lemmas)

vector_at : (first : Core) (bs : List Core) → first.kind ≡ Vector bs → meaning first ≡ vector_of (meanings bs) first.at
vector_at first bs is = ap (λ k. meaning (record { at = first.at; kind = k })) is ∙ vector_meaning first.at bs

-- a loop whose first argument is an even vector
pub loop_vector : (at : Spot) (first : Core) (bs : List Core) (rest : List Meaning) (scope : Scope) (loops : ℕ) → first.kind ≡ Vector bs → length bs % 2 ≡ 0
    → loop_value at (meaning first ∷ rest) scope loops
    ≡ loop_of at (looping loops scope (bound (meanings bs) scope (loops + 1)).names) (bound (meanings bs) scope (loops + 1))
    (body at rest (loop_scope (looping loops scope (bound (meanings bs) scope (loops + 1)).names) scope (bound (meanings bs) scope (loops + 1)).names) (bound (meanings bs) scope (loops + 1)).loops)
loop_vector at first bs rest scope loops is even =
    let d = bound (meanings bs) scope (loops + 1) in
    let right = loop_of at (looping loops scope d.names) d (body at rest (loop_scope (looping loops scope d.names) scope d.names) d.loops) in
    let as_many : (length (meanings bs) % 2 == 0) ≡ true = (Decides-eqb (length (meanings bs) % 2) 0).1 (ap (λ n. n % 2) (length-map bs meaning) ∙ even) in
    ap (λ m. loop_with at m.bindings m.at rest scope loops) (vector_at first bs is) ∙ ap (λ b. formed b first.at right loops) as_many

-- behind a loop the locals are those round it
pub loop_done : (old mid done : Resolver) (at : Spot) (stand : Stand) (d : Bound) (begun : Begun) (rest : List Meaning) (e : Expr) (depth : ℕ)
    → Begins old mid stand d begun → Gives mid done (body at rest (scope_in mid begun.inside) mid.loops) e → depth ≡ length old.locals
    → Gives old (record { alloc = done.alloc; definitions = done.definitions; locals = take depth done.locals; loops = done.loops; refusals = done.refusals })
    (loop_of at (looping old.loops (scope_in old stand) d.names) d (body at rest (loop_scope (looping old.loops (scope_in old stand) d.names) (scope_in old stand) d.names) d.loops))
    (expr_at at (Loop begun.own (begun.exprs ++ e ∷ [])))
loop_done old mid done at stand d begun rest e depth begins gives long =
    let own = looping old.loops (scope_in old stand) d.names in
    let inner = loop_scope own (scope_in old stand) d.names in
    let scope_is = ap (λ s. scope_in mid s) begins.inside ∙ same_scope mid old (loop_stand own) (old.locals ++ d.names) begins.bears.definitions begins.bears.locals in
    let body_is = ap (λ s. body at rest s mid.loops) scope_is ∙ ap (body at rest inner) begins.bears.loops_now in
    let given = body at rest (scope_in mid begun.inside) mid.loops in
    record {
      is = ap (λ o. expr_at at (Loop o (begun.exprs ++ e ∷ []))) begins.own ∙ ap (λ xs. expr_at at (Loop own (xs ++ e ∷ []))) begins.are
          ∙ ap (λ x. expr_at at (Loop own (d.exprs ++ x ∷ []))) (gives.is ∙ ap (λ r. r.expr) body_is);
      moves = record {
        definitions = gives.moves.definitions ∙ begins.bears.definitions;
        locals = ap (take depth) (gives.moves.locals ∙ begins.bears.locals) ∙ ap (λ n. take n (old.locals ++ d.names)) long ∙ take-append_seam old.locals d.names;
        loops_now = gives.moves.loops_now ∙ ap (λ r. r.loops) body_is;
        refusals_now = gives.moves.refusals_now ∙ ap (λ r. r ++ given.refusals) begins.bears.refusals_now ∙ ap (λ r. (old.refusals ++ d.refusals) ++ r.refusals) body_is
            ∙ append_assoc old.refusals d.refusals (body at rest inner d.loops).refusals;
      };
    }

pub where_ok : {T E : Type 0} (r : Result T E) (x : T) (P : T → Type 0) → IfOk r (λ y. y ≡ x) → P x → IfOk r P
where_ok (Ok y) x P is p = subst P (sym is) p
where_ok (Err e) x P is p = tt
