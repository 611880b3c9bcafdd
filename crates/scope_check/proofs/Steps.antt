-- One turn of the loops over parts and over bindings.
use Rattle.std.proofs.Common.{◌≡◌, ℕ, suc, ◌+◌, ◌*◌, ◌/◌, ◌-◌, ◌<◌, ◌≤◌, ◌==◌, List, [], ◌∷◌, ◌++◌, length, take, drop, get_or, refl, sym, ap, ◌∙◌, arith, append_assoc, append-nil}
use Rattle.std.proofs.Math.Seq.{drop-cons}
use Rattle.std.proofs.lemmas.List.{take-append-le, length-take, length-drop, length-map}
use Rattle.std.proofs.lemmas.Bool.{false_from_ne_true}
use Rattle.std.proofs.lemmas.Bool.Decides.{Decides-eqb}
use Rattle.sugar.specs.declared.core_form.Core.{Core}
use Rattle.resolved_forms.specs.declared.expr.Expr.{Expr}
use Rattle.scope_check.specs.declared.resolver.Resolver.{Resolver}
use Rattle.scope_check.specs.declared.rule.Rule.{Rule}
use Rattle.scope_check.specs.declared.rule.Rule.TheVariants as rule
use Rattle.scope_check.specs.declared.stand.Stand.{Stand}
use Rattle.scope_check.specs.Heads.{bound, bound_name, checked_name}
use Rattle.scope_check.specs.Moves.{scope_in, Gives, Passes, BindsAll, BindsOne, NamesOne}
use Rattle.scope_check.specs.Parts.{each, behind, is_none}
use Rattle.scope_check.specs.Resolved.{Several, Bound, Meaning}
use Rattle.scope_check.specs.Scope.{Scope, inner, inside, binding}
use Rattle.scope_check.specs.Tails.{part_stand}
use Rattle.scope_check.specs.Value.{meaning, meanings}
use Rattle.scope_check.proofs.Remaining.{StillGives, StillBinds}

-- what is left behind the part at an index
pub meanings_at : (xs : List Core) (i : ℕ) (x : Core) → i < length xs → get_or xs i x ≡ x → meanings (drop i xs) ≡ meaning x ∷ meanings (drop (i + 1) xs)
meanings_at xs i x lt is =
    let one_more : suc i ≡ i + 1 = omega arith in
    ap meanings (drop-cons xs i x lt) ∙ ap (λ y. meaning y ∷ meanings (drop (suc i) xs)) is ∙ ap (λ n. meaning x ∷ meanings (drop n xs)) one_more

pub same_scope : (a b : Resolver) (stand : Stand) (locals : List (List ℕ)) → a.definitions ≡ b.definitions → a.locals ≡ locals → scope_in a stand ≡ record { definitions = b.definitions; locals = locals; stand = stand }
same_scope a b stand locals d l = ap (λ x. record { definitions = x; locals = a.locals; stand = stand }) d ∙ ap (λ x. record { definitions = b.definitions; locals = x; stand = stand }) l

pub bound_step : (start now mid new : Resolver) (stand : Stand) (b v : Meaning) (rest : List Meaning) (exprs : List Expr) (e : Expr) (name : List ℕ) (due : Bound)
    → StillBinds start now exprs (bound (b ∷ v ∷ rest) (scope_in now stand) now.loops) due
    → NamesOne now mid (bound_name b.name) (checked_name b.name b (scope_in now stand) now.loops) name
    → BindsOne mid new name (v.value (scope_in mid (inner stand)) mid.loops) e
    → StillBinds start new (exprs ++ e ∷ []) (bound rest (scope_in new stand) new.loops) due
bound_step start now mid new stand b v rest exprs e name due still one two =
    let scope = scope_in now stand in
    let checked = checked_name b.name b scope now.loops in
    let value = v.value (inside scope) checked.loops in
    let more = binding (bound_name b.name ∷ []) scope in
    let left = bound rest more value.loops in
    let inner_is = same_scope mid now (inner stand) now.locals one.moves.definitions one.moves.locals in
    let value_is = ap (λ s. v.value s mid.loops) inner_is ∙ ap (v.value (inside scope)) one.moves.loops_now in
    let definitions_is = two.definitions ∙ one.moves.definitions in
    let locals_is = two.locals ∙ ap (λ l. l ++ name ∷ []) one.moves.locals ∙ ap (λ n. now.locals ++ n ∷ []) one.is in
    let scope_is = same_scope new now stand (now.locals ++ bound_name b.name ∷ []) definitions_is locals_is in
    let loops_is = two.loops_now ∙ ap (λ r. r.loops) value_is in
    let left_is = ap (λ s. bound rest s new.loops) scope_is ∙ ap (bound rest more) loops_is in
    let refusals_is = two.refusals_now ∙ ap (λ r. r ++ (v.value (scope_in mid (inner stand)) mid.loops).refusals) one.moves.refusals_now
    ∙ ap (λ r. (now.refusals ++ checked.refusals) ++ r.refusals) value_is in
    record {
      definitions = definitions_is ∙ still.definitions;
      names_left = ap (λ l. l ++ (bound rest (scope_in new stand) new.loops).names) locals_is ∙ ap (λ l. (now.locals ++ bound_name b.name ∷ []) ++ l.names) left_is
          ∙ append_assoc now.locals (bound_name b.name ∷ []) left.names ∙ still.names_left;
      exprs_left = ap (λ l. (exprs ++ e ∷ []) ++ l.exprs) left_is ∙ append_assoc exprs (e ∷ []) left.exprs
          ∙ ap (λ x. exprs ++ x ∷ left.exprs) (two.is ∙ ap (λ r. r.expr) value_is) ∙ still.exprs_left;
      loops_left = ap (λ l. l.loops) left_is ∙ still.loops_left;
      refusals_left = ap (λ r. r ++ (bound rest (scope_in new stand) new.loops).refusals) refusals_is ∙ ap (λ l. ((now.refusals ++ checked.refusals) ++ value.refusals) ++ l.refusals) left_is
          ∙ ap (λ r. r ++ left.refusals) (append_assoc now.refusals checked.refusals value.refusals) ∙ append_assoc now.refusals (checked.refusals ++ value.refusals) left.refusals ∙ still.refusals_left;
    }

-- a single part at the end binds nothing
pub bound_end : (start now : Resolver) (scope : Scope) (parts : List Meaning) (exprs : List Expr) (due : Bound) → length parts ≤ 1
    → StillBinds start now exprs (bound parts scope now.loops) due → BindsAll start now due exprs
bound_end start now scope [] exprs due short still = record {
  are = sym (append-nil exprs) ∙ still.exprs_left;
  bears = record {
    definitions = still.definitions;
    locals = sym (append-nil now.locals) ∙ still.names_left;
    loops_now = still.loops_left;
    refusals_now = sym (append-nil now.refusals) ∙ still.refusals_left;
  };
}
bound_end start now scope (p ∷ []) exprs due short still = record {
  are = sym (append-nil exprs) ∙ still.exprs_left;
  bears = record {
    definitions = still.definitions;
    locals = sym (append-nil now.locals) ∙ still.names_left;
    loops_now = still.loops_left;
    refusals_now = sym (append-nil now.refusals) ∙ still.refusals_left;
  };
}
bound_end start now scope (p ∷ q ∷ parts) exprs due short still = absurd (omega arith)

-- a part of a chain leaves the outer locals as they are
behind_take : (rule : Rule) (scope : Scope) (depth : ℕ) → depth ≤ length scope.locals → take depth (behind rule scope).locals ≡ take depth scope.locals
behind_take rule.Plain scope depth le = refl
behind_take rule.Last scope depth le = refl
behind_take rule.Branches scope depth le = refl
behind_take rule.Results scope depth le = refl
behind_take rule.Chain scope depth le = take-append-le depth scope.locals ([] ∷ []) le

behind_same : (rule : Rule) (a b : Scope) → a ≡ b → behind rule a ≡ behind rule b
behind_same rule a b is = ap (behind rule) is

pub each_step : (start now mid new : Resolver) (depth : ℕ) (rule : Rule) (i : ℕ) (stand : Stand) (p : Meaning) (rest : List Meaning) (exprs : List Expr) (e : Expr) (due : Several)
    → depth ≤ length now.locals
    → StillGives start now depth exprs (each rule i (scope_in now stand) (p ∷ rest) now.loops) due
    → Gives now mid (p.value (scope_in now (part_stand rule i (is_none rest) stand)) now.loops) e
    → Passes rule mid new
    → StillGives start new depth (exprs ++ e ∷ []) (each rule (i + 1) (scope_in new stand) rest new.loops) due
each_step start now mid new depth rule i stand p rest exprs e due within still one two =
    let scope = scope_in now stand in
    let value = p.value (scope_in now (part_stand rule i (is_none rest) stand)) now.loops in
    let left = each rule (suc i) (behind rule scope) rest value.loops in
    let mid_is = same_scope mid now stand now.locals one.moves.definitions one.moves.locals in
    let scope_is = two.scope stand ∙ behind_same rule _ _ mid_is in
    let loops_is = two.loops_now ∙ one.moves.loops_now in
    let one_more : suc i ≡ i + 1 = omega arith in
    let left_is = ap (λ s. each rule (i + 1) s rest new.loops) scope_is ∙ ap (each rule (i + 1) (behind rule scope) rest) loops_is ∙ ap (λ n. each rule n (behind rule scope) rest value.loops) (sym one_more) in
    record {
      definitions = two.definitions ∙ one.moves.definitions ∙ still.definitions;
      locals = ap (λ s. take depth s.locals) scope_is ∙ behind_take rule scope depth within ∙ still.locals;
      exprs_left = ap (λ l. (exprs ++ e ∷ []) ++ l.exprs) left_is ∙ append_assoc exprs (e ∷ []) left.exprs ∙ ap (λ x. exprs ++ x ∷ left.exprs) one.is ∙ still.exprs_left;
      loops_left = ap (λ l. l.loops) left_is ∙ still.loops_left;
      refusals_left = ap (λ r. r ++ (each rule (i + 1) (scope_in new stand) rest new.loops).refusals) (two.refusals_now ∙ one.moves.refusals_now)
          ∙ ap (λ l. (now.refusals ++ value.refusals) ++ l.refusals) left_is ∙ append_assoc now.refusals value.refusals left.refusals ∙ still.refusals_left;
    }

-- the two parts at an even index, and what is left behind them
pub meanings_two : (xs : List Core) (i : ℕ) (x y : Core) → i < length xs / 2 → get_or xs (2 * i) x ≡ x → get_or xs (2 * i + 1) y ≡ y
    → meanings (drop (2 * i) xs) ≡ meaning x ∷ meaning y ∷ meanings (drop (2 * (i + 1)) xs)
meanings_two xs i x y lt here next =
    let behind_both : 2 * i + 1 + 1 ≡ 2 * (i + 1) = omega arith in
    meanings_at xs (2 * i) x (omega arith) here
    ∙ ap (λ l. meaning x ∷ l) (meanings_at xs (2 * i + 1) y (omega arith) next ∙ ap (λ n. meaning y ∷ meanings (drop n xs)) behind_both)

pub short_rest : (xs : List Core) (i : ℕ) → length xs / 2 ≤ i → length (meanings (drop (2 * i) xs)) ≤ 1
short_rest xs i le = omega (arith, length-map (drop (2 * i) xs) meaning, length-drop (2 * i) xs)

pub within_take : {A : Type 0} (xs ys : List A) (n : ℕ) → take n xs ≡ ys → n ≡ length ys → n ≤ length xs
within_take xs ys n is long = omega (arith, length-take n xs, ap length is, long)

none_by_length : (ys : List Core) (n m : ℕ) → n ≤ m → length ys ≡ m - n → is_none (meanings ys) ≡ (n == m)
none_by_length [] n m le long = let same : n ≡ m = omega arith in sym ((Decides-eqb n m).1 same)
none_by_length (y ∷ ys) n m le long = sym (false_from_ne_true (n == m) (λ e. let same : n ≡ m = (Decides-eqb n m).0 e in absurd (omega arith)))

-- whether a part is the last one
pub last_is : (xs : List Core) (n : ℕ) → n ≤ length xs → is_none (meanings (drop n xs)) ≡ (n == length xs)
last_is xs n le = none_by_length (drop n xs) n (length xs) le (length-drop n xs)
