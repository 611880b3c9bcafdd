-- Lists of names, and of what stands under them.
use Rattle.std.proofs.Common.{◌≡◌, ◌∙◌, ℕ, zero, suc, Bool, true, false, cond, List, [], ◌∷◌, not-suc-le-zero, ◌⊎◌, inl, inr, refl, sym, ap, subst, arith}
use Rattle.std.proofs.lemmas.List.Folds.{Any-from_list_any}
use Rattle.std.specs.Option.{option_or}
use Rattle.std.specs.Prelude.{Option, None, Some, Contains, ◌||◌, slice_index_or}
use Rattle.value_core.proofs.NamedLaws.{named-below, rises-first, rises-rest, same_name-equal}
use Rattle.value_core.specs.declared.value.Value.{Value}
use Rattle.value_core.specs.Named.{Name, Named, Rises, is_among, named, same_name}
use Rattle.world_model.specs.rows.Commits.{over_at}
use Rattle.world_model.specs.World.{with_at}

-- a name that is among others is one of them
pub among-contains : (name : Name) (names : List Name) → is_among name names ≡ true → Contains names name
among-contains name names is =
    let any = Any-from_list_any (same_name name) names is in
    let same : name ≡ any.1 = same_name-equal name any.1 any.4 in
    (any.0, any.2, at any.0 any.1 any.3 same)
  where
    at : (k : ℕ) (found : Name) → slice_index_or names k found ≡ found → name ≡ found → slice_index_or names k name ≡ name
    at k found here same = subst (λ n. slice_index_or names k n ≡ n) (sym same) here

-- nothing is in an empty list
pub none-there : {X : Type 0} (x : X) → Contains [] x → ⊥
none-there x has = not-suc-le-zero has.1

pub contains-first : {X : Type 0} (x : X) (xs : List X) → Contains (x ∷ xs) x
contains-first x xs = (0, omega arith, refl)

pub contains-more : {X : Type 0} (x y : X) (xs : List X) → Contains xs x → Contains (y ∷ xs) x
contains-more x y xs has = let less = has.1 in (suc has.0, omega (arith, less), has.2)

-- the names with the values that they have
abbrev pub with_value : Name → Option Value → List (Name × Value) → List (Name × Value)
with_value n None rest = rest
with_value n (Some v) rest = (n, v) ∷ rest

abbrev pub values_of : (Name → Option Value) → List Name → List (Name × Value)
values_of f [] = []
values_of f (n ∷ ns) = with_value n (f n) (values_of f ns)

first-or-rest : {X : Type 0} (x y : X) (xs : List X) → Contains (y ∷ xs) x → (y ≡ x) ⊎ Contains xs x
first-or-rest x y xs (zero, less, here) = inl here
first-or-rest x y xs (suc k, less, here) = inr (k, omega (arith, less), here)

value-so : (f : Name → Option Value) (m : Name) (ms : List Name) (n : Name) (v : Value) → (Contains (values_of f ms) (n, v) → f n ≡ Some v) → (found : Option Value) → f m ≡ found
    → Contains (with_value m found (values_of f ms)) (n, v) → f n ≡ Some v
value-so f m ms n v rest None is has = rest has
value-so f m ms n v rest (Some w) is has = elim (first-or-rest (n, v) (m, w) (values_of f ms) has) [
  | inl same ↦ ap f (ap (λ (p : Name × Value). p.0) (sym same)) ∙ is ∙ ap (λ (p : Name × Value). Some p.1) same
  | inr more ↦ rest more
]

pub values-so : (f : Name → Option Value) (ns : List Name) (n : Name) (v : Value) → Contains (values_of f ns) (n, v) → f n ≡ Some v
values-so f [] n v has = absurd (none-there (n, v) has)
values-so f (m ∷ ms) n v has = value-so f m ms n v (values-so f ms n v) (f m) refl has

value-all : (f : Name → Option Value) (m : Name) (ms : List Name) (n : Name) (v : Value) → (is_among n ms ≡ true → Contains (values_of f ms) (n, v)) → f n ≡ Some v
    → (c : Bool) → same_name n m ≡ c → (c || is_among n ms) ≡ true → Contains (with_value m (f m) (values_of f ms)) (n, v)
value-all f m ms n v rest is true same more = subst (λ found. Contains (with_value m found (values_of f ms)) (n, v)) (sym (ap f (sym (same_name-equal n m same)) ∙ is))
    (subst (λ k. Contains ((k, v) ∷ values_of f ms) (n, v)) (same_name-equal n m same) (contains-first (n, v) (values_of f ms)))
value-all f m ms n v rest is false apart more = kept (f m) (rest more)
  where
    kept : (found : Option Value) → Contains (values_of f ms) (n, v) → Contains (with_value m found (values_of f ms)) (n, v)
    kept None has = has
    kept (Some w) has = contains-more (n, v) (m, w) (values_of f ms) has

pub values-all : (f : Name → Option Value) (ns : List Name) (n : Name) (v : Value) → is_among n ns ≡ true → f n ≡ Some v → Contains (values_of f ns) (n, v)
values-all f [] n v among is = cc
values-all f (m ∷ ms) n v among is = value-all f m ms n v (λ more. values-all f ms n v more is) is (same_name n m) refl among

-- the names of a map
abbrev pub names_of : {X : Type 0} → Named X → List Name
names_of [] = []
names_of (e ∷ es) = e.0 ∷ names_of es

pub named-among : {X : Type 0} (n : Name) (x : X) (all : Named X) → named n all ≡ Some x → is_among n (names_of all) ≡ true
named-among n x [] is = cc
named-among n x (e ∷ es) is = on (same_name n e.0) (named-among n x es) is
  where
    on : (c : Bool) → (named n es ≡ Some x → is_among n (names_of es) ≡ true) → cond c (Some e.1) (named n es) ≡ Some x → (c || is_among n (names_of es)) ≡ true
    on true rest e = refl
    on false rest e = rest e

-- writes over what is there
pub over-read : (writes : Named Value) (f : Name → Option Value) → Rises writes → (r : Name) → over_at writes f r ≡ option_or (named r writes) (f r)
over-read [] f rises r = refl
over-read (e ∷ es) f rises r = over-read es (with_at f e.0 (Some e.1)) (rises-rest e es rises) r ∙ on (same_name r e.0) refl
  where
    on : (c : Bool) → same_name r e.0 ≡ c → option_or (named r es) (cond c (Some e.1) (f r)) ≡ option_or (cond c (Some e.1) (named r es)) (f r)
    on true same = ap (λ found. option_or found (Some e.1)) (ap (λ n. named n es) (same_name-equal r e.0 same) ∙ named-below e.0 es (rises-first e es rises))
    on false apart = refl
