-- A map whose entries are those before one entry, that entry, and those after it.
use Rattle.std.proofs.Common.{◌≡◌, ◌∙◌, ◌<◌, cond, length, length-append, [], ◌∷◌, ◌++◌, refl, sym, ap, subst, arith}
use Rattle.std.specs.Prelude.{Some}
use Rattle.std.specs.declared.cmp.Ordering.{Ordering}
use Rattle.std.specs.declared.cmp.Ordering.TheVariants.{Less, Equal, Greater}
use Rattle.std.specs.FinMap.Entries.{below_all, by_order, is_sorted}
use Rattle.std.specs.Ordering.{is_eq, is_lt, ordering_reverse}
use Rattle.value_core.proofs.NamedLaws.{IsBelow, named-before, rises-first, rises-rest, same_name-equal}
use Rattle.value_core.proofs.Tests.{both, first_of, is_less, second_of}
use Rattle.value_core.specs.Name.{after_cmp}
use Rattle.value_core.specs.Named.{Name, Named, Rises, named, same_name, with_named}
use Rattle.value_core.specs.NameOrder.{after_cmp_total}

-- a comparison the other way round
greater_of : (k l : Name) → after_cmp l k ≡ Less → after_cmp k l ≡ Greater
greater_of k l less = after_cmp_total.antisymm k l ∙ ap ordering_reverse less

less_of : (k l : Name) → after_cmp k l ≡ Greater → after_cmp l k ≡ Less
less_of k l more = after_cmp_total.antisymm l k ∙ ap ordering_reverse more

-- the map of those before the entry, the entry, and those after it
abbrev pub around : {X : Type 0} → Named X → Name × X → Named X → Named X
around left e right = left ++ e ∷ right

-- what is before all of both is before all of each, and before the entry between them
below-front : {X : Type 0} (k : Name) (left : Named X) (e : Name × X) (right : Named X) → IsBelow k (around left e right) → IsBelow k left
below-front k [] e right below = tt
below-front k (l ∷ ls) e right below = both (is_lt (after_cmp k l.0)) (below_all after_cmp k ls)
    (first_of (is_lt (after_cmp k l.0)) (below_all after_cmp k (around ls e right)) below)
    (below-front k ls e right (second_of (is_lt (after_cmp k l.0)) (below_all after_cmp k (around ls e right)) below))

below-entry : {X : Type 0} (k : Name) (left : Named X) (e : Name × X) (right : Named X) → IsBelow k (around left e right) → after_cmp k e.0 ≡ Less
below-entry k [] e right below = is_less (after_cmp k e.0) (first_of (is_lt (after_cmp k e.0)) (below_all after_cmp k right) below)
below-entry k (l ∷ ls) e right below = below-entry k ls e right (second_of (is_lt (after_cmp k l.0)) (below_all after_cmp k (around ls e right)) below)

-- each side of a map that rises does
pub rises-left : {X : Type 0} (left : Named X) (e : Name × X) (right : Named X) → Rises (around left e right) → Rises left
rises-left [] e right rises = tt
rises-left (l ∷ ls) e right rises = both (below_all after_cmp l.0 ls) (is_sorted after_cmp ls)
    (below-front l.0 ls e right (rises-first l (around ls e right) rises)) (rises-left ls e right (rises-rest l (around ls e right) rises))

rises-entry : {X : Type 0} (left : Named X) (e : Name × X) (right : Named X) → Rises (around left e right) → Rises (e ∷ right)
rises-entry [] e right rises = rises
rises-entry (l ∷ ls) e right rises = rises-entry ls e right (rises-rest l (around ls e right) rises)

pub rises-right : {X : Type 0} (left : Named X) (e : Name × X) (right : Named X) → Rises (around left e right) → Rises right
rises-right left e right rises = rises-rest e right (rises-entry left e right rises)

-- what comes after the entry comes after all before it
after-left : {X : Type 0} (k : Name) (l : Name × X) (ls : Named X) (e : Name × X) (right : Named X) → Rises (l ∷ around ls e right) → after_cmp e.0 k ≡ Less → after_cmp k l.0 ≡ Greater
after-left k l ls e right rises later = greater_of k l.0 (after_cmp_total.trans l.0 e.0 k (below-entry l.0 ls e right (rises-first l (around ls e right) rises)) later)

-- a put goes to its side
pub put-left : {X : Type 0} (k : Name) (x : X) (left : Named X) (e : Name × X) (right : Named X) → after_cmp k e.0 ≡ Less → with_named (around left e right) k x ≡ around (with_named left k x) e right
put-left k x [] e right less = ap (λ o. by_order o ((k, x) ∷ e ∷ right) ((e.0, x) ∷ right) (e ∷ with_named right k x)) less
put-left {X} k x (l ∷ ls) e right less = on (after_cmp k l.0) (put-left k x ls e right less)
  where
    on : (o : Ordering) → with_named (around ls e right) k x ≡ around (with_named ls k x) e right → by_order o ((k, x) ∷ l ∷ around ls e right) ((l.0, x) ∷ around ls e right) (l ∷ with_named (around ls e right) k x)
        ≡ around (by_order o ((k, x) ∷ l ∷ ls) ((l.0, x) ∷ ls) (l ∷ with_named ls k x)) e right
    on Less rest = refl
    on Equal rest = refl
    on Greater rest = ap (λ (all : Named X). l ∷ all) rest

pub put-right : {X : Type 0} (k : Name) (x : X) (left : Named X) (e : Name × X) (right : Named X) → Rises (around left e right) → after_cmp k e.0 ≡ Greater
    → with_named (around left e right) k x ≡ around left e (with_named right k x)
put-right k x [] e right rises more = ap (λ o. by_order o ((k, x) ∷ e ∷ right) ((e.0, x) ∷ right) (e ∷ with_named right k x)) more
put-right {X} k x (l ∷ ls) e right rises more =
    ap (λ o. by_order o ((k, x) ∷ l ∷ around ls e right) ((l.0, x) ∷ around ls e right) (l ∷ with_named (around ls e right) k x)) (after-left k l ls e right rises (less_of k e.0 more))
    ∙ ap (λ (all : Named X). l ∷ all) (put-right k x ls e right (rises-rest l (around ls e right) rises) more)

pub put-here : {X : Type 0} (k : Name) (x : X) (left : Named X) (e : Name × X) (right : Named X) → Rises (around left e right) → after_cmp k e.0 ≡ Equal
    → with_named (around left e right) k x ≡ around left (k, x) right
put-here {X} k x [] e right rises same =
    ap (λ o. by_order o ((k, x) ∷ e ∷ right) ((e.0, x) ∷ right) (e ∷ with_named right k x)) same ∙ ap (λ (n : Name). (n, x) ∷ right) (sym (same_name-equal k e.0 (ap is_eq same)))
put-here {X} k x (l ∷ ls) e right rises same =
    let here : k ≡ e.0 = same_name-equal k e.0 (ap is_eq same) in
    let more : after_cmp k l.0 ≡ Greater = greater_of k l.0 (subst (λ n. after_cmp l.0 n ≡ Less) (sym here) (below-entry l.0 ls e right (rises-first l (around ls e right) rises))) in
    ap (λ o. by_order o ((k, x) ∷ l ∷ around ls e right) ((l.0, x) ∷ around ls e right) (l ∷ with_named (around ls e right) k x)) more
    ∙ ap (λ (all : Named X). l ∷ all) (put-here k x ls e right (rises-rest l (around ls e right) rises) same)

-- what stands under a name stands in its side
pub named-left : {X : Type 0} (k : Name) (left : Named X) (e : Name × X) (right : Named X) → Rises (around left e right) → after_cmp k e.0 ≡ Less → named k (around left e right) ≡ named k left
named-left k [] e right rises less = named-before k e right rises less
named-left {X} k (l ∷ ls) e right rises less = ap (λ found. cond (same_name k l.0) (Some l.1) found) (named-left k ls e right (rises-rest l (around ls e right) rises) less)

pub named-right : {X : Type 0} (k : Name) (left : Named X) (e : Name × X) (right : Named X) → Rises (around left e right) → after_cmp k e.0 ≡ Greater → named k (around left e right) ≡ named k right
named-right k [] e right rises more = ap (λ o. cond (is_eq o) (Some e.1) (named k right)) more
named-right k (l ∷ ls) e right rises more =
    ap (λ o. cond (is_eq o) (Some l.1) (named k (around ls e right))) (after-left k l ls e right rises (less_of k e.0 more)) ∙ named-right k ls e right (rises-rest l (around ls e right) rises) more

pub named-entry : {X : Type 0} (k : Name) (left : Named X) (e : Name × X) (right : Named X) → Rises (around left e right) → after_cmp k e.0 ≡ Equal → named k (around left e right) ≡ Some e.1
named-entry k [] e right rises same = ap (λ o. cond (is_eq o) (Some e.1) (named k right)) same
named-entry k (l ∷ ls) e right rises same =
    let here : k ≡ e.0 = same_name-equal k e.0 (ap is_eq same) in
    let more : after_cmp k l.0 ≡ Greater = greater_of k l.0 (subst (λ n. after_cmp l.0 n ≡ Less) (sym here) (below-entry l.0 ls e right (rises-first l (around ls e right) rises))) in
    ap (λ o. cond (is_eq o) (Some l.1) (named k (around ls e right))) more ∙ named-entry k ls e right (rises-rest l (around ls e right) rises) same

-- the same of a map that is so
module _ {X : Type 0} (all left : Named X) (e : Name × X) (right : Named X) (is : all ≡ around left e right) where
  rises-around : Rises all → Rises (around left e right)
  rises-around rises = subst Rises is rises

  pub left_rises : Rises all → Rises left
  left_rises rises = rises-left left e right (rises-around rises)

  pub right_rises : Rises all → Rises right
  right_rises rises = rises-right left e right (rises-around rises)

  pub left_shorter : length left < length all
  left_shorter = let long = ap length is ∙ length-append left (e ∷ right) in omega (arith, long)

  pub right_shorter : length right < length all
  right_shorter = let long = ap length is ∙ length-append left (e ∷ right) in omega (arith, long)

  pub puts_left : (k : Name) (x : X) → after_cmp k e.0 ≡ Less → with_named all k x ≡ around (with_named left k x) e right
  puts_left k x less = ap (λ m. with_named m k x) is ∙ put-left k x left e right less

  pub puts_here : (k : Name) (x : X) → Rises all → after_cmp k e.0 ≡ Equal → with_named all k x ≡ around left (k, x) right
  puts_here k x rises same = ap (λ m. with_named m k x) is ∙ put-here k x left e right (rises-around rises) same

  pub puts_right : (k : Name) (x : X) → Rises all → after_cmp k e.0 ≡ Greater → with_named all k x ≡ around left e (with_named right k x)
  puts_right k x rises more = ap (λ m. with_named m k x) is ∙ put-right k x left e right (rises-around rises) more

  pub finds_left : (k : Name) → Rises all → after_cmp k e.0 ≡ Less → named k left ≡ named k all
  finds_left k rises less = sym (ap (named k) is ∙ named-left k left e right (rises-around rises) less)

  pub finds_right : (k : Name) → Rises all → after_cmp k e.0 ≡ Greater → named k right ≡ named k all
  finds_right k rises more = sym (ap (named k) is ∙ named-right k left e right (rises-around rises) more)

  pub finds_here : (k : Name) → Rises all → after_cmp k e.0 ≡ Equal → Some e.1 ≡ named k all
  finds_here k rises same = sym (ap (named k) is ∙ named-entry k left e right (rises-around rises) same)
