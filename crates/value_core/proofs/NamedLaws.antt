-- The laws of finite maps by name.
use Rattle.std.proofs.Common.{◌≡◌, ◌∙◌, ◌⊎◌, inl, inr, ℕ, suc, ◌+◌, ◌≤◌, Bool, true, false, cond, [], ◌∷◌, refl, sym, ap, subst, arith}
use Rattle.std.specs.Prelude.{Option, None, Some, T, All}
use Rattle.std.specs.Option.{option_or, IsSome}
use Rattle.std.specs.declared.cmp.Ordering.{Ordering}
use Rattle.std.specs.declared.cmp.Ordering.TheVariants.{Less, Equal, Greater}
use Rattle.std.specs.Cmp.{tied_itself}
use Rattle.std.specs.Ordering.{is_eq, is_lt}
use Rattle.std.specs.FinMap.Entries.{by_order, is_sorted, below_all, find-put, is_sorted-put}
use Rattle.value_core.specs.Name.{after_cmp}
use Rattle.value_core.specs.NameOrder.{after_cmp_total}
use Rattle.value_core.proofs.Names.{after_cmp-IsAntisymmetric}
use Rattle.value_core.specs.Named.{Name, Named, named, with_named, over, same_name, Rises}
use Rattle.value_core.proofs.Tests.{first_of, is_less, second_of}

equal_of : (o : Ordering) → is_eq o ≡ true → o ≡ Equal
equal_of Less e = cc
equal_of Equal e = refl
equal_of Greater e = cc

-- names that tie are the same
pub same_name-equal : (a b : Name) → same_name a b ≡ true → a ≡ b
same_name-equal a b e = after_cmp-IsAntisymmetric a b (equal_of (after_cmp a b) e)

pub after_cmp-itself : (a : Name) → after_cmp a a ≡ Equal
after_cmp-itself a = tied_itself after_cmp_total a

pub same_name-itself : (a : Name) → same_name a a ≡ true
same_name-itself a = ap is_eq (after_cmp-itself a)

-- what stands under a name of the map with one entry more
pub named-with_named : {X : Type 0} (q k : Name) (x : X) (all : Named X) → named q (with_named all k x) ≡ cond (same_name q k) (Some x) (named q all)
named-with_named q k x all = find-put after_cmp after_cmp_total q k x all

-- under its own name the entry
pub named-here : {X : Type 0} (k : Name) (x : X) (all : Named X) → named k (with_named all k x) ≡ Some x
named-here k x all = named-with_named k k x all ∙ ap (λ b. cond b (Some x) (named k all)) (same_name-itself k)

some_same : {X : Type 0} (x y : X) → Some x ≡ Some y → x ≡ y
some_same x y e = cc

-- what is found there is the entry, or was there
pub found_in : {X : Type 0} (q k : Name) (x y : X) (all : Named X) → named q (with_named all k x) ≡ Some y → ((q ≡ k) × (y ≡ x)) ⊎ (named q all ≡ Some y)
found_in q k x y all is = on (same_name q k) refl (sym (named-with_named q k x all) ∙ is)
  where
    on : (b : Bool) → same_name q k ≡ b → cond b (Some x) (named q all) ≡ Some y → ((q ≡ k) × (y ≡ x)) ⊎ (named q all ≡ Some y)
    on true same e = inl (same_name-equal q k same, sym (some_same x y e))
    on false same e = inr e

-- what is there under another name stays
pub named-other : {X : Type 0} (q k : Name) (x : X) (all : Named X) → ¬ (q ≡ k) → named q (with_named all k x) ≡ named q all
named-other q k x all apart = named-with_named q k x all ∙ on (same_name q k) refl
  where
    on : (b : Bool) → same_name q k ≡ b → cond b (Some x) (named q all) ≡ named q all
    on true same = absurd (apart (same_name-equal q k same))
    on false same = refl

-- a name that is there stays there
pub still_named : {X : Type 0} (q k : Name) (x : X) (all : Named X) → IsSome (named q all) → IsSome (named q (with_named all k x))
still_named q k x all there = subst IsSome (sym (named-with_named q k x all)) (on (same_name q k))
  where
    on : (b : Bool) → IsSome (cond b (Some x) (named q all))
    on true = refl
    on false = there

pub rises-with_named : {X : Type 0} (k : Name) (x : X) (all : Named X) → Rises all → Rises (with_named all k x)
rises-with_named k x all rises = is_sorted-put after_cmp after_cmp_total k x all rises

pub still_over : {X : Type 0} (q : Name) (upper lower : Named X) → IsSome (named q lower) → IsSome (named q (over upper lower))
still_over q [] lower there = there
still_over q (e ∷ es) lower there = still_over q es (with_named lower e.0 e.1) (still_named q e.0 e.1 lower there)

-- ---- the order of the entries
-- the name is before all names of a map that rises
abbrev pub IsBelow : {X : Type 0} → Name → Named X → Type 0
IsBelow k all = T (below_all after_cmp k all)

-- the first name of a map that rises is below the others, which rise
pub rises-first : {X : Type 0} (e : Name × X) (es : Named X) → Rises (e ∷ es) → IsBelow e.0 es
rises-first e es rises = first_of (below_all after_cmp e.0 es) (is_sorted after_cmp es) rises

pub rises-rest : {X : Type 0} (e : Name × X) (es : Named X) → Rises (e ∷ es) → Rises es
rises-rest e es rises = second_of (below_all after_cmp e.0 es) (is_sorted after_cmp es) rises

-- what is before a name that is below all is below all too
pub below-less : {X : Type 0} (q k : Name) (es : Named X) → after_cmp q k ≡ Less → IsBelow k es → IsBelow q es
below-less q k [] less below = tt
below-less q k (e ∷ es) less below =
    let here = is_less (after_cmp k e.0) (first_of (is_lt (after_cmp k e.0)) (below_all after_cmp k es) below) in
    rw (after_cmp_total.trans q k e.0 less here) (below-less q k es less (second_of (is_lt (after_cmp k e.0)) (below_all after_cmp k es) below))

-- a name that is below all is none of them
pub named-below : {X : Type 0} (q : Name) (es : Named X) → IsBelow q es → named q es ≡ None
named-below q [] below = refl
named-below {X} q (e ∷ es) below =
    let here = is_less (after_cmp q e.0) (first_of (is_lt (after_cmp q e.0)) (below_all after_cmp q es) below) in
    ap (λ o. cond (is_eq o) (Some e.1) (named q es)) here ∙ named-below q es (second_of (is_lt (after_cmp q e.0)) (below_all after_cmp q es) below)

-- ---- a sum over the entries
abbrev pub weight : {X : Type 0} → (X → ℕ) → Named X → ℕ
weight w [] = 0
weight w (e ∷ es) = w e.1 + weight w es

-- one entry more adds at most its own weight
pub weight-put : {X : Type 0} (w : X → ℕ) (k : Name) (x : X) (es : Named X) → weight w (with_named es k x) ≤ weight w es + w x
weight-put w k x [] = omega arith
weight-put {X} w k x (e ∷ es) = on (after_cmp k e.0) (weight-put w k x es)
  where
    on : (o : Ordering) → weight w (with_named es k x) ≤ weight w es + w x
        → weight w (by_order o ((k, x) ∷ e ∷ es) ((e.0, x) ∷ es) (e ∷ with_named es k x)) ≤ w e.1 + weight w es + w x
    on Less rest = omega arith
    on Equal rest = omega arith
    on Greater rest = omega arith

-- a new entry under a name that is there takes the place of the old one
pub weight-replace : {X : Type 0} (w : X → ℕ) (k : Name) (x y : X) (es : Named X) → Rises es → named k es ≡ Some y → weight w (with_named es k x) + w y ≡ weight w es + w x
weight-replace w k x y [] rises there = cc
weight-replace {X} w k x y (e ∷ es) rises there = on (after_cmp k e.0) refl (weight-replace w k x y es (rises-rest e es rises)) there
  where
    on : (o : Ordering) → after_cmp k e.0 ≡ o → (named k es ≡ Some y → weight w (with_named es k x) + w y ≡ weight w es + w x)
        → cond (is_eq o) (Some e.1) (named k es) ≡ Some y
        → weight w (by_order o ((k, x) ∷ e ∷ es) ((e.0, x) ∷ es) (e ∷ with_named es k x)) + w y ≡ w e.1 + weight w es + w x
    on Less is rest there = let none = named-below k es (below-less k e.0 es is (rises-first e es rises)) in cc
    on Equal is rest there = let same : e.1 ≡ y = cc in let weights = ap w same in omega arith
    on Greater is rest there = omega (arith, rest there)

-- ---- what holds of each entry
abbrev pub Each : {X : Type 0} → (Name → X → Type 0) → Named X → Type 0
Each {X} Q all = (name : Name) (x : X) → named name all ≡ Some x → Q name x

pub each-put : {X : Type 0} (Q : Name → X → Type 0) (k : Name) (x : X) (all : Named X) → Each Q all → Q k x → Each Q (with_named all k x)
each-put Q k x all each new q y is = on (found_in q k x y all is)
  where
    on : ((q ≡ k) × (y ≡ x)) ⊎ (named q all ≡ Some y) → Q q y
    on (inl here) = subst (λ n. Q n y) (sym here.0) (subst (Q k) (sym here.1) new)
    on (inr there) = each q y there

pub each-over : {X : Type 0} (Q : Name → X → Type 0) (upper lower : Named X) → All (λ e. Q e.0 e.1) upper → Each Q lower → Each Q (over upper lower)
each-over Q [] lower all each = each
each-over {X} Q (e ∷ es) lower all each = each-over Q es (with_named lower e.0 e.1) (λ k d lt. all (suc k) d (omega arith)) (each-put Q e.0 e.1 lower each (all 0 e (omega arith)))

-- what is found behind the first entry of a map that rises is found in it
pub named-rest : {X : Type 0} (q : Name) (x : X) (e : Name × X) (es : Named X) → Rises (e ∷ es) → named q es ≡ Some x → named q (e ∷ es) ≡ Some x
named-rest {X} q x e es rises there = on (same_name q e.0) refl
  where
    on : (b : Bool) → same_name q e.0 ≡ b → cond b (Some e.1) (named q es) ≡ Some x
    on true same =
        let first : named q es ≡ None = subst (λ n. named n es ≡ None) (sym (same_name-equal q e.0 same)) (named-below e.0 es (rises-first e es rises)) in cc
    on false same = there

-- the first entry is found under its name
pub named-first : {X : Type 0} (e : Name × X) (es : Named X) → named e.0 (e ∷ es) ≡ Some e.1
named-first e es = ap (λ b. cond b (Some e.1) (named e.0 es)) (same_name-itself e.0)

-- what is found is the first entry's or behind it
pub found_first : {X : Type 0} (q : Name) (x : X) (e : Name × X) (es : Named X) → named q (e ∷ es) ≡ Some x → ((q ≡ e.0) × (x ≡ e.1)) ⊎ (named q es ≡ Some x)
found_first {X} q x e es is = on (same_name q e.0) refl is
  where
    on : (b : Bool) → same_name q e.0 ≡ b → cond b (Some e.1) (named q es) ≡ Some x → ((q ≡ e.0) × (x ≡ e.1)) ⊎ (named q es ≡ Some x)
    on true same found = inl (same_name-equal q e.0 same, sym (some_same e.1 x found))
    on false same found = inr found

-- what is before the first name is in none of the entries
pub named-before : {X : Type 0} (q : Name) (e : Name × X) (es : Named X) → Rises (e ∷ es) → after_cmp q e.0 ≡ Less → named q (e ∷ es) ≡ None
named-before q e es rises less = named-below q (e ∷ es) (rw less (below-less q e.0 es less (rises-first e es rises)))

pub some-here : {X : Type 0} (k : Name) (x : X) (all : Named X) → IsSome (named k (with_named all k x))
some-here k x all = subst IsSome (sym (named-here k x all)) refl

-- what the upper map has is in both together
pub named_over : {X : Type 0} (q : Name) (upper lower : Named X) → IsSome (named q upper) → IsSome (named q (over upper lower))
named_over q [] lower there = absurd (cc)
named_over {X} q (e ∷ es) lower there = on (same_name q e.0) refl there (λ rest. named_over q es (with_named lower e.0 e.1) rest)
  where
    on : (b : Bool) → same_name q e.0 ≡ b → IsSome (cond b (Some e.1) (named q es)) → (IsSome (named q es) → IsSome (named q (over es (with_named lower e.0 e.1))))
        → IsSome (named q (over es (with_named lower e.0 e.1)))
    on true same found rest =
        still_over q es (with_named lower e.0 e.1) (subst (λ n. IsSome (named n (with_named lower e.0 e.1))) (sym (same_name-equal q e.0 same)) (some-here e.0 e.1 lower))
    on false same found rest = rest found

-- names are the same or not
pub same_or_not : (a b : Name) → (a ≡ b) ⊎ ¬ (a ≡ b)
same_or_not a b = on (same_name a b) refl
  where
    on : (t : Bool) → same_name a b ≡ t → (a ≡ b) ⊎ ¬ (a ≡ b)
    on true is = inl (same_name-equal a b is)
    on false is = inr (λ same. let itself : same_name a b ≡ true = subst (λ n. same_name a n ≡ true) same (same_name-itself a) in cc)

-- what is found is the entry, or was there under another name
pub found_apart : {X : Type 0} (q k : Name) (x y : X) (all : Named X) → named q (with_named all k x) ≡ Some y → ((q ≡ k) × (y ≡ x)) ⊎ (¬ (q ≡ k) × (named q all ≡ Some y))
found_apart q k x y all is = on (same_or_not q k)
  where
    on : (q ≡ k) ⊎ ¬ (q ≡ k) → ((q ≡ k) × (y ≡ x)) ⊎ (¬ (q ≡ k) × (named q all ≡ Some y))
    on (inl same) =
        let found : named k (with_named all k x) ≡ Some y = subst (λ n. named n (with_named all k x) ≡ Some y) same is in
        let here = named-here k x all in
        let equal : y ≡ x = cc in inl (same, equal)
    on (inr apart) = inr (apart, sym (named-other q k x all apart) ∙ is)

-- what a map over another one has
pub named-upon : {X : Type 0} (name : Name) (upper lower : Named X) → Rises upper → named name (over upper lower) ≡ option_or (named name upper) (named name lower)
named-upon name [] lower rises = refl
named-upon {X} name (e ∷ es) lower rises =
    named-upon name es (with_named lower e.0 e.1) (rises-rest e es rises) ∙ ap (option_or (named name es)) (named-with_named name e.0 e.1 lower)
    ∙ on (same_name name e.0) (λ is. subst (λ n. named n es ≡ None) (sym (same_name-equal name e.0 is)) (named-below e.0 es (rises-first e es rises)))
  where
    on : (b : Bool) → (b ≡ true → named name es ≡ None) → option_or (named name es) (cond b (Some e.1) (named name lower)) ≡ option_or (cond b (Some e.1) (named name es)) (named name lower)
    on true none = ap (λ (o : Option X). option_or o (Some e.1)) (none refl)
    on false none = refl
