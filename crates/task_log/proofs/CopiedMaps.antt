-- A map put together from its entries in order.
use Rattle.std.proofs.Common.{◌≡◌, ◌∙◌, Bool, true, false, [], ◌∷◌, ◌++◌, append-nil, append_assoc, refl, sym, ap, subst}
use Rattle.std.specs.Prelude.{◌&&◌, T}
use Rattle.std.specs.declared.cmp.Ordering.{Ordering}
use Rattle.std.specs.declared.cmp.Ordering.TheVariants.{Less, Equal, Greater}
use Rattle.std.specs.FinMap.Entries.{by_order, below_all}
use Rattle.std.specs.Ordering.{is_lt, ordering_reverse}
use Rattle.value_core.specs.Name.{after_cmp}
use Rattle.value_core.specs.NameOrder.{after_cmp_total}
use Rattle.value_core.specs.Named.{Name, Named, with_named, over, Rises}
use Rattle.value_core.proofs.NamedLaws.{rises-first, rises-rest}

less_of : (o : Ordering) → T (is_lt o) → o ≡ Less
less_of Less t = refl
less_of Equal t = absurd t
less_of Greater t = absurd t

first_of : (a b : Bool) → T (a && b) → T a
first_of true b t = tt
first_of false b t = absurd t

second_of : (a b : Bool) → T (a && b) → T b
second_of true b t = t
second_of false b t = absurd t

before : {X : Type 0} (k : Name) (done : Named X) (e : Name × X) (es : Named X) → T (below_all after_cmp k (done ++ e ∷ es)) → after_cmp k e.0 ≡ Less
before k [] e es below = less_of (after_cmp k e.0) (first_of (is_lt (after_cmp k e.0)) (below_all after_cmp k es) below)
before k (d ∷ done) e es below = before k done e es (second_of (is_lt (after_cmp k d.0)) (below_all after_cmp k (done ++ e ∷ es)) below)

put-last : {X : Type 0} (done : Named X) (e : Name × X) (es : Named X) → Rises (done ++ e ∷ es) → with_named done e.0 e.1 ≡ done ++ e ∷ []
put-last [] e es rises = refl
put-last {X} (d ∷ done) e es rises =
    ap (λ o. by_order o (e ∷ d ∷ done) ((d.0, e.1) ∷ done) (d ∷ with_named done e.0 e.1)) greater ∙ ap (λ (rest : Named X). d ∷ rest) (put-last done e es (rises-rest d (done ++ e ∷ es) rises))
  where
    greater : after_cmp e.0 d.0 ≡ Greater
    greater = after_cmp_total.antisymm e.0 d.0 ∙ ap ordering_reverse (before d.0 done e es (rises-first d (done ++ e ∷ es) rises))

over-behind : {X : Type 0} (es done : Named X) → Rises (done ++ es) → over es done ≡ done ++ es
over-behind [] done rises = sym (append-nil done)
over-behind (e ∷ es) done rises = ap (over es) (put-last done e es rises) ∙ over-behind es (done ++ e ∷ []) (subst Rises (sym (append_assoc done (e ∷ []) es)) rises) ∙ append_assoc done (e ∷ []) es

pub over-nothing : {X : Type 0} (es : Named X) → Rises es → over es [] ≡ es
over-nothing es rises = over-behind es [] rises
