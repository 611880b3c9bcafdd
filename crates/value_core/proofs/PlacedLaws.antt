-- What places show that are made first, and filled later.
use Rattle.std.proofs.Common.{◌≡◌, ◌∙◌, Bool, true, false, cond, [], ◌∷◌, refl, sym, ap, subst, Option, Some, None}
use Rattle.std.specs.Prelude.{T}
use Rattle.std.specs.declared.cmp.Ordering.{Ordering}
use Rattle.std.specs.declared.cmp.Ordering.TheVariants.{Less, Equal, Greater}
use Rattle.std.specs.FinMap.Entries.{by_order, below_all, is_sorted}
use Rattle.std.specs.Option.{IsSome, option_and_then}
use Rattle.std.specs.Ordering.{is_eq, is_lt}
use Rattle.value_core.specs.Name.{after_cmp}
use Rattle.value_core.specs.Named.{Name, Named, named, with_named, same_name, Rises}
use Rattle.value_core.specs.Placed.{Placed, filled, if_filled, HasPlace, IsEmptied, IsPrepared}
use Rattle.value_core.proofs.Names.{after_cmp-IsAntisymmetric}
use Rattle.value_core.proofs.NamedLaws.{IsBelow, after_cmp-itself, below-less, named-below, named-with_named, rises-first, rises-rest, rises-with_named, same_name-equal, some-here, still_named}
use Rattle.value_core.proofs.Tests.{both, first_of, second_of}

-- what is below all places is below all that they show
pub below_filled : {X : Type 0} (k : Name) (all : Placed X) → IsBelow k all → IsBelow k (filled all)
below_filled k [] below = tt
below_filled {X} k (e ∷ es) below =
    on e.1 (first_of (is_lt (after_cmp k e.0)) (below_all after_cmp k es) below) (below_filled k es (second_of (is_lt (after_cmp k e.0)) (below_all after_cmp k es) below))
  where
    on : (o : Option X) → T (is_lt (after_cmp k e.0)) → IsBelow k (filled es) → IsBelow k (if_filled o e.0 (filled es))
    on None less rest = rest
    on (Some x) less rest = both (is_lt (after_cmp k e.0)) (below_all after_cmp k (filled es)) less rest

-- where the places rise, what they show does
pub rises_filled : {X : Type 0} (all : Placed X) → Rises all → Rises (filled all)
rises_filled [] rises = tt
rises_filled {X} (e ∷ es) rises = on e.1 (rises_filled es (rises-rest e es rises)) (below_filled e.0 es (rises-first e es rises))
  where
    on : (o : Option X) → Rises (filled es) → IsBelow e.0 (filled es) → Rises (if_filled o e.0 (filled es))
    on None rest below = rest
    on (Some x) rest below = both (below_all after_cmp e.0 (filled es)) (is_sorted after_cmp (filled es)) below rest

-- what they show under a name is what the place there holds
pub named_filled : {X : Type 0} (k : Name) (all : Placed X) → Rises all → named k (filled all) ≡ option_and_then (λ (o : Option X). o) (named k all)
named_filled k [] rises = refl
named_filled {X} k (e ∷ es) rises = on e.1 (same_name k e.0) refl (named_filled k es (rises-rest e es rises))
  where
    on : (o : Option X) (b : Bool) → same_name k e.0 ≡ b → named k (filled es) ≡ option_and_then (λ (p : Option X). p) (named k es)
        → named k (if_filled o e.0 (filled es)) ≡ option_and_then (λ (p : Option X). p) (cond b (Some o) (named k es))
    on None true same rest = subst (λ n. named n (filled es) ≡ None) (sym (same_name-equal k e.0 same)) (named-below e.0 (filled es) (below_filled e.0 es (rises-first e es rises)))
    on None false apart rest = rest
    on (Some x) true same rest = ap (λ b. cond b (Some x) (named k (filled es))) same
    on (Some x) false apart rest = ap (λ b. cond b (Some x) (named k (filled es))) apart ∙ rest

-- an empty place changes nothing that they show
pub prepared_shows : {X : Type 0} (k : Name) (all : Placed X) → named k all ≡ None → filled (with_named all k None) ≡ filled all
prepared_shows k [] none = refl
prepared_shows {X} k (e ∷ es) none = on (after_cmp k e.0) none (prepared_shows k es)
  where
    on : (o : Ordering) → cond (is_eq o) (Some e.1) (named k es) ≡ None → (named k es ≡ None → filled (with_named es k None) ≡ filled es)
        → filled (by_order o ((k, None) ∷ e ∷ es) ((e.0, None) ∷ es) (e ∷ with_named es k None)) ≡ if_filled e.1 e.0 (filled es)
    on Less none rest = refl
    on Equal none rest = cc
    on Greater none rest = ap (if_filled e.1 e.0) (rest none)

-- what is put below all comes first
below_put : {X : Type 0} (k : Name) (x : X) (all : Named X) → IsBelow k all → with_named all k x ≡ (k, x) ∷ all
below_put k x [] below = refl
below_put {X} k x (e ∷ es) below = on (after_cmp k e.0) (first_of (is_lt (after_cmp k e.0)) (below_all after_cmp k es) below)
  where
    on : (o : Ordering) → T (is_lt o) → by_order o ((k, x) ∷ e ∷ es) ((e.0, x) ∷ es) (e ∷ with_named es k x) ≡ (k, x) ∷ e ∷ es
    on Less less = refl
    on Equal less = absurd less
    on Greater less = absurd less

-- a place that is filled shows its item
pub filled_shows : {X : Type 0} (k : Name) (x : X) (all : Placed X) → Rises all → HasPlace k all → filled (with_named all k (Some x)) ≡ with_named (filled all) k x
filled_shows k x [] rises has = cc
filled_shows {X} k x (e ∷ es) rises has = on (after_cmp k e.0) refl has (filled_shows k x es (rises-rest e es rises))
  where
    here : (o : Option X) → (e.0, x) ∷ filled es ≡ with_named (if_filled o e.0 (filled es)) e.0 x
    here None = sym (below_put e.0 x (filled es) (below_filled e.0 es (rises-first e es rises)))
    here (Some y) = sym (ap (λ o. by_order o ((e.0, x) ∷ (e.0, y) ∷ filled es) ((e.0, x) ∷ filled es) ((e.0, y) ∷ with_named (filled es) e.0 x)) (after_cmp-itself e.0))

    later : after_cmp k e.0 ≡ Greater → filled (with_named es k (Some x)) ≡ with_named (filled es) k x
        → (o : Option X) → if_filled o e.0 (filled (with_named es k (Some x))) ≡ with_named (if_filled o e.0 (filled es)) k x
    later is rest None = rest
    later is rest (Some y) = ap (λ (m : Named X). (e.0, y) ∷ m) rest
        ∙ sym (ap (λ o. by_order o ((k, x) ∷ (e.0, y) ∷ filled es) ((e.0, x) ∷ filled es) ((e.0, y) ∷ with_named (filled es) k x)) is)

    on : (o : Ordering) → after_cmp k e.0 ≡ o → IsSome (cond (is_eq o) (Some e.1) (named k es)) → (HasPlace k es → filled (with_named es k (Some x)) ≡ with_named (filled es) k x)
        → filled (by_order o ((k, Some x) ∷ e ∷ es) ((e.0, Some x) ∷ es) (e ∷ with_named es k (Some x))) ≡ with_named (if_filled e.1 e.0 (filled es)) k x
    on Less is has rest = let none : named k es ≡ None = named-below k es (below-less k e.0 es is (rises-first e es rises)) in cc
    on Equal is has rest = here e.1 ∙ ap (λ n. with_named (if_filled e.1 e.0 (filled es)) n x) (sym (after_cmp-IsAntisymmetric k e.0 is))
    on Greater is has rest = later is (rest has) e.1

-- a place that is there is prepared
pub is_prepared : {X : Type 0} (k : Name) (all : Placed X) → HasPlace k all → IsPrepared k all all
is_prepared k all has = record { rises = λ r. r; shows = refl; place = has; others = λ other there. there }

-- a place that is made is prepared
pub made_prepared : {X : Type 0} (k : Name) (old new : Placed X) → named k old ≡ None → new ≡ with_named old k None → IsPrepared k old new
made_prepared {X} k old new none made = subst (IsPrepared k old) (sym made) (record {
  rises = rises-with_named k None old;
  shows = prepared_shows k old none;
  place = some-here k None old;
  others = λ other there. still_named other k None old there;
})

-- what a place showed is shown no more, once it is emptied
pub emptied_shows : {X : Type 0} (k : Name) (old new : Placed X) → Rises old → IsEmptied k (named k old) old new → (q : Name) → named q (filled new) ≡ cond (same_name q k) None (named q (filled old))
emptied_shows {X} k old new rises is q = on (named k old) refl is
  where
    stays : (b : Bool) → same_name q k ≡ b → named k old ≡ None → named q (filled old) ≡ cond b None (named q (filled old))
    stays true same none = subst (λ n. named n (filled old) ≡ None) (sym (same_name-equal q k same)) (named_filled k old rises ∙ ap (option_and_then (λ (o : Option X). o)) none)
    stays false apart none = refl

    goes : (b : Bool) → option_and_then (λ (o : Option X). o) (cond b (Some None) (named q old)) ≡ cond b None (named q (filled old))
    goes true = refl
    goes false = sym (named_filled q old rises)

    on : (found : Option (Option X)) → named k old ≡ found → IsEmptied k found old new → named q (filled new) ≡ cond (same_name q k) None (named q (filled old))
    on None none same = ap (λ (p : Placed X). named q (filled p)) same ∙ stays (same_name q k) refl none
    on (Some place) there put = ap (λ (p : Placed X). named q (filled p)) put ∙ named_filled q (with_named old k None) (rises-with_named k None old rises)
        ∙ ap (option_and_then (λ (o : Option X). o)) (named-with_named q k None old) ∙ goes (same_name q k)

-- and the places stay, in their order
pub emptied_rises : {X : Type 0} (k : Name) (old new : Placed X) → Rises old → IsEmptied k (named k old) old new → Rises new
emptied_rises {X} k old new rises is = on (named k old) is
  where
    on : (found : Option (Option X)) → IsEmptied k found old new → Rises new
    on None same = subst (λ (p : Placed X). Rises p) (sym same) rises
    on (Some place) put = subst (λ (p : Placed X). Rises p) (sym put) (rises-with_named k None old rises)

pub emptied_places : {X : Type 0} (k : Name) (old new : Placed X) → IsEmptied k (named k old) old new → (q : Name) → HasPlace q old → HasPlace q new
emptied_places {X} k old new is q has = on (named k old) is
  where
    on : (found : Option (Option X)) → IsEmptied k found old new → HasPlace q new
    on None same = subst (λ (p : Placed X). HasPlace q p) (sym same) has
    on (Some place) put = subst (λ (p : Placed X). HasPlace q p) (sym put) (still_named q k None old has)
