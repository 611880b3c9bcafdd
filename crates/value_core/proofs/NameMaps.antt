-- Ordered maps by name keep what maps by name say, also where they are changed in place.
use Rattle.std.proofs.Common.{◌≡◌, ◌∙◌, [], ◌∷◌, cond, refl, sym, ap, subst, Option, Some, None}
use Rattle.std.specs.Prelude.{T}
use Rattle.std.specs.declared.cmp.Ordering.{Ordering}
use Rattle.std.specs.declared.cmp.Ordering.TheVariants.{Less, Equal, Greater}
use Rattle.std.specs.BTreeMap.{BTreeMap, get_by, insert_entry, is_at, WritesThrough}
use Rattle.std.specs.FinMap.Entries.{by_order, is_sorted, is_sorted-put, below_all}
use Rattle.std.specs.List.{AllByRecursion}
use Rattle.std.specs.List.Sorted.{IsStrictlySortedBy}
use Rattle.std.specs.Map.{lookup, set_value, keys_of}
use Rattle.std.specs.Ordering.{match_ordering, is_eq, is_lt}
use Rattle.std.proofs.lemmas.Map.Steps.{set_value_same}
use Rattle.value_core.specs.Name.{after_cmp}
use Rattle.value_core.specs.Named.{Name, Named, named, with_named, Rises, IsChanged}
use Rattle.value_core.specs.NameOrder.{after_cmp_total}
use Rattle.value_core.proofs.NamedLaws.{named-below, below-less, rises-first, rises-rest}
use Rattle.value_core.proofs.Tests.{both}

-- what is looked up is what is named
pub lookup_is_named : {X : Type 0} (name : Name) (entries : Named X) → lookup (is_at (after_cmp name)) entries ≡ named name entries
lookup_is_named name [] = refl
lookup_is_named name (e ∷ es) = ap (cond _ (Some e.1)) (lookup_is_named name es)

-- what is inserted is put under its name
pub inserted_is_named : {X : Type 0} (entries : Named X) (name : Name) (v : X) → insert_entry after_cmp entries name v ≡ with_named entries name v
inserted_is_named [] name v = refl
inserted_is_named {X} (e ∷ es) name v = placed (after_cmp name e.0) (ap (λ (rest : Named X). e ∷ rest) (inserted_is_named es name v))
  where
    placed : (o : Ordering) → e ∷ insert_entry after_cmp es name v ≡ e ∷ with_named es name v
        → match_ordering o ((name, v) ∷ e ∷ es) ((e.0, v) ∷ es) (e ∷ insert_entry after_cmp es name v) ≡ by_order o ((name, v) ∷ e ∷ es) ((e.0, v) ∷ es) (e ∷ with_named es name v)
    placed Less rest = refl
    placed Equal rest = refl
    placed Greater rest = rest

-- names that rise still do
pub rises_with_named : {X : Type 0} (old new : Named X) (name : Name) (v : X) → new ≡ insert_entry after_cmp old name v → Rises old → Rises new
rises_with_named old new name v is rises = subst Rises (sym (is ∙ inserted_is_named old name v)) (is_sorted-put after_cmp after_cmp_total name v old rises)

below_of : {X : Type 0} (k : Name) (es : Named X) → AllByRecursion (λ y. after_cmp k y ≡ Less) (keys_of es) → T (below_all after_cmp k es)
below_of k [] all = tt
below_of k (e ∷ es) all = both (is_lt (after_cmp k e.0)) (below_all after_cmp k es) (subst (λ o. T (is_lt o)) (sym all.0) tt) (below_of k es all.1)

-- the names of an ordered map rise
pub rises_of : {X : Type 0} (es : Named X) → IsStrictlySortedBy after_cmp (keys_of es) → Rises es
unfolding IsStrictlySortedBy
rises_of [] sorted = tt
rises_of (e ∷ es) sorted = both (below_all after_cmp e.0 es) (is_sorted after_cmp es) (below_of e.0 es sorted.0) (rises_of es sorted.1)

-- what is set in place is put
pub set_is_put : {X : Type 0} (k : Name) (w y : X) (es : Named X) → Rises es → named k es ≡ Some y → set_value (is_at (after_cmp k)) es w ≡ with_named es k w
set_is_put k w y [] rises there = cc
set_is_put {X} k w y (e ∷ es) rises there = on (after_cmp k e.0) refl there (set_is_put k w y es (rises-rest e es rises))
  where
    on : (o : Ordering) → after_cmp k e.0 ≡ o → cond (is_eq o) (Some e.1) (named k es) ≡ Some y
        → (named k es ≡ Some y → set_value (is_at (after_cmp k)) es w ≡ with_named es k w)
        → cond (is_eq o) ((e.0, w) ∷ es) (e ∷ set_value (is_at (after_cmp k)) es w) ≡ by_order o ((k, w) ∷ e ∷ es) ((e.0, w) ∷ es) (e ∷ with_named es k w)
    on Less is found rest = let none : named k es ≡ None = named-below k es (below-less k e.0 es is (rises-first e es rises)) in cc
    on Equal is found rest = refl
    on Greater is found rest = ap (λ (more : Named X). e ∷ more) (rest found)

-- the names of a map rise after a write as before
same_rises : {X : Type 0} (xs ys : Named X) → keys_of xs ≡ keys_of ys → IsStrictlySortedBy after_cmp (keys_of xs) → Rises ys
same_rises xs ys same sorted = rises_of ys (subst (IsStrictlySortedBy after_cmp) same sorted)

-- what is written through the item under a name is put there
pub written_is_put : {X : Type 0} (k : Name) (old new : BTreeMap Name X) (w y : X) → WritesThrough after_cmp (after_cmp k) old w new → named k old.entries ≡ Some y
    → new.entries ≡ with_named old.entries k w
written_is_put k old new w y writes there = writes.0 ∙ set_is_put k w y old.entries (same_rises new.entries old.entries writes.1 writes.4) there

-- what a look-up found is named
pub found_named : {X : Type 0} (k : Name) (m : BTreeMap Name X) (found : Option X) (y : X) → found ≡ get_by (after_cmp k) m → found ≡ Some y → named k m.entries ≡ Some y
found_named k m found y is there = sym (lookup_is_named k m.entries) ∙ sym is ∙ there

pub none_named : {X : Type 0} (k : Name) (m : BTreeMap Name X) (found : Option X) → found ≡ get_by (after_cmp k) m → found ≡ None → named k m.entries ≡ None
none_named k m found is none = sym (lookup_is_named k m.entries) ∙ sym is ∙ none

-- an item that is written as it was changes nothing
pub written_same : {X : Type 0} (k : Name) (old new : BTreeMap Name X) (w y : X) → WritesThrough after_cmp (after_cmp k) old w new → named k old.entries ≡ Some y → w ≡ y → new.entries ≡ old.entries
written_same k old new w y writes there same = writes.0 ∙ set_value_same (is_at (after_cmp k)) old.entries w (lookup_is_named k old.entries ∙ there ∙ ap Some (sym same))

some_same : {X : Type 0} (x y : X) → Some x ≡ Some y → x ≡ y
some_same x y e = cc

-- what is written through an item changes it, and no other
pub changed : {X : Type 0} (k : Name) (old new : BTreeMap Name X) (w y : X) (R : X → X → Type 0) → WritesThrough after_cmp (after_cmp k) old w new → named k old.entries ≡ Some y → R y w
    → IsChanged k old.entries new.entries R
changed k old new w y R writes there related x found =
    record { item = w; put = written_is_put k old new w y writes there; related = subst (λ z. R z w) (some_same y x (sym there ∙ found)) related }
