-- Writes are a finite map by name.
use Rattle.std.proofs.Common.{◌≡◌, ◌∙◌, ℕ, zero, suc, ◌<◌, ◌≤◌, [], ◌∷◌, length, get_or, set, Some, None, Result, Ok, Err, IfOk, IfErr, inl, inr, refl, ap, subst, arith}
use Rattle.std.specs.declared.cmp.Ordering.{Ordering}
use Rattle.std.specs.declared.cmp.Ordering.TheVariants.{Less, Equal, Greater}
use Rattle.std.specs.FinMap.Entries.{below_all}
use Rattle.std.specs.List.{insert}
use Rattle.std.specs.List.Sorted.{IsSearchInRange, IsBinarySearchResult, IsNonDecreasingBy}
use Rattle.std.specs.Ordering.{is_lt, ordering_reverse, ordering_index}
use Rattle.std.proofs.lemmas.Bool.{cases_lt}
use Rattle.value_core.specs.Name.{after_cmp}
use Rattle.value_core.specs.NameOrder.{after_cmp_total}
use Rattle.value_core.specs.Named.{Name, Named, named, with_named, Rises}
use Rattle.value_core.proofs.Names.{after_cmp-IsAntisymmetric}
use Rattle.value_core.proofs.NamedLaws.{IsBelow, rises-first, rises-rest}
use Rattle.value_core.proofs.Tests.{first_of, is_less, rising, second_of}
use Rattle.ref_store.specs.Writes.{IsAfterFirst, IsBeforeRest, IsGapFor, IsPlaceOf}

turned : (a b : Name) (o : Ordering) → after_cmp a b ≡ o → after_cmp b a ≡ ordering_reverse o
turned a b o is = after_cmp_total.antisymm b a ∙ ap ordering_reverse is

module _ {X : Type 0} where
  tail_after : (e : Name × X) (es : Named X) (k : Name) (i : ℕ) → IsAfterFirst (e ∷ es) k (suc i) → IsAfterFirst es k i
  tail_after e es k i after j d lt = after (suc j) d (omega arith)

  tail_before : (e : Name × X) (es : Named X) (k : Name) (i : ℕ) → IsBeforeRest (e ∷ es) k (suc i) → IsBeforeRest es k i
  tail_before e es k i before j d le lt = before (suc j) d (omega arith) (omega arith)

  all_before : (e : Name × X) (es : Named X) (k : Name) → IsBeforeRest (e ∷ es) k 0 → IsBeforeRest es k 0
  all_before e es k before j d le lt = before (suc j) d (omega arith) (omega arith)

  -- ---- a name that is found at place i
  put_at : (es : Named X) (k : Name) (v : X) (i : ℕ) (d : Name × X) → i < length es → IsAfterFirst es k i → after_cmp k (get_or es i d).0 ≡ Equal → with_named es k v ≡ set es i (k, v)
  put_at [] k v i d lt after e = absurd (omega arith)
  put_at (x ∷ es) k v zero d lt after e = rw (e, after_cmp-IsAntisymmetric k x.0 e) refl
  put_at (x ∷ es) k v (suc i) d lt after e = rw (after 0 d (omega arith)) (ap (λ (l : Named X). x ∷ l) (put_at es k v i d (omega arith) (tail_after x es k i after) e))

  pub put_place : (es : Named X) (k : Name) (v : X) (i : ℕ) → IsPlaceOf es k i → with_named es k v ≡ set es i (k, v)
  put_place es k v i at = put_at es k v i (k, v) at.in_range at.after (at.here (k, v))

  find_at : (es : Named X) (k : Name) (i : ℕ) (d : Name × X) → i < length es → IsAfterFirst es k i → after_cmp k (get_or es i d).0 ≡ Equal → named k es ≡ Some (get_or es i d).1
  find_at [] k i d lt after e = absurd (omega arith)
  find_at (x ∷ es) k zero d lt after e = rw e
  find_at (x ∷ es) k (suc i) d lt after e = rw (after 0 d (omega arith)) (find_at es k i d (omega arith) (tail_after x es k i after) e)

  pub find_place : (es : Named X) (k : Name) (i : ℕ) (d : Name × X) → IsPlaceOf es k i → named k es ≡ Some (get_or es i d).1
  find_place es k i d at = find_at es k i d at.in_range at.after (at.here d)

  -- ---- a name that would go to place i
  put_before : (es : Named X) (k : Name) (v : X) → IsBeforeRest es k 0 → with_named es k v ≡ (k, v) ∷ es
  put_before [] k v before = refl
  put_before (x ∷ es) k v before = rw (before 0 x (omega arith) (omega arith))

  put_in : (es : Named X) (k : Name) (v : X) (i : ℕ) → i ≤ length es → IsAfterFirst es k i → IsBeforeRest es k i → with_named es k v ≡ insert es i (k, v)
  put_in es k v zero le after before = put_before es k v before
  put_in [] k v (suc i) le after before = absurd (omega arith)
  put_in (x ∷ es) k v (suc i) le after before = rw (after 0 x (omega arith)) (ap (λ (l : Named X). x ∷ l) (put_in es k v i (omega arith) (tail_after x es k i after) (tail_before x es k i before)))

  pub put_gap : (es : Named X) (k : Name) (v : X) (i : ℕ) → IsGapFor es k i → with_named es k v ≡ insert es i (k, v)
  put_gap es k v i gap = put_in es k v i gap.in_range gap.after gap.before

  none_before : (es : Named X) (k : Name) → IsBeforeRest es k 0 → named k es ≡ None
  none_before [] k before = refl
  none_before (x ∷ es) k before = rw (before 0 x (omega arith) (omega arith)) (none_before es k (all_before x es k before))

  none_in : (es : Named X) (k : Name) (i : ℕ) → i ≤ length es → IsAfterFirst es k i → IsBeforeRest es k i → named k es ≡ None
  none_in es k zero le after before = none_before es k before
  none_in [] k (suc i) le after before = refl
  none_in (x ∷ es) k (suc i) le after before = rw (after 0 x (omega arith)) (none_in es k i (omega arith) (tail_after x es k i after) (tail_before x es k i before))

  pub none_gap : (es : Named X) (k : Name) (i : ℕ) → IsGapFor es k i → named k es ≡ None
  none_gap es k i gap = none_in es k i gap.in_range gap.after gap.before

  -- ---- rising names, place by place
  below_at : (k : Name) (es : Named X) → IsBelow k es → (j : ℕ) (d : Name × X) → j < length es → after_cmp k (get_or es j d).0 ≡ Less
  below_at k [] below j d lt = absurd (omega arith)
  below_at k (e ∷ es) below zero d lt = is_less (after_cmp k e.0) (first_of (is_lt (after_cmp k e.0)) (below_all after_cmp k es) below)
  below_at k (e ∷ es) below (suc j) d lt = below_at k es (second_of (is_lt (after_cmp k e.0)) (below_all after_cmp k es) below) j d (omega arith)

  pub rise_at : (es : Named X) → Rises es → (i j : ℕ) (d : Name × X) → i < j → j < length es → after_cmp (get_or es i d).0 (get_or es j d).0 ≡ Less
  rise_at [] rises i j d lt in_range = absurd (omega arith)
  rise_at (e ∷ es) rises i zero d lt in_range = absurd (omega arith)
  rise_at (e ∷ es) rises zero (suc j) d lt in_range = below_at e.0 es (rises-first e es rises) j d (omega arith)
  rise_at (e ∷ es) rises (suc i) (suc j) d lt in_range = rise_at es (rises-rest e es rises) i j d (omega arith) (omega arith)

  -- ---- a binary search among rising names
  pub searched : (es : Named X) → Rises es → (k : Name) (r : Result ℕ ℕ) → IsSearchInRange r (length es) → IsBinarySearchResult (λ (e : Name × X). after_cmp e.0 k) es r
      → record { found : IfOk r (IsPlaceOf es k); absent : IfErr r (IsGapFor es k) }
  searched es rises k (Ok i) in_range equal = record {
    found = record {
      in_range = in_range;
      after = λ j d lt. turned (get_or es j d).0 k Less (subst (λ z. after_cmp (get_or es j d).0 z ≡ Less) (after_cmp-IsAntisymmetric (get_or es i d).0 k (equal d)) (rise_at es rises j i d lt in_range));
      here = λ d. turned (get_or es i d).0 k Equal (equal d);
    };
    absent = tt;
  }
  searched es rises k (Err i) in_range parted = record {
    found = tt;
    absent = record {
      in_range = in_range;
      after = λ j d lt. turned (get_or es j d).0 k Less ((parted answers_rise).0 j d (omega arith) lt);
      before = λ j d le lt. turned (get_or es j d).0 k Greater ((parted answers_rise).1 j d le lt);
    };
  }
    where
      answers_rise : IsNonDecreasingBy (λ (e : Name × X). ordering_index (after_cmp e.0 k)) es
      answers_rise i' j d le lt = elim (cases_lt i' j) [
        | inl before ↦ rising (after_cmp (get_or es i' d).0 k) (after_cmp (get_or es j d).0 k)
            (λ below. after_cmp_total.trans (get_or es i' d).0 (get_or es j d).0 k (rise_at es rises i' j d before lt) below)
            (λ equal. subst (λ z. after_cmp (get_or es i' d).0 z ≡ Less) (after_cmp-IsAntisymmetric (get_or es j d).0 k equal) (rise_at es rises i' j d before lt))
        | inr same ↦ let e : i' ≡ j = omega arith in subst (λ n. ordering_index (after_cmp (get_or es i' d).0 k) ≤ ordering_index (after_cmp (get_or es n d).0 k)) e (omega arith)
      ]
