-- Pairs with rising keys are a finite map.
use Rattle.std.proofs.Common.{◌≡◌, ℕ, zero, suc, ◌+◌, ◌<◌, ◌≤◌, Bool, true, false, T, List, [], ◌∷◌, ◌++◌, take, length, get_or, set, Option, Some, None, Result, Ok, Err, IfOk, IfErr, inl, inr, cond, refl, sym, ap, subst, ◌∙◌, arith}
use Rattle.std.specs.declared.cmp.Ordering.{Ordering}
use Rattle.std.specs.declared.cmp.Ordering.TheVariants.{Less, Equal, Greater}
use Rattle.std.specs.Ordering.{is_lt, is_eq, is_ne, ordering_reverse, ordering_index}
use Rattle.std.specs.List.{insert, remove}
use Rattle.std.specs.List.Sorted.{IsSearchInRange, IsBinarySearchResult, IsNonDecreasingBy}
use Rattle.std.proofs.lemmas.Bool.{cases_lt}
use Rattle.std.proofs.lemmas.List.{take_more}
use Rattle.std.proofs.lemmas.Cmp.{tied_itself}
use Rattle.value_core.specs.declared.key.Key.{Key}
use Rattle.value_core.specs.declared.pair.Pair.{Pair}
use Rattle.value_core.specs.Key.{key_cmp}
use Rattle.value_core.specs.Pairs.{before_all, keys_rise, find_key, put_key, without_key, by_order, KeysBelow, KeysAbove, pair_of, IsPlaceOf, IsGapFor}
use Rattle.value_core.proofs.KeyOrder.{key_cmp_total, key_cmp-IsAntisymmetric}
use Rattle.value_core.proofs.Tests.{both, first_of, is_less, rising, second_of}

module _ {V : Type 0} where
  abbrev pair : Key → V → Pair V
  pair k v = record { key = k; value = v }

  tail_below : (p : Pair V) (ps : List (Pair V)) (k : Key) (i : ℕ) → KeysBelow (p ∷ ps) k (suc i) → KeysBelow ps k i
  tail_below p ps k i below j d lt = below (suc j) d (omega arith)

  tail_above : (p : Pair V) (ps : List (Pair V)) (k : Key) (i : ℕ) → KeysAbove (p ∷ ps) k (suc i) → KeysAbove ps k i
  tail_above p ps k i above j d le lt = above (suc j) d (omega arith) (omega arith)

  all_above : (p : Pair V) (ps : List (Pair V)) (k : Key) → KeysAbove (p ∷ ps) k 0 → KeysAbove ps k 0
  all_above p ps k above j d le lt = above (suc j) d (omega arith) (omega arith)

  -- ---- a key that is found at place i
  pub find_at : (ps : List (Pair V)) (k : Key) (i : ℕ) (d : Pair V) → i < length ps → KeysBelow ps k i → key_cmp (get_or ps i d).key k ≡ Equal → find_key k ps ≡ Some (get_or ps i d).value
  find_at [] k i d lt below e = absurd (omega arith)
  find_at (p ∷ ps) k zero d lt below e = rw e
  find_at (p ∷ ps) k (suc i) d lt below e = rw (below 0 d (omega arith)) (find_at ps k i d (omega arith) (tail_below p ps k i below) e)

  pub put_at : (ps : List (Pair V)) (k : Key) (v : V) (i : ℕ) (d : Pair V) → i < length ps → KeysBelow ps k i → key_cmp (get_or ps i d).key k ≡ Equal → put_key k v ps ≡ set ps i (pair k v)
  put_at [] k v i d lt below e = absurd (omega arith)
  put_at (p ∷ ps) k v zero d lt below e = rw e
  put_at (p ∷ ps) k v (suc i) d lt below e = rw (below 0 d (omega arith)) (ap (λ l. p ∷ l) (put_at ps k v i d (omega arith) (tail_below p ps k i below) e))

  -- where all keys are after k
  find_above : (ps : List (Pair V)) (k : Key) → KeysAbove ps k 0 → find_key k ps ≡ None
  find_above [] k above = refl
  find_above (p ∷ ps) k above = rw (above 0 p (omega arith) (omega arith)) (find_above ps k (all_above p ps k above))

  without_above : (ps : List (Pair V)) (k : Key) → KeysAbove ps k 0 → without_key k ps ≡ ps
  without_above [] k above = refl
  without_above (p ∷ ps) k above = rw (above 0 p (omega arith) (omega arith)) (ap (λ l. p ∷ l) (without_above ps k (all_above p ps k above)))

  put_above : (ps : List (Pair V)) (k : Key) (v : V) → KeysAbove ps k 0 → put_key k v ps ≡ pair k v ∷ ps
  put_above [] k v above = refl
  put_above (p ∷ ps) k v above = rw (above 0 p (omega arith) (omega arith))

  -- ---- a key that would go at place i
  pub find_gap : (ps : List (Pair V)) (k : Key) (i : ℕ) → i ≤ length ps → KeysBelow ps k i → KeysAbove ps k i → find_key k ps ≡ None
  find_gap ps k zero le below above = find_above ps k above
  find_gap [] k (suc i) le below above = refl
  find_gap (p ∷ ps) k (suc i) le below above = rw (below 0 p (omega arith)) (find_gap ps k i (omega arith) (tail_below p ps k i below) (tail_above p ps k i above))

  pub put_gap : (ps : List (Pair V)) (k : Key) (v : V) (i : ℕ) → i ≤ length ps → KeysBelow ps k i → KeysAbove ps k i → put_key k v ps ≡ insert ps i (pair k v)
  put_gap ps k v zero le below above = put_above ps k v above
  put_gap [] k v (suc i) le below above = absurd (omega arith)
  put_gap (p ∷ ps) k v (suc i) le below above = rw (below 0 p (omega arith)) (ap (λ l. p ∷ l) (put_gap ps k v i (omega arith) (tail_below p ps k i below) (tail_above p ps k i above)))

  pub without_gap : (ps : List (Pair V)) (k : Key) (i : ℕ) → i ≤ length ps → KeysBelow ps k i → KeysAbove ps k i → without_key k ps ≡ ps
  without_gap ps k zero le below above = without_above ps k above
  without_gap [] k (suc i) le below above = refl
  without_gap (p ∷ ps) k (suc i) le below above = rw (below 0 p (omega arith)) (ap (λ l. p ∷ l) (without_gap ps k i (omega arith) (tail_below p ps k i below) (tail_above p ps k i above)))

  pub without_at : (ps : List (Pair V)) (k : Key) (i : ℕ) (d : Pair V) → i < length ps → KeysBelow ps k i → key_cmp (get_or ps i d).key k ≡ Equal → KeysAbove ps k (suc i) → without_key k ps ≡ remove ps i
  without_at [] k i d lt below e above = absurd (omega arith)
  without_at (p ∷ ps) k zero d lt below e above = rw e (without_above ps k (λ j d' le lt'. above (suc j) d' (omega arith) (omega arith)))
  without_at (p ∷ ps) k (suc i) d lt below e above = rw (below 0 d (omega arith)) (ap (λ l. p ∷ l) (without_at ps k i d (omega arith) (tail_below p ps k i below) e (tail_above p ps k (suc i) above)))

  -- ---- rising keys, place by place
  before_all_at : (x : Key) (ps : List (Pair V)) → T (before_all x ps) → (j : ℕ) (d : Pair V) → j < length ps → key_cmp x (get_or ps j d).key ≡ Less
  before_all_at x [] h j d lt = absurd (omega arith)
  before_all_at x (p ∷ ps) h zero d lt = is_less _ (first_of _ _ h)
  before_all_at x (p ∷ ps) h (suc j) d lt = before_all_at x ps (second_of _ _ h) j d (omega arith)

  pub rise_at : (ps : List (Pair V)) → T (keys_rise ps) → (i j : ℕ) (d : Pair V) → i < j → j < length ps → key_cmp (get_or ps i d).key (get_or ps j d).key ≡ Less
  rise_at [] h i j d lt in_range = absurd (omega arith)
  rise_at (p ∷ ps) h i zero d lt in_range = absurd (omega arith)
  rise_at (p ∷ ps) h zero (suc j) d lt in_range = before_all_at p.key ps (first_of _ _ h) j d (omega arith)
  rise_at (p ∷ ps) h (suc i) (suc j) d lt in_range = rise_at ps (second_of _ _ h) i j d (omega arith) (omega arith)

  -- ---- the order is kept
  below_chain : (x y : Key) (ps : List (Pair V)) → key_cmp x y ≡ Less → T (before_all y ps) → T (before_all x ps)
  below_chain x y [] e h = tt
  below_chain x y (p ∷ ps) e h =
      both _ _ (subst (λ o. T (is_lt o)) (sym (key_cmp_total.trans x y p.key e (is_less _ (first_of _ _ h)))) tt) (below_chain x y ps e (second_of _ _ h))

  before_all-put : (x k : Key) (v : V) (ps : List (Pair V)) → key_cmp x k ≡ Less → T (before_all x ps) → T (before_all x (put_key k v ps))
  before_all-put x k v [] e h = both _ _ (subst (λ o. T (is_lt o)) (sym e) tt) tt
  before_all-put x k v (p ∷ ps) e h =
      elim (key_cmp p.key k) as (λ o. T (before_all x (by_order o (p ∷ put_key k v ps) (pair k v ∷ ps) (pair k v ∷ p ∷ ps)))) [
        | Less ↦ both _ _ (first_of _ _ h) (before_all-put x k v ps e (second_of _ _ h))
        | Equal ↦ both _ _ (subst (λ o. T (is_lt o)) (sym e) tt) (second_of _ _ h)
        | Greater ↦ both _ _ (subst (λ o. T (is_lt o)) (sym e) tt) h
      ]

  pub keys_rise-put : (k : Key) (v : V) (ps : List (Pair V)) → T (keys_rise ps) → T (keys_rise (put_key k v ps))
  keys_rise-put k v [] h = tt
  keys_rise-put k v (p ∷ ps) h =
      elim (key_cmp p.key k) as (λ o. key_cmp p.key k ≡ o → T (keys_rise (by_order o (p ∷ put_key k v ps) (pair k v ∷ ps) (pair k v ∷ p ∷ ps)))) [
        | Less ↦ λ e. both _ _ (before_all-put p.key k v ps e (first_of _ _ h)) (keys_rise-put k v ps (second_of _ _ h))
        | Equal ↦ λ e. both _ _ (subst (λ q. T (before_all q ps)) (key_cmp-IsAntisymmetric _ _ e) (first_of _ _ h)) (second_of _ _ h)
        | Greater ↦ λ e.
            let below : key_cmp k p.key ≡ Less = key_cmp_total.antisymm k p.key ∙ ap ordering_reverse e in
            both _ _ (both _ _ (subst (λ o. T (is_lt o)) (sym below) tt) (below_chain k p.key ps below (first_of _ _ h))) h
      ] refl

  before_all-without : (x k : Key) (ps : List (Pair V)) → T (before_all x ps) → T (before_all x (without_key k ps))
  before_all-without x k [] h = tt
  before_all-without x k (p ∷ ps) h =
      let rest = before_all-without x k ps (second_of _ _ h) in
      elim (is_ne (key_cmp p.key k)) as (λ b. T (before_all x (cond b (p ∷ without_key k ps) (without_key k ps)))) [ true ↦ both _ _ (first_of _ _ h) rest | false ↦ rest ]

  pub keys_rise-without : (k : Key) (ps : List (Pair V)) → T (keys_rise ps) → T (keys_rise (without_key k ps))
  keys_rise-without k [] h = tt
  keys_rise-without k (p ∷ ps) h =
      let rest = keys_rise-without k ps (second_of _ _ h) in
      elim (is_ne (key_cmp p.key k)) as (λ b. T (keys_rise (cond b (p ∷ without_key k ps) (without_key k ps)))) [ true ↦ both _ _ (before_all-without p.key k ps (first_of _ _ h)) rest | false ↦ rest ]

  -- ---- a finite map: what is found after a put and after a removal
  pub find-put : (k q : Key) (v : V) (ps : List (Pair V)) → find_key q (put_key k v ps) ≡ cond (is_eq (key_cmp k q)) (Some v) (find_key q ps)
  find-put k q v [] = refl
  find-put k q v (p ∷ ps) =
      elim (key_cmp p.key k) as (λ o. key_cmp p.key k ≡ o → find_key q (by_order o (p ∷ put_key k v ps) (pair k v ∷ ps) (pair k v ∷ p ∷ ps)) ≡ cond (is_eq (key_cmp k q)) (Some v) (find_key q (p ∷ ps))) [
        | Less ↦ λ e. ap (λ r. cond (is_eq (key_cmp p.key q)) (Some p.value) r) (find-put k q v ps) ∙ swapped (p.key) e
        | Equal ↦ λ e. shadowed (is_eq (key_cmp k q)) _ _ _ ∙ ap (λ x. cond (is_eq (key_cmp k q)) (Some v) (cond (is_eq (key_cmp x q)) (Some p.value) (find_key q ps))) (sym (key_cmp-IsAntisymmetric _ _ e))
        | Greater ↦ λ e. refl
      ] refl
    where
      shadowed : (b : Bool) (x y z : Option V) → cond b x z ≡ cond b x (cond b y z)
      shadowed true x y z = refl
      shadowed false x y z = refl

      apart : (o r : Ordering) → (o ≡ Equal → r ≡ Less) → (x y z : Option V) → cond (is_eq o) x (cond (is_eq r) y z) ≡ cond (is_eq r) y (cond (is_eq o) x z)
      apart Less r h x y z = refl
      apart Equal r h x y z = rw (h refl)
      apart Greater r h x y z = refl

      swapped : (x : Key) → key_cmp x k ≡ Less → cond (is_eq (key_cmp x q)) (Some p.value) (cond (is_eq (key_cmp k q)) (Some v) (find_key q ps)) ≡ cond (is_eq (key_cmp k q)) (Some v) (cond (is_eq (key_cmp x q)) (Some p.value) (find_key q ps))
      swapped x e = sym (apart (key_cmp k q) (key_cmp x q) (λ same. subst (λ z. key_cmp x z ≡ Less) (key_cmp-IsAntisymmetric _ _ same) e) _ _ _)

  pub find-without : (k q : Key) (ps : List (Pair V)) → find_key q (without_key k ps) ≡ cond (is_eq (key_cmp k q)) None (find_key q ps)
  find-without k q [] = nothing (is_eq (key_cmp k q))
    where
      nothing : (b : Bool) → ◌≡◌ {A = Option V} None (cond b None None)
      nothing true = refl
      nothing false = refl
  find-without k q (p ∷ ps) =
      elim (key_cmp p.key k) as (λ o. key_cmp p.key k ≡ o → find_key q (cond (is_ne o) (p ∷ without_key k ps) (without_key k ps)) ≡ cond (is_eq (key_cmp k q)) None (find_key q (p ∷ ps))) [
        | Less ↦ λ e. kept (ap is_eq e) (find-without k q ps)
        | Equal ↦ λ e. find-without k q ps ∙ shadowed (is_eq (key_cmp k q)) _ _ _ ∙ ap (λ x. cond (is_eq (key_cmp k q)) None (cond (is_eq (key_cmp x q)) (Some p.value) (find_key q ps))) (sym (key_cmp-IsAntisymmetric _ _ e))
        | Greater ↦ λ e. kept (ap is_eq e) (find-without k q ps)
      ] refl
    where
      shadowed : (b : Bool) (x y z : Option V) → cond b x z ≡ cond b x (cond b y z)
      shadowed true x y z = refl
      shadowed false x y z = refl

      apart : (o : Ordering) (b : Bool) → (o ≡ Equal → b ≡ false) → (x y z : Option V) → cond b y (cond (is_eq o) x z) ≡ cond (is_eq o) x (cond b y z)
      apart Less b h x y z = refl
      apart Equal b h x y z = rw (h refl)
      apart Greater b h x y z = refl

      kept : is_eq (key_cmp p.key k) ≡ false → find_key q (without_key k ps) ≡ cond (is_eq (key_cmp k q)) None (find_key q ps) → cond (is_eq (key_cmp p.key q)) (Some p.value) (find_key q (without_key k ps)) ≡ cond (is_eq (key_cmp k q)) None (cond (is_eq (key_cmp p.key q)) (Some p.value) (find_key q ps))
      kept differs rest = ap (λ r. cond (is_eq (key_cmp p.key q)) (Some p.value) r) rest
          ∙ apart (key_cmp k q) (is_eq (key_cmp p.key q)) (λ same. subst (λ z. is_eq (key_cmp p.key z) ≡ false) (key_cmp-IsAntisymmetric _ _ same) differs) None (Some p.value) (find_key q ps)

  -- a key before all of the pairs' keys is not found
  pub find_before : (k : Key) (ps : List (Pair V)) → T (before_all k ps) → find_key k ps ≡ None
  find_before k [] h = refl
  find_before k (p ∷ ps) h =
      let after : key_cmp p.key k ≡ Greater = key_cmp_total.antisymm p.key k ∙ ap ordering_reverse (is_less _ (first_of _ _ h)) in
      rw after (find_before k ps (second_of _ _ h))

  pub find_first : (p : Pair V) (ps : List (Pair V)) → find_key p.key (p ∷ ps) ≡ Some p.value
  find_first p ps = rw (tied_itself key_cmp_total p.key)

  -- two maps that answer alike are the same pairs
  pub same_pairs : (ps qs : List (Pair V)) → T (keys_rise ps) → T (keys_rise qs) → ((k : Key) → find_key k ps ≡ find_key k qs) → ps ≡ qs
  same_pairs [] [] h g alike = refl
  same_pairs [] (q ∷ qs) h g alike = let one = alike q.key ∙ find_first q qs in cc
  same_pairs (p ∷ ps) [] h g alike = let one = sym (alike p.key) ∙ find_first p ps in cc
  same_pairs (p ∷ ps) (q ∷ qs) h g alike =
      elim (key_cmp p.key q.key) as (λ o. key_cmp p.key q.key ≡ o → p ∷ ps ≡ q ∷ qs) [
        | Less ↦ λ e.
            let none = find_before p.key (q ∷ qs) (both _ _ (subst (λ o. T (is_lt o)) (sym e) tt) (below_chain p.key q.key qs e (first_of _ _ g))) in
            let one = sym none ∙ sym (alike p.key) ∙ find_first p ps in cc
        | Equal ↦ λ e. let same = key_cmp-IsAntisymmetric _ _ e in together same (same_pairs ps qs (second_of _ _ h) (second_of _ _ g) (rest_alike same))
        | Greater ↦ λ e.
            let e' : key_cmp q.key p.key ≡ Less = key_cmp_total.antisymm q.key p.key ∙ ap ordering_reverse e in
            let none = find_before q.key (p ∷ ps) (both _ _ (subst (λ o. T (is_lt o)) (sym e') tt) (below_chain q.key p.key ps e' (first_of _ _ h))) in
            let one = sym none ∙ alike q.key ∙ find_first q qs in cc
      ] refl
    where
      rest_alike : p.key ≡ q.key → (k : Key) → find_key k ps ≡ find_key k qs
      rest_alike same k =
          elim (key_cmp p.key k) as (λ o. key_cmp p.key k ≡ o → find_key k ps ≡ find_key k qs) [
            | Less ↦ λ e. passed e refl
            | Equal ↦ λ e.
                let here = key_cmp-IsAntisymmetric _ _ e in
                subst (λ z. find_key z ps ≡ find_key z qs) here (find_before p.key ps (first_of _ _ h) ∙ sym (subst (λ z. find_key z qs ≡ None) (sym same) (find_before q.key qs (first_of _ _ g))))
            | Greater ↦ λ e. passed e refl
          ] refl
        where
          passed : {o : Ordering} → key_cmp p.key k ≡ o → is_eq o ≡ false → find_key k ps ≡ find_key k qs
          passed {o} e differs =
              let left : find_key k (p ∷ ps) ≡ find_key k ps = ap (λ b. cond b (Some p.value) (find_key k ps)) (ap is_eq e ∙ differs) in
              let right : find_key k (q ∷ qs) ≡ find_key k qs = ap (λ b. cond b (Some q.value) (find_key k qs)) (ap (λ z. is_eq (key_cmp z k)) (sym same) ∙ ap is_eq e ∙ differs) in
              sym left ∙ alike k ∙ right

      same_value : p.key ≡ q.key → p.value ≡ q.value
      same_value same = let both_some : Some p.value ≡ Some q.value = sym (find_first p ps) ∙ alike p.key ∙ subst (λ z. find_key z (q ∷ qs) ≡ Some q.value) (sym same) (find_first q qs) in cc

      together : p.key ≡ q.key → ps ≡ qs → p ∷ ps ≡ q ∷ qs
      together same rest = λ i. record { key = same i; value = same_value same i } ∷ rest i

  -- ---- a binary search among rising keys
  pub searched : (ps : List (Pair V)) → T (keys_rise ps) → (k : Key) (r : Result ℕ ℕ) → IsSearchInRange r (length ps) → IsBinarySearchResult (λ p. key_cmp p.key k) ps r
      → record { found : IfOk r (IsPlaceOf ps k); absent : IfErr r (IsGapFor ps k) }
  searched ps h k (Ok i) in_range equal = record {
    found = record {
      in_range = in_range;
      before = λ j d lt. subst (λ z. key_cmp (get_or ps j d).key z ≡ Less) (key_cmp-IsAntisymmetric _ _ (equal d)) (rise_at ps h j i d lt in_range);
      here = equal;
      after = λ j d le lt. key_cmp_total.antisymm _ _ ∙ ap ordering_reverse (subst (λ z. key_cmp z (get_or ps j d).key ≡ Less) (key_cmp-IsAntisymmetric _ _ (equal d)) (rise_at ps h i j d (omega arith) lt));
    };
    absent = tt;
  }
  searched ps h k (Err i) in_range parted = record {
    found = tt;
    absent = record {
      in_range = in_range;
      before = λ j d lt. (parted answers_rise).0 j d (omega arith) lt;
      after = λ j d le lt. (parted answers_rise).1 j d le lt;
    };
  }
    where
      answers_rise : IsNonDecreasingBy (λ (p : Pair V). ordering_index (key_cmp p.key k)) ps
      answers_rise i' j d le lt = elim (cases_lt i' j) [
        | inl before ↦ rising (key_cmp (get_or ps i' d).key k) (key_cmp (get_or ps j d).key k) (λ below. key_cmp_total.trans _ _ _ (rise_at ps h i' j d before lt) below) (λ equal. subst (λ z. key_cmp (get_or ps i' d).key z ≡ Less) (key_cmp-IsAntisymmetric _ _ equal) (rise_at ps h i' j d before lt))
        | inr same ↦ let e : i' ≡ j = omega arith in subst (λ n. ordering_index (key_cmp (get_or ps i' d).key k) ≤ ordering_index (key_cmp (get_or ps n d).key k)) e (omega arith)
      ]

  -- ---- what the edits at a searched place make
  pub find_place : (ps : List (Pair V)) (k : Key) (i : ℕ) (d : Pair V) → IsPlaceOf ps k i → find_key k ps ≡ Some (get_or ps i d).value
  find_place ps k i d at = find_at ps k i d at.in_range at.before (at.here d)

  pub find_none : (ps : List (Pair V)) (k : Key) (i : ℕ) → IsGapFor ps k i → find_key k ps ≡ None
  find_none ps k i gap = find_gap ps k i gap.in_range gap.before gap.after

  pub put_place : (ps : List (Pair V)) (k : Key) (v : V) (i : ℕ) → IsPlaceOf ps k i → put_key k v ps ≡ set ps i (pair k v)
  put_place ps k v i at = put_at ps k v i (pair k v) at.in_range at.before (at.here (pair k v))

  pub put_none : (ps : List (Pair V)) (k : Key) (v : V) (i : ℕ) → IsGapFor ps k i → put_key k v ps ≡ insert ps i (pair k v)
  put_none ps k v i gap = put_gap ps k v i gap.in_range gap.before gap.after

  pub without_place : (ps : List (Pair V)) (k : Key) (i : ℕ) (d : Pair V) → IsPlaceOf ps k i → without_key k ps ≡ remove ps i
  without_place ps k i d at = without_at ps k i d at.in_range at.before (at.here d) at.after

  pub without_none : (ps : List (Pair V)) (k : Key) (i : ℕ) → IsGapFor ps k i → without_key k ps ≡ ps
  without_none ps k i gap = without_gap ps k i gap.in_range gap.before gap.after

  -- ---- the first of them
  before_all-take : (k : Key) (n : ℕ) (ps : List (Pair V)) → T (before_all k ps) → T (before_all k (take n ps))
  before_all-take k zero [] h = tt
  before_all-take k zero (p ∷ ps) h = tt
  before_all-take k (suc n) [] h = tt
  before_all-take k (suc n) (p ∷ ps) h = both _ _ (first_of _ _ h) (before_all-take k n ps (second_of _ _ h))

  pub keys_rise-take : (n : ℕ) (ps : List (Pair V)) → T (keys_rise ps) → T (keys_rise (take n ps))
  keys_rise-take zero [] h = tt
  keys_rise-take zero (p ∷ ps) h = tt
  keys_rise-take (suc n) [] h = tt
  keys_rise-take (suc n) (p ∷ ps) h = both _ _ (before_all-take p.key n ps (first_of _ _ h)) (keys_rise-take n ps (second_of _ _ h))

  -- the pairs up to a place and the one at it still rise
  pub rise_next : (ps qs : List (Pair V)) (i : ℕ) (p : Pair V) (k : Key) (v : V) → T (keys_rise ps) → i < length ps → qs ≡ take i ps → p ≡ get_or ps i p → k ≡ p.key → v ≡ p.value → T (keys_rise (qs ++ pair_of k v ∷ []))
  rise_next ps qs i p k v h lt done here same_key same_value =
      let next : pair_of k v ≡ p = λ j. record { key = same_key j; value = same_value j } in
      let whole : qs ++ pair_of k v ∷ [] ≡ take (i + 1) ps = (λ j. done j ++ (next ∙ here) j ∷ []) ∙ sym (take_more ps i p lt) in
      subst (λ l. T (keys_rise l)) (sym whole) (keys_rise-take (i + 1) ps h)
