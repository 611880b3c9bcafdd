-- Names that are kept in after-order.
use Rattle.std.proofs.Common.{◌≡◌, ◌∙◌, ℕ, zero, suc, ◌<◌, Bool, true, false, cond, List, [], ◌∷◌, length, get_or, map, Some, Result, Ok, Err, IfOk, IfErr, refl, sym, ap, subst, arith}
use Rattle.std.specs.Prelude.{◌||◌, is_some}
use Rattle.std.specs.declared.cmp.Ordering.{Ordering}
use Rattle.std.specs.declared.cmp.Ordering.TheVariants.{Less, Equal, Greater}
use Rattle.std.specs.FinMap.Entries.{by_order}
use Rattle.std.specs.List.{insert}
use Rattle.std.specs.List.Sorted.{IsSearchInRange, IsBinarySearchResult}
use Rattle.shared_map.proofs.NameLaws.{among-with_member, marked-with_member, names-marked}
use Rattle.shared_map.specs.Names.{names_of}
use Rattle.ref_store.specs.Writes.{IsAfterFirst, IsGapFor, IsPlaceOf}
use Rattle.ref_store.proofs.WriteLaws.{put_gap, searched}
use Rattle.txn_snapshot.specs.Reads.{marked, with_read, ReadsRise}
use Rattle.value_core.specs.Name.{after_cmp}
use Rattle.value_core.specs.Named.{Name, Named, is_among, named, same_name, with_named, Rises}
use Rattle.value_core.proofs.NamedLaws.{named-with_named, rises-with_named, same_name-itself}

-- ---- as a map by name
pub length-marked : (ns : List Name) → length (marked ns) ≡ length ns
length-marked [] = refl
length-marked (n ∷ ns) = ap suc (length-marked ns)

name_at : (ns : List Name) (i : ℕ) (d : Name × Unit {0}) → (get_or (marked ns) i d).0 ≡ get_or ns i d.0
name_at [] i d = refl
name_at (n ∷ ns) zero d = refl
name_at (n ∷ ns) (suc i) d = name_at ns i d

-- ---- which names are there
pub among-itself : (ns : List Name) (k : Name) → is_among k (with_read ns k) ≡ true
among-itself ns k = among-with_member k ns k ∙ ap (λ b. b || is_among k ns) (same_name-itself k)

-- ---- a binary search
pub searched_names : (ns : List Name) → ReadsRise ns → (k : Name) (r : Result ℕ ℕ) → IsSearchInRange r (length ns) → IsBinarySearchResult (λ (n : Name). after_cmp n k) ns r
    → record { found : IfOk r (IsPlaceOf (marked ns) k); absent : IfErr r (IsGapFor (marked ns) k) }
searched_names ns rises k r in_range result = searched (marked ns) rises k r (subst (IsSearchInRange r) (sym (length-marked ns)) in_range) (of_marks r result)
  where
    of_marks : (r : Result ℕ ℕ) → IsBinarySearchResult (λ (n : Name). after_cmp n k) ns r → IsBinarySearchResult (λ (e : Name × Unit {0}). after_cmp e.0 k) (marked ns) r
    of_marks (Ok i) equal = λ d. rw (name_at ns i d) (equal d.0)
    of_marks (Err i) parted = λ rising.
        let point = parted (λ a b d le lt. rw (← name_at ns a (d, tt), ← name_at ns b (d, tt)) (rising a b (d, tt) le (rw (length-marked ns) lt))) in (
          λ j d low high. rw (name_at ns j d) (point.0 j d.0 low high),
          λ j d low high. rw (name_at ns j d) (point.1 j d.0 low (let same = length-marked ns in omega arith)),
        )

-- ---- a name that is found, and one that is not
stays : (ns : List Name) (k : Name) (i : ℕ) (d : Name × Unit {0}) → i < length (marked ns) → IsAfterFirst (marked ns) k i → after_cmp k (get_or (marked ns) i d).0 ≡ Equal → with_read ns k ≡ ns
stays [] k i d lt after e = absurd (omega arith)
stays (n ∷ ns) k zero d lt after e = rw e refl
stays (n ∷ ns) k (suc i) d lt after e =
    rw (after 0 d (omega arith)) (ap (λ l. n ∷ l) (stays ns k i d (omega arith) (λ j d lt. after (suc j) d (omega arith)) e))

pub read_stays : (ns : List Name) (k : Name) (i : ℕ) → IsPlaceOf (marked ns) k i → with_read ns k ≡ ns
read_stays ns k i at = stays ns k i (k, tt) at.in_range at.after (at.here (k, tt))

insert-marked : (ns : List Name) (k : Name) (i : ℕ) → names_of (insert (marked ns) i (k, tt)) ≡ insert ns i k
insert-marked ns k zero = ap (λ l. k ∷ l) (names-marked ns)
insert-marked [] k (suc i) = refl
insert-marked (n ∷ ns) k (suc i) = ap (λ l. n ∷ l) (insert-marked ns k i)

pub read_gap : (ns : List Name) (k : Name) (i : ℕ) → IsGapFor (marked ns) k i → with_read ns k ≡ insert ns i k
read_gap ns k i gap =
    sym (names-marked (with_read ns k)) ∙ ap names_of (marked-with_member ns k ∙ put_gap (marked ns) k tt i gap) ∙ insert-marked ns k i
