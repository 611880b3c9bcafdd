-- The steps of a commit, from the last write to the first.
use Rattle.std.proofs.Common.{◌≡◌, ◌∙◌, ℕ, zero, suc, ◌<◌, Bool, true, false, cond, List, [], ◌∷◌, ◌++◌, length, get_or, length-append, refl, sym, ap, subst, Option, Some, None, ◌⊎◌, inl, inr, ◌≤◌, arith}
use Rattle.std.specs.Prelude.{All, unwrap_or}
use Rattle.std.proofs.lemmas.List.{get_or_append_left, get_or_at}
use Rattle.std.specs.declared.cmp.Ordering.TheVariants.{Less, Equal}
use Rattle.std.specs.FinMap.Entries.{below_all, is_sorted}
use Rattle.std.specs.Option.{IsSome}
use Rattle.std.specs.Ordering.{is_lt}
use Rattle.value_core.specs.declared.value.Value.{Value}
use Rattle.value_core.specs.Name.{after_cmp}
use Rattle.value_core.specs.Named.{Name, Named, named, same_name, Rises}
use Rattle.value_core.specs.Roomy.{Roomy}
use Rattle.value_core.proofs.NamedLaws.{IsBelow, after_cmp-itself, named-first, named-other, rises-first, rises-rest, same_or_not}
use Rattle.value_core.proofs.Tests.{both, first_of, second_of}
use Rattle.ref_store.specs.declared.version.Version.{Version}
use Rattle.ref_store.specs.Places.{room_in, versions_in, AreAdded, AreFew, AreWatched, IsAdded, IsReady}
use Rattle.ref_store.specs.Store.{committed, version_of, versions_of, with_version, HasRoom, HasRoomFor, IsAbove}
use Rattle.ref_store.proofs.WriteLaws.{rise_at}

abbrev Places : Type 0
Places = Named (Roomy Version)

-- ---- a list and its last
all_front : {A : Type 0} (P : A → Type 0) (xs : List A) (y : A) → All P (xs ++ y ∷ []) → All P xs
all_front P xs y all k d lt = subst P (get_or_append_left xs (y ∷ []) d k lt) (all k d (let long = length-append xs (y ∷ []) in omega arith))

all_last : {A : Type 0} (P : A → Type 0) (xs : List A) (y : A) → All P (xs ++ y ∷ []) → P y
all_last P xs y all = subst P (get_or_at xs y [] y (length xs) refl) (all (length xs) y (let long = length-append xs (y ∷ []) in omega arith))

below_front : {X : Type 0} (k : Name) (xs ys : Named X) → IsBelow k (xs ++ ys) → IsBelow k xs
below_front k [] ys below = tt
below_front k (x ∷ xs) ys below =
    both (is_lt (after_cmp k x.0)) (below_all after_cmp k xs) (first_of (is_lt (after_cmp k x.0)) (below_all after_cmp k (xs ++ ys)) below)
    (below_front k xs ys (second_of (is_lt (after_cmp k x.0)) (below_all after_cmp k (xs ++ ys)) below))

rises-front : {X : Type 0} (xs ys : Named X) → Rises (xs ++ ys) → Rises xs
rises-front [] ys rises = tt
rises-front (x ∷ xs) ys rises =
    both (below_all after_cmp x.0 xs) (is_sorted after_cmp xs) (below_front x.0 xs ys (rises-first x (xs ++ ys) rises)) (rises-front xs ys (rises-rest x (xs ++ ys) rises))

-- the names before the last one are others
apart_last : {X : Type 0} (xs : Named X) (y : Name × X) → Rises (xs ++ y ∷ []) → All (λ (x : Name × X). ¬ (x.0 ≡ y.0)) xs
apart_last {X} xs y rises k d lt same =
    let long = length-append xs (y ∷ []) in
    let less = rise_at (xs ++ y ∷ []) rises k (length xs) d lt (omega arith) in
    let here : after_cmp (get_or xs k d).0 y.0 ≡ Less =
    subst (λ (e : Name × X). after_cmp e.0 y.0 ≡ Less) (get_or_append_left xs (y ∷ []) d k lt)
    (subst (λ (e : Name × X). after_cmp (get_or (xs ++ y ∷ []) k d).0 e.0 ≡ Less) (get_or_at xs y [] d (length xs) refl) less) in
    let equal : after_cmp (get_or xs k d).0 y.0 ≡ Equal = subst (λ n. after_cmp (get_or xs k d).0 n ≡ Equal) same (after_cmp-itself (get_or xs k d).0) in
    cc

-- each entry is found
all_found : {X : Type 0} (es : Named X) → All (λ (e : Name × X). IsSome (named e.0 es)) es
all_found {X} es k d lt = at es k lt
  where
    more : (q : Name) (e : Name × X) (rest : Named X) → IsSome (named q rest) → IsSome (named q (e ∷ rest))
    more q e rest found = on (same_name q e.0)
      where
        on : (b : Bool) → IsSome (cond b (Some e.1) (named q rest))
        on true = refl
        on false = found

    at : (rest : Named X) (i : ℕ) → i < length rest → IsSome (named (get_or rest i d).0 rest)
    at [] i in_range = absurd (omega arith)
    at (e ∷ rest) zero in_range = subst (λ (o : Option X). IsSome o) (sym (named-first e rest)) refl
    at (e ∷ rest) (suc i) in_range = more (get_or rest i d).0 e rest (at rest i (omega arith))

-- ---- the last write first
committed-last : (versions : Named (List Version)) (writes : Named Value) (write : Name × Value) (number : ℕ)
    → committed versions (writes ++ write ∷ []) number ≡ committed (with_version versions write.0 (version_of number write.1)) writes number
committed-last versions [] write number = refl
committed-last versions (w ∷ ws) write number = ap (λ (vs : Named (List Version)). with_version vs w.0 (version_of number w.1)) (committed-last versions ws write number)

-- the versions of another ref stay
versions-other : (versions : Named (List Version)) (other name : Name) (version : Version) → ¬ (other ≡ name) → versions_of (with_version versions name version) other ≡ versions_of versions other
versions-other versions other name version apart = ap (λ (o : Option (List Version)). unwrap_or o []) (named-other other name (versions_of versions name ++ version ∷ []) versions apart)

-- no ref has more versions than before, but for the one that got one more
pub few_added : (name : Name) (version : Version) (old new : Places) (most count higher : ℕ) → IsAdded name version old new → length (versions_of (versions_in new) name) ≡ count → most ≤ higher → count ≤ higher
    → AreFew most (versions_in old) → AreFew higher (versions_in new)
few_added name version old new most count higher added is low high few other = on (same_or_not other name)
  where
    on : (other ≡ name) ⊎ ¬ (other ≡ name) → length (versions_of (versions_in new) other) ≤ higher
    on (inl same) = subst (λ n. length (versions_of (versions_in new) n) ≤ higher) (sym same) (omega arith)
    on (inr apart) =
        subst (λ (vs : List Version). length vs ≤ higher) (sym (ap (λ (vs : Named (List Version)). versions_of vs other) added.shows ∙ versions-other (versions_in old) other name version apart))
        (let before = few other in omega arith)

-- these writes are left, and what they add to what is there makes the whole commit
pub record IsUnderWay (number : ℕ) (all : Named Value) (old : Places) (left : Named Value) (places : Places) : Type 0 where
  pub rises : Rises places
  pub order : Rises left
  pub ready : All (λ write. IsReady number places write.0) left
  pub work : committed (versions_in places) left number ≡ committed (versions_in old) all number
  pub others : (name : Name) → named name all ≡ None → HasRoom name (room_in old) → HasRoom name (room_in places)
  pub among : All (λ write. IsSome (named write.0 all)) left
  pub watched : (names : List Name) → AreWatched names old → AreWatched names places

pub at_start : (number : ℕ) (all : Named Value) (old : Places) → Rises old → Rises all → All (λ write. IsReady number old write.0) all → IsUnderWay number all old all old
at_start number all old rises order ready = record { rises = rises; order = order; ready = ready; work = refl; others = λ name none has. has; among = all_found all; watched = λ names watched. watched }

-- the last of the writes that are left has its place
pub last_ready : (number : ℕ) (all : Named Value) (old : Places) (left rest : Named Value) (places : Places) (write : Name × Value) → IsUnderWay number all old left places → left ≡ rest ++ write ∷ [] → IsReady number places write.0
last_ready number all old left rest places write way is =
    all_last (λ (w : Name × Value). IsReady number places w.0) rest write (subst (λ (ws : Named Value). All (λ (w : Name × Value). IsReady number places w.0) ws) is way.ready)

pub one_added : (number : ℕ) (all : Named Value) (old : Places) (left rest : Named Value) (places new : Places) (write : Name × Value) → IsUnderWay number all old left places → left ≡ rest ++ write ∷ []
    → IsAdded write.0 (version_of number write.1) places new → IsUnderWay number all old rest new
one_added number all old left rest places new write way is added = record {
  rises = added.rises;
  order = rises-front rest (write ∷ []) order;
  ready = λ k d lt.
      let entry = get_or rest k d in
      let apart = apart_last rest write order k d lt in
      let ready = all_front (λ (w : Name × Value). IsReady number places w.0) rest write (subst (λ (ws : Named Value). All (λ (w : Name × Value). IsReady number places w.0) ws) is way.ready) k d lt in (
        added.others entry.0 apart ready.0,
        subst (λ (vs : List Version). All (λ (v : Version). v.number < number) vs) (sym (ap (λ (vs : Named (List Version)). versions_of vs entry.0) added.shows ∙ versions-other (versions_in places) entry.0 write.0 (version_of number write.1) apart)) ready.1,
      );
  work =
      ap (λ (vs : Named (List Version)). committed vs rest number) added.shows ∙ sym (committed-last (versions_in places) rest write number)
      ∙ ap (λ (ws : Named Value). committed (versions_in places) ws number) (sym is) ∙ way.work;
  others = λ name none has. added.others name (λ same. missing name same none) (way.others name none has);
  among = all_front (λ (w : Name × Value). IsSome (named w.0 all)) rest write among;
  watched = λ names watched. added.watched names (way.watched names watched);
}
  where
    order : Rises (rest ++ write ∷ [])
    order = subst (λ (ws : Named Value). Rises ws) is way.order

    among : All (λ (w : Name × Value). IsSome (named w.0 all)) (rest ++ write ∷ [])
    among = subst (λ (ws : Named Value). All (λ (w : Name × Value). IsSome (named w.0 all)) ws) is way.among

    missing : (name : Name) → name ≡ write.0 → named name all ≡ None → ⊥
    missing name same none =
        let found : IsSome (named name all) = subst (λ n. IsSome (named n all)) (sym same) (all_last (λ (w : Name × Value). IsSome (named w.0 all)) rest write among) in
        absurd (cc)

pub at_end : (number : ℕ) (all : Named Value) (old : Places) (left : Named Value) (places : Places) → IsUnderWay number all old left places → left ≡ [] → AreAdded all number old places
at_end number all old left places way none = record {
  rises = way.rises;
  shows = ap (λ (ws : Named Value). committed (versions_in places) ws number) (sym none) ∙ way.work;
  others = way.others;
  watched = way.watched;
}

-- what a commit asks of the store makes each place ready
pub all_ready : (number : ℕ) (writes : Named Value) (places : Places) → HasRoomFor writes (room_in places) → IsAbove number (versions_in places) → All (λ write. IsReady number places write.0) writes
all_ready number writes places room above k d lt = (room k d lt, above (get_or writes k d).0)
