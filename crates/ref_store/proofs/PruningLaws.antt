-- The steps of a prune, from the last of the watched names to the first.
use Rattle.std.proofs.Common.{◌≡◌, ◌≢◌, ◌∙◌, ◌⊎◌, inl, inr, ℕ, ◌+◌, ◌-◌, ◌<◌, ◌≤◌, true, false, List, length, take, take_all, get_or, refl, sym, ap, subst, Option, Some, None, arith}
use Rattle.std.specs.List.{Contains}
use Rattle.std.specs.Option.{IfSome}
use Rattle.std.proofs.lemmas.Bool.{cases_lt}
use Rattle.std.proofs.lemmas.Bool.Decides.{nat_tests}
use Rattle.std.proofs.lemmas.List.{get_or-take, get_or_default, length-take-le}
use Rattle.std.proofs.lemmas.List.Elements.{All-contains, All-contains_itself}
use Rattle.value_core.specs.Named.{Name, Named, named, with_named, Rises}
use Rattle.value_core.specs.Roomy.{Roomy}
use Rattle.value_core.proofs.NamedLaws.{named-here, named-other, rises-with_named, same_or_not}
use Rattle.ref_store.specs.declared.version.Version.{Version}
use Rattle.ref_store.specs.Places.{count_of, has_busy, is_busy, versions_in, AreKept, ArePrunedPlaces, AreWatched, IsPrunedPlace, IsPrunedUnder, IsPruning}
use Rattle.ref_store.specs.Pruned.{IsPruned}
use Rattle.ref_store.specs.Store.{versions_of}
use Rattle.ref_store.proofs.PlaceLaws.{versions_nowhere, versions_there}

abbrev Places : Type 0
Places = Named (Roomy Version)

-- ---- names in a list from which one is taken
module _ {X : Type 0} (xs ys : List X) (i : ℕ) (gone x : X) (in_range : i < length xs) (here : gone ≡ get_or xs i gone) (apart : ¬ (x ≡ gone)) where
  elsewhere : (k : ℕ) → get_or xs k x ≡ x → k ≢ i
  elsewhere k is same = apart (sym is ∙ ap (λ n. get_or xs n x) same ∙ get_or_default xs i x gone in_range ∙ sym here)

  -- the others are among those that are left, where the last one has taken its place
  pub contains_removed : length ys + 1 ≡ length xs → ((d : X) → i + 1 < length xs → get_or ys i d ≡ get_or xs (length xs - 1) d) → ((k : ℕ) (d : X) → k ≢ i → k + 1 < length xs → get_or ys k d ≡ get_or xs k d)
      → Contains xs x → Contains ys x
  contains_removed one_less last others (k, lt, is) = elim (cases_lt (k + 1) (length xs)) [
    | inl before ↦ (k, omega arith, others k x (elsewhere k is) before ∙ is)
    | inr behind ↦
        let off = elsewhere k is in
        let end : length xs - 1 ≡ k = omega arith in
        (i, omega arith, last x (omega arith) ∙ ap (λ n. get_or xs n x) end ∙ is)
  ]

  -- those up to its place are among those before it
  pub contains_before : i ≤ length ys → ((k : ℕ) (d : X) → k < i → get_or ys k d ≡ get_or xs k d) → Contains (take (i + 1) xs) x → Contains (take i ys) x
  contains_before within same (k, lt, is) =
      let upto = length-take-le (i + 1) xs (omega arith) in
      let before = length-take-le i ys within in
      let there : get_or xs k x ≡ x = sym (get_or-take (i + 1) xs k x (omega arith)) ∙ is in
      let off = elsewhere k there in
      let lower : k < i = omega arith in
      (k, omega arith, get_or-take i ys k x lower ∙ same k x lower ∙ there)

idle_short : (place : Roomy Version) → is_busy place ≡ false → length place.items ≤ 1
idle_short place idle = grind (arith, nat_tests)

-- ---- versions that are pruned again
module _ (live : List ℕ) where
  pruned_again : (old mid new : List Version) → IsPruned live old mid → IsPruned live mid new → IsPruned live old new
  pruned_again old mid new one two = record {
    live_reads = λ number among. two.live_reads number among ∙ one.live_reads number among;
    late_reads = λ number late. two.late_reads number (subst (λ (o : Option Version). IfSome o (λ v. v.number ≤ number)) (sym one.newest_stays) late) ∙ one.late_reads number late;
    newest_stays = two.newest_stays ∙ one.newest_stays;
    count = two.count;
    none_new = λ k d lt. All-contains (Contains old) mid (get_or new k d) one.none_new (two.none_new k d lt);
  }

  -- so few versions may all stay
  pub pruned_itself : (vs : List Version) → length vs ≤ length live + 1 → IsPruned live vs vs
  pruned_itself vs few = record { live_reads = λ number among. refl; late_reads = λ number late. refl; newest_stays = refl; count = few; none_new = All-contains_itself vs }

  place_again : (old mid new : Option (Roomy Version)) → IsPrunedPlace live old mid → IsPrunedPlace live mid new → IsPrunedPlace live old new
  place_again None None None one two = tt
  place_again None None (Some r) one two = absurd two
  place_again None (Some q) new one two = absurd one
  place_again (Some p) None new one two = absurd one
  place_again (Some p) (Some q) None one two = absurd two
  place_again (Some p) (Some q) (Some r) one two = (pruned_again p.items q.items r.items one.0 two.0, let low = one.1 in let high = two.1 in omega arith)

  -- what is put under a name in the place of what was there
  pub put_pruned : (name : Name) (old new : Places) (before after : Roomy Version) → Rises old → named name old ≡ Some before → new ≡ with_named old name after → IsPruned live before.items after.items
      → before.room ≤ after.room → IsPrunedUnder live name old new
  put_pruned name old new before after rises there put pruned room = record {
    rises = subst (λ (p : Places). Rises p) (sym put) (rises-with_named name after old rises);
    here =
        subst (λ (o : Option (Roomy Version)). IsPrunedPlace live o (named name new)) (sym there)
        (subst (λ (o : Option (Roomy Version)). IsPrunedPlace live (Some before) o) (sym (ap (named name) put ∙ named-here name after old)) (pruned, room));
    others = λ other apart. ap (named other) put ∙ named-other other name after old apart;
  }

  -- ---- a pruning
  several_busy : (most : ℕ) (place : Roomy Version) → most ≡ 1 → most < length place.items → is_busy place ≡ true
  several_busy most place one long = grind (arith, nat_tests)

  pub at_start : (names : List Name) (places : Places) (index most : ℕ) → index ≡ length names → most ≡ 1 → Rises places → AreWatched names places → IsPruning live places names index most places
  at_start names places index most end one rises watched = record {
    rises = rises;
    pruned = λ name later is. is;
    watched = watched;
    left = λ name place is long. subst (λ (ns : List Name). Contains ns name) (sym (take_all index names (omega arith))) (watched name place is (several_busy most place one long));
    within = omega arith;
    some = omega arith;
    bound = omega arith;
  }

  -- no place has too many versions left
  module _ (first : Places) (names : List Name) (index most : ℕ) (places : Places) (end : index ≡ 0) (way : IsPruning live first names index most places) where
    few_at : (name : Name) (place : Roomy Version) → named name places ≡ Some place → length place.items ≤ most
    few_at name place is = on (cases_lt most (length place.items))
      where
        on : (most < length place.items) ⊎ (length place.items ≤ most) → length place.items ≤ most
        on (inl long) = let there = way.left name place is long in let none = length-take-le index names way.within in absurd (let lt = there.1 in omega arith)
        on (inr short) = short

    pub at_end : ArePrunedPlaces live first places
    at_end name = way.pruned name (named name places) (on (named name places) refl)
      where
        on : (o : Option (Roomy Version)) → named name places ≡ o → IsPrunedPlace live o o
        on None is = tt
        on (Some place) is = (pruned_itself place.items (let few = few_at name place is in let bound = way.bound in omega arith), omega arith)

    pub kept_at_end : AreKept most names places
    kept_at_end = record { rises = way.rises; watched = way.watched; few = λ name. on name (named name places) refl }
      where
        on : (name : Name) (o : Option (Roomy Version)) → named name places ≡ o → length (versions_of (versions_in places) name) ≤ most
        on name None is = subst (λ (vs : List Version). length vs ≤ most) (sym (versions_nowhere name places way.rises is)) (omega arith)
        on name (Some place) is = subst (λ (vs : List Version). length vs ≤ most) (sym (versions_there name places place way.rises is)) (few_at name place is)

  -- the place of one name is pruned
  module _ (first : Places) (names more : List Name) (index most : ℕ) (name : Name) (old new : Places) (way : IsPruning live first names (index + 1) most old) (under : IsPrunedUnder live name old new) where
    one_pruned : (other : Name) (later : Option (Roomy Version)) → IsPrunedPlace live (named other new) later → IsPrunedPlace live (named other old) later
    one_pruned other later is = on (same_or_not other name)
      where
        on : (other ≡ name) ⊎ ¬ (other ≡ name) → IsPrunedPlace live (named other old) later
        on (inl same) = place_again (named other old) (named other new) later (subst (λ n. IsPrunedPlace live (named n old) (named n new)) (sym same) under.here) is
        on (inr apart) = subst (λ (o : Option (Roomy Version)). IsPrunedPlace live o later) (under.others other apart) is

    pub pruned_on : (next : ℕ) → most ≤ next → next ≤ length live + 1 → ((place : Roomy Version) → named name new ≡ Some place → length place.items ≤ next) → index ≤ length more → (has_busy (named name new) ≡ true → Contains more name) → ((other : Name) → ¬ (other ≡ name) → Contains names other → Contains more other)
        → ((other : Name) → ¬ (other ≡ name) → Contains (take (index + 1) names) other → Contains (take index more) other) → IsPruning live first more index next new
    pruned_on next higher bound few within here kept before = record {
      rises = under.rises;
      pruned = λ other later is. way.pruned other later (one_pruned other later is);
      watched = λ other place is busy. watched other place is busy (same_or_not other name);
      left = λ other place is long. left other place is long (same_or_not other name);
      within = within;
      some = let some = way.some in omega arith;
      bound = bound;
    }
      where
        watched : (other : Name) (place : Roomy Version) → named other new ≡ Some place → is_busy place ≡ true → (other ≡ name) ⊎ ¬ (other ≡ name) → Contains more other
        watched other place is busy (inl same) = subst (λ n. Contains more n) (sym same) (here (ap has_busy (subst (λ n. named n new ≡ Some place) same is) ∙ busy))
        watched other place is busy (inr apart) = kept other apart (way.watched other place (sym (under.others other apart) ∙ is) busy)

        left : (other : Name) (place : Roomy Version) → named other new ≡ Some place → next < length place.items → (other ≡ name) ⊎ ¬ (other ≡ name) → Contains (take index more) other
        left other place is long (inl same) = let short = few place (subst (λ n. named n new ≡ Some place) same is) in absurd (omega arith)
        left other place is long (inr apart) = before other apart (way.left other place (sym (under.others other apart) ∙ is) (omega arith))

    -- how many versions there are now
    pub few_counted : (count : ℕ) → count_of (named name new) ≡ count → (place : Roomy Version) → named name new ≡ Some place → length place.items ≡ count
    few_counted count is place there = sym (ap count_of there) ∙ is

    pub count_bound : (count : ℕ) → count_of (named name new) ≡ count → count ≤ length live + 1
    count_bound count is = subst (λ n. n ≤ length live + 1) is (on (named name old) (named name new) under.here)
      where
        on : (o p : Option (Roomy Version)) → IsPrunedPlace live o p → count_of p ≤ length live + 1
        on o None pruned = omega arith
        on None (Some q) pruned = absurd pruned
        on (Some p) (Some q) pruned = pruned.0.count

    pub few_idle : has_busy (named name new) ≡ false → (place : Roomy Version) → named name new ≡ Some place → length place.items ≤ most
    few_idle idle place there = let not_busy : is_busy place ≡ false = sym (ap has_busy there) ∙ idle in let some = way.some in let short = idle_short place not_busy in omega arith
