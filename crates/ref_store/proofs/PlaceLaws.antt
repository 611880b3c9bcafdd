-- What the places of refs show, and the room at them.
use Rattle.std.proofs.Common.{◌≡◌, ◌∙◌, ℕ, ◌<◌, ◌≤◌, Bool, true, false, cond, List, [], ◌∷◌, ◌++◌, get_or, refl, sym, ap, subst, Option, Some, None, inl, inr, arith}
use Rattle.std.specs.Prelude.{All, unwrap_or}
use Rattle.std.specs.List.{Contains}
use Rattle.std.proofs.lemmas.Bool.Decides.{nat_tests}
use Rattle.std.specs.Option.{option_and_then, option_map, IsSome}
use Rattle.value_core.specs.declared.value.Value.{Value}
use Rattle.value_core.specs.Named.{Name, Named, named, with_named, each_as, same_name, Rises}
use Rattle.value_core.specs.Placed.{filled, HasPlace, Placed}
use Rattle.value_core.specs.Roomy.{Roomy}
use Rattle.value_core.proofs.NamedLaws.{found_in, named-here, named-with_named, rises-with_named, same_name-equal}
use Rattle.value_core.proofs.NamedViews.{each_as-with_named, named-each_as, rises_each, view_found, view_none}
use Rattle.value_core.proofs.PlacedLaws.{filled_shows, named_filled, prepared_shows, rises_filled}
use Rattle.ref_store.specs.declared.version.Version.{Version}
use Rattle.ref_store.specs.Pruned.{IsPruned}
use Rattle.ref_store.specs.Places.{if_any, is_busy, room_in, versions_in, ArePrunedPlaces, AreWatched, IsAdded, IsPrunedPlace, IsReserved}
use Rattle.ref_store.specs.Store.{versions_of, ArePruned, HasRoom, Kept}
use Rattle.ref_store.proofs.PruneLaws.{staying_pruned}

abbrev Places : Type 0
Places = Named (Roomy Version)

abbrev items_shown : Roomy Version → Option (List Version)
items_shown place = if_any place.items

-- ---- the names of what is shown rise
pub rises_shown : (places : Places) → Rises places → Rises (versions_in places)
rises_shown places rises = rises_filled (each_as items_shown places) (rises_each items_shown places rises)

-- ---- the versions at a place
items_at : Option (Roomy Version) → List Version
items_at None = []
items_at (Some place) = place.items

shown_items : (vs : List Version) → unwrap_or (if_any vs) [] ≡ vs
shown_items [] = refl
shown_items (v ∷ vs) = refl

named_shown : (name : Name) (places : Places) → Rises places → named name (versions_in places) ≡ option_and_then (λ (o : Option (List Version)). o) (option_map items_shown (named name places))
named_shown name places rises =
    named_filled name (each_as items_shown places) (rises_each items_shown places rises)
    ∙ ap (option_and_then (λ (o : Option (List Version)). o)) (named-each_as items_shown name places)

pub versions_there : (name : Name) (places : Places) (place : Roomy Version) → Rises places → named name places ≡ Some place → versions_of (versions_in places) name ≡ place.items
versions_there name places place rises there =
    ap (λ (o : Option (List Version)). unwrap_or o []) (named_shown name places rises ∙ ap (λ (o : Option (Roomy Version)). option_and_then (λ (p : Option (List Version)). p) (option_map items_shown o)) there)
    ∙ shown_items place.items

-- those of what is put there
pub versions_put : (name : Name) (old new : Places) (place : Roomy Version) → Rises old → new ≡ with_named old name place → versions_of (versions_in new) name ≡ place.items
versions_put name old new place rises put =
    versions_there name new place (subst (λ (p : Places). Rises p) (sym put) (rises-with_named name place old rises)) (ap (named name) put ∙ named-here name place old)

pub versions_nowhere : (name : Name) (places : Places) → Rises places → named name places ≡ None → versions_of (versions_in places) name ≡ []
versions_nowhere name places rises none =
    ap (λ (o : Option (List Version)). unwrap_or o []) (named_shown name places rises ∙ ap (λ (o : Option (Roomy Version)). option_and_then (λ (p : Option (List Version)). p) (option_map items_shown o)) none)

-- what the store shows of a ref
pub held : (name : Name) (places : Places) (now : Kept) (place : Roomy Version) → Rises places → record { versions = versions_in places; room = room_in places } ≡ now → named name places ≡ Some place
    → place.items ≡ versions_of now.versions name
held name places now place rises is there = sym (versions_there name places place rises there) ∙ ap (λ (k : Kept). versions_of k.versions name) is

pub held_nothing : (name : Name) (places : Places) (now : Kept) → Rises places → record { versions = versions_in places; room = room_in places } ≡ now → named name places ≡ None → [] ≡ versions_of now.versions name
held_nothing name places now rises is none = sym (versions_nowhere name places rises none) ∙ ap (λ (k : Kept). versions_of k.versions name) is

-- ---- the room at a place
pub room_there : (name : Name) (places : Places) (place : Roomy Version) → named name places ≡ Some place → HasRoom name (room_in places) → 0 < place.room
room_there name places place there has =
    subst (λ (o : Option ℕ). 0 < unwrap_or o 0) (view_found (λ (p : Roomy Version). p.room) name places place there) has

pub no_room : (name : Name) (places : Places) → named name places ≡ None → ¬ (HasRoom name (room_in places))
no_room name places none has =
    let room = subst (λ (o : Option ℕ). 0 < unwrap_or o 0) (view_none (λ (p : Roomy Version). p.room) name places none) has in
    omega arith

-- the room after a place is put
named_room : (other name : Name) (place : Roomy Version) (places : Places) → named other (room_in (with_named places name place)) ≡ cond (same_name other name) (Some place.room) (named other (room_in places))
named_room other name place places =
    ap (named other) (each_as-with_named (λ (p : Roomy Version). p.room) name place places) ∙ named-with_named other name place.room (room_in places)

pub room_here : (name : Name) (place : Roomy Version) (places : Places) → 0 < place.room → HasRoom name (room_in (with_named places name place))
room_here name place places some =
    subst (λ (o : Option ℕ). 0 < unwrap_or o 0) (sym (ap (named name) (each_as-with_named (λ (p : Roomy Version). p.room) name place places) ∙ named-here name place.room (room_in places))) some

room_kept : (other name : Name) (place : Roomy Version) (places : Places) → (other ≡ name → HasRoom name (room_in places) → 0 < place.room) → HasRoom other (room_in places) → HasRoom other (room_in (with_named places name place))
room_kept other name place places here has = subst (λ (o : Option ℕ). 0 < unwrap_or o 0) (sym (named_room other name place places)) (on (same_name other name) refl)
  where
    on : (b : Bool) → same_name other name ≡ b → 0 < unwrap_or (cond b (Some place.room) (named other (room_in places))) 0
    on true same = let equal = same_name-equal other name same in here equal (subst (λ n. HasRoom n (room_in places)) equal has)
    on false same = has

-- ---- the names of the busy places
-- a place that has room is busy
pub roomy_busy : (place : Roomy Version) → 0 < place.room → is_busy place ≡ true
roomy_busy place some = grind (arith, nat_tests)

-- where the name of a place that is put is in the list, all busy places are there still
pub watched_put : (names : List Name) (name : Name) (old new : Places) (place : Roomy Version) → new ≡ with_named old name place → Contains names name → AreWatched names old → AreWatched names new
watched_put names name old new place put there watched = subst (λ (p : Places). AreWatched names p) (sym put) on
  where
    on : AreWatched names (with_named old name place)
    on other found is busy = elim (found_in other name place found old is) [
      | inl here ↦ subst (λ n. Contains names n) (sym here.0) there
      | inr before ↦ watched other found before busy
    ]

-- a list with more names has them all still
pub watched_more : (names more : List Name) (places : Places) → ((name : Name) → Contains names name → Contains more name) → AreWatched names places → AreWatched more places
watched_more names more places kept watched name place is busy = kept name (watched name place is busy)

-- ---- a place is made, or gets more room
pub more_room : (name : Name) (old new : Places) (before after : Roomy Version) → named name old ≡ Some before → new ≡ with_named old name after → after.items ≡ before.items → before.room ≤ after.room
    → each_as items_shown new ≡ each_as items_shown old → IsReserved old new
more_room name old new before after there put items room same = record {
  rises = λ rises. subst (λ (p : Places). Rises p) (sym put) (rises-with_named name after old rises);
  shows = ap (λ (p : Placed (List Version)). filled p) same;
  kept = λ other has. subst (λ (p : Places). HasRoom other (room_in p)) (sym put) (room_kept other name after old (λ equal here. let was = room_there name old before there here in omega arith) has);
}

pub made_room : (name : Name) (old new : Places) (place : Roomy Version) → named name old ≡ None → new ≡ with_named old name place → place.items ≡ [] → IsReserved old new
made_room name old new place none put empty = record {
  rises = λ rises. subst (λ (p : Places). Rises p) (sym put) (rises-with_named name place old rises);
  shows =
      ap (λ (p : Places). versions_in p) put ∙ ap (λ (p : Placed (List Version)). filled p) (each_as-with_named items_shown name place old ∙ ap (λ (vs : List Version). with_named (each_as items_shown old) name (if_any vs)) empty)
      ∙ prepared_shows name (each_as items_shown old) (view_none items_shown name old none);
  kept = λ other has. subst (λ (p : Places). HasRoom other (room_in p)) (sym put) (room_kept other name place old (λ equal here. absurd (no_room name old none here)) has);
}

pub reserved_same : (old new : Places) → new ≡ old → IsReserved old new
reserved_same old new same = record {
  rises = λ rises. subst (λ (p : Places). Rises p) (sym same) rises;
  shows = ap (λ (p : Places). versions_in p) same;
  kept = λ name has. subst (λ (p : Places). HasRoom name (room_in p)) (sym same) has;
}

pub reserved_more : (old mid new : Places) → IsReserved old mid → IsReserved mid new → IsReserved old new
reserved_more old mid new one two = record {
  rises = λ rises. two.rises (one.rises rises);
  shows = two.shows ∙ one.shows;
  kept = λ name has. two.kept name (one.kept name has);
}

pub reserved_room : (writes : Named Value) (old new : Places) → IsReserved old new → All (λ (write : Name × Value). HasRoom write.0 (room_in old)) writes → All (λ (write : Name × Value). HasRoom write.0 (room_in new)) writes
reserved_room writes old new reserved all k d lt = reserved.kept (get_or writes k d).0 (all k d lt)

-- ---- a version is added at a place
some_pushed : (vs : List Version) (v : Version) → if_any (vs ++ v ∷ []) ≡ Some (vs ++ v ∷ [])
some_pushed [] v = refl
some_pushed (w ∷ vs) v = refl

has_shown : (name : Name) (places : Places) (place : Roomy Version) → named name places ≡ Some place → HasPlace name (each_as items_shown places)
has_shown name places place there = subst (λ (o : Option (Option (List Version))). IsSome o) (sym (view_found items_shown name places place there)) refl

pub added : (name : Name) (version : Version) (old new : Places) (before after : Roomy Version) → Rises old → named name old ≡ Some before → 0 < before.room → new ≡ with_named old name after
    → after.items ≡ before.items ++ version ∷ [] → IsAdded name version old new
added name version old new before after rises there room put items = record {
  rises = subst (λ (p : Places). Rises p) (sym put) (rises-with_named name after old rises);
  shows =
      ap (λ (p : Places). versions_in p) put
      ∙ ap (λ (p : Placed (List Version)). filled p) (each_as-with_named items_shown name after old ∙ ap (λ (o : Option (List Version)). with_named (each_as items_shown old) name o) (ap if_any items ∙ some_pushed before.items version))
      ∙ filled_shows name (before.items ++ version ∷ []) (each_as items_shown old) (rises_each items_shown old rises) (has_shown name old before there)
      ∙ ap (λ (vs : List Version). with_named (versions_in old) name (vs ++ version ∷ [])) (sym (versions_there name old before rises there));
  others = λ other apart has. subst (λ (p : Places). HasRoom other (room_in p)) (sym put) (room_kept other name after old (λ equal here. absurd (apart equal)) has);
  watched = λ names watched. watched_put names name old new after put (watched name before there (roomy_busy before room)) watched;
}

-- ---- all places are pruned
module _ (live : List ℕ) where
  pub all_pruned : (old new : Places) → Rises old → Rises new → ArePrunedPlaces live old new → ArePruned live (versions_in old) (versions_in new)
  all_pruned old new rises rises_new pruned name = on (named name old) refl (named name new) refl (pruned name)
    where
      nothing : IsPruned live [] []
      nothing = staying_pruned live [] (λ i j d lt in_range. absurd (omega arith))

      on : (o : Option (Roomy Version)) → named name old ≡ o → (p : Option (Roomy Version)) → named name new ≡ p → IsPrunedPlace live o p → IsPruned live (versions_of (versions_in old) name) (versions_of (versions_in new) name)
      on None none None gone is =
          subst (λ (vs : List Version). IsPruned live vs (versions_of (versions_in new) name)) (sym (versions_nowhere name old rises none))
          (subst (λ (vs : List Version). IsPruned live [] vs) (sym (versions_nowhere name new rises_new gone)) nothing)
      on None none (Some q) there is = absurd is
      on (Some p) was None gone is = absurd is
      on (Some p) was (Some q) there is =
          subst (λ (vs : List Version). IsPruned live vs (versions_of (versions_in new) name)) (sym (versions_there name old p rises was))
          (subst (λ (vs : List Version). IsPruned live p.items vs) (sym (versions_there name new q rises_new there)) is.0)

  pub pruned_room : (old new : Places) → ArePrunedPlaces live old new → (name : Name) → HasRoom name (room_in old) → HasRoom name (room_in new)
  pruned_room old new pruned name has = on (named name old) refl (named name new) refl (pruned name)
    where
      on : (o : Option (Roomy Version)) → named name old ≡ o → (p : Option (Roomy Version)) → named name new ≡ p → IsPrunedPlace live o p → HasRoom name (room_in new)
      on None none p there is = absurd (no_room name old none has)
      on (Some p) was None gone is = absurd is
      on (Some p) was (Some q) there is =
          let room = room_there name old p was has in
          subst (λ (o : Option ℕ). 0 < unwrap_or o 0) (sym (view_found (λ (r : Roomy Version). r.room) name new q there)) (let le = is.1 in omega arith)
