-- Ordered sets of names, and the lists and names that they hold.
use Rattle.std.proofs.Common.{◌≡◌, ◌∙◌, Bool, true, false, List, [], ◌∷◌, ◌++◌, cond, refl, sym, ap}
use Rattle.std.specs.Prelude.{◌||◌, ◌&&◌, not}
use Rattle.std.specs.BTreeMap.{is_at}
use Rattle.std.specs.BTreeSet.{BTreeSet}
use Rattle.std.proofs.lemmas.List.Folds.{list_any-append}
use Rattle.value_core.specs.Name.{after_cmp}
use Rattle.value_core.specs.Named.{Name, same_name, is_among}
use Rattle.value_core.specs.NameOrder.{same_name_equiv}
use Rattle.value_core.specs.NameSet.{has_name, HasNames}

-- a set with one name more has the names of the list with that name behind them
pub added_has_names : (old new : BTreeSet Name) (names : List Name) (k : Name) → HasNames old names
    → ((q : Name) → has_name new q ≡ cond (is_at (after_cmp k) q) true (has_name old q)) → HasNames new (names ++ k ∷ [])
added_has_names old new names k has added q =
    added q ∙ ap (λ b. cond b true (has_name old q)) (same_name_equiv.symm k q) ∙ ap (cond (same_name q k) true) (has q)
    ∙ turned (same_name q k) (is_among q names) ∙ sym (list_any-append (same_name q) names (k ∷ []))
  where
    turned : (a b : Bool) → cond a true b ≡ (b || (a || false))
    turned true true = refl
    turned true false = refl
    turned false true = refl
    turned false false = refl

-- a set with one name more has that name and the others
pub added_is_there : (old new : BTreeSet Name) (k : Name)
    → ((q : Name) → has_name new q ≡ cond (is_at (after_cmp k) q) true (has_name old q)) → (q : Name) → has_name new q ≡ (has_name old q || same_name q k)
added_is_there old new k added q = added q ∙ ap (λ b. cond b true (has_name old q)) (same_name_equiv.symm k q) ∙ turned (same_name q k) (has_name old q)
  where
    turned : (a b : Bool) → cond a true b ≡ (b || a)
    turned true true = refl
    turned true false = refl
    turned false true = refl
    turned false false = refl

-- a set with one name less has the others
pub removed_is_gone : (old new : BTreeSet Name) (k : Name)
    → ((q : Name) → has_name new q ≡ cond (is_at (after_cmp k) q) false (has_name old q)) → (q : Name) → has_name new q ≡ (has_name old q && not (same_name q k))
removed_is_gone old new k removed q = removed q ∙ ap (λ b. cond b false (has_name old q)) (same_name_equiv.symm k q) ∙ turned (same_name q k) (has_name old q)
  where
    turned : (a b : Bool) → cond a false b ≡ (b && not a)
    turned true true = refl
    turned true false = refl
    turned false true = refl
    turned false false = refl
