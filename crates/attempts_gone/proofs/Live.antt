-- The attempts that are live.
use Rattle.std.proofs.Common.{◌≡◌, ◌∙◌, ◌≤◌, ℕ, suc, Bool, true, false, cond, length, List, [], ◌∷◌, le_refl, refl, sym, ap, subst}
use Rattle.value_core.proofs.NamedLaws.{same_name-equal}
use Rattle.value_core.specs.Named.{Name, Named, named, same_name}
use Rattle.attempts_gone.specs.Live.{snapshots_in}
use Rattle.shared_world.proofs.Lists.{contains-first, contains-more}
use Rattle.std.proofs.lemmas.List.Sorted.{Contains-permutation, length_permutation}
use Rattle.std.specs.BTreeMap.{is_at}
use Rattle.std.specs.Map.{lookup}
use Rattle.std.specs.declared.cmp.Ordering.TheVariants.{Equal}
use Rattle.std.specs.Prelude.{Contains, IfSome, IsPermutation, None, Option, Some}
use Rattle.value_core.proofs.NameMaps.{lookup_is_named}
use Rattle.value_core.proofs.Names.{after_cmp-IsAntisymmetric}
use Rattle.value_core.specs.Name.{after_cmp}
use Rattle.ref_store.specs.declared.version.Version.{Version}
use Rattle.ref_store.specs.Store.{ArePruned}
use Rattle.shared_world.specs.rows.Attempts.{AreLive, ArePrunedFor, IsWithout}
use Rattle.task_fork_join.specs.Attempt.{Attempt}

-- it is all one which name stands first
pub same-either : (a b : Name) → same_name a b ≡ same_name b a
same-either a b = on (same_name a b) (same_name b a) refl refl
  where
    on : (c d : Bool) → same_name a b ≡ c → same_name b a ≡ d → c ≡ d
    on true true e f = refl
    on false false e f = refl
    on true false e f = let no : true ≡ false = sym e ∙ ap (λ n. same_name a n) (sym (same_name-equal a b e)) ∙ ap (λ n. same_name n a) (same_name-equal a b e) ∙ f in cc
    on false true e f = let no : true ≡ false = sym f ∙ ap (λ n. same_name b n) (sym (same_name-equal b a f)) ∙ ap (λ n. same_name n b) (same_name-equal b a f) ∙ e in cc

-- as many snapshots as attempts
pub snapshots-count : (all : Named Attempt) → length (snapshots_in all) ≡ length all
snapshots-count [] = refl
snapshots-count (e ∷ es) = ap suc (snapshots-count es)

-- each attempt's is one of them
snapshot-there : (u : Name) (tree : Attempt) (all : Named Attempt) → named u all ≡ Some tree → Contains (snapshots_in all) tree.snapshot
snapshot-there u tree [] is = cc
snapshot-there u tree (e ∷ es) is = on (same_name u e.0) (snapshot-there u tree es) is
  where
    on : (c : Bool) → (named u es ≡ Some tree → Contains (snapshots_in es) tree.snapshot) → cond c (Some e.1) (named u es) ≡ Some tree → Contains (e.1.snapshot ∷ snapshots_in es) tree.snapshot
    on true rest so = let same : e.1 ≡ tree = cc in subst (λ (k : Attempt). Contains (e.1.snapshot ∷ snapshots_in es) k.snapshot) same (contains-first e.1.snapshot (snapshots_in es))
    on false rest so = contains-more tree.snapshot e.1.snapshot (snapshots_in es) (rest so)

-- and so they are in whatever order
pub sorted_live : (all : Named Attempt) (pushed sorted : List ℕ) → pushed ≡ snapshots_in all → IsPermutation pushed sorted → AreLive sorted all
sorted_live all pushed sorted is permuted = record {
  each = λ u tree there. Contains-permutation pushed sorted tree.snapshot permuted (subst (λ (xs : List ℕ). Contains xs tree.snapshot) (sym is) (snapshot-there u tree all there));
  count = subst (λ n. n ≤ length all) (sym (length_permutation pushed sorted permuted ∙ ap length is ∙ snapshots-count all)) (le_refl (length all));
}

-- the snapshots are those of the attempts, as they stand
pub all_live : (all : Named Attempt) → AreLive (snapshots_in all) all
all_live all = record {
  each = λ u tree there. snapshot-there u tree all there;
  count = subst (λ n. n ≤ length all) (sym (snapshots-count all)) (le_refl (length all));
}

-- where nothing is to be pruned for so many, nothing is for the attempts
pub not_due : (all : Named Attempt) (count : ℕ) (versions : Named (List Version)) → count ≡ length all → ((live : List ℕ) → length live ≡ count → ArePruned live versions versions) → ArePrunedFor all versions versions
not_due all count versions is few = record {
  live = snapshots_in all;
  are_live = all_live all;
  pruned = few (snapshots_in all) (snapshots-count all ∙ sym is);
}

-- what is found under a name has that name
pub found-under : {X : Type 0} (name : Name) (found : Option (Name × X)) → IfSome found (λ entry. after_cmp name entry.0 ≡ Equal) → IfSome found (λ entry. entry.0 ≡ name)
found-under name None is = is
found-under name (Some entry) is = sym (after_cmp-IsAntisymmetric name entry.0 is)

-- what is removed is gone
pub taken : {X : Type 0} (name : Name) (old new : Named X) → ((q : Name) → lookup (is_at (after_cmp q)) new ≡ cond (is_at (after_cmp name) q) None (lookup (is_at (after_cmp q)) old)) → IsWithout name old new
taken {X} name old new updates other =
    sym (lookup_is_named other new) ∙ updates other
    ∙ ap (λ (b : Bool). cond b None (lookup (is_at (after_cmp other)) old)) (same-either name other)
    ∙ ap (λ (found : Option X). cond (same_name other name) None found) (lookup_is_named other old)
