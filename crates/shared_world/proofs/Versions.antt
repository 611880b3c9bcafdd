-- The versions of a ref: the newest against a number, and what is read once they are pruned.
use Rattle.std.proofs.Common.{◌≡◌, ◌∙◌, ℕ, ◌<◌, ◌≤◌, ◌⊎◌, inl, inr, Bool, true, false, List, [], ◌∷◌, refl, sym, ap, subst}
use Rattle.std.proofs.lemmas.Bool.{cases_lt, le-leb}
use Rattle.std.proofs.lemmas.List.Elements.{All-head, All-tail}
use Rattle.std.specs.Option.{option_map, option_or}
use Rattle.std.specs.Prelude.{Option, None, Some, All, cond}
use Rattle.ref_store.proofs.VersionLaws.{version_at-cons, with_first}
use Rattle.ref_store.specs.declared.version.Version.{Version}
use Rattle.ref_store.specs.Version.{is_by, newest, value_at, version_at}
use Rattle.shared_world.specs.rows.Attempts.{ArePrunedFor}
use Rattle.shared_world.specs.Shared.{ref_now}
use Rattle.task_fork_join.specs.Attempt.{Attempt}
use Rattle.txn_snapshot.specs.SnapshotAnswer.{snapshot_of}
use Rattle.value_core.specs.Named.{Name, Named, named}

-- what holds of all holds of the newest
pub all-newest : (P : Version → Type 0) (versions : List Version) (v : Version) → All P versions → newest versions ≡ Some v → P v
all-newest P [] v all is = cc
all-newest P (w ∷ ws) v all is = on (newest ws) refl is (all-newest P ws v (All-tail P w ws all))
  where
    on : (o : Option Version) → newest ws ≡ o → option_or o (Some w) ≡ Some v → (newest ws ≡ Some v → P v) → P v
    on None none same rest = let e : w ≡ v = cc in subst P e (All-head P w ws all)
    on (Some x) some same rest = rest (some ∙ same)

-- where it is at or below the number it is what is read there
newest-by : (number : ℕ) (versions : List Version) (v : Version) → newest versions ≡ Some v → v.number ≤ number → version_at number versions ≡ Some v
newest-by number [] v is below = cc
newest-by number (w ∷ ws) v is below = version_at-cons number w ws ∙ on (newest ws) refl is (λ some. newest-by number ws v some below)
  where
    on : (o : Option Version) → newest ws ≡ o → option_or o (Some w) ≡ Some v → (newest ws ≡ Some v → version_at number ws ≡ Some v) → with_first number w (version_at number ws) ≡ Some v
    on (Some x) some same rest = ap (with_first number w) (rest (some ∙ same)) ∙ either (is_by number w)
      where
        either : (b : Bool) → cond b (option_or (Some v) (Some w)) (Some v) ≡ Some v
        either true = refl
        either false = refl
    on None none same rest = alone ws none
      where
        e : w ≡ v
        e = cc

        here : is_by number w ≡ true
        here = subst (λ (x : Version). is_by number x ≡ true) (sym e) (le-leb v.number number below)

        alone : (rest : List Version) → newest rest ≡ None → with_first number w (version_at number rest) ≡ Some v
        alone [] empty = ap (λ b. cond b (Some w) None) here ∙ ap (λ (x : Version). Some x) e
        alone (x ∷ xs) empty = more (newest xs) empty
          where
            more : (o : Option Version) → option_or o (Some x) ≡ None → with_first number w (version_at number (x ∷ xs)) ≡ Some v
            more None e = cc
            more (Some y) e = cc

-- where nothing is read at the number, the newest one is above it
pub newest-above : (number : ℕ) (versions : List Version) (v : Version) → value_at number versions ≡ None → newest versions ≡ Some v → number < v.number
newest-above number versions v none is = on (cases_lt number v.number)
  where
    on : (number < v.number) ⊎ (v.number ≤ number) → number < v.number
    on (inl above) = above
    on (inr below) =
        let some : Some v.value ≡ None = sym (ap (λ (o : Option Version). option_map (λ (x : Version). x.value) o) (newest-by number versions v is below)) ∙ none in
        absurd (cc)

-- where the versions are pruned for the attempts, these read what they did
pub reads-kept : (attempts : Named Attempt) (before versions : Named (List Version)) → ArePrunedFor attempts before versions → (v : Name) (tree : Attempt) → named v attempts ≡ Some tree
    → (r : Name) → snapshot_of versions tree.snapshot r ≡ snapshot_of before tree.snapshot r
reads-kept attempts before versions pruned v tree there r = ap (option_map (λ (k : Version). k.value)) ((pruned.pruned r).live_reads tree.snapshot (pruned.are_live.each v tree there))

-- and so does what reads the refs as they are now
pub now-kept : (attempts : Named Attempt) (before versions : Named (List Version)) → ArePrunedFor attempts before versions → (r : Name) → ref_now versions r ≡ ref_now before r
now-kept attempts before versions pruned r = ap (option_map (λ (k : Version). k.value)) (pruned.pruned r).newest_stays
