-- What is read after a commit, at numbers below and from that of the commit on.
use Rattle.std.proofs.Common.{◌≡◌, ◌∙◌, ℕ, ◌<◌, ◌≤◌, Bool, true, false, cond, List, [], ◌∷◌, ◌++◌, append-nil, get_or, refl, sym, ap, subst, Option, Some, None, arith}
use Rattle.std.specs.Prelude.{All, unwrap_or}
use Rattle.std.proofs.lemmas.List.Elements.{All-contains, All-push}
use Rattle.std.specs.Option.{option_and_then, option_map, option_or}
use Rattle.value_core.specs.declared.value.Value.{Value}
use Rattle.value_core.specs.Named.{Name, Named, named, over, each_as, same_name, Rises}
use Rattle.value_core.proofs.NamedLaws.{named-below, named-upon, named-with_named, rises-first, rises-rest, rises-with_named, same_name-equal}
use Rattle.value_core.proofs.NamedViews.{named-each_as, rises_each}
use Rattle.value_core.proofs.PlacedLaws.{named_filled}
use Rattle.ref_store.specs.declared.version.Version.{Version}
use Rattle.ref_store.specs.Store.{committed, refs_at, version_of, versions_of, ArePruned, IsAbove, ReadsStayBelow, ReadsWrittenFrom}
use Rattle.ref_store.specs.Version.{newest, value_at}
use Rattle.ref_store.proofs.VersionLaws.{at_push, below_push, late_at}

abbrev Refs : Type 0
Refs = Named (List Version)

-- the versions that a write adds
abbrev pub written : ℕ → Option Value → List Version
written number None = []
written number (Some value) = version_of number value ∷ []

pub rises_committed : (versions : Refs) (writes : Named Value) (number : ℕ) → Rises versions → Rises (committed versions writes number)
rises_committed versions [] number rises = rises
rises_committed versions (w ∷ ws) number rises =
    rises-with_named w.0 (versions_of (committed versions ws number) w.0 ++ version_of number w.1 ∷ []) (committed versions ws number) (rises_committed versions ws number rises)

-- each written ref has one version more, and the others have those that they had
pub versions_committed : (versions : Refs) (writes : Named Value) (number : ℕ) → Rises writes → (name : Name) → versions_of (committed versions writes number) name ≡ versions_of versions name ++ written number (named name writes)
versions_committed versions [] number rises name = sym (append-nil (versions_of versions name))
versions_committed versions (w ∷ ws) number rises name = committed_first versions w ws number rises name (versions_committed versions ws number (rises-rest w ws rises))
  where
    committed_first : (versions : Refs) (w : Name × Value) (ws : Named Value) (number : ℕ) → Rises (w ∷ ws) → (name : Name)
        → ((other : Name) → versions_of (committed versions ws number) other ≡ versions_of versions other ++ written number (named other ws))
        → versions_of (committed versions (w ∷ ws) number) name ≡ versions_of versions name ++ written number (named name (w ∷ ws))
    committed_first versions w ws number rises name rest =
        ap (λ (o : Option (List Version)). unwrap_or o []) (named-with_named name w.0 (versions_of (committed versions ws number) w.0 ++ version_of number w.1 ∷ []) (committed versions ws number))
        ∙ on (same_name name w.0) refl
      where
        unwritten : versions_of (committed versions ws number) w.0 ≡ versions_of versions w.0
        unwritten = rest w.0 ∙ ap (λ (o : Option Value). versions_of versions w.0 ++ written number o) (named-below w.0 ws (rises-first w ws rises)) ∙ append-nil (versions_of versions w.0)

        on : (b : Bool) → same_name name w.0 ≡ b → unwrap_or (cond b (Some (versions_of (committed versions ws number) w.0 ++ version_of number w.1 ∷ [])) (named name (committed versions ws number))) []
            ≡ versions_of versions name ++ written number (cond b (Some w.1) (named name ws))
        on true same =
            ap (λ (vs : List Version). vs ++ version_of number w.1 ∷ []) (unwritten ∙ ap (versions_of versions) (sym (same_name-equal name w.0 same)))
        on false apart = rest name

-- ---- a read of a ref
-- below the commit's number it is what it was
pub read_below : (versions : Refs) (writes : Named Value) (number at : ℕ) → Rises writes → at < number → (name : Name)
    → value_at at (versions_of (committed versions writes number) name) ≡ value_at at (versions_of versions name)
read_below versions writes number at rises below name = ap (value_at at) (versions_committed versions writes number rises name) ∙ on (named name writes)
  where
    on : (o : Option Value) → value_at at (versions_of versions name ++ written number o) ≡ value_at at (versions_of versions name)
    on None = ap (value_at at) (append-nil (versions_of versions name))
    on (Some value) = ap (option_map (λ (v : Version). v.value)) (below_push at (versions_of versions name) (version_of number value) below)

-- from it on it is the value written, or else what it was
pub read_from : (versions : Refs) (writes : Named Value) (number at : ℕ) → Rises writes → number ≤ at → (name : Name)
    → value_at at (versions_of (committed versions writes number) name) ≡ option_or (named name writes) (value_at at (versions_of versions name))
read_from versions writes number at rises from name = ap (value_at at) (versions_committed versions writes number rises name) ∙ on (named name writes)
  where
    on : (o : Option Value) → value_at at (versions_of versions name ++ written number o) ≡ option_or o (value_at at (versions_of versions name))
    on None = ap (value_at at) (append-nil (versions_of versions name))
    on (Some value) = ap (option_map (λ (v : Version). v.value)) (at_push at (versions_of versions name) (version_of number value) from)

pub reads_below : (versions new : Refs) (writes : Named Value) (number : ℕ) → Rises writes → new ≡ committed versions writes number → ReadsStayBelow number versions new
reads_below versions new writes number rises is = subst (ReadsStayBelow number versions) (sym is) (λ name at below. read_below versions writes number at rises below name)

pub reads_from : (versions new : Refs) (writes : Named Value) (number : ℕ) → Rises writes → new ≡ committed versions writes number → ReadsWrittenFrom writes number versions new
reads_from versions new writes number rises is = subst (ReadsWrittenFrom writes number versions) (sym is) (λ name at from. read_from versions writes number at rises from name)

-- where the number is above all versions, that is the newest
pub read_newest : (versions : Refs) (writes : Named Value) (number at : ℕ) → Rises writes → IsAbove number versions → number ≤ at → (name : Name)
    → value_at at (versions_of (committed versions writes number) name) ≡ option_or (named name writes) (option_map (λ v. v.value) (newest (versions_of versions name)))
read_newest versions writes number at rises above from name =
    read_from versions writes number at rises from name
    ∙ ap (λ (o : Option Version). option_or (named name writes) (option_map (λ v. v.value) o)) (late_at at (versions_of versions name) (λ k d lt. let below = above name k d lt in omega arith))

-- ---- the numbers of the versions
-- each later number is above all versions after a commit
pub above_committed : (versions new : Refs) (writes : Named Value) (number : ℕ) → Rises writes → new ≡ committed versions writes number → IsAbove number versions → (later : ℕ) → number < later → IsAbove later new
above_committed versions new writes number rises is above later lt name =
    subst (λ (vs : List Version). All (λ v. v.number < later) vs) (sym (ap (λ (m : Refs). versions_of m name) is ∙ versions_committed versions writes number rises name)) (on (named name writes))
  where
    older : All (λ (v : Version). v.number < later) (versions_of versions name)
    older k d in_range = let below = above name k d in_range in omega arith

    on : (o : Option Value) → All (λ (v : Version). v.number < later) (versions_of versions name ++ written number o)
    on None = subst (λ (vs : List Version). All (λ v. v.number < later) vs) (sym (append-nil (versions_of versions name))) older
    on (Some value) = All-push (λ (v : Version). v.number < later) (versions_of versions name) (version_of number value) older lt

-- a number above all versions stays so where they are pruned
pub above_pruned : (live : List ℕ) (old new : Refs) → ArePruned live old new → (number : ℕ) → IsAbove number old → IsAbove number new
above_pruned live old new pruned number above name k d in_range =
    All-contains (λ (v : Version). v.number < number) (versions_of old name) (get_or (versions_of new name) k d) (above name) ((pruned name).none_new k d in_range)

-- ---- what all refs hold at a number
pub named-refs_at : (number : ℕ) (versions : Refs) → Rises versions → (name : Name) → named name (refs_at number versions) ≡ value_at number (versions_of versions name)
named-refs_at number versions rises name =
    named_filled name (each_as (value_at number) versions) (rises_each (value_at number) versions rises)
    ∙ ap (option_and_then (λ (o : Option Value). o)) (named-each_as (value_at number) name versions) ∙ on (named name versions)
  where
    on : (o : Option (List Version)) → option_and_then (λ (p : Option Value). p) (option_map (value_at number) o) ≡ value_at number (unwrap_or o [])
    on None = refl
    on (Some vs) = refl

-- a commit leaves what the refs hold at a number below its own
pub refs_before : (versions : Refs) (writes : Named Value) (number at : ℕ) → Rises versions → Rises writes → at < number → (name : Name)
    → named name (refs_at at (committed versions writes number)) ≡ named name (refs_at at versions)
refs_before versions writes number at rises order below name =
    named-refs_at at (committed versions writes number) (rises_committed versions writes number rises) name ∙ read_below versions writes number at order below name
    ∙ sym (named-refs_at at versions rises name)

-- from its number on they hold what it wrote, over what they held
pub refs_after : (versions : Refs) (writes : Named Value) (number at : ℕ) → Rises versions → Rises writes → number ≤ at → (name : Name)
    → named name (refs_at at (committed versions writes number)) ≡ named name (over writes (refs_at at versions))
refs_after versions writes number at rises order from name =
    named-refs_at at (committed versions writes number) (rises_committed versions writes number rises) name ∙ read_from versions writes number at order from name
    ∙ ap (option_or (named name writes)) (sym (named-refs_at at versions rises name)) ∙ sym (named-upon name writes (refs_at at versions) order)
