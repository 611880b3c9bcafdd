-- What a ref reads that has no version above the snapshot, and what one has that is found changed.
use Rattle.std.proofs.Common.{◌≡◌, ◌∙◌, ℕ, ◌<◌, ◌≤◌, List, length, take, sym, ap, subst, Option, None, Some, arith}
use Rattle.std.specs.Prelude.{All}
use Rattle.std.specs.Option.{option_map, IfSome}
use Rattle.std.proofs.lemmas.List.{take_all}
use Rattle.value_core.specs.Named.{Name, Named}
use Rattle.ref_store.specs.declared.version.Version.{Version}
use Rattle.ref_store.specs.Store.{versions_of}
use Rattle.ref_store.specs.Version.{newest}
use Rattle.ref_store.proofs.VersionLaws.{late_at}
use Rattle.txn_commit.specs.Conflict.{IsChanged, IsUnchanged, ReadsAsThen}

pub unchanged_reads : (versions : Named (List Version)) (snapshot : ℕ) (name : Name) → IsUnchanged versions snapshot name → ReadsAsThen versions snapshot name
unchanged_reads versions snapshot name unchanged number late =
    let vs = versions_of versions name in
    ap (option_map (λ version. version.value)) (late_at number vs (λ k d lt. omega (arith, unchanged k d lt, late)) ∙ sym (late_at snapshot vs unchanged))

pub all_unchanged_read : (versions : Named (List Version)) (snapshot : ℕ) (reads : List Name) → All (IsUnchanged versions snapshot) reads → All (ReadsAsThen versions snapshot) reads
all_unchanged_read versions snapshot reads all k d lt = unchanged_reads versions snapshot _ (all k d lt)

-- what holds of all that were looked at holds of all, at the end of the list
pub all_looked_at : (versions : Named (List Version)) (snapshot : ℕ) (reads : List Name) (index : ℕ) → length reads ≤ index → All (IsUnchanged versions snapshot) (take index reads)
    → All (IsUnchanged versions snapshot) reads
all_looked_at versions snapshot reads index past all = subst (All (IsUnchanged versions snapshot)) (take_all index reads past) all

-- a number that is given is that of the newest version
pub changed_if_above : (versions : Named (List Version)) (snapshot : ℕ) (name : Name) (version : Version) → newest (versions_of versions name) ≡ Some version
    → (above : Option ℕ) → IfSome above (λ number. (version.number ≡ number) × (snapshot < number)) → IfSome above (IsChanged versions snapshot name)
changed_if_above versions snapshot name version is None nothing = tt
changed_if_above versions snapshot name version is (Some number) both = record { version = version; newest = is; number_is = both.0; above = both.1 }
