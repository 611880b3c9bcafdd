-- How many versions are kept.
use Rattle.std.specs.Prelude.{◌+◌, ◌≤◌, length}
use Rattle.ref_store.specs.Store.{versions_of}
use Rattle.shared_world.specs.Shared.{Shared}
use Rattle.value_core.specs.Named.{Name}

-- Of each ref at most one version more is kept than there are live snapshots, which are those of the attempts that are there.
abbrev pub KeepsFew : Shared → Type 0
KeepsFew s = (ref : Name) → length (versions_of s.versions ref) ≤ length s.attempts + 1
