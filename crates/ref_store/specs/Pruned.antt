-- The versions that a prune leaves.
use Rattle.std.specs.Prelude.{◌≡◌, ◌&&◌, ℕ, ◌+◌, ◌≤◌, Bool, nat_le, nat_lt, List, [], ◌∷◌, length, All, if◌then◌else◌}
use Rattle.std.specs.List.{Contains, list_any}
use Rattle.std.specs.Option.{IfSome}
use Rattle.ref_store.specs.declared.version.Version.{Version}
use Rattle.ref_store.specs.Version.{newest, version_at}

-- whether one of the numbers is at or above the first bound and below the second
abbrev pub has_between : ℕ → ℕ → List ℕ → Bool
has_between from to numbers = list_any (λ number. nat_le from number && nat_lt number to) numbers

-- a version before those that stay: it stays too where a live number reads it and not the next, or where it is the newest
abbrev pub stays_before : List ℕ → Version → List Version → List Version
stays_before live version [] = version ∷ []
stays_before live version (next ∷ rest) = if has_between version.number next.number live then version ∷ next ∷ rest else next ∷ rest

-- the same of the first version, where the others stay
abbrev pub first_staying : List ℕ → List Version → List Version
first_staying live [] = []
first_staying live (version ∷ versions) = stays_before live version versions

-- the versions that stay for the live numbers
abbrev pub staying : List ℕ → List Version → List Version
staying live [] = []
staying live (version ∷ versions) = stays_before live version (staying live versions)

-- what is read at each live number stays, and so does what is read from the newest version on; at most one version more
-- than there are live numbers is kept, and none is new
pub record IsPruned (live : List ℕ) (old new : List Version) : Type 0 where
  pub live_reads : (number : ℕ) → Contains live number → version_at number new ≡ version_at number old
  pub late_reads : (number : ℕ) → IfSome (newest old) (λ version. version.number ≤ number) → version_at number new ≡ version_at number old
  pub newest_stays : newest new ≡ newest old
  pub count : length new ≤ length live + 1
  pub none_new : All (Contains old) new
