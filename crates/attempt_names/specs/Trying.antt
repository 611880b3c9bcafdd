-- The names of an attempt that begins.
use Rattle.std.specs.Prelude.{◌≡◌, ℕ}
use Rattle.attempt_names.specs.declared.trying.Trying.{Trying}
use Rattle.value_core.specs.Named.{Name, made_by}

-- the names of an attempt of a unit that has made so many things
pub record AreTryingNames (name : Name) (made snapshot : ℕ) (t : Trying) : Type 0 where
  pub root : t.root ≡ made_by name made
  pub wait : t.wait ≡ made_by name made
  pub owner : t.owner ≡ name
  pub snapshot_is : t.snapshot ≡ snapshot
