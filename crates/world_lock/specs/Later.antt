-- Values that only grow.
use Rattle.std.specs.Prelude.{◌≡◌, List}
use mathlib.Core.List.{IsPrefix}

-- the new value has the old one's setup, and its history begins with the old one's
pub record IsLater {T S I : Type 0} (setup : T → S) (history : T → List I) (old new : T) : Type 0 where
  pub same_setup : setup new ≡ setup old
  pub grown : IsPrefix (history old) (history new)
