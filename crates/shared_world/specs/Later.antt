-- What is kept later on.
use Rattle.std.specs.Prelude.{◌≡◌, ◌++◌, ◌∷◌, [], List}
use Rattle.serial_model.specs.declared.entry.Entry.{Entry}
use Rattle.shared_world.specs.declared.given.Given.{Given}
use Rattle.shared_world.specs.declared.given.Given.TheVariants as given
use Rattle.shared_world.specs.Shared.{Shared}

-- the same is run, and the history goes on from where it was
pub record IsLater (old new : Shared) : Type 0 where
  pub setup : new.setup ≡ old.setup
  pub more : List Entry
  pub history : new.history ≡ old.history ++ more

-- the same is run, and the history has these entries more
pub record Appends (entries : List Entry) (old new : Shared) : Type 0 where
  pub setup : new.setup ≡ old.setup
  pub history : new.history ≡ old.history ++ entries

-- the entry of an answer, where it settles one
abbrev pub settled_by : Given → List Entry
settled_by (given.Settled entry) = entry ∷ []
settled_by _ = []
