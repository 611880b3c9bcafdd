-- What each kind of step tells the seat that makes it.
use Rattle.std.specs.Prelude.{◌≡◌, ◌≢◌, ℕ, ◌<◌, ◌^◌, List, [], ◌∷◌, Option, Some, ◌⊎◌}
use mathlib.Core.List.{IsPrefix}
use Rattle.atomic_table.specs.Table.{Me}
use Rattle.world_lock.specs.declared.view.View.{View}
use Rattle.world_lock.specs.Views.{holding, resting}

-- what a seat knows, and the slot that it has taken
abbrev pub Mine : Type 0 → Type 0 → Type 0 → Type 0
Mine T S I = Me (Option T) (View T S I)

module _ {T S I : Type 0} where
  -- the seat has the value y out of the slot, which is of the lock's setup and whose history begins with what the seat had seen
  pub record Took (setup_of : T → S) (history : T → List I) (me after : Mine T S I) (y : T) : Type 0 where
    pub view : after.0 ≡ holding me.0 y
    pub slot : after.1 ≡ (0, Some y) ∷ me.1
    pub setup : me.0.setup ≡ Some (setup_of y)
    pub seen : IsPrefix me.0.seen (history y)

  -- take the word with the slot: where it was found free the seat has the value, else nothing changes
  pub record Takes (setup_of : T → S) (history : T → List I) (me : Mine T S I) (found : ℕ) (after : Mine T S I) : Type 0 where
    pub won : found ≡ 0 → (y : T) × Took setup_of history me after y
    pub lost : found ≢ 0 → after ≡ me

  -- give the slot with the word: the seat has seen the history of the value that it put in, and holds no more
  abbrev pub Gives : (T → List I) → Mine T S I → Mine T S I → Type 0
  Gives history me after = (y : T) → me.1 ≡ (0, Some y) ∷ [] → after ≡ (resting me.0 (history y), [])

  -- a look after a join: what the seat had seen and what it was told are one list, the longer of the two
  pub record Looks (me after : Mine T S I) : Type 0 where
    pub seen : List I
    pub view : after ≡ (record { setup = me.0.setup; seen = seen; told = []; shares = me.0.shares; held = me.0.held }, me.1)
    pub longer : (seen ≡ me.0.seen) ⊎ (seen ≡ me.0.told)
    pub of_seen : IsPrefix me.0.seen seen
    pub of_told : IsPrefix me.0.told seen
    pub few : me.0.shares < 2 ^ 32
