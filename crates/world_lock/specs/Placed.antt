-- How a seat and a turn stand at the table of their lock.
use Rattle.std.specs.Prelude.{◌≡◌, ℕ, ◌≤◌, [], ◌∷◌, Some, None}
use Rattle.world_lock.specs.Steps.{Mine}

-- the seat holds nothing, has its shares, and was told nothing beside what it has seen
pub record IsResting {T S I : Type 0} (me : Mine T S I) (n : ℕ) : Type 0 where
  pub empty : me.1 ≡ []
  pub held : me.0.held ≡ None
  pub told : me.0.told ≡ []
  pub shares : me.0.shares ≡ n
  pub live : 1 ≤ n

-- the seat has the slot, whose value y it took out
pub record IsHolding {T S I : Type 0} (me : Mine T S I) (n : ℕ) (y : T) : Type 0 where
  pub slot : me.1 ≡ (0, None) ∷ []
  pub held : me.0.held ≡ Some y
  pub shares : me.0.shares ≡ n
  pub live : 1 ≤ n
