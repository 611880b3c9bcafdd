-- How often the attempts of a unit are undone, against the number of entries.
use Rattle.std.specs.Prelude.{◌≡◌, ◌+◌, ◌<◌, ◌≤◌, ℕ, List, [], ◌∷◌, length, Option, None, Some, cond}
use Rattle.shared_world.specs.declared.given.Given.{Given}
use Rattle.shared_world.specs.declared.given.Given.TheVariants as given
use Rattle.shared_world.specs.Gave.{Gave}
use Rattle.shared_world.specs.Returned.{Returned}
use Rattle.shared_world.specs.Shared.{Shared}
use Rattle.shared_world.specs.Stands.{Stands}
use Rattle.task_fork_join.specs.Attempt.{Attempt}
use Rattle.value_core.specs.Named.{Name, named, same_name}

-- the number of entries on which the attempt began; where there is none, the number of them now
abbrev pub began_on : ℕ → Option Attempt → ℕ
began_on now None = now
began_on now (Some tree) = tree.snapshot

-- the number of entries on which the unit's attempt began, or would begin now
abbrev pub age_of : Shared → Name → ℕ
age_of s u = began_on (length s.history) (named u s.attempts)

-- one where the answer is that an attempt of the unit is undone, and else none
abbrev pub undone_by : Name → Given → ℕ
undone_by u (given.Aborted unit ref version) = cond (same_name u unit) 1 0
undone_by u _ = 0

-- how many of the answers say that
abbrev pub undone_among : Name → List Given → ℕ
undone_among u [] = 0
undone_among u (found ∷ answers) = undone_by u found + undone_among u answers

-- The unit has an attempt; the number of the version is above its snapshot, and at most the number of entries.
pub record IsLateFor (s : Shared) (u : Name) (version : ℕ) : Type 0 where
  pub tree : Attempt
  pub attempt : named u s.attempts ≡ Some tree
  pub above : tree.snapshot < version
  pub within : version ≤ length s.history

-- What is kept stands, the entries are the same, and each unit's attempt began where it did: as where a claim is given out or ends.
pub record Rests (old new : Shared) : Type 0 where
  pub stands : Stands new
  pub history : new.history ≡ old.history
  pub ages : (u : Name) → age_of new u ≡ age_of old u

-- A run: results are given back, with these answers, the last one first, and nothing else is done that counts.
pub data Runs (first : Shared) : List Given → Shared → Type 0 where
  begins : Runs first [] first
  gives : (answers : List Given) (mid last : Shared) (result : Returned) (found : Given) → Runs first answers mid → Gave mid result found last → Runs first (found ∷ answers) last
  rests : (answers : List Given) (mid last : Shared) → Runs first answers mid → Rests mid last → Runs first answers last
