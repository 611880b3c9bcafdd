-- What becomes of all pieces, before any of it is done.
use Rattle.std.specs.Prelude.{◌≡◌, ◌<◌, IsSome, None, Option, Some}
use Rattle.actor_mails.specs.Mails.{Boxes, room_at}
use Rattle.shared_world.specs.Shared.{Shared}
use Rattle.unit_table.specs.Board.{Board, ComesAfter, IsNextAfter, piece_at}
use Rattle.value_core.specs.Named.{Name, Named, named, with_named}
use Rattle.world_reset.specs.Back.{IsBackFor}
use Rattle.world_reset.specs.declared.back.Back.{Back}

-- the piece under that name is the first behind the other one, or none is behind it
abbrev pub IsNextOr : Board → Option Name → Option Name → Type 0
IsNextOr b passed None = (other : Name) → ComesAfter passed other → piece_at b other ≡ None
IsNextOr b passed (Some next) = IsNextAfter b passed next

-- where the actor took a message, there is room for it
abbrev pub HasRoom : Shared → Boxes → Name → Type 0
HasRoom s mails u = IsSome (named u s.taken) → 0 < room_at mails u

-- that is what becomes of the piece, and there is room for that
pub record IsPlanned (s : Shared) (mails : Boxes) (u : Name) (b : Back) : Type 0 where
  pub back : IsBackFor s u b
  pub room : HasRoom s mails u

-- nothing stands there, and no message of it is taken
pub record IsVacant (s : Shared) (u : Name) : Type 0 where
  pub none : piece_at s.board u ≡ None
  pub free : named u s.taken ≡ None

-- what is planned for a name, where something stands there
abbrev pub PlannedAt : Shared → Boxes → Name → Option Back → Type 0
PlannedAt s mails u None = IsVacant s u
PlannedAt s mails u (Some b) = IsPlanned s mails u b

abbrev pub ArePlanned : Shared → Boxes → Named Back → Type 0
ArePlanned s mails plan = (u : Name) → PlannedAt s mails u (named u plan)

-- so it is but for what comes after that name
abbrev pub PlannedUpTo : Shared → Boxes → Option Name → Name → Option Back → Type 0
PlannedUpTo s mails passed u None = IsSome (piece_at s.board u) → ComesAfter passed u
PlannedUpTo s mails passed u (Some b) = IsPlanned s mails u b

-- it is planned for that name too
pub record IsPlannedAlso (s : Shared) (mails : Boxes) (name : Name) (old new : Named Back) : Type 0 where
  pub back : Back
  pub is : IsPlanned s mails name back
  pub put : new ≡ with_named old name back
