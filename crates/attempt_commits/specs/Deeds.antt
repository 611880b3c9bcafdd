-- What the effects of a commit do to actors.
use Rattle.std.specs.Prelude.{◌≡◌, ◌≤◌, ◌++◌, [], ℕ, List, Option, None, Some, IfSome, length, map}
use Rattle.std.specs.Option.{IsSome, option_map, option_or}
use Rattle.actor_mailbox.specs.declared.message.Message.{Message}
use Rattle.actor_mails.specs.Mails.{Boxes, Mail, mail_at, room_at}
use Rattle.attempt_commits.specs.declared.deeds.Deeds.{Deeds}
use Rattle.attempt_commits.specs.declared.deeds.Letter.{Letter}
use Rattle.attempt_commits.specs.Settling.{AreSettled, letters_to}
use Rattle.serial_model.specs.declared.actor_state.ActorState.{ActorState}
use Rattle.serial_model.specs.declared.effect.Effect.{Effect}
use Rattle.serial_model.specs.declared.effect.What.{What}
use Rattle.serial_model.specs.Sends.{effects_to, what_sends}
use Rattle.serial_model.specs.State.{UnitState}
use Rattle.shared_world.specs.rows.Actors.{actor_with, spawned}
use Rattle.shared_world.specs.Shared.{becoming_of}
use Rattle.unit_table.specs.Board.{Board, HasPlace, IsPutAt, SameClaims, piece_at, unit_at}
use Rattle.unit_table.specs.declared.piece.Piece.{Piece}
use Rattle.unit_table.specs.declared.piece.Piece.TheVariants as piece
use Rattle.unit_table.specs.declared.unit.Becoming.{Becoming}
use Rattle.unit_table.specs.declared.unit.Unit.{Unit}
use Rattle.value_core.specs.declared.value.Value.{Value}
use Rattle.value_core.specs.Named.{Name, Named, named}
use Rattle.world_model.specs.Message.{settled}
use Rattle.world_model.specs.rows.Commits.{effects_actors, effects_unit, what_actor, what_unit}

-- a settled message of that unit to an actor
abbrev pub letter_of : Name → Name → List Value → Letter
letter_of sender to args = record { to = to; message = settled sender args }

-- so many are counted, none where there is no count
abbrev pub counted : Option ℕ → ℕ
counted None = 0
counted (Some n) = n

abbrev pub count_at : Named ℕ → Name → ℕ
count_at counts a = counted (named a counts)

-- a unit whose actor becomes that at its end, where that is said
abbrev pub turned : Option Becoming → UnitState → UnitState
turned next unit = record unit { becomes = option_or (option_map becoming_of next) unit.becomes }

-- the same, as it is kept
abbrev pub turned_unit : Option Becoming → Unit → Unit
turned_unit next x = record x { becomes = option_or next x.becomes }

-- there are as many messages to each actor as are counted
abbrev pub AreCounted : Deeds → Type 0
AreCounted d = (a : Name) → count_at d.counts.entries a ≡ length (letters_to a d.letters.items)

-- that is what one effect more of the unit does
pub record IsWithDeed (u : Name) (w : What) (old new : Deeds) : Type 0 where
  pub letters : (a : Name) → letters_to a new.letters.items ≡ letters_to a old.letters.items ++ map (settled u) (what_sends a w)
  pub counts : AreCounted old → AreCounted new
  pub actors : (a : Name) → named a new.actors.entries ≡ what_actor w (λ q. named q old.actors.entries) a
  pub becomes : (x : UnitState) → turned new.becomes x ≡ what_unit w (turned old.becomes x)

-- that is what the effects of the unit do, but for those that are left
pub record AreDeedsBut (u : Name) (effects left : List Effect) (d : Deeds) : Type 0 where
  pub letters : (a : Name) → letters_to a d.letters.items ++ map (settled u) (effects_to a left) ≡ map (settled u) (effects_to a effects)
  pub counts : AreCounted d
  pub actors : (a : Name) → effects_actors left (λ q. named q d.actors.entries) a ≡ spawned effects a
  pub becomes : (x : UnitState) → effects_unit left (turned d.becomes x) ≡ effects_unit effects x

-- that is what the effects of the unit do
abbrev pub AreDeeds : Name → List Effect → Deeds → Type 0
AreDeeds u effects d = AreDeedsBut u effects [] d

-- nothing stands under the name, and there is a place for something
pub record IsVacant (b : Board) (name : Name) : Type 0 where
  pub none : piece_at b name ≡ None
  pub place : HasPlace b name

-- so it is for each of the actors
abbrev pub AreVacant : Named ActorState → Board → Type 0
AreVacant actors b = (a : Name) → IsSome (named a actors) → IsVacant b a

-- there is room for so many messages to each actor
abbrev pub CanHold : Named ℕ → Boxes → Type 0
CanHold counts boxes = (a : Name) → count_at counts a ≤ room_at boxes a

-- there is room for the messages
abbrev pub CanHoldAll : List Letter → Boxes → Type 0
CanHoldAll letters boxes = (a : Name) → length (letters_to a letters) ≤ room_at boxes a

-- an actor that begins, with that mail; or what stands there
abbrev pub begun : Option ActorState → List Message → Option Piece → Option Piece
begun None mail found = found
begun (Some state) mail found = Some (actor_with state mail)

-- The actor of the unit becomes what is said; the messages are settled; the actors are there.
pub record AreDone (u on : Name) (turns : Named Name) (d : Deeds) (taken now : Named Message) (mails after : Mail) (old new : Board) : Type 0 where
  pub board : Board
  pub unit : IfSome (unit_at old u) (λ (x : Unit). IsPutAt u (Some (piece.Unit (turned_unit d.becomes x))) old board)
  pub reached : Board
  pub settled : AreSettled on turns d.letters.items taken now mails after board reached
  pub pieces : (a : Name) → piece_at new a ≡ begun (named a d.actors.entries) (mail_at after a) (piece_at reached a)
  pub turned : SameClaims old board
  pub claims : SameClaims old new
