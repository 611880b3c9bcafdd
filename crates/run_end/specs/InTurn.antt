-- In which order one thread settles.
use Rattle.std.specs.Prelude.{◌≡◌, ◌++◌, ◌∷◌, ◌⊎◌, [], false, true, ⊤, IfSome, IsSome, List, None, Option, Some, ℕ}
use Rattle.std.specs.declared.cmp.Ordering.TheVariants.{Less}
use Rattle.std.specs.Option.{option_and_then}
use Rattle.actor_mailbox.specs.BySender.{SendersRise}
use Rattle.actor_mails.specs.Firsts.{IsFirstWithMail}
use Rattle.actor_mails.specs.Mails.{mail_at}
use Rattle.serial_model.specs.declared.entry.Entry.{Entry}
use Rattle.serial_model.specs.First.{first_of}
use Rattle.serial_model.specs.Replay.{replay}
use Rattle.serial_model.specs.State.{Setup, State}
use Rattle.serial_model.specs.Step.{step}
use Rattle.shared_world.specs.Rest.{AreFinished}
use Rattle.shared_world.specs.Shared.{Shared}
use Rattle.unit_table.specs.Board.{Board, ComesAfter, is_unfinished, piece_at}
use Rattle.unit_table.specs.declared.piece.Piece.{Piece}
use Rattle.unit_table.specs.declared.piece.Piece.TheVariants as piece
use Rattle.unit_table.specs.Piece.{says_finished}
use Rattle.value_core.specs.Name.{after_cmp}
use Rattle.value_core.specs.Named.{Name, made_by, named}

-- The entry is in turn: it is the one that one thread settles next.
abbrev pub IsInTurn : State → Entry → Type 0
IsInTurn s entry = first_of s ≡ Some entry

-- each of the entries is in turn, in the state to which those before it lead
abbrev pub AreInTurn : Setup → State → List Entry → Type 0
AreInTurn setup s [] = ⊤
AreInTurn setup s (entry ∷ entries) = IsInTurn s entry × IfSome (step setup s entry) (λ t. AreInTurn setup t entries)

-- the same is run, and the history goes on from where it was by entries each of which is in turn
pub record GoesInTurn (old new : Shared) : Type 0 where
  pub setup : new.setup ≡ old.setup
  pub more : List Entry
  pub history : new.history ≡ old.history ++ more
  pub in_turn : IfSome (replay old.setup old.history) (λ s. AreInTurn old.setup s more)

-- no turn runs ahead of the history, and no message was taken of which that knows nothing
pub record IsLevel (s : Shared) : Type 0 where
  pub aheads : (u : Name) → named u s.aheads ≡ None
  pub taken : (a : Name) → named a s.taken ≡ None

-- ---- a walk over the pieces in after-order
-- the name is the other one, or comes before it in after-order
abbrev pub IsUpTo : Name → Name → Type 0
IsUpTo u other = (u ≡ other) ⊎ (after_cmp u other ≡ Less)

-- Nothing runs ahead, each unit that is not finished comes behind what was passed, and a unit that has an attempt is the first of them.
pub record IsWalked (s : Shared) (passed : Option Name) : Type 0 where
  pub level : IsLevel s
  pub behind : (u : Name) → is_unfinished s.board u ≡ true → ComesAfter passed u
  pub tried : (v : Name) → IsSome (named v s.attempts) → (u : Name) → is_unfinished s.board u ≡ true → IsUpTo v u

-- so it is unless the run has ended
abbrev pub IsWalkedOr : Shared → Option Name → Type 0
IsWalkedOr s passed = s.end ≡ None → IsWalked s passed

-- the name is up to each unit that is not finished
abbrev pub IsUpToOpen : Board → Name → Type 0
IsUpToOpen b name = (u : Name) → is_unfinished b u ≡ true → IsUpTo name u

-- a unit or a task that is not finished
abbrev pub IsOpenPiece : Option Piece → Type 0
IsOpenPiece None = ⊥
IsOpenPiece (Some (piece.Unit x)) = says_finished x.mark ≡ false
IsOpenPiece (Some (piece.Task m)) = says_finished m ≡ false
IsOpenPiece (Some (piece.Actor a)) = ⊥

-- each unit is finished, the actor is the first that has mail, and the senders of its mail rise
pub record IsDueTurn (s : Shared) (actor : Name) : Type 0 where
  pub finished : AreFinished s.board
  pub mailed : IsFirstWithMail s.mails actor
  pub rises : SendersRise (mail_at s.mails actor)

-- The step of the piece is in turn, where it is the first: a unit or a task is not finished, or the turn of an actor is due.
abbrev pub IsDue : Shared → Name → Type 0
IsDue s name = IsOpenPiece (piece_at s.board name) ⊎ IsDueTurn s name

-- how many things the piece has made, where it is a unit; and how many turns it began, where it is an actor
abbrev pub number_in : Piece → Option ℕ
number_in (piece.Unit x) = Some x.made
number_in (piece.Task m) = None
number_in (piece.Actor a) = Some a.state.turns

abbrev pub number_at : Board → Name → Option ℕ
number_at b name = option_and_then number_in (piece_at b name)

-- what the piece makes next comes behind what is passed
abbrev pub IsMadeBehind : Board → Name → Option Name → Type 0
IsMadeBehind b name left = IfSome (number_at b name) (λ k. ComesAfter left (made_by name k))

-- What the piece makes next comes behind what is still passed, and so does all that came behind what was passed.
pub record IsLeft (b : Board) (name : Name) (passed left : Option Name) : Type 0 where
  pub made : IsMadeBehind b name left
  pub behind : (u : Name) → ComesAfter passed u → ComesAfter left u
