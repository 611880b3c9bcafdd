-- How what a commit has sent is settled, one message after the other.
use Rattle.std.specs.Prelude.{◌≡◌, ◌+◌, ◌≤◌, ◌∷◌, [], ℕ, Bool, List, Option, None, Some, cond, false, flat_map, is_some, not, true}
use Rattle.std.specs.Option.{IsSome, option_map}
use Rattle.actor_mailbox.specs.declared.message.Message.{Message}
use Rattle.actor_mailbox.specs.Messages.{definite, settle_one}
use Rattle.actor_mails.specs.Mails.{Boxes, IsMailed, KeepsRoomBut, Mail, held, mail_at, room_at}
use Rattle.attempt_commits.specs.declared.deeds.Letter.{Letter}
use Rattle.message_settling.specs.Settling.{IsBegunTurn, MarksSettled}
use Rattle.shared_world.specs.rows.Actors.{roused_unless}
use Rattle.shared_world.specs.rows.Commits.{definite_if, hangs_on}
use Rattle.shared_world.specs.rows.Leading.{IsChanged}
use Rattle.unit_table.specs.Board.{Board, IsPutAt, lent_at, piece_at}
use Rattle.unit_table.specs.declared.piece.Piece.{Piece}
use Rattle.value_core.specs.Named.{Name, Named, named, same_name}
use Rattle.world_model.specs.Message.{settle_or_put}
use Rattle.world_model.specs.rows.Effects.{has_put}

-- the messages to that actor, in order
abbrev pub letters_to : Name → List Letter → List Message
letters_to a letters = flat_map (λ (l : Letter). cond (same_name a l.to) (l.message ∷ []) []) letters

-- ---- the turns on what an attempt has put
-- the actor took a message that depends on the root, and that is the turn of it whose begin is held
pub record HasTurn (b : Board) (turns : Named Name) (a : Name) : Type 0 where
  pub turn : Name
  pub there : named a turns ≡ Some turn
  pub begun : IsBegunTurn b a turn

-- so it is for each of these receivers
abbrev pub AreTurns : Name → Named ℕ → Named Message → Board → Named Name → Type 0
AreTurns on counts taken b turns = (a : Name) → hangs_on on (named a taken) ≡ true → IsSome (named a counts) → HasTurn b turns a

-- the turn of that one is among them, where it has one; those that were among them still are
pub record IsTurnAdded (on to : Name) (taken : Named Message) (b : Board) (old new : Named Name) : Type 0 where
  pub here : hangs_on on (named to taken) ≡ true → HasTurn b new to
  pub others : (a : Name) → HasTurn b old a → HasTurn b new a

-- ---- one message
-- where nothing stood nothing does
abbrev pub StaysNone : Board → Board → Type 0
StaysNone old new = (q : Name) → piece_at old q ≡ None → piece_at new q ≡ None

-- what stands there, which has mail now, or not
abbrev pub roused_if : Bool → Bool → Option Piece → Option Piece
roused_if false begun found = found
roused_if true begun found = roused_unless begun found

-- the message that the receiver took is definite, and so is its turn; where nothing stood nothing does
pub record IsTakenSettled (turns : Named Name) (to : Name) (taken now : Named Message) (old new : Board) : Type 0 where
  pub message : (m : Message) → named to taken ≡ Some m → IsChanged to (Some (definite m)) taken now
  pub turn : (t : Name) → named to turns ≡ Some t → MarksSettled t old new
  pub none : StaysNone old new

-- the first message in the receiver's mail that depends on the root is definite; where there is none, this one is the last, and the
-- receiver has mail now
pub record IsMailSettled (on : Name) (l : Letter) (begun : Bool) (boxes after : Boxes) (old new : Board) : Type 0 where
  pub mailed : IsMailed l.to (settle_or_put (same_name on) l.message (mail_at (held boxes) l.to)) (held boxes) (held after)
  pub less : room_at boxes l.to ≤ room_at after l.to + 1
  pub kept : KeepsRoomBut l.to boxes after
  pub pieces : IsPutAt l.to (roused_if (not (has_put on (mail_at (held boxes) l.to))) begun (piece_at old l.to)) old new

-- the message is settled with the turn that took it, or in the mail
pub data IsSettled (on : Name) (turns : Named Name) (l : Letter) (taken now : Named Message) (boxes after : Boxes) (old new : Board) : Type 0 where
  with_turn : hangs_on on (named l.to taken) ≡ true → after ≡ boxes → IsTakenSettled turns l.to taken now old new → IsSettled on turns l taken now boxes after old new
  in_mail : hangs_on on (named l.to taken) ≡ false → now ≡ taken → IsMailSettled on l (is_some (named l.to taken)) boxes after old new → IsSettled on turns l taken now boxes after old new

-- ---- all messages
-- what is taken of an actor, once these messages to it are settled
abbrev pub taken_after : Name → List Message → Option Message → Option Message
taken_after on [] taken = taken
taken_after on (m ∷ ms) taken = option_map (settle_one (same_name on)) taken

-- those of them that are left for its mail: all but the first, where what is taken depends on the root
abbrev pub left_for_mail : Name → Option Message → List Message → List Message
left_for_mail on taken [] = []
left_for_mail on taken (m ∷ ms) = cond (hangs_on on taken) ms (m ∷ ms)

-- mail, once these are settled in it
abbrev pub mail_after : Name → List Message → List Message → List Message
mail_after on [] mail = mail
mail_after on (m ∷ ms) mail = mail_after on ms (settle_or_put (same_name on) m mail)

-- those of them that are put last
abbrev pub put_last : Name → List Message → List Message → List Message
put_last on [] mail = []
put_last on (m ∷ ms) mail = cond (has_put on mail) (put_last on ms (settle_or_put (same_name on) m mail)) (m ∷ put_last on ms (settle_or_put (same_name on) m mail))

-- whether the first of them is settled with a turn
abbrev pub is_with_turn : Name → Option Message → List Message → Bool
is_with_turn on taken [] = false
is_with_turn on taken (m ∷ ms) = hangs_on on taken

-- whether a message to the actor is, where that is one
abbrev pub turn_settles : Name → Named Message → List Letter → Option Name → Bool
turn_settles on taken letters None = false
turn_settles on taken letters (Some a) = is_with_turn on (named a taken) (letters_to a letters)

-- what stands there, which has mail now where these are any messages, unless a turn of it is begun
abbrev pub reached : Bool → List Message → Option Piece → Option Piece
reached begun [] found = found
reached begun (m ∷ ms) found = roused_unless begun found

-- what stands under a name, once the messages are settled; these are the actors of the turns whose begin is held
abbrev pub piece_after : Name → (Name → Option Name) → List Letter → Named Message → Mail → Bool → Name → Option Piece → Option Piece
piece_after on of letters taken mails lent q found =
    reached (is_some (named q taken)) (put_last on (left_for_mail on (named q taken) (letters_to q letters)) (mail_at mails q)) (definite_if (turn_settles on taken letters (of q)) lent found)

-- that is the turn of the actor, and no other one is
pub record IsTurnOf (turns : Named Name) (of : Name → Option Name) (a : Name) : Type 0 where
  pub turn : Name
  pub there : named a turns ≡ Some turn
  pub own : of turn ≡ Some a
  pub only : (q : Name) → of q ≡ Some a → q ≡ turn

-- so it is for each receiver that took a message which depends on the root
abbrev pub AreTurnsOf : Name → List Letter → Named Message → Named Name → (Name → Option Name) → Type 0
AreTurnsOf on letters taken turns of = (a : Name) → is_with_turn on (named a taken) (letters_to a letters) ≡ true → IsTurnOf turns of a

-- Each message is settled: with the turn that took one which depends on the root, or in the mail, or behind it. Where nothing stood nothing
-- does.
pub record AreSettled (on : Name) (turns : Named Name) (letters : List Letter) (taken now : Named Message) (mails after : Mail) (old new : Board) : Type 0 where
  pub taken_so : (a : Name) → named a now ≡ taken_after on (letters_to a letters) (named a taken)
  pub mailed : (a : Name) → mail_at after a ≡ mail_after on (left_for_mail on (named a taken) (letters_to a letters)) (mail_at mails a)
  pub pieces : (of : Name → Option Name) → AreTurnsOf on letters taken turns of → (q : Name) → piece_at new q ≡ piece_after on of letters taken mails (is_some (lent_at old q)) q (piece_at old q)
  pub none : StaysNone old new
