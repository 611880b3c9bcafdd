-- The turns that hang on what is gone, which go one after another.
use Rattle.std.specs.Prelude.{◌≡◌, ◌&&◌, ◌∷◌, [], Bool, IfSome, List, None, Option, Some, cond, false, is_some, not, reverse, true}
use Rattle.actor_mailbox.specs.declared.message.Message.{Message}
use Rattle.attempt_undoing.specs.Dropping.{GoneEnds, IsUnitGone, task_gone_where}
use Rattle.attempt_undoing.specs.Hanging.{effect_receivers, sends_on}
use Rattle.attempt_undoing.specs.Sends.{SendsGone}
use Rattle.serial_model.specs.declared.effect.Effect.{Effect}
use Rattle.shared_world.specs.Ahead.{Ahead}
use Rattle.shared_world.specs.rows.Attempts.{IsWithout}
use Rattle.shared_world.specs.Shared.{Shared}
use Rattle.task_fork_join.specs.Attempt.{Attempt}
use Rattle.tentative_turn.specs.Sending.{request_receivers}
use Rattle.unit_table.specs.Board.{Board, piece_at, unit_at}
use Rattle.value_core.specs.Named.{Name, Named, named}

-- ---- which turns hang
-- nothing is taken of the actor whose turn it is, and the begin of that is held
abbrev pub hangs_by : Named Message → Option Name → Bool
hangs_by taken None = false
hangs_by taken (Some actor) = not (is_some (named actor taken))

-- so it is, and the unit of the turn is there
abbrev pub still_hangs : Named Message → Board → Name → Ahead → Bool
still_hangs taken board turn h = hangs_by taken h.takes && is_some (unit_at board turn)

-- it is so of that one of the turns
abbrev pub IsHanging : Named Ahead → Named Message → Board → Name → Ahead → Type 0
IsHanging aheads taken board turn h = (named turn aheads ≡ Some h) × (still_hangs taken board turn h ≡ true)

-- it is so of no turn
abbrev pub NoneHangs : Named Ahead → Named Message → Board → Type 0
NoneHangs aheads taken board = (turn : Name) (h : Ahead) → named turn aheads ≡ Some h → still_hangs taken board turn h ≡ false

-- the turns are left whose unit is there
abbrev pub StandingLeft : Board → Named Ahead → Named Ahead → Type 0
StandingLeft board old new = (turn : Name) → named turn new ≡ cond (is_some (unit_at board turn)) (named turn old) None

-- ---- what goes with an attempt
-- what its root has sent is gone, and then its tasks are, with the claims on them
pub record TreeGone (tree : Attempt) (old new : Shared) : Type 0 where
  pub effects : List Effect
  pub done : IfSome (named tree.root tree.tasks) (λ t. effects ≡ t.log.log.effects)
  pub mid : Shared
  pub sends : SendsGone (sends_on tree.root (effect_receivers (reverse effects))) old mid
  pub mid_is : mid ≡ record old { board = mid.board; mails = mid.mails; taken = mid.taken }
  pub pieces : (n : Name) → piece_at new.board n ≡ task_gone_where (is_some (named n tree.tasks)) (piece_at mid.board n)
  pub claims : GoneEnds mid.board new.board
  pub new_is : new ≡ record mid { board = new.board }

-- the same of the attempt of a unit, where it has one
abbrev pub TreeGoneOf : Option Attempt → Shared → Shared → Type 0
TreeGoneOf None old new = new ≡ old
TreeGoneOf (Some tree) old new = TreeGone tree old new

-- the attempt of the unit is gone, where it has one, with all of that
pub record TriedGone (unit : Name) (old new : Shared) : Type 0 where
  pub attempts : IsWithout unit old.attempts new.attempts
  pub tree : TreeGoneOf (named unit old.attempts) (record old { attempts = new.attempts }) new

-- ---- what goes with a turn
-- what it holds that is sent is gone, then its attempt, and then its unit
pub record TurnGone (turn : Name) (h : Ahead) (old new : Shared) : Type 0 where
  pub held : Shared
  pub sends : SendsGone (sends_on turn (request_receivers h.held)) old held
  pub held_is : held ≡ record old { board = held.board; mails = held.mails; taken = held.taken }
  pub tried : Shared
  pub attempt : TriedGone turn held tried
  pub unit : IsUnitGone turn tried.board new.board
  pub new_is : new ≡ record tried { board = new.board }

-- these turns have gone, the last one first: each hung on what was gone then
pub data Going (aheads : Named Ahead) (old : Shared) : List Name → Shared → Type 0 where
  none : {turns : List Name} {new : Shared} → turns ≡ [] → new ≡ old → Going aheads old turns new
  next : {turns : List Name} {new : Shared} (turn : Name) (h : Ahead) (rest : List Name) (mid : Shared) → turns ≡ turn ∷ rest → Going aheads old rest mid → IsHanging aheads mid.taken mid.board turn h → TurnGone turn h mid new → Going aheads old turns new

-- all have gone that did
pub record HangingGone (aheads : Named Ahead) (old new : Shared) : Type 0 where
  pub turns : List Name
  pub going : Going aheads old turns new
  pub none : NoneHangs aheads new.taken new.board
