-- How an actor begins its turn.
use Rattle.std.specs.Prelude.{◌≡◌, ◌++◌, ◌∷◌, [], Err, List, Ok, Option, Result, Some, None, false, suc, true}
use Rattle.std.specs.List.{slice_get}
use Rattle.std.specs.declared.alloc.AllocError.{AllocError}
use Rattle.actor_mailbox.specs.declared.message.Message.{Message}
use Rattle.actor_mails.specs.Mails.{IsMailed, mail_at}
use Rattle.core_syntax.specs.declared.behaviour.Behaviour.{Behaviour}
use Rattle.eval_step.specs.Evaluation.{Evaluation}
use Rattle.serial_model.specs.declared.actor_state.ActorState.{ActorState}
use Rattle.serial_model.specs.declared.entry.Entry.{Entry}
use Rattle.shared_world.specs.declared.given.Given.{Given}
use Rattle.shared_world.specs.declared.given.Given.TheVariants as given
use Rattle.shared_world.specs.rows.Leading.{GaveTentative}
use Rattle.shared_world.specs.rows.Turns.{GaveActor}
use Rattle.shared_world.specs.Shared.{Shared}
use Rattle.shared_world.specs.Stands.{IsMachine}
use Rattle.unit_table.specs.Board.{Board, IsPutAt, IsUnlent, piece_at}
use Rattle.unit_table.specs.declared.mark.Mark.TheVariants as mark
use Rattle.unit_table.specs.declared.mark.Work.TheVariants as work
use Rattle.unit_table.specs.declared.piece.Actor.{Actor}
use Rattle.unit_table.specs.declared.piece.Piece.TheVariants as piece
use Rattle.unit_table.specs.declared.unit.Unit.{Unit}
use Rattle.unit_table.specs.declared.unit.UnitKind.TheVariants as kind
use Rattle.value_core.specs.Named.{Name, made_by, named}
use Rattle.world_model.specs.Message.{is_tentative}
use Rattle.world_model.specs.rows.Turns.{busy_with}
use Rattle.actor_turns.specs.declared.turns.Due.{Due}
use Rattle.actor_turns.specs.declared.turns.Due.TheVariants as due
use Rattle.actor_turns.specs.declared.turns.Turning.{Turning}
use Rattle.world_steps.specs.Kept.{IsSameBut}

-- an idle actor of that behaviour, with no turn whose begin is held
pub record CanBegin (s : Shared) (a : Name) (actor : ActorState) : Type 0 where
  pub idle : actor.busy ≡ false
  pub free : named a s.taken ≡ None
  pub behaviour : Behaviour
  pub behaves : slice_get s.setup.program.behaviours actor.behaviour ≡ Some behaviour

-- an actor that can begin a turn on the message at its front
pub record IsAtFront (s : Shared) (a : Name) : Type 0 where
  pub actor : Actor
  pub there : piece_at s.board a ≡ Some (piece.Actor actor)
  pub first : Message
  pub rest : List Message
  pub mail : mail_at s.mails a ≡ first ∷ rest
  pub can : CanBegin s a actor.state

-- where that is settled
pub record IsDue (s : Shared) (a : Name) : Type 0 where
  pub front : IsAtFront s a
  pub definite : front.first.depends ≡ None

-- and where it is not
pub record IsDueAhead (s : Shared) (a : Name) : Type 0 where
  pub front : IsAtFront s a
  pub tentative : is_tentative front.first ≡ true

-- the actor can begin a turn so
abbrev pub IsDueSo : Shared → Name → Due → Type 0
IsDueSo s a due.Settled = IsDue s a
IsDueSo s a due.Ahead = IsDueAhead s a

-- how a turn on the message begins
abbrev pub due_by : Option Name → Due
due_by None = due.Settled
due_by (Some on) = due.Ahead

-- the next turn of that actor, on that message
pub record IsTurning (s : Shared) (a : Name) (actor : ActorState) (m : Message) (behaviour : Behaviour) (t : Turning) : Type 0 where
  pub name_is : t.name ≡ made_by a actor.turns
  pub actor_is : t.actor ≡ a
  pub machine : IsMachine s.setup t.machine
  pub body : t.machine.body ≡ behaviour.body
  pub values : t.machine.values ≡ actor.state ++ m.args
  pub answers : t.machine.answers ≡ []
  pub busy : t.busy ≡ busy_with actor
  pub units : t.units ≡ suc s.made

-- a turn that can go on, and has made nothing
abbrev pub turn_of : Name → Name → Evaluation → Unit
turn_of name actor machine = record { name = name; kind = kind.Turn actor; machine = machine; made = 0; becomes = None; mark = mark.Ready work.Eval }

-- the turn has begun
pub record HasBegunTurn (old : Shared) (a : Name) (entry : Entry) (t : Turning) (new : Shared) (found : Given) : Type 0 where
  pub found_is : found ≡ given.Settled entry
  pub board : Board
  pub busy : IsPutAt a (Some (piece.Actor (record { state = t.busy; mark = mark.Resting }))) old.board board
  pub put : IsPutAt t.name (Some (piece.Unit (turn_of t.name t.actor t.machine))) board new.board
  pub unlent : IsUnlent a old.board new.board
  pub mailed : (m : Message) (rest : List Message) → mail_at old.mails a ≡ m ∷ rest → IsMailed a rest old.mails new.mails
  pub others : new ≡ record old { history = old.history ++ entry ∷ []; board = new.board; mails = new.mails; made = t.units }

-- the actor takes a settled message; or for want of memory nothing changes
abbrev pub TurnComes : Shared → Name → Shared → Result Given AllocError → Type 0
TurnComes old a new (Ok found) = GaveActor old a found new
TurnComes old a new (Err e) = IsSameBut old new

-- it takes one that is not settled
abbrev pub AheadComes : Shared → Name → Shared → Result Given AllocError → Type 0
AheadComes old a new (Ok found) = GaveTentative old a found new
AheadComes old a new (Err e) = IsSameBut old new
