-- What becomes of actors and of their mail.
use Rattle.std.specs.Prelude.{◌≡◌, ◌||◌, ◌++◌, ◌∷◌, [], ℕ, List, Option, None, Some, Bool, true, false, is_some}
use Rattle.std.specs.Option.{option_map}
use Rattle.actor_mailbox.specs.declared.message.Message.{Message}
use Rattle.actor_mails.specs.Mails.{Mail, IsMailed, mail_at}
use Rattle.serial_model.specs.declared.actor_state.ActorState.{ActorState}
use Rattle.serial_model.specs.declared.effect.Effect.{Effect}
use Rattle.serial_model.specs.Step.{after_turn, answered, idle, next_made, with_made}
use Rattle.shared_world.specs.declared.given.Given.{Given}
use Rattle.shared_world.specs.rows.Pieces.{Settles}
use Rattle.shared_world.specs.Shared.{Shared, unit_state}
use Rattle.unit_table.specs.Board.{Board, IsPutAt, piece_at}
use Rattle.unit_table.specs.declared.mark.Mark.{Mark}
use Rattle.unit_table.specs.declared.mark.Mark.TheVariants as mark
use Rattle.unit_table.specs.declared.mark.Work.TheVariants as work
use Rattle.unit_table.specs.declared.piece.Actor.{Actor}
use Rattle.unit_table.specs.declared.piece.Piece.{Piece}
use Rattle.unit_table.specs.declared.piece.Piece.TheVariants as piece
use Rattle.unit_table.specs.declared.unit.Unit.{Unit}
use Rattle.value_core.specs.declared.value.Value.{Value}
use Rattle.value_core.specs.declared.value.Value.TheVariants as value
use Rattle.value_core.specs.Named.{Name, Named, named}
use Rattle.world_model.specs.Message.{settled}
use Rattle.world_model.specs.rows.Commits.{effects_actors}

-- an actor has a turn where the message of one is taken whose begin is held, or where it is busy
abbrev pub has_turn : Named Message → Name → ActorState → Bool
has_turn taken a state = is_some (named a taken) || state.busy

-- an actor with mail that has no turn can begin one; another one rests
abbrev pub actor_mark : Bool → List Message → Mark
actor_mark true mail = mark.Resting
actor_mark false [] = mark.Resting
actor_mark false (m ∷ ms) = mark.Ready work.Begin

-- an actor of that state, with that mail
abbrev pub actor_with : ActorState → List Message → Piece
actor_with state mail = piece.Actor (record { state = state; mark = actor_mark state.busy mail })

-- the mark of an idle actor that rests, once there is mail
abbrev pub mark_roused : Bool → Mark → Mark
mark_roused false mark.Resting = mark.Ready work.Begin
mark_roused busy m = m

-- an idle actor that rests can begin a turn, once there is mail; anything else is as it was
abbrev pub roused : Piece → Piece
roused (piece.Actor actor) = piece.Actor (record actor { mark = mark_roused actor.state.busy actor.mark })
roused p = p

-- it can, unless a turn of it is begun
abbrev pub roused_unless : Bool → Option Piece → Option Piece
roused_unless true found = found
roused_unless false found = option_map roused found

-- Settled: the message is the last of that actor's mail
pub record Sends (old : Shared) (u : Name) (x : Unit) (to : Name) (args : List Value) (found : Given) (new : Shared) : Type 0 where
  pub mails : Mail
  pub mailed : IsMailed to (mail_at old.mails to ++ settled u args ∷ []) old.mails mails
  pub board : Board
  pub rouses : IsPutAt to (roused_unless (is_some (named to old.taken)) (piece_at old.board to)) old.board board
  pub settles : Settles (record old { board = board; mails = mails }) u x (answered (unit_state x) value.Nil) found new

-- Settled: an idle actor is there, and the unit goes on with its address
pub record Spawns (old : Shared) (u : Name) (x : Unit) (behaviour : ℕ) (state : List Value) (found : Given) (new : Shared) : Type 0 where
  pub none : piece_at old.board (next_made u (unit_state x)) ≡ None
  pub board : Board
  pub put : IsPutAt (next_made u (unit_state x)) (Some (actor_with (idle behaviour state) (mail_at old.mails (next_made u (unit_state x))))) old.board board
  pub settles : Settles (record old { board = board }) u x (answered (with_made (unit_state x)) (value.Actor (next_made u (unit_state x)))) found new

-- Settled: the turn is finished; its actor is idle, and has become what was said
pub record FinishesTurn (old : Shared) (u : Name) (x : Unit) (a : Name) (v : Value) (found : Given) (new : Shared) : Type 0 where
  pub actor : Actor
  pub there : piece_at old.board a ≡ Some (piece.Actor actor)
  pub board : Board
  pub freed : IsPutAt a (Some (actor_with (after_turn (unit_state x).becomes actor.state) (mail_at old.mails a))) old.board board
  pub settles : Settles (record old { board = board }) u x (record (unit_state x) { finished = Some v }) found new

-- the actor that these effects make under a name, where they make one
abbrev pub spawned : List Effect → Name → Option ActorState
spawned effects = effects_actors effects (λ name. None)

-- what stands under a name after effects: a new actor; or what stood there, which has mail now where something is put last in it
abbrev pub acted : Bool → Option ActorState → List Message → List Message → Option Piece → Option Piece
acted begun (Some state) last mail found = Some (actor_with state mail)
acted begun None [] mail found = found
acted begun None (m ∷ ms) mail found = roused_unless begun found
