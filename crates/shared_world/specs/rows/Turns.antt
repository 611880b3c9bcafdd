-- How an actor begins its turn.
use Rattle.std.specs.Prelude.{◌≡◌, ◌==◌, ◌++◌, ◌∷◌, [], List, None, Some, Bool, true, false, suc}
use Rattle.std.specs.List.{slice_get}
use Rattle.actor_mailbox.specs.declared.message.Message.{Message}
use Rattle.actor_mails.specs.Mails.{IsMailed, mail_at}
use Rattle.core_syntax.specs.declared.behaviour.Behaviour.{Behaviour}
use Rattle.serial_model.specs.declared.actor_state.ActorState.{ActorState}
use Rattle.serial_model.specs.declared.end.End.TheVariants as ending
use Rattle.serial_model.specs.declared.entry.Entry.TheVariants.{Take}
use Rattle.serial_model.specs.State.{new_unit}
use Rattle.shared_world.specs.declared.given.Given.{Given}
use Rattle.shared_world.specs.declared.given.Given.TheVariants as given
use Rattle.shared_world.specs.rows.Pieces.{ClaimsEnd, EndsBy, IsUnitAt}
use Rattle.shared_world.specs.Shared.{Shared}
use Rattle.unit_table.specs.Board.{Board, IsPutAt, piece_at}
use Rattle.unit_table.specs.declared.mark.Mark.TheVariants as mark
use Rattle.unit_table.specs.declared.mark.Work.TheVariants as work
use Rattle.unit_table.specs.declared.piece.Actor.{Actor}
use Rattle.unit_table.specs.declared.piece.Piece.TheVariants as piece
use Rattle.unit_table.specs.declared.unit.Unit.{Unit}
use Rattle.value_core.specs.Named.{Name, made_by, named, same_name}
use Rattle.world_model.specs.rows.Turns.{busy_with}

-- an idle actor of that behaviour, with no turn whose begin is held, and a settled message
pub record CanTake (old : Shared) (a : Name) (actor : ActorState) (m : Message) : Type 0 where
  pub idle : actor.busy ≡ false
  pub free : named a old.taken ≡ None
  pub definite : m.depends ≡ None
  pub behaviour : Behaviour
  pub behaves : slice_get old.setup.program.behaviours actor.behaviour ≡ Some behaviour

-- Settled: the actor takes the first message of its mail, and its turn on that can go on
pub record Takes (old : Shared) (a : Name) (actor : ActorState) (m : Message) (rest : List Message) (behaviour : Behaviour) (found : Given) (new : Shared) : Type 0 where
  pub found_is : found ≡ given.Settled (Take a m.sender)
  pub none : piece_at old.board (made_by a actor.turns) ≡ None
  pub turn : Unit
  pub begins : IsUnitAt old.setup turn turn (new_unit (Some a) behaviour.body (actor.state ++ m.args)) (mark.Ready work.Eval)
  pub board : Board
  pub busy : IsPutAt a (Some (piece.Actor (record { state = busy_with actor; mark = mark.Resting }))) old.board board
  pub put : IsPutAt (made_by a actor.turns) (Some (piece.Unit turn)) board new.board
  pub mailed : IsMailed a rest old.mails new.mails
  pub others : new ≡ record old { history = old.history ++ Take a m.sender ∷ []; board = new.board; mails = new.mails; made = suc old.made }

-- where the limit allows one unit more
abbrev pub TakesIfAllowed : Shared → Name → ActorState → Message → List Message → Behaviour → Bool → Given → Shared → Type 0
TakesIfAllowed old a actor m rest behaviour true found new = EndsBy old (Take a m.sender) ending.UnitsSpent found new
TakesIfAllowed old a actor m rest behaviour false found new = Takes old a actor m rest behaviour found new

-- an actor with mail
pub record GaveActor (old : Shared) (a : Name) (found : Given) (new : Shared) : Type 0 where
  pub actor : Actor
  pub there : piece_at old.board a ≡ Some (piece.Actor actor)
  pub first : Message
  pub rest : List Message
  pub mail : mail_at old.mails a ≡ first ∷ rest
  pub can : CanTake old a actor.state first
  pub gives : TakesIfAllowed old a actor.state first rest can.behaviour (old.made == old.setup.limits.units) found new
  pub claims : ClaimsEnd (λ q. same_name q a) old new
