-- What a unit does to actors.
use Rattle.std.specs.Prelude.{◌≡◌, ◌&&◌, Bool, None, Some, false, not, suc, true}
use Rattle.serial_model.specs.declared.actor_state.ActorState.{ActorState}
use Rattle.serial_model.specs.Step.{after_turn}
use Rattle.shared_world.specs.Shared.{Shared, unit_state}
use Rattle.unit_table.specs.Board.{Board, HasPlace, piece_at, unit_at}
use Rattle.unit_table.specs.declared.mark.Mark.{Mark}
use Rattle.unit_table.specs.declared.mark.Mark.TheVariants as mark
use Rattle.unit_table.specs.declared.piece.Actor.{Actor}
use Rattle.unit_table.specs.declared.piece.Piece.{Piece}
use Rattle.unit_table.specs.declared.piece.Piece.TheVariants as piece
use Rattle.unit_table.specs.declared.unit.Unit.{Unit}
use Rattle.value_core.specs.Named.{Name}
use Rattle.world_steps.specs.declared.units.Made.{Made}
use Rattle.world_steps.specs.Moved.{IsMadeNext}

-- the next thing that the unit makes: nothing stands under its name, and there is a place for it
pub record IsMaking (s : Shared) (name : Name) (m : Made) : Type 0 where
  pub made : (x : Unit) → unit_at s.board name ≡ Some x → IsMadeNext name x.made m
  pub none : piece_at s.board m.name ≡ None
  pub place : HasPlace s.board m.name

-- a piece of that mark rests
abbrev pub says_resting : Mark → Bool
says_resting mark.Resting = true
says_resting _ = false

-- an idle actor that rests
abbrev pub is_at_rest : Piece → Bool
is_at_rest (piece.Actor actor) = not actor.state.busy && says_resting actor.mark
is_at_rest p = false

-- an actor that rests
pub record RestsAt (b : Board) (a : Name) : Type 0 where
  pub actor : Actor
  pub there : piece_at b a ≡ Some (piece.Actor actor)
  pub rests : actor.mark ≡ mark.Resting

-- the actor rests, and this is what it is after that turn
pub record IsFreed (s : Shared) (name a : Name) (after : ActorState) : Type 0 where
  pub at : RestsAt s.board a
  pub after_is : (x : Unit) → unit_at s.board name ≡ Some x → after ≡ after_turn (unit_state x).becomes at.actor.state
