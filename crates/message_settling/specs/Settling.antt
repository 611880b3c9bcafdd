-- Turns whose begin is held, and that are definite once their message is settled.
use Rattle.std.specs.Prelude.{◌≡◌, Bool, Option, None, Some, false, is_some, true}
use Rattle.std.specs.Option.{option_map}
use Rattle.serial_model.specs.declared.actor_state.ActorState.{ActorState}
use Rattle.shared_world.specs.rows.Leading.{settles_now}
use Rattle.unit_table.specs.Board.{Board, IsPutAt, actor_at, lent_at, piece_at}
use Rattle.unit_table.specs.declared.mark.Mark.{Mark}
use Rattle.unit_table.specs.declared.mark.Mark.TheVariants as mark
use Rattle.unit_table.specs.declared.mark.Work.TheVariants as work
use Rattle.unit_table.specs.declared.unit.Unit.{Unit}
use Rattle.value_core.specs.Named.{Name, made_by}

-- an actor is there, and that is the turn of it whose begin is held
pub record IsBegunTurn (b : Board) (a turn : Name) : Type 0 where
  pub actor : ActorState
  pub there : actor_at b a ≡ Some actor
  pub called : turn ≡ made_by a actor.turns

-- a turn of that mark has another one once it is definite
abbrev pub changes_mark : Bool → Mark → Bool
changes_mark free (mark.Waiting on) = true
changes_mark free (mark.Ready work.Eval) = free
changes_mark free m = false

abbrev pub changes : Bool → Option Unit → Bool
changes free None = false
changes free (Some x) = changes_mark free x.mark

-- the turn is ready to settle; where a claim on it is out it stays ready for what it was
abbrev pub MarksSettled : Name → Board → Board → Type 0
MarksSettled turn old new = IsPutAt turn (option_map (settles_now (is_some (lent_at old turn))) (piece_at old turn)) old new
