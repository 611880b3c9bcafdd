-- The marks of turns that run ahead.
use Rattle.std.proofs.Common.{◌≡◌, ◌∙◌, Bool, true, false, cond, refl, ap}
use Rattle.std.specs.Option.{option_map}
use Rattle.std.specs.Prelude.{None, Some}
use Rattle.shared_world.specs.rows.Leading.{mark_ahead}
use Rattle.shared_world.specs.rows.Pieces.{IsSet}
use Rattle.shared_world.specs.Shared.{finished_by}
use Rattle.unit_table.specs.Board.{Board, CanWait, IsPutAt, piece_at}
use Rattle.unit_table.specs.declared.mark.Mark.{Mark}
use Rattle.unit_table.specs.declared.piece.Piece.{Piece}
use Rattle.unit_table.specs.Piece.{says_dropped, says_finished, woken}
use Rattle.value_core.specs.Named.{Name}

-- a definite turn is neither gone nor finished, and waits for nothing
pub stays-ahead : (d : Bool) (m : Mark) → says_dropped m ≡ false → says_dropped (mark_ahead d m) ≡ false
stays-ahead true m is = refl
stays-ahead false m is = is

pub goes-ahead : (d : Bool) (m : Mark) → says_finished m ≡ false → says_finished (mark_ahead d m) ≡ false
goes-ahead true m is = refl
goes-ahead false m is = is

pub none-ahead : (d : Bool) (m : Mark) → finished_by m ≡ None → finished_by (mark_ahead d m) ≡ None
none-ahead true m is = refl
none-ahead false m is = is

pub waits-ahead : (b : Board) (d : Bool) (m : Mark) → CanWait b m → CanWait b (mark_ahead d m)
waits-ahead b true m can = tt
waits-ahead b false m can = can

-- where it is not finished, nothing is woken
pub set-alone : (name : Name) (p : Piece) (m : Mark) (old new : Board) → says_finished m ≡ false → IsSet name p m old new → IsPutAt name (Some p) old new
set-alone name p m old new goes is = record {
  here = is.here;
  others = λ other ne. is.others other ne ∙ ap (λ b. cond b (option_map (woken name) (piece_at old other)) (piece_at old other)) goes;
}
