-- What a live result tells of its piece.
use Rattle.std.proofs.Common.{◌≡◌, ◌∙◌, refl, sym, ap}
use Rattle.std.specs.Option.{option_and_then, option_map}
use Rattle.std.specs.Prelude.{Option, None, Some, if◌then◌else◌}
use Rattle.serial_model.specs.declared.end.End.{End}
use Rattle.shared_world.specs.Returned.{IsLive, Returned}
use Rattle.shared_world.specs.Shared.{Shared, finished_by, is_going, state_at, unit_state, work_in}
use Rattle.unit_table.specs.Board.{Board, lent_to, piece_at, unit_at}
use Rattle.unit_table.specs.declared.mark.Mark.{Mark}
use Rattle.unit_table.specs.declared.mark.Mark.TheVariants as mark
use Rattle.unit_table.specs.declared.piece.Piece.{Piece}
use Rattle.unit_table.specs.declared.piece.Piece.TheVariants as piece
use Rattle.unit_table.specs.declared.unit.Unit.{Unit}
use Rattle.unit_table.specs.Piece.{mark_in, unit_in}
use Rattle.value_core.specs.Named.{Name}

-- a claim is out only while no end is set
pub going : (s : Shared) (r : Returned) (name : Name) → IsLive s r name → s.end ≡ None
going s r name live = on s.end refl live.claim
  where
    on : (end : Option End) → s.end ≡ end → (if is_going end then lent_to s.board r.ticket else None) ≡ Some name → s.end ≡ None
    on None is e = is
    on (Some end) is e = cc

-- the piece of a unit
pub unit-piece : (b : Board) (u : Name) (x : Unit) → unit_at b u ≡ Some x → piece_at b u ≡ Some (piece.Unit x)
unit-piece b u x there = on (piece_at b u) refl there
  where
    on : (found : Option Piece) → piece_at b u ≡ found → option_and_then unit_in found ≡ Some x → piece_at b u ≡ Some (piece.Unit x)
    on None is e = cc
    on (Some (piece.Unit y)) is e = is ∙ ap (λ (found : Option Unit). option_map (λ z. piece.Unit z) found) e
    on (Some (piece.Task m)) is e = cc
    on (Some (piece.Actor a)) is e = cc

-- no unit stands where a task does
pub no-unit : (b : Board) (t : Name) (m : Mark) → piece_at b t ≡ Some (piece.Task m) → state_at b t ≡ None
no-unit b t m there = ap (λ found. option_map unit_state (option_and_then unit_in found)) there

pub no-piece : (b : Board) (t : Name) → piece_at b t ≡ None → state_at b t ≡ None
no-piece b t there = ap (λ found. option_map unit_state (option_and_then unit_in found)) there

-- a unit that is claimed is not finished
pub unfinished : (s : Shared) (r : Returned) (u : Name) (x : Unit) → IsLive s r u → unit_at s.board u ≡ Some x → (unit_state x).finished ≡ None
unfinished s r u x live there = on x.mark (sym (ap (λ found. option_and_then work_in (option_map mark_in found)) (unit-piece s.board u x there)) ∙ live.current.work)
  where
    on : (m : Mark) → work_in m ≡ Some r.work → finished_by m ≡ None
    on (mark.Ready w) e = refl
    on (mark.Waiting w) e = refl
    on mark.Resting e = refl
    on (mark.Finished v) e = cc
    on mark.Dropped e = refl

pub state-there : (b : Board) (u : Name) (x : Unit) → unit_at b u ≡ Some x → state_at b u ≡ Some (unit_state x)
state-there b u x there = ap (option_map unit_state) there
