-- Main alone, before the first entry.
use Rattle.std.specs.Prelude.{◌≡◌, [], None, Some}
use Rattle.actor_mails.specs.Mails.{mail_at}
use Rattle.serial_model.specs.State.{Setup, main_name, new_unit}
use Rattle.shared_world.specs.rows.Pieces.{IsUnitAt}
use Rattle.shared_world.specs.Shared.{Shared}
use Rattle.unit_table.specs.Board.{Board, IsPutAt, piece_at}
use Rattle.unit_table.specs.declared.mark.Mark.TheVariants as mark
use Rattle.unit_table.specs.declared.mark.Work.TheVariants as work
use Rattle.unit_table.specs.declared.piece.Piece.TheVariants as piece
use Rattle.unit_table.specs.declared.unit.Unit.{Unit}
use Rattle.value_core.specs.Named.{Name}

-- main can go on, and nothing else is there, nor any mail
pub record IsOpening (setup : Setup) (s : Shared) : Type 0 where
  pub main : Unit
  pub begins : IsUnitAt setup main main (new_unit None setup.program.main []) (mark.Ready work.Eval)
  pub empty : Board
  pub nothing : (name : Name) → piece_at empty name ≡ None
  pub put : IsPutAt main_name (Some (piece.Unit main)) empty s.board
  pub no_mail : (a : Name) → mail_at s.mails a ≡ []
  pub rest : s ≡ record { setup = setup; history = []; versions = []; board = s.board; mails = s.mails; taken = []; aheads = []; attempts = []; owners = []; bytes = []; made = 1; end = None }
