-- Tasks of attempts.
use Rattle.std.specs.Prelude.{◌≡◌, Some, is_some, true}
use Rattle.std.specs.Option.{IsSome}
use Rattle.shared_world.specs.Shared.{Shared}
use Rattle.task_fork_join.specs.Attempt.{Attempt}
use Rattle.unit_table.specs.Board.{Board, piece_at, unit_at}
use Rattle.unit_table.specs.declared.mark.Mark.{Mark}
use Rattle.unit_table.specs.declared.piece.Piece.TheVariants as piece
use Rattle.unit_table.specs.declared.unit.Unit.{Unit}
use Rattle.value_core.specs.Named.{Name, named}

-- a task stands under the name
pub record IsTaskAt (b : Board) (task : Name) : Type 0 where
  pub mark : Mark
  pub there : piece_at b task ≡ Some (piece.Task mark)

-- a task of the attempt of a unit
pub record IsTaskIn (s : Shared) (owner task : Name) (tree : Attempt) : Type 0 where
  pub mark : Mark
  pub there : piece_at s.board task ≡ Some (piece.Task mark)
  pub of : named task s.owners ≡ Some owner
  pub unit : Unit
  pub unit_there : unit_at s.board owner ≡ Some unit
  pub attempt : named owner s.attempts ≡ Some tree
  pub among : is_some (named task tree.tasks) ≡ true
  pub rooted : IsSome (named tree.root tree.tasks)
