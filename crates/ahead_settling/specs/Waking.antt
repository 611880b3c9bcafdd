-- Tasks that wait until a turn is definite and holds nothing.
use Rattle.std.specs.Prelude.{◌≡◌, ◌∷◌, [], Bool, List, Option, None, Some, false}
use Rattle.std.specs.Option.{option_map}
use Rattle.shared_world.specs.rows.Leading.{definite_now}
use Rattle.task_fork_join.specs.declared.task.Task.{Task}
use Rattle.task_fork_join.specs.Following.{names_after}
use Rattle.unit_table.specs.Board.{Board, IsPutAt, piece_at}
use Rattle.unit_table.specs.declared.mark.Mark.{Mark}
use Rattle.unit_table.specs.declared.mark.Mark.TheVariants as mark
use Rattle.unit_table.specs.declared.mark.WaitOn.TheVariants as wait
use Rattle.unit_table.specs.declared.piece.Piece.{Piece}
use Rattle.unit_table.specs.declared.piece.Piece.TheVariants as piece
use Rattle.value_core.specs.Named.{Name, Named, same_name}

-- that mark is of one that waits for the turn
abbrev pub hangs : Name → Mark → Bool
hangs u (mark.Waiting (wait.Definite turn)) = same_name turn u
hangs u m = false

-- a task that does
abbrev pub waits_for : Name → Piece → Bool
waits_for u (piece.Task m) = hangs u m
waits_for u p = false

-- what stands there waits for the turn no more; all else stays
abbrev pub IsWoken : Name → Name → Board → Board → Type 0
IsWoken u name old new = IsPutAt name (option_map (definite_now u) (piece_at old name)) old new

-- the name and those of the tasks that come after it
abbrev pub names_from : Option Name → Named Task → List Name
names_from None tasks = []
names_from (Some name) tasks = name ∷ names_after (Some name) tasks
