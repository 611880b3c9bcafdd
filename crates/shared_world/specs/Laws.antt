-- What holds of every world as it is kept.
use Rattle.std.specs.Prelude.{◌≡◌, ◌↔◌, ◌+◌, ◌≤◌, ℕ, List, length, false, true, None, Some}
use Rattle.core_syntax.specs.WellFormed.{IsWellFormed}
use Rattle.serial_model.specs.declared.end.End.{End}
use Rattle.serial_model.specs.declared.end.End.TheVariants.{Done}
use Rattle.serial_model.specs.Replay.{IsOver, replay}
use Rattle.serial_model.specs.State.{Setup, State}
use Rattle.shared_world.specs.Counts.{IsLateFor, Runs, age_of, undone_among, undone_by}
use Rattle.shared_world.specs.declared.given.Given.{Given}
use Rattle.shared_world.specs.declared.given.Given.TheVariants as given
use Rattle.shared_world.specs.Few.{KeepsFew}
use Rattle.shared_world.specs.Gave.{Gave}
use Rattle.shared_world.specs.Later.{Appends, settled_by}
use Rattle.shared_world.specs.HeldUp.{IsHeldUp}
use Rattle.shared_world.specs.Marks.{AreMarked, AreMarkedBeside, HasMarks}
use Rattle.shared_world.specs.Opening.{IsOpening}
use Rattle.shared_world.specs.Rest.{IsAtRest}
use Rattle.shared_world.specs.Returned.{Returned}
use Rattle.shared_world.specs.rows.Undoing.{Undoes}
use Rattle.shared_world.specs.Shared.{Shared, is_going, ready}
use Rattle.shared_world.specs.Stands.{Stands}
use Rattle.task_fork_join.specs.Attempt.{Attempt}
use Rattle.unit_table.specs.Board.{piece_at, unit_at}
use Rattle.unit_table.specs.declared.piece.Piece.{Piece}
use Rattle.unit_table.specs.declared.unit.Unit.{Unit}
use Rattle.value_core.specs.Named.{Name, named}

-- whatever a result comes to, what is kept stands for the replay of its history afterwards
abbrev pub GaveKeeps : Type 0
GaveKeeps = (old new : Shared) (result : Returned) (found : Given) → Stands old → Gave old result found new → Stands new

-- whatever a result comes to, just the entry that is answered is appended to the history, and none where none is settled
abbrev pub GaveAppends : Type 0
GaveAppends = (old new : Shared) (result : Returned) (found : Given) → Gave old result found new → Appends (settled_by found) old new

-- main alone stands for the empty history
abbrev pub OpeningStands : Type 0
OpeningStands = (setup : Setup) (s : Shared) → IsWellFormed setup.program → IsOpening setup s → Stands s

-- Whatever a result comes to, the marks are right afterwards where they were before, while the run goes on.
abbrev pub GaveMarks : Type 0
GaveMarks = (old new : Shared) (result : Returned) (found : Given) → Stands old → HasMarks old → Gave old result found new → HasMarks new

-- those of main alone are
abbrev pub OpeningMarks : Type 0
OpeningMarks = (setup : Setup) (s : Shared) → IsOpening setup s → HasMarks s

-- whatever a result comes to, few versions are kept of each ref afterwards where few were before
abbrev pub GaveKeepsFew : Type 0
GaveKeepsFew = (old new : Shared) (result : Returned) (found : Given) → KeepsFew old → Gave old result found new → KeepsFew new

-- main alone keeps few
abbrev pub OpeningKeepsFew : Type 0
OpeningKeepsFew = (setup : Setup) (s : Shared) → IsOpening setup s → KeepsFew s

-- While the run goes on something can be done with each piece that is there, unless a claim on it is out, it is finished, it waits
-- for what is still to come, or it is an actor that has a turn or no mail.
abbrev pub OthersAreReady : Type 0
OthersAreReady = (s : Shared) (name : Name) (p : Piece) → HasMarks s → is_going s.end ≡ true → piece_at s.board name ≡ Some p → ready s name ≡ false → IsHeldUp s name p

-- While no end is set the history replays to a state that is over exactly where each unit is finished and nobody has mail. Its
-- end is Done then.
abbrev pub OverAtRest : Type 0
OverAtRest = (s : Shared) → Stands s → s.end ≡ None → (state : State) → replay s.setup s.history ≡ Some state → (end : End) → IsOver s.setup state end ↔ (IsAtRest s × (end ≡ Done))

-- Where it is answered that an attempt of a unit is undone, the unit had one, and the version that is named is above its snapshot and
-- at most the number of entries.
abbrev pub AbortsAreLate : Type 0
AbortsAreLate = (old new : Shared) (result : Returned) (u ref : Name) (version : ℕ) → Stands old → Gave old result (given.Aborted u ref version) new → IsLateFor old u version

-- each attempt that is undone is followed by one on more entries
abbrev pub AttemptsAge : Type 0
AttemptsAge = (old new : Shared) (result : Returned) (found : Given) → Stands old → Gave old result found new → (u : Name) → undone_by u found + age_of old u ≤ age_of new u

-- in a run from main alone the attempts of a unit are undone at most as often as entries are settled
abbrev pub AbortsAreFew : Type 0
AbortsAreFew = (setup : Setup) (first last : Shared) (answers : List Given) → IsWellFormed setup.program → IsOpening setup first → Runs first answers last → (u : Name) → undone_among u answers ≤ length last.history

-- ---- an attempt that is undone with all that hangs on it
-- an attempt of a unit, while the run goes on, of what stands
pub record IsTried (s : Shared) (u : Name) (x : Unit) (tree : Attempt) : Type 0 where
  pub stands : Stands s
  pub going : is_going s.end ≡ true
  pub there : unit_at s.board u ≡ Some x
  pub attempt : named u s.attempts ≡ Some tree

-- what is kept stands for the replay of its history afterwards
abbrev pub UndoesKeeps : Type 0
UndoesKeeps = (old new : Shared) (u : Name) (x : Unit) (tree : Attempt) → IsTried old u x tree → Undoes old u x tree new → Stands new

-- the marks are right afterwards, whatever those of the tasks of the attempt said before
abbrev pub UndoesMarks : Type 0
UndoesMarks = (old new : Shared) (u : Name) (x : Unit) (tree : Attempt) → IsTried old u x tree → AreMarkedBeside old u → Undoes old u x tree new → AreMarked new

-- each attempt that goes is followed by one on no fewer entries
abbrev pub UndoesAges : Type 0
UndoesAges = (old new : Shared) (u : Name) (x : Unit) (tree : Attempt) → IsTried old u x tree → Undoes old u x tree new → (v : Name) → age_of old v ≤ age_of new v
