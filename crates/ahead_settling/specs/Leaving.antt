-- How a turn is left where the history left it, once what it held first is settled.
use Rattle.std.specs.Prelude.{◌≡◌, ◌<◌, ◌++◌, ◌∷◌, [], ℕ, Bool, List, Option, None, Some, cond, false, is_some, true}
use Rattle.std.specs.Option.{IfSome, option_map}
use Rattle.ahead_settling.specs.declared.leaving.Leave.{Leave}
use Rattle.ahead_settling.specs.declared.leaving.Settling.{Settling}
use Rattle.ahead_settling.specs.declared.leaving.StillAhead.{StillAhead}
use Rattle.serial_model.specs.declared.entry.Entry.{Entry}
use Rattle.serial_model.specs.declared.entry.Entry.TheVariants.{Run}
use Rattle.serial_model.specs.declared.request.Request.{Request}
use Rattle.shared_world.specs.Ahead.{Ahead}
use Rattle.shared_world.specs.declared.given.Given.{Given}
use Rattle.shared_world.specs.declared.given.Given.TheVariants as given
use Rattle.shared_world.specs.rows.Leading.{IsChanged, beside_left, definite_now, left_after, leads_on, mark_left}
use Rattle.shared_world.specs.Shared.{Shared}
use Rattle.task_fork_join.specs.Attempt.{Attempt}
use Rattle.task_fork_join.specs.declared.task.Task.{Task}
use Rattle.turns_ahead.specs.Leading.{IsLeftNext, Leading}
use Rattle.unit_table.specs.Board.{Board, HasPlace, IsMarked, IsUnlent, SameClaims, piece_at, unit_at}
use Rattle.unit_table.specs.declared.mark.Mark.{Mark}
use Rattle.unit_table.specs.declared.mark.Mark.TheVariants as mark
use Rattle.unit_table.specs.declared.mark.WaitOn.TheVariants as wait
use Rattle.unit_table.specs.declared.mark.Work.TheVariants as work
use Rattle.unit_table.specs.declared.piece.Piece.TheVariants as piece
use Rattle.unit_table.specs.declared.unit.Unit.{Unit}
use Rattle.value_core.specs.Named.{Name, Named, is_among, named, with_named}

-- ---- the tasks that wait for a turn
-- the name is that of a task of the attempt
abbrev pub is_task_of : Option Attempt → Name → Bool
is_task_of None name = false
is_task_of (Some tree) name = is_some (named name tree.tasks)

-- what waits for the turn to be definite are tasks of that attempt
abbrev pub WaitersAmong : Board → Name → Option Attempt → Type 0
WaitersAmong b u tree = (name : Name) → piece_at b name ≡ Some (piece.Task (mark.Waiting (wait.Definite u))) → is_task_of tree name ≡ true

-- what stands under these names waits for the turn no more; all else stays
abbrev pub AreWoken : Name → (Name → Bool) → Board → Board → Type 0
AreWoken u those old new = (name : Name) → piece_at new name ≡ cond (those name) (option_map (definite_now u) (piece_at old name)) (piece_at old name)

-- Of these names some are left: once what stands under those waits no more, that of all does not.
abbrev pub AreLeft : Name → List Name → List Name → Board → Board → Type 0
AreLeft u all left old now =
    (name : Name) → cond (is_among name left) (option_map (definite_now u) (piece_at now name)) (piece_at now name) ≡ cond (is_among name all) (option_map (definite_now u) (piece_at old name)) (piece_at old name)

-- nothing waits for the turn any more
abbrev pub NoneWaits : Name → Board → Board → Type 0
NoneWaits u old new = (name : Name) → piece_at new name ≡ option_map (definite_now u) (piece_at old name)

-- the turn runs ahead no more, and nothing waits for it
pub record IsLevel (u : Name) (old new : Shared) : Type 0 where
  pub aheads : IsChanged u None old.aheads new.aheads
  pub woken : NoneWaits u old.board new.board
  pub claims : SameClaims old.board new.board
  pub others : new ≡ record old { board = new.board; aheads = new.aheads }

-- unless it runs ahead still
abbrev pub LevelUnless : Bool → Name → Shared → Shared → Type 0
LevelUnless true u old new = new ≡ old
LevelUnless false u old new = IsLevel u old new

-- ---- what is taken up front
-- the root of an attempt
abbrev pub root_in : Option Attempt → Option Name
root_in tree = option_map (λ (t : Attempt). t.root) tree

-- there is room for that entry, which is there twice; and the name of the root of the unit's attempt, which is a piece
pub record CanLeave (room : ℕ) (board : Board) (attempts : Named Attempt) (u : Name) (entry : Entry) (l : Leave) : Type 0 where
  pub has_room : 0 < room
  pub entry_is : l.marks.entry ≡ entry
  pub told_is : l.marks.told ≡ entry
  pub root : l.root ≡ root_in (named u attempts)
  pub place : IfSome l.root (HasPlace board)

-- and where the history leaves the turn, once the first request that it holds is settled
pub record CanSettle (room : ℕ) (board : Board) (attempts : Named Attempt) (aheads : Named Leading) (u : Name) (s : Settling) : Type 0 where
  pub leave : CanLeave room board attempts u (Run u) s.leave
  pub left : IfSome (named u aheads) (λ l. IsLeftNext l s.left)

-- ---- what comes of it
-- the mark of a turn that runs ahead still, or has an attempt of that root, or waited
abbrev pub mark_so : Bool → Option Name → Bool → Mark
mark_so true root waited = mark.Ready work.Settle
mark_so false (Some root) waited = mark.Waiting (wait.Finish root)
mark_so false None true = mark.Ready work.Settle
mark_so false None false = mark.Ready work.Eval

-- what stands there has that mark; all else stays
abbrev pub IsMarkedLeft : Name → StillAhead → Option Name → Board → Board → Type 0
IsMarkedLeft u still root old new = IsMarked u (mark_so still.leads root still.waits) old new

-- the turn is left there; whether it runs ahead still, and whether it waits, is told
pub record IsLeft (u : Name) (left : Ahead) (old new : Named Ahead) (still : StillAhead) : Type 0 where
  pub put : new ≡ with_named old u left
  pub leads : still.leads ≡ is_some (leads_on left)
  pub waits : still.waits ≡ left.waits

-- Settled: that entry is appended; the unit has the mark of a turn that is left there, and where that holds nothing nothing waits for it
pub record HasLeft (base : Shared) (u : Name) (left : Ahead) (entry : Entry) (new : Shared) (found : Given) : Type 0 where
  pub found_is : found ≡ given.Settled entry
  pub here : (x : Unit) → unit_at base.board u ≡ Some x → piece_at new.board u ≡ Some (piece.Unit (record x { mark = mark_left (leads_on left) (named u base.attempts) left.waits }))
  pub beside : (other : Name) → (other ≡ u → ⊥) → piece_at new.board other ≡ beside_left u (leads_on left) (piece_at base.board other)
  pub aheads : IsChanged u (leads_on left) base.aheads new.aheads
  pub unlent : IsUnlent u base.board new.board
  pub others : new ≡ record base { history = base.history ++ entry ∷ []; board = new.board; aheads = new.aheads }

-- the turn is left there, where it was told so whether it runs ahead still and whether it waits
abbrev pub LeavesAs : Shared → Name → StillAhead → Entry → Shared → Given → Type 0
LeavesAs base u still entry new found =
    (left : Ahead) → named u base.aheads ≡ Some left → still.leads ≡ is_some (leads_on left) → still.waits ≡ left.waits → HasLeft base u left entry new found

-- the first request that it holds is settled
abbrev pub LeavesFirst : Shared → Name → Shared → Given → Type 0
LeavesFirst base u new found =
    (h : Ahead) (r : Request) (rest : List Request) → named u base.aheads ≡ Some h → h.held ≡ r ∷ rest → HasLeft base u (left_after h r rest) (Run u) new found
