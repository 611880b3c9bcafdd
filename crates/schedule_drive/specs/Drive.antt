-- A world that is driven by the lines of a schedule.
use Rattle.std.specs.Prelude.{◌≡◌, ◌∷◌, ◌&&◌, [], ℕ, Bool, true, false, List, Some, is_some, not}
use Rattle.lent_pieces.specs.Claims.{IsAbandoned, IsClaimOn}
use Rattle.schedule_report.specs.Report.{report_text}
use Rattle.serial_model.specs.declared.entry.Entry.{Entry}
use Rattle.schedule_report.specs.declared.told.Told.{Told}
use Rattle.schedule_report.specs.declared.told.Told.TheVariants as told
use Rattle.schedule_text.specs.declared.line.Line.{Line}
use Rattle.schedule_text.specs.declared.line.Line.TheVariants as line
use Rattle.shared_world.specs.declared.given.Given.{Given}
use Rattle.shared_world.specs.Gave.{Gave}
use Rattle.shared_world.specs.Later.{Appends}
use Rattle.shared_world.specs.Returned.{Returned}
use Rattle.shared_world.specs.rows.Attempts.{IsWithout}
use Rattle.shared_world.specs.Shared.{Shared, ready}
use Rattle.unit_table.specs.Board.{actor_at}
use Rattle.value_core.specs.Named.{Name, Named, named, with_named}
use Rattle.world_claim.specs.Lent.{Lent}
use Rattle.world_claim.specs.Run.{IsDoneOf}

-- where a drive stands: the world, and the results that are kept
pub record Stage : Type 0 where
  pub world : Shared
  pub kept : Named Returned

-- an actor stands under the name
abbrev pub is_actor : Shared → Name → Bool
is_actor s name = is_some (actor_at s.board name)

-- a unit or a task is ready, and an actor
abbrev pub can_go : Shared → Name → Bool
can_go s name = ready s name && not (is_actor s name)

abbrev pub can_turn : Shared → Name → Bool
can_turn s name = ready s name && is_actor s name

-- a result is kept under the name
abbrev pub has_result : Named Returned → Name → Bool
has_result kept name = is_some (named name kept)

-- the line can be done
abbrev pub can_do : Line → Stage → Bool
can_do (line.Go name) g = can_go g.world name
can_do (line.Hold name) g = can_go g.world name && not (has_result g.kept name)
can_do (line.Back name) g = has_result g.kept name
can_do (line.Turn name) g = can_turn g.world name

-- the piece is claimed, and its claim is run
pub record IsClaimedAndRun (name : Name) (old : Shared) (done : Returned) (new : Shared) : Type 0 where
  pub lent : Lent
  pub claimed : IsClaimOn name old lent new
  pub run : IsDoneOf lent done

-- the piece is claimed and run, and the result is given
pub record IsRunAndGiven (name : Name) (old : Shared) (found : Given) (new : Shared) : Type 0 where
  pub done : Returned
  pub between : Shared
  pub runs : IsClaimedAndRun name old done between
  pub gave : Gave between done found new

-- the piece is claimed and run, and the result is kept
pub record IsRunAndKept (name : Name) (g h : Stage) : Type 0 where
  pub done : Returned
  pub runs : IsClaimedAndRun name g.world done h.world
  pub kept : h.kept ≡ with_named g.kept name done

-- the result that was kept is given
pub record IsGivenBack (name : Name) (g : Stage) (found : Given) (h : Stage) : Type 0 where
  pub done : Returned
  pub was : named name g.kept ≡ Some done
  pub gave : Gave g.world done found h.world
  pub kept : IsWithout name g.kept h.kept

-- what comes of a line that can be done
abbrev pub Does : Line → Stage → Told → Stage → Type 0
Does (line.Go name) g (told.Answered found) h = IsRunAndGiven name g.world found h.world × (h.kept ≡ g.kept)
Does (line.Hold name) g told.Kept h = IsRunAndKept name g h
Does (line.Back name) g (told.Answered found) h = IsGivenBack name g found h
Does (line.Turn name) g (told.Answered found) h = IsRunAndGiven name g.world found h.world × (h.kept ≡ g.kept)
Does _ g said h = ⊥

-- what comes of a line
abbrev pub DoesIf : Bool → Line → Stage → Told → Stage → Type 0
DoesIf true l g said h = Does l g said h
DoesIf false l g said h = (said ≡ told.NotReady) × (h ≡ g)

abbrev pub Comes : Line → Stage → Told → Stage → Type 0
Comes l g said h = DoesIf (can_do l g) l g said h

-- what comes of the lines, one after the other
abbrev pub Drives : List Line → Stage → List Told → Stage → Type 0
Drives [] g [] h = h ≡ g
Drives (l ∷ lines) g (said ∷ rest) h = (between : Stage) × Comes l g said between × Drives lines between rest h
Drives _ g all h = ⊥

-- the claims of the results that are kept are abandoned
abbrev pub Abandons : Named Returned → Shared → Shared → Type 0
Abandons [] old new = new ≡ old
Abandons (e ∷ es) old new = (between : Shared) × IsAbandoned e.1.ticket old between × Abandons es between new

-- The lines drive the world to the other, and that came of each. The claims of results that are kept to the end are abandoned.
pub record IsDriven (lines : List Line) (old : Shared) (all : List Told) (new : Shared) : Type 0 where
  pub last : Stage
  pub drives : Drives lines (record { world = old; kept = [] }) all last
  pub ends : Abandons last.kept last.world new

-- The lines drive the world to the other, and this is the text of the report.
pub record IsReported (lines : List Line) (old : Shared) (text : List ℕ) (new : Shared) : Type 0 where
  pub all : List Told
  pub driven : IsDriven lines old all new
  pub spelled : text ≡ report_text all

-- the same program is run within the same limits, and the history has grown by whole entries
pub record IsLater (old new : Shared) : Type 0 where
  pub entries : List Entry
  pub appends : Appends entries old new
