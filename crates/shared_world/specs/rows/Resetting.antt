-- Back to where the history left everything.
use Rattle.std.specs.Prelude.{◌≡◌, List, None, Option, Some, cond, true}
use Rattle.actor_mailbox.specs.declared.message.Message.{Message}
use Rattle.actor_mailbox.specs.Messages.{without}
use Rattle.actor_mails.specs.Mails.{mail_at}
use Rattle.serial_model.specs.State.{Setup}
use Rattle.shared_world.specs.Ahead.{Ahead}
use Rattle.shared_world.specs.Few.{KeepsFew}
use Rattle.shared_world.specs.Marks.{HasMarks}
use Rattle.shared_world.specs.rows.Actors.{actor_with}
use Rattle.shared_world.specs.rows.Attempts.{ArePrunedFor}
use Rattle.shared_world.specs.rows.Leading.{line_at}
use Rattle.shared_world.specs.rows.Pieces.{IsUnitAt}
use Rattle.shared_world.specs.Seen.{left_at}
use Rattle.shared_world.specs.Shared.{Shared, unit_state}
use Rattle.shared_world.specs.Stands.{Stands}
use Rattle.task_fork_join.specs.Attempt.{Attempt}
use Rattle.unit_table.specs.Board.{piece_at}
use Rattle.unit_table.specs.declared.mark.Mark.{Mark}
use Rattle.unit_table.specs.declared.mark.Mark.TheVariants as mark
use Rattle.unit_table.specs.declared.mark.Work.TheVariants as work
use Rattle.unit_table.specs.declared.piece.Piece.{Piece}
use Rattle.unit_table.specs.declared.piece.Piece.TheVariants as piece
use Rattle.unit_table.specs.declared.unit.Unit.{Unit}
use Rattle.unit_table.specs.Piece.{says_finished}
use Rattle.value_core.specs.Named.{Name, named}

-- the unit stands where the history left it, and can go on
pub record StandsBack (setup : Setup) (x : Unit) (h : Ahead) (now : Option Piece) : Type 0 where
  pub unit : Unit
  pub stands : IsUnitAt setup x unit (left_at h (unit_state x)) (mark.Ready work.Eval)
  pub there : now ≡ Some (piece.Unit unit)

-- The history knows nothing of a turn whose begin is held: it is gone.
abbrev pub LeadBack : Setup → Unit → Ahead → Option Name → Option Piece → Type 0
LeadBack setup x h (Some actor) now = now ≡ None
LeadBack setup x h None now = StandsBack setup x h now

-- a unit that is not finished and whose attempt is gone can begin one anew
abbrev pub mark_anew : Option Attempt → Mark → Mark
mark_anew None m = m
mark_anew (Some tree) m = cond (says_finished m) m (mark.Ready work.Settle)

-- what becomes of a unit, by whether it runs ahead, and whether it has an attempt
abbrev pub UnitBack : Setup → Unit → Option Ahead → Option Attempt → Option Piece → Type 0
UnitBack setup x (Some h) tried now = LeadBack setup x h h.takes now
UnitBack setup x None tried now = now ≡ Some (piece.Unit (record x { mark = mark_anew tried x.mark }))

-- the mail of an actor then: the message that it took is the first again, and what is not settled is gone
abbrev pub mail_back : Shared → Name → List Message
mail_back s a = without (λ on. true) (line_at s a)

-- What becomes of what stood under the name: a task is gone, and an actor that is not busy can begin a turn where it has mail.
abbrev pub PieceBack : Shared → Name → Option Piece → Option Piece → Type 0
PieceBack s u None now = now ≡ None
PieceBack s u (Some (piece.Unit x)) now = UnitBack s.setup x (named u s.aheads) (named u s.attempts) now
PieceBack s u (Some (piece.Task m)) now = now ≡ None
PieceBack s u (Some (piece.Actor a)) now = now ≡ Some (actor_with a.state (mail_back s u))

-- Every attempt, every request that is held and every turn whose begin is held is undone.
pub record Resets (old new : Shared) : Type 0 where
  pub pieces : (u : Name) → PieceBack old u (piece_at old.board u) (piece_at new.board u)
  pub mails : (a : Name) → mail_at new.mails a ≡ mail_back old a
  pub taken : (a : Name) → named a new.taken ≡ None
  pub aheads : (u : Name) → named u new.aheads ≡ None
  pub attempts : (u : Name) → named u new.attempts ≡ None
  pub versions : ArePrunedFor new.attempts old.versions new.versions
  pub others : new ≡ record old { versions = new.versions; board = new.board; mails = new.mails; taken = new.taken; aheads = new.aheads; attempts = new.attempts }

-- what is kept stands for the replay of its history afterwards
abbrev pub ResetsStand : Type 0
ResetsStand = (old new : Shared) → Stands old → Resets old new → Stands new

-- and the marks are right where they were
abbrev pub ResetsMark : Type 0
ResetsMark = (old new : Shared) → Stands old → HasMarks old → Resets old new → HasMarks new

-- and few versions are kept of each ref, however many were before
abbrev pub ResetsKeepFew : Type 0
ResetsKeepFew = (old new : Shared) → Resets old new → KeepsFew new
