-- How an attempt commits.
use Rattle.std.specs.Prelude.{◌≡◌, ◌∷◌, ◌++◌, [], Bool, List, length, Option, None, Some, false, is_some, suc, true}
use Rattle.std.specs.Option.{option_and_then, option_map}
use Rattle.actor_mailbox.specs.declared.message.Message.{Message}
use Rattle.actor_mailbox.specs.Messages.{depends_on, settle, settle_one}
use Rattle.actor_mails.specs.Mails.{mail_at}
use Rattle.ref_store.specs.Store.{committed}
use Rattle.serial_model.specs.declared.actor_state.ActorState.{ActorState}
use Rattle.serial_model.specs.declared.effect.Effect.{Effect}
use Rattle.serial_model.specs.declared.entry.Entry.TheVariants.{Run}
use Rattle.serial_model.specs.Step.{answered, with_made}
use Rattle.shared_world.specs.Ahead.{Ahead}
use Rattle.shared_world.specs.declared.given.Given.{Given}
use Rattle.shared_world.specs.declared.given.Given.TheVariants as given
use Rattle.shared_world.specs.rows.Actors.{acted, spawned}
use Rattle.shared_world.specs.rows.Attempts.{ArePrunedFor, AttemptGoes, HasDone}
use Rattle.shared_world.specs.rows.Leading.{settles_now}
use Rattle.shared_world.specs.rows.Pieces.{IsUnitAt}
use Rattle.shared_world.specs.rows.Unsettled.{kept_to}
use Rattle.shared_world.specs.Shared.{Shared, unit_state}
use Rattle.task_fork_join.specs.Attempt.{Attempt}
use Rattle.txn_snapshot.specs.SnapshotTask.{SnapshotTask}
use Rattle.unit_table.specs.Board.{Board, lent_at, piece_at}
use Rattle.unit_table.specs.declared.mark.Mark.TheVariants as mark
use Rattle.unit_table.specs.declared.mark.Work.TheVariants as work
use Rattle.unit_table.specs.declared.piece.Piece.{Piece}
use Rattle.unit_table.specs.declared.unit.Unit.{Unit}
use Rattle.value_core.specs.declared.value.Value.{Value}
use Rattle.value_core.specs.Named.{Name, Named, named, same_name}
use Rattle.world_model.specs.rows.Commits.{effects_bytes, effects_unit}

-- a message is there that depends on that name
abbrev pub hangs_on : Name → Option Message → Bool
hangs_on on None = false
hangs_on on (Some m) = depends_on (same_name on) m

-- the actor of a turn whose begin is held
abbrev pub begun_of : Named Ahead → Name → Option Name
begun_of aheads turn = option_and_then (λ (h : Ahead). h.takes) (named turn aheads)

-- the begin of the turn is held, and its message depends on that name
abbrev pub turns_on : Shared → Name → Name → Bool
turns_on s on turn = hangs_on on (option_and_then (λ a. named a s.taken) (begun_of s.aheads turn))

-- what stands there, which is a turn that has become definite, or not
abbrev pub definite_if : Bool → Bool → Option Piece → Option Piece
definite_if false lent found = found
definite_if true lent found = option_map (settles_now lent) found

-- The actors that the effects make stand where nothing stood; those to which the attempt kept something have mail; the turns on what it
-- put are definite; and every other piece stays.
pub record ActorsAct (effects : List Effect) (u : Name) (tree : Attempt) (base : Shared) (board : Board) (new : Shared) : Type 0 where
  pub none : (a : Name) (actor : ActorState) → spawned effects a ≡ Some actor → piece_at base.board a ≡ None
  pub pieces : (a : Name) → piece_at new.board a ≡ acted (is_some (named a base.taken)) (spawned effects a) (kept_to base u tree a) (mail_at new.mails a) (definite_if (turns_on base tree.root a) (is_some (lent_at base.board a)) (piece_at board a))

-- what the attempt has put depends on nothing now, in its place, and what it kept comes last
pub record SendsSettle (u : Name) (tree : Attempt) (old new : Shared) : Type 0 where
  pub taken : (a : Name) → named a new.taken ≡ option_map (settle_one (same_name tree.root)) (named a old.taken)
  pub mails : (a : Name) → mail_at new.mails a ≡ settle (same_name tree.root) (mail_at old.mails a ++ kept_to old u tree a)

-- Settled: the writes of the attempt are the newest versions, what it printed is printed, its actors are there, what it sent is settled,
-- and the unit goes on with its value.
pub record Commits (old : Shared) (u : Name) (x : Unit) (tree : Attempt) (v : Value) (found : Given) (new : Shared) : Type 0 where
  pub found_is : found ≡ given.Settled (Run u)
  pub log : SnapshotTask
  pub done : HasDone tree log
  pub unit : Unit
  pub stands : IsUnitAt old.setup x unit (answered (with_made (effects_unit log.log.effects (unit_state x))) v) (mark.Ready work.Eval)
  pub board : Board
  pub goes : AttemptGoes old u unit tree (record new { board = board })
  pub acts : ActorsAct log.log.effects u tree old board new
  pub sends : SendsSettle u tree old new
  pub versions : ArePrunedFor new.attempts (committed old.versions log.log.writes (suc (length old.history))) new.versions
  pub others : new ≡ record old {
    history = old.history ++ Run u ∷ [];
    versions = new.versions;
    attempts = new.attempts;
    bytes = old.bytes ++ effects_bytes log.log.effects;
    board = new.board;
    mails = new.mails;
    taken = new.taken;
  }
