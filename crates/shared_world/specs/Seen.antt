-- The world that is seen in what is kept: what the law of the rows is about.
use Rattle.std.specs.Prelude.{◌≡◌, ◌∷◌, true, List, [], Option, None, Some, take}
use Rattle.std.specs.Option.{option_map}
use Rattle.actor_mailbox.specs.declared.message.Message.{Message}
use Rattle.actor_mails.specs.Mails.{mail_at}
use Rattle.ref_store.specs.declared.version.Version.{Version}
use Rattle.serial_model.specs.declared.effect.Effect.{Effect}
use Rattle.serial_model.specs.State.{UnitState}
use Rattle.shared_world.specs.Ahead.{Ahead}
use Rattle.shared_world.specs.Shared.{Shared, becoming_of, is_going, ref_now, state_at}
use Rattle.task_fork_join.specs.Attempt.{Attempt}
use Rattle.task_fork_join.specs.declared.task.Task.{Task}
use Rattle.txn_snapshot.specs.SnapshotAnswer.{snapshot_of}
use Rattle.unit_table.specs.Board.{actor_at}
use Rattle.value_core.specs.Named.{Name, Named, named}
use Rattle.world_model.specs.World as world
use Rattle.world_model.specs.World.{LiveUnit, World, still}

-- the turn where the history left it
abbrev pub left_at : Ahead → UnitState → UnitState
left_at h unit = record unit { answers = take h.answers unit.answers; made = h.made; becomes = option_map becoming_of h.becomes; finished = None }

-- a unit stands where the history left it, unless it runs ahead
abbrev pub live_with : Option Ahead → UnitState → LiveUnit
live_with None unit = still unit
live_with (Some h) unit = record { from = left_at h unit; now = unit; takes = h.takes; held = h.held }

abbrev pub live_at : Shared → Name → Option LiveUnit
live_at s u = option_map (live_with (named u s.aheads)) (state_at s.board u)

-- the message of the actor's turn whose begin is held, where there is one
abbrev pub one_or_none : Option Message → List Message
one_or_none None = []
one_or_none (Some m) = m ∷ []

-- what a task has done
abbrev pub done_in : Option Task → List Effect
done_in None = []
done_in (Some t) = t.log.log.effects

-- what the root of an attempt has done so far
abbrev pub done_by_root : Attempt → List Effect
done_by_root tree = done_in (named tree.root tree.tasks)

-- An attempt on the refs at its snapshot, with what its root has done so far. What its tasks have read and written, and how it ends, is
-- in the tasks alone, until it commits.
pub record IsSeenAttempt (versions : Named (List Version)) (tree : Attempt) (tried : world.Attempt) : Type 0 where
  pub root : tried.root ≡ tree.root
  pub snapshot : tried.snapshot ≡ tree.snapshot
  pub store : (r : Name) → tried.store r ≡ snapshot_of versions tree.snapshot r
  pub reads : tried.reads ≡ []
  pub joined : tried.joined ≡ []
  pub effects : tried.effects ≡ done_by_root tree
  pub ended : tried.ended ≡ None

abbrev pub AttemptSeen : Named (List Version) → Option Attempt → Option world.Attempt → Type 0
AttemptSeen versions None None = Unit {0}
AttemptSeen versions (Some tree) (Some tried) = IsSeenAttempt versions tree tried
AttemptSeen versions _ _ = ⊥

-- The world is what is kept, seen by name. Of attempts nothing is said once the run has ended.
pub record IsSeen (s : Shared) (w : World) : Type 0 where
  pub history : w.history ≡ s.history
  pub refs : (r : Name) → w.refs r ≡ ref_now s.versions r
  pub units : (u : Name) → w.units u ≡ live_at s u
  pub actors : (a : Name) → w.actors a ≡ actor_at s.board a
  pub taken : (a : Name) → w.taken a ≡ one_or_none (named a s.taken)
  pub mails : (a : Name) → w.mails a ≡ mail_at s.mails a
  pub attempts : is_going s.end ≡ true → (u : Name) → AttemptSeen s.versions (named u s.attempts) (w.attempts u)
  pub bytes : w.bytes ≡ s.bytes
  pub made : w.made ≡ s.made
  pub end : w.end ≡ s.end
