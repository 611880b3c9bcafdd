-- Attempts that commit.
use Rattle.std.specs.Prelude.{◌≡◌, ◌≤◌, [], Err, IfSome, None, Ok, Result, Some, length, suc}
use Rattle.std.specs.declared.alloc.AllocError.{AllocError}
use Rattle.std.specs.Vec.{vec_capacity}
use Rattle.eval_step.specs.Evaluation.{Evaluation, IsAsking}
use Rattle.attempt_commits.specs.declared.commits.Gathered.{Gathered}
use Rattle.attempt_commits.specs.declared.commits.Prepared.{Prepared}
use Rattle.world_steps.specs.declared.kept.Kept.{Kept}
use Rattle.world_steps.specs.declared.kept.Ready.{Ready}
use Rattle.attempt_commits.specs.Deeds.{AreDeeds, AreVacant, CanHold}
use Rattle.attempt_commits.specs.Settling.{AreTurns}
use Rattle.attempts_gone.specs.Gone.{IsFree}
use Rattle.world_steps.specs.Kept.{IsSameBut, IsUnitOf}
use Rattle.world_steps.specs.Ready.{IsReady}
use Rattle.attempts_gone.specs.Dropping.{HasAttempt}
use Rattle.ref_store.specs.Store.{HasRoomFor}
use Rattle.shared_world.specs.declared.given.Given.{Given}
use Rattle.shared_world.specs.rows.Attempts.{HasDone}
use Rattle.shared_world.specs.rows.Commits.{Commits}
use Rattle.shared_world.specs.rows.Pieces.{ClaimsEnd, piece_or_task}
use Rattle.shared_world.specs.Shared.{Shared}
use Rattle.task_fork_join.specs.Attempt.{Attempt}
use Rattle.txn_snapshot.specs.SnapshotTask.{SnapshotTask}
use Rattle.unit_table.specs.Board.{unit_at}
use Rattle.unit_table.specs.declared.unit.Unit.{Unit}
use Rattle.value_core.specs.declared.value.Value.{Value}
use Rattle.value_core.specs.Named.{Name, Named, named}
use Rattle.world_model.specs.rows.Commits.{effects_bytes}

-- the unit has an attempt and stands where the history left it, and no claim is on the unit
pub record IsTrying (s : Shared) (owner : Name) : Type 0 where
  pub has : HasAttempt s owner
  pub level : named owner s.aheads ≡ None
  pub free : IsFree s.board owner

-- the attempt commits with that value; or for want of memory nothing changes
pub record HasCommitted (old : Shared) (owner : Name) (v : Value) (new : Shared) (found : Given) : Type 0 where
  pub row : (x : Unit) (tree : Attempt) → unit_at old.board owner ≡ Some x → named owner old.attempts ≡ Some tree → Commits old owner x tree v found new
  pub claims : (tree : Attempt) → named owner old.attempts ≡ Some tree → ClaimsEnd (piece_or_task old.board owner tree) old new

abbrev pub CommitsOr : Shared → Name → Value → Shared → Result Given AllocError → Type 0
CommitsOr old owner v new (Ok found) = HasCommitted old owner v new found
CommitsOr old owner v new (Err e) = IsSameBut old new

-- the name of the root of the unit's attempt, its writes, what was printed in it, and what is to be done to actors
pub record HasGathered (u : Name) (tree : Attempt) (g : Gathered) : Type 0 where
  pub root : g.root ≡ tree.root
  pub log : SnapshotTask
  pub done : HasDone tree log
  pub writes : g.writes.items ≡ log.log.writes
  pub text : g.text.items ≡ effects_bytes log.log.effects
  pub deeds : AreDeeds u log.log.effects g.deeds

-- what was gathered of that unit's attempt, with room for the snapshots of these
pub record IsGatheredOf (u : Name) (tree : Attempt) (attempts : Named Attempt) (g : Gathered) : Type 0 where
  pub has : HasGathered u tree g
  pub empty : g.live.items ≡ []
  pub room : length attempts ≤ vec_capacity g.live

-- the machine of the unit, at the request where it stands
pub record IsAtRequest (s : Shared) (name : Name) (machine : Evaluation) : Type 0 where
  pub unit : IsUnitOf s name machine
  pub asks : IsAsking machine

-- the unit's step is ready to be settled with that value
pub record IsReadyUnit (old : Shared) (k : Kept) (name : Name) (v : Value) (r : Ready) : Type 0 where
  pub machine : Evaluation
  pub standing : IsAtRequest old name machine
  pub ready : IsReady k name machine v r

-- The commit is ready, with that value: there is room for all that it changes but for what it prints.
pub record IsPreparedFor (old : Shared) (k : Kept) (name : Name) (v : Value) (p : Prepared) : Type 0 where
  pub number : p.number ≡ suc (length old.history)
  pub made : IfSome (unit_at old.board name) (λ x. p.made ≡ suc x.made)
  pub gathered : IfSome (named name old.attempts) (λ tree. IsGatheredOf name tree old.attempts p.gathered)
  pub store : HasRoomFor p.gathered.writes.items k.store.room
  pub ready : IsReadyUnit old k name v p.ready
  pub turns : AreTurns p.gathered.root p.gathered.deeds.counts.entries old.taken old.board p.turns.entries
  pub letters : CanHold p.gathered.deeds.counts.entries k.mails
  pub actors : AreVacant p.gathered.deeds.actors.entries k.units
