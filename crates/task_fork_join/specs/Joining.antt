-- What a join comes to.
use Rattle.std.specs.Prelude.{◌≡◌, ◌||◌, ℕ, true, false, Option, None, Some, if◌then◌else◌}
use Rattle.core_syntax.specs.Table.{Table}
use Rattle.eval_step.specs.Evaluation.{Evaluation}
use Rattle.serial_model.specs.declared.answer.Answer.TheVariants as answer
use Rattle.serial_model.specs.declared.halt.Halt.TheVariants as halt
use Rattle.serial_model.specs.declared.request.Request.TheVariants as request
use Rattle.serial_model.specs.Eval.{next}
use Rattle.task_fork_join.specs.declared.joining.Joined.{Joined}
use Rattle.task_fork_join.specs.declared.joining.Met.{Met}
use Rattle.task_fork_join.specs.declared.joining.Met.TheVariants as met
use Rattle.task_fork_join.specs.declared.stepped.Stepped.{Stepped}
use Rattle.task_fork_join.specs.declared.stepped.Stepped.TheVariants as stepped
use Rattle.task_fork_join.specs.declared.task.Parts.{Parts}
use Rattle.task_fork_join.specs.declared.task.Stage.{Stage as KeptStage}
use Rattle.task_fork_join.specs.declared.task.Stage.TheVariants as kept
use Rattle.task_fork_join.specs.declared.task.Task.{Task}
use Rattle.task_fork_join.specs.declared.task_end.TaskEnd.{TaskEnd}
use Rattle.task_fork_join.specs.declared.task_end.TaskEnd.TheVariants as end
use Rattle.task_fork_join.specs.Stepping.{Gone, HasParts, IsAnswered, IsGiven, IsWaiting}
use Rattle.txn_snapshot.specs.SnapshotTask.{SnapshotTask, having_merged}
use Rattle.value_core.specs.declared.value.Value.{Value as Datum}
use Rattle.task_fork_join.specs.Knowledge.{Knowledge, is_known}
use Rattle.value_core.specs.Named.{Name, Named, is_among, made_by, named, IsChanged}
use Rattle.value_core.specs.Place.{Spot}

-- the task of a future, where it is among those that are known
abbrev pub known_in : Named Task → Knowledge → Name → Option Task
known_in tasks knows future = if is_known knows future then named future tasks else None

-- the child of that future is merged, and what it knows is known
pub record IsMerged (future : Name) (child : Task) (log : SnapshotTask) (knows : Knowledge) (parts : Parts) : Type 0 where
  pub log_is : parts.log ≡ having_merged log future child.log
  pub both : (g : Name) → is_known parts.knows g ≡ (is_known knows g || is_known child.knows g)
  pub since : (g : Name) → is_among g parts.knows.since ≡ (is_among g knows.since || is_among g child.knows.since)

-- an end that is no value
abbrev pub IsNoValue : TaskEnd → Type 0
IsNoValue (end.Value v) = ⊥
IsNoValue _ = Unit {0}

-- it has not ended
abbrev pub IsGoing : KeptStage → Type 0
IsGoing (kept.Going machine) = Unit {0}
IsGoing (kept.Closing closing) = Unit {0}
IsGoing (kept.Ended ended) = ⊥

-- the child that a task made with that number is one that it knows and has not joined
pub record IsToJoin (t : Task) (k : ℕ) (f : Name) : Type 0 where
  pub called : f ≡ made_by t.log.log.name k
  pub unjoined : is_among f t.log.log.joined ≡ false
  pub known : is_known t.knows f ≡ true

-- A task joins that future where it is: its body asks for it; or it is at its value, and the future is that of the child with which its
-- joins go on.
abbrev pub JoinsAt : Table → Task → KeptStage → Name → Type 0
JoinsAt program t (kept.Going machine) f = (at : Spot) × (next program machine.body machine.values machine.inside machine.answers machine.fuel ≡ halt.Ask (request.Join f) at)
JoinsAt program t (kept.Closing closing) f = IsToJoin t closing.next f
JoinsAt program t (kept.Ended ended) f = ⊥

-- what the join of a child comes to that the task knows
abbrev pub IsMetBy : Task → Task → Name → Met → Type 0
IsMetBy t child future met.Unknown = ⊥
IsMetBy t child future met.Unfinished = IsGoing child.stage
IsMetBy t child future (met.First joined) =
    (child.stage ≡ kept.Ended (end.Value joined.value)) × (is_among future t.log.log.joined ≡ false) × IsMerged future child t.log t.knows joined.parts
IsMetBy t child future (met.Again v) = (child.stage ≡ kept.Ended (end.Value v)) × (is_among future t.log.log.joined ≡ true)
IsMetBy t child future (met.Ended e) = (child.stage ≡ kept.Ended e) × IsNoValue e

-- what a join comes to, where that is the known task of the future
abbrev pub IsMetAs : Option Task → Task → Name → Met → Type 0
IsMetAs None t future found = found ≡ met.Unknown
IsMetAs (Some child) t future found = IsMetBy t child future found

-- what a join of the task comes to
abbrev pub IsMet : Named Task → Task → Name → Met → Type 0
IsMet tasks t future found = IsMetAs (known_in tasks t.knows future) t future found

-- the task goes on with what it joined
pub record IsTaken (name : Name) (moved : Evaluation) (joined : Joined) (old new : Named Task) (found : Stepped) : Type 0 where
  pub machine : Evaluation
  pub given_so : IsGiven moved (answer.Value joined.value) machine
  pub tasks : IsChanged name old new (HasParts joined.parts (kept.Going machine))
  pub now : found ≡ stepped.Now

-- the task ends so, and else the tasks stay
pub record IsEnded (name : Name) (ended : TaskEnd) (old new : Named Task) (found : Stepped) : Type 0 where
  pub tasks : IsChanged name old new (Gone (kept.Ended ended))
  pub finished : found ≡ stepped.Finished

-- a plain task's value is the answer, and where it has none the task waits
abbrev pub CamePlain : Name → Evaluation → Name → Option Datum → Named Task → Named Task → Stepped → Type 0
CamePlain name moved future None old new found = IsWaiting name moved (stepped.WaitJoin future) old new found
CamePlain name moved future (Some v) old new found = IsAnswered name moved (answer.Value v) old new found

-- what is done where a join comes to that
abbrev pub CameJoin : Name → Evaluation → Name → Option Datum → Met → Named Task → Named Task → Stepped → Type 0
CameJoin name moved future outer met.Unknown old new found = CamePlain name moved future outer old new found
CameJoin name moved future outer met.Unfinished old new found = IsWaiting name moved (stepped.WaitJoin future) old new found
CameJoin name moved future outer (met.First joined) old new found = IsTaken name moved joined old new found
CameJoin name moved future outer (met.Again v) old new found = IsAnswered name moved (answer.Value v) old new found
CameJoin name moved future outer (met.Ended e) old new found = IsEnded name e old new found

-- a join of the task of that name, where a plain task of the future has that value
pub record IsJoin (name : Name) (moved : Evaluation) (future : Name) (outer : Option Datum) (old new : Named Task) (found : Stepped) : Type 0 where
  pub meets : Met
  pub met_so : (t : Task) → named name old ≡ Some t → IsMet old t future meets
  pub came : CameJoin name moved future outer meets old new found
