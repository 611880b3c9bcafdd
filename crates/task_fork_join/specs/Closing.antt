-- The joins at the end of a task.
use Rattle.std.specs.Prelude.{◌≡◌, ◌<◌, ◌+◌, ◌-◌, ℕ, zero, suc, Option, None, Some, if◌then◌else◌}
use Rattle.eval_step.specs.Evaluation.{Evaluation}
use Rattle.task_fork_join.specs.declared.closing.Closed.{Closed}
use Rattle.task_fork_join.specs.declared.closing.Went.{Went}
use Rattle.task_fork_join.specs.declared.closing.Went.TheVariants as went
use Rattle.task_fork_join.specs.declared.stepped.Stepped.{Stepped}
use Rattle.task_fork_join.specs.declared.stepped.Stepped.TheVariants as stepped
use Rattle.task_fork_join.specs.declared.task.Parts.{Parts}
use Rattle.task_fork_join.specs.declared.task.Stage.{Stage as KeptStage}
use Rattle.task_fork_join.specs.declared.task.Stage.TheVariants as kept
use Rattle.task_fork_join.specs.declared.task.Task.{Task}
use Rattle.task_fork_join.specs.declared.task_end.TaskEnd.{TaskEnd}
use Rattle.task_fork_join.specs.declared.task_end.TaskEnd.TheVariants as end
use Rattle.task_fork_join.specs.Joining.{known_in, IsMerged}
use Rattle.task_fork_join.specs.Stepping.{HasParts}
use Rattle.value_core.specs.declared.value.Value.{Value as Datum}
use Rattle.value_core.specs.Named.{Name, Named, is_among, made_by, named, IsChanged}

-- the number of the thing that a task made from which its joins at its value go on
abbrev pub next_join : KeptStage → ℕ
next_join (kept.Going machine) = 0
next_join (kept.Closing closing) = closing.next
next_join (kept.Ended ended) = 0

-- the known task of the future, where it is still to be joined
abbrev pub to_join : Named Task → Parts → Name → Option Task
to_join tasks parts future = if is_among future parts.log.log.joined then None else known_in tasks parts.knows future

-- a child with that number, which is still to be joined and is there: the task waits for it, or merges it, or ends as it did
abbrev pub WentAt : KeptStage → Name → ℕ → Task → Parts → Parts → Went → Type 0
WentAt (kept.Going machine) future k child old new found = (new ≡ old) × (found ≡ went.Waits future k)
WentAt (kept.Closing closing) future k child old new found = (new ≡ old) × (found ≡ went.Waits future k)
WentAt (kept.Ended (end.Value v)) future k child old new found = IsMerged future child old.log old.knows new × (found ≡ went.On)
WentAt (kept.Ended e) future k child old new found = (new ≡ old) × (found ≡ went.Ended e)

-- what is no child that is still to be joined is passed
abbrev pub WentBy : Option Task → Name → ℕ → Parts → Parts → Went → Type 0
WentBy None future k old new found = (new ≡ old) × (found ≡ went.On)
WentBy (Some child) future k old new found = WentAt child.stage future k child old new found

-- what comes of the thing with that number
abbrev pub IsWent : Named Task → ℕ → Parts → Parts → Went → Type 0
IsWent tasks k old new found = WentBy (to_join tasks old (made_by old.log.log.name k)) (made_by old.log.log.name k) k old new found

-- of so many things, from the one with that number on, each is passed or merged
abbrev pub Goes : Named Task → ℕ → Parts → ℕ → Parts → Type 0
Goes tasks from old zero new = new ≡ old
Goes tasks from old (suc count) new = (mid : Parts) × (Goes tasks from old count mid × IsWent tasks (from + count) mid new went.On)

-- the joins pass so many things, and from the next one comes that
pub record StopsAt (tasks : Named Task) (from : ℕ) (old new : Parts) (found : Went) : Type 0 where
  pub count : ℕ
  pub mid : Parts
  pub goes : Goes tasks from old count mid
  pub more : from + count < old.log.log.made
  pub last : IsWent tasks (from + count) mid new found

-- the joins of a task from the thing with that number on, up to what it has made
abbrev pub AllWent : Named Task → ℕ → Parts → Parts → Went → Type 0
AllWent tasks from old new went.On = Goes tasks from old (old.log.log.made - from) new
AllWent tasks from old new (went.Waits future next) = StopsAt tasks from old new (went.Waits future next)
AllWent tasks from old new (went.Ended e) = StopsAt tasks from old new (went.Ended e)

-- the task ends so, with what it joined
pub record IsFinished (name : Name) (parts : Parts) (ended : TaskEnd) (old new : Named Task) (found : Stepped) : Type 0 where
  pub tasks : IsChanged name old new (HasParts parts (kept.Ended ended))
  pub finished : found ≡ stepped.Finished

-- the task is at that value and waits for the thing with that number, with what it joined before
pub record IsHeld (name : Name) (moved : Evaluation) (v : Datum) (parts : Parts) (future : Name) (next : ℕ) (old new : Named Task) (found : Stepped) : Type 0 where
  pub tasks : IsChanged name old new (HasParts parts (kept.Closing (record { machine = moved; value = v; next = next })))
  pub waits : found ≡ stepped.WaitJoin future

-- what comes of the joins at the value of a task
abbrev pub CameClose : Name → Evaluation → Datum → Parts → Went → Named Task → Named Task → Stepped → Type 0
CameClose name moved v parts went.On old new found = IsFinished name parts (end.Value v) old new found
CameClose name moved v parts (went.Waits future next) old new found = IsHeld name moved v parts future next old new found
CameClose name moved v parts (went.Ended e) old new found = IsFinished name parts e old new found

-- the parts of the task
pub record ArePartsOf (t : Task) (parts : Parts) : Type 0 where
  pub log_is : parts.log ≡ t.log
  pub knows_is : parts.knows ≡ t.knows

-- that comes of the joins of the task of that name
pub record AreJoins (name : Name) (tasks : Named Task) (closed : Closed) : Type 0 where
  pub before : Parts
  pub from : ℕ
  pub parts_of : (t : Task) → named name tasks ≡ Some t → ArePartsOf t before
  pub from_so : (t : Task) → named name tasks ≡ Some t → from ≡ next_join t.stage
  pub went_so : AllWent tasks from before closed.parts closed.went

-- the task of that name is at that value
pub record IsClose (name : Name) (moved : Evaluation) (v : Datum) (old new : Named Task) (found : Stepped) : Type 0 where
  pub closed : Closed
  pub joins : AreJoins name old closed
  pub came : CameClose name moved v closed.parts closed.went old new found
