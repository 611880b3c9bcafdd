-- How the tasks of a transaction are kept: the one that runs, those below it that wait for the child they forked, and the
-- results of those that ended.
use Rattle.std.specs.Prelude.{◌≡◌, ◌||◌, ◌≤◌, ◌<◌, ℕ, suc, Bool, true, false, List, [], ◌∷◌, ◌++◌, fold, is_some, Option, None, Some}
use Rattle.std.specs.BTreeSet.{BTreeSet}
use Rattle.std.specs.List.{list_any}
use Rattle.std.specs.Option.{option_and_then, option_copied}
use Rattle.value_core.specs.declared.value.Value.{Value as Datum}
use Rattle.serial_model.specs.declared.answer.Answer.{Answer}
use Rattle.serial_model.specs.Log.{Log, merged, new_log}
use Rattle.value_core.specs.Named.{Name, Named, named, over, is_among}
use Rattle.serial_model.specs.Task as meaning
use Rattle.serial_model.specs.Task.{Around, Here, Known, Nothing, And, Moved, On, End, Outcome, Result, result_of, after_join, joins_child, unjoined}
use Rattle.eval_step.specs.Evaluation.{Evaluation, IsOf}
use Rattle.serial_units.specs.declared.around.Around.{Around as Surroundings}
use Rattle.serial_units.specs.declared.task.Done.{Done}
use Rattle.serial_units.specs.declared.task.Task.{Task}
use Rattle.serial_units.specs.declared.task.TaskEnd.{TaskEnd}
use Rattle.serial_units.specs.declared.task.TaskEnd.TheVariants as end
use Rattle.serial_units.specs.declared.tasks.Met.{Met}
use Rattle.serial_units.specs.declared.tasks.Reply.{Reply}
use Rattle.serial_units.specs.declared.tasks.Reply.TheVariants as reply
use Rattle.serial_units.specs.declared.tasks.Met.TheVariants as met
use Rattle.value_core.specs.NameSet.{has_name}
use Rattle.serial_units.specs.Task.{outcome_of}
use Rattle.serial_model.specs.Standing.{call_below, here_of}

-- what the tasks are run with
abbrev pub around_of : Surroundings → Around
around_of a = record {
  program = a.program.now;
  fuel = a.fuel;
  actor = option_copied a.actor;
  store = λ ref. named ref a.refs.now.entries;
  finished = λ name. option_and_then (λ unit. unit.value) (named name a.units.now);
}

-- the view of a task above these: their writes, the later over the earlier
abbrev pub view_of : List Task → Named Datum
view_of tasks = fold (λ view task. over task.log.writes view) [] tasks

-- whether a result of the future is known
abbrev pub knows : Known → Name → Bool
knows known future = is_some (result_of future known)

-- whether one of the tasks came to know the result
abbrev pub knows_below : List Task → Name → Bool
knows_below tasks future = list_any (λ task. has_name task.known future) tasks

-- A result is kept under its future. What it knows is what its task came to know, and else what is known round it.
pub record IsKept (results : Named Done) (around : Name → Bool) (future : Name) (outcome : Outcome) (log : Log) (inner : Known) : Type 0 where
  pub done : Done
  pub there : named future results ≡ Some done
  pub outcome_is : outcome_of done.end ≡ outcome
  pub log_is : done.task.log ≡ log
  pub learned : (g : Name) → has_name done.task.known g ≡ true → knows inner g ≡ true
  pub near : (g : Name) → knows inner g ≡ true → (has_name done.task.known g || around g) ≡ true

abbrev pub AreKept : Named Done → (Name → Bool) → Known → Type 0
AreKept results around Nothing = Unit {0}
AreKept results around (And future outcome log inner others) =
    IsKept results around future outcome log inner × AreKept results (knows inner) inner × AreKept results around others

-- a task above these knows those results: what it came to know itself, and what they did
pub record Knows (results : Named Done) (below : List Task) (own : BTreeSet Name) (known : Known) : Type 0 where
  pub same : (g : Name) → knows known g ≡ (has_name own g || knows_below below g)
  pub kept : AreKept results (knows known) known

-- the task above these is there, but for its answers
pub record IsAt (results : Named Done) (below : List Task) (task : Task) (here : Here) : Type 0 where
  pub log : task.log ≡ here.log
  pub knows : Knows results below task.known here.known

-- the task ended so
pub record IsEnded (results : Named Done) (below : List Task) (task : Task) (end : TaskEnd) (outcome : Outcome) (log : Log) (known : Known) : Type 0 where
  pub outcome_is : outcome_of end ≡ outcome
  pub log_is : task.log ≡ log
  pub knows : Knows results below task.known known

abbrev pub IsResult : Named Done → List Task → Task → TaskEnd → Result → Type 0
IsResult results below task end result = IsEnded results below task end result.outcome result.log result.known

-- it goes on there with these answers, or ended so
abbrev pub IsMoved : Named Done → List Task → Task → List Answer → Option TaskEnd → Moved → Type 0
IsMoved results below task answers None (On here) = IsAt results below task here × (answers ≡ here.answers)
IsMoved results below task answers (Some end) (End outcome here) = IsEnded results below task end outcome here.log here.known
IsMoved results below task answers _ _ = ⊥

-- what is known of a future: nothing, its value, after which its task is joined, or how it ended else
abbrev pub IsMetAs : Named Done → List Task → Task → Here → Name → Met → Result → Outcome → Type 0
IsMetAs results below task here future (met.Value v) child (meaning.Value w) = (v ≡ w) × IsAt results below task (after_join here future child)
IsMetAs results below task here future (met.Ended end) child (meaning.Value w) = ⊥
IsMetAs results below task here future (met.Ended end) child outcome = (outcome_of end ≡ outcome) × IsAt results below task here
IsMetAs results below task here future _ child outcome = ⊥

abbrev pub IsMet : Named Done → List Task → Task → Here → Name → Met → Option Result → Type 0
IsMet results below task here future found None = (found ≡ met.Unknown) × IsAt results below task here
IsMet results below task here future found (Some child) = IsMetAs results below task here future found child child.outcome

-- what was kept is kept
abbrev pub Extends : Named Done → Named Done → Type 0
Extends old new = (future : Name) (done : Done) → named future old ≡ Some done → named future new ≡ Some done

-- nothing that the task has yet to make has a result, nor has anything below that
abbrev pub IsUnmade : Named Done → Log → Type 0
IsUnmade results log = (k : ℕ) (rest : List ℕ) → log.made ≤ k → named (log.name ++ k ∷ rest) results ≡ None

-- neither that name nor any name below it has a result
abbrev pub IsFree : Named Done → Name → Type 0
IsFree results name = (rest : List ℕ) → named (name ++ rest) results ≡ None

-- results are added only below that name
abbrev pub AddsBelow : Name → Named Done → Named Done → Type 0
AddsBelow name old new = (g : Name) → ((k : ℕ) (rest : List ℕ) → ¬ (g ≡ name ++ k ∷ rest)) → named g new ≡ named g old

-- the task keeps its name, and what it has made
pub record KeepsMade (before after : Log) : Type 0 where
  pub name : after.name ≡ before.name
  pub made : after.made ≡ before.made

-- results are added only for what the task has made in between, and below that
pub record AddsMade (old : Named Done) (before : Log) (new : Named Done) (after : Log) : Type 0 where
  pub name : after.name ≡ before.name
  pub more : before.made ≤ after.made
  pub added : (g : Name) → ((k : ℕ) (rest : List ℕ) → before.made ≤ k → k < after.made → ¬ (g ≡ before.name ++ k ∷ rest)) → named g new ≡ named g old

-- the machine evaluates a task's body
pub record IsMachine (around : Around) (machine : Evaluation) : Type 0 where
  pub inside : machine.inside ≡ true
  pub fuel : machine.fuel ≡ around.fuel
  pub of : IsOf around.program machine

-- the task has merged what that one did, unless it had joined it, and knows what that one came to know
abbrev pub IsMerged : Bool → Task → Task → Done → Type 0
IsMerged true old new done = new ≡ old
IsMerged false old new done = (new.log ≡ merged old.log done.task.log) × ((g : Name) → has_name new.known g ≡ (has_name old.known g || has_name done.task.known g))

abbrev pub IsTakenIn : Task → Task → Name → Done → Type 0
IsTakenIn old new future done = IsMerged (is_among future old.log.joined) old new done

-- its value is met, and it is taken in; or its other end is, and nothing changes
abbrev pub IsJoinedAs : TaskEnd → Task → Task → Name → Done → Met → Type 0
IsJoinedAs (end.Value v) old new future done found = (found ≡ met.Value v) × IsTakenIn old new future done
IsJoinedAs other old new future done found = (found ≡ met.Ended other) × (new ≡ old)

abbrev pub IsJoined : Task → Task → Name → Done → Met → Type 0
IsJoined old new future done found = IsJoinedAs done.end old new future done found

-- the reply to a request: the answer with which the task goes on, or its end
abbrev pub IsReply : Named Done → List Task → Task → List Answer → Reply → Moved → Type 0
IsReply results below task answers (reply.Answer given) (On after) = IsAt results below task after × (after.answers ≡ answers ++ given ∷ [])
IsReply results below task answers (reply.Ended end) (End outcome after) = IsEnded results below task end outcome after.log after.known
IsReply results below task answers _ _ = ⊥

-- the running task, as the last of those that wait
abbrev pub with_top : List Task → Task → List Task
with_top below top = below ++ top ∷ []

-- at its end a task joined a child, or did not need to, and goes on; or it ended as the child did
abbrev pub IsClosed : Named Done → List Task → Task → Here → Name → Option TaskEnd → Type 0
IsClosed results below task here future None =
    (after : Here) × IsAt results below task after × (joins_child here future (unjoined here future) ≡ On after)
IsClosed results below task here future (Some end) =
    (outcome : Outcome) × IsEnded results below task end outcome here.log here.known × (joins_child here future (unjoined here future) ≡ End outcome here)

-- the task came to its end so
abbrev pub IsFinal : Named Done → List Task → Task → TaskEnd → Moved → Type 0
IsFinal results below task end (End outcome after) = IsEnded results below task end outcome after.log after.known
IsFinal results below task end (On after) = ⊥

-- the end that was met, where it is no value
abbrev pub end_met : Met → Option TaskEnd
end_met met.Unknown = None
end_met (met.Value v) = None
end_met (met.Ended end) = Some end

-- what the root of a transaction comes to, with that name, as the machine evaluates it
abbrev pub root_turns : Around → Evaluation → Name → Result
root_turns around machine name = meaning.turns around 16 (call_below around 16) machine.body machine.values [] (suc around.fuel) (here_of machine.answers (new_log name) Nothing)
