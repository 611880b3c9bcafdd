-- No row of a unit, of a task, of an actor or of a turn that runs ahead answers Stale.
use Rattle.std.proofs.Common.{◌≡◌, ◌∙◌, Bool, true, false, sym, ap}
use Rattle.std.specs.Prelude.{◌∷◌, ◌&&◌, ◌==◌, [], List, None, Option, Some}
use Rattle.actor_mailbox.specs.declared.message.Message.{Message}
use Rattle.core_syntax.specs.declared.behaviour.Behaviour.{Behaviour}
use Rattle.core_syntax.specs.declared.node_id.NodeId.{NodeId}
use Rattle.eval_step.specs.Evaluation.{Evaluation}
use Rattle.lent_pieces.specs.Giving as gives
use Rattle.lent_pieces.specs.Giving.{PieceGave}
use Rattle.lent_pieces.specs.Leading as live
use Rattle.lent_pieces.specs.Leading.{LiveGave}
use Rattle.ref_store.specs.declared.version.Version.{Version}
use Rattle.ref_store.specs.Store.{versions_of}
use Rattle.ref_store.specs.Version.{newest}
use Rattle.serial_model.specs.declared.actor_state.ActorState.{ActorState}
use Rattle.serial_model.specs.declared.halt.Halt.{Halt}
use Rattle.serial_model.specs.declared.halt.Halt.TheVariants as halt
use Rattle.serial_model.specs.declared.request.Request.{Request}
use Rattle.serial_model.specs.declared.request.Request.TheVariants as request
use Rattle.serial_model.specs.Step.{next_of}
use Rattle.shared_world.specs.Ahead.{Ahead}
use Rattle.shared_world.specs.declared.given.Given.{Given}
use Rattle.shared_world.specs.declared.given.Given.TheVariants as given
use Rattle.shared_world.specs.rows.Leading.{FirstSettles, ForkSettles, LeadGives, LeadGoes, LeadHolds, LeadTries, NextSettles, TakeSettlesIfAllowed, is_definite, is_to_settle}
use Rattle.shared_world.specs.rows.Tasks as row
use Rattle.shared_world.specs.rows.Tasks.{AfterStep, EndGives, Missing, RootGives, StepGives, TaskGives}
use Rattle.shared_world.specs.rows.Turns.{TakesIfAllowed}
use Rattle.shared_world.specs.rows.Units.{Becomes, Derefs, Finishes, ForksIfAllowed, Joins, Selves, Tries, UnitGives}
use Rattle.shared_world.specs.Shared.{Shared, actor_of, finished_at, ref_now, unit_state}
use Rattle.task_fork_join.specs.Attempt.{Attempt, end_at, machine_of}
use Rattle.task_fork_join.specs.declared.stepped.Stepped.{Stepped}
use Rattle.task_fork_join.specs.declared.stepped.Stepped.TheVariants as stepped_as
use Rattle.task_fork_join.specs.declared.task_end.TaskEnd.{TaskEnd}
use Rattle.task_fork_join.specs.declared.task_end.TaskEnd.TheVariants as end
use Rattle.unit_table.specs.declared.mark.Work.{Work}
use Rattle.unit_table.specs.declared.piece.Actor.{Actor}
use Rattle.unit_table.specs.declared.unit.Unit.{Unit}
use Rattle.value_core.specs.declared.value.Value.{Value}
use Rattle.value_core.specs.Named.{Name, named}
use Rattle.value_core.specs.Place.{Spot}

abbrev is_stale : Given → Bool
is_stale (given.Settled e) = false
is_stale given.Held = false
is_stale given.Local = false
is_stale (given.Began n) = false
is_stale (given.Waiting w) = false
is_stale (given.Aborted u n v) = false
is_stale given.Stale = true

-- what a unit comes to
derefs : (old : Shared) (u : Name) (x : Unit) (v : Option Value) (found : Given) (new : Shared) → Derefs old u x v found new → is_stale found ≡ false
derefs old u x None found new r = absurd r
derefs old u x (Some v) found new r = ap is_stale r.found_is

forks : (old : Shared) (u : Name) (x : Unit) (body : _) (values : _) (full : Bool) (found : Given) (new : Shared) → ForksIfAllowed old u x body values full found new → is_stale found ≡ false
forks old u x body values true found new r = ap is_stale r.found_is
forks old u x body values false found new r = ap is_stale r.settles.found_is

joins : (old : Shared) (u : Name) (x : Unit) (future : Name) (v : Option Value) (found : Given) (new : Shared) → Joins old u x future v found new → is_stale found ≡ false
joins old u x future None found new r = ap is_stale r.found_is
joins old u x future (Some v) found new r = ap is_stale r.found_is

tries : (old : Shared) (u : Name) (x : Unit) (body : _) (values : _) (at : _) (tree : Option Attempt) (found : Given) (new : Shared) → Tries old u x body values at tree found new → is_stale found ≡ false
tries old u x body values at None found new r = ap is_stale r.found_is
tries old u x body values at (Some tree) found new r = absurd r

becomes : (old : Shared) (u : Name) (x : Unit) (behaviour : _) (state : _) (at : _) (actor : Option Name) (found : Given) (new : Shared) → Becomes old u x behaviour state at actor found new → is_stale found ≡ false
becomes old u x behaviour state at None found new r = ap is_stale r.found_is
becomes old u x behaviour state at (Some a) found new r = ap is_stale r.found_is

selves : (old : Shared) (u : Name) (x : Unit) (at : _) (actor : Option Name) (found : Given) (new : Shared) → Selves old u x at actor found new → is_stale found ≡ false
selves old u x at None found new r = ap is_stale r.found_is
selves old u x at (Some a) found new r = ap is_stale r.found_is

finishes : (old : Shared) (u : Name) (x : Unit) (v : Value) (actor : Option Name) (found : Given) (new : Shared) → Finishes old u x v actor found new → is_stale found ≡ false
finishes old u x v None found new r = ap is_stale r.found_is
finishes old u x v (Some a) found new r = ap is_stale r.settles.found_is

unit-row : (old : Shared) (u : Name) (x : Unit) (h : Halt) (found : Given) (new : Shared) → UnitGives old u x h found new → is_stale found ≡ false
unit-row old u x (halt.Ask (request.Print text) at) found new r = ap is_stale r.found_is
unit-row old u x (halt.Ask (request.NewRef v) at) found new r = ap is_stale r.settles.found_is
unit-row old u x (halt.Ask (request.Deref ref) at) found new r = derefs old u x (ref_now old.versions ref) found new r
unit-row old u x (halt.Ask (request.RefSet ref v) at) found new r = ap is_stale r.found_is
unit-row old u x (halt.Ask (request.Fork body values) at) found new r = forks old u x body values (old.made == old.setup.limits.units) found new r
unit-row old u x (halt.Ask (request.Join future) at) found new r = joins old u x future (finished_at old.board future) found new r
unit-row old u x (halt.Ask (request.Dosync body values) at) found new r = tries old u x body values at (named u old.attempts) found new r
unit-row old u x (halt.Ask (request.Spawn n args) at) found new r = ap is_stale r.settles.found_is
unit-row old u x (halt.Ask (request.Send a args) at) found new r = ap is_stale r.settles.found_is
unit-row old u x (halt.Ask (request.Become n args) at) found new r = becomes old u x n args at (actor_of x.kind) found new r
unit-row old u x (halt.Ask request.SelfActor at) found new r = selves old u x at (actor_of x.kind) found new r
unit-row old u x (halt.Value v) found new r = finishes old u x v (actor_of x.kind) found new r
unit-row old u x (halt.Fault code at) found new r = ap is_stale r.found_is
unit-row old u x halt.Spent found new r = ap is_stale r.found_is

-- what a task comes to
ends : (old : Shared) (u : Name) (x : Unit) (tree : Attempt) (e : TaskEnd) (found : Given) (new : Shared) → EndGives old u x tree e found new → is_stale found ≡ false
ends old u x tree (end.Value v) found new r = ap is_stale r.found_is
ends old u x tree (end.Fault code at) found new r = ap is_stale r.found_is
ends old u x tree end.Spent found new r = ap is_stale r.found_is

root : (old : Shared) (u : Name) (x : Unit) (task : Name) (tree : Attempt) (e : TaskEnd) (found : Given) (new : Shared) → RootGives old u x task tree e found new → is_stale found ≡ false
root old u x task tree e found new (row.valid level all r) = ends old u x tree e found new r
root old u x task tree e found new (row.conflicts level r) = ap is_stale r.aborts.found_is
root old u x task tree e found new (row.waits r) = ap is_stale r.found_is

misses : (old : Shared) (u : Name) (x : Unit) (task : Name) (tree : Attempt) (ref : Name) (version : Option Version) (found : Given) (new : Shared) → Missing old u x task tree ref version found new → is_stale found ≡ false
misses old u x task tree ref None found new r = ap is_stale r.found_is
misses old u x task tree ref (Some version) found new r = ap is_stale r.found_is

steps : (old : Shared) (u : Name) (x : Unit) (task : Name) (tree : Attempt) (went : Stepped) (found : Given) (new : Shared) → StepGives old u x task tree went found new → is_stale found ≡ false
steps old u x task tree stepped_as.Now found new r = ap is_stale r.0
steps old u x task tree (stepped_as.Forked child) found new r = ap is_stale r.0
steps old u x task tree (stepped_as.WaitJoin future) found new r = ap is_stale r.0
steps old u x task tree (stepped_as.NotInSnapshot ref) found new r = misses old u x task tree ref (newest (versions_of old.versions ref)) found new r
steps old u x task tree stepped_as.Finished found new r = ap is_stale r.0

after : (base : Shared) (u : Name) (x : Unit) (task : Name) (tree : Attempt) (went : Stepped) (ended : Option TaskEnd) (found : Given) (new : Shared) → AfterStep base u x task tree went ended found new → is_stale found ≡ false
after base u x task tree went None found new r = steps base u x task tree went found new r
after base u x task tree went (Some e) found new r = root base u x task tree e found new r

task-row : (old : Shared) (u : Name) (x : Unit) (task : Name) (tree : Attempt) (ended : Option TaskEnd) (machine : Option Evaluation) (found : Given) (new : Shared) → TaskGives old u x task tree ended machine found new → is_stale found ≡ false
task-row old u x task tree None (Some machine) found new r = after _ u x task r.by.after r.by.went (end_at r.by.after) found new r.comes
task-row old u x task tree None None found new r = absurd r
task-row old u x task tree (Some ended) machine found new r = root old u x task tree ended found new r

-- what an actor comes to
takes : (old : Shared) (a : Name) (actor : ActorState) (m : Message) (rest : List Message) (behaviour : Behaviour) (full : Bool) (found : Given) (new : Shared) → TakesIfAllowed old a actor m rest behaviour full found new → is_stale found ≡ false
takes old a actor m rest behaviour true found new r = ap is_stale r.found_is
takes old a actor m rest behaviour false found new r = ap is_stale r.found_is

-- what a turn comes to that runs ahead: one more is held
holds : (old : Shared) (u : Name) (x : Unit) (h : Ahead) (r : Request) (found : Given) (new : Shared) → LeadHolds old u x h r found new → is_stale found ≡ false
holds old u x h (request.Send to args) found new r = ap is_stale r.holds.found_is
holds old u x h (request.Print text) found new r = ap is_stale r.found_is
holds old u x h (request.NewRef v) found new r = ap is_stale r.found_is
holds old u x h (request.Deref ref) found new r = ap is_stale r.found_is
holds old u x h (request.RefSet ref v) found new r = ap is_stale r.found_is
holds old u x h (request.Fork body values) found new r = ap is_stale r.found_is
holds old u x h (request.Join future) found new r = ap is_stale r.found_is
holds old u x h (request.Dosync body values) found new r = ap is_stale r.found_is
holds old u x h (request.Spawn behaviour state) found new r = ap is_stale r.found_is
holds old u x h (request.Become behaviour state) found new r = ap is_stale r.found_is
holds old u x h request.SelfActor found new r = ap is_stale r.found_is

-- or an attempt begins
lead-tries : (old : Shared) (u : Name) (x : Unit) (h : Ahead) (body : NodeId) (values : List Value) (at : Spot) (tree : Option Attempt) (found : Given) (new : Shared) → LeadTries old u x h body values at tree found new → is_stale found ≡ false
lead-tries old u x h body values at None found new r = ap is_stale r.found_is
lead-tries old u x h body values at (Some tree) found new r = absurd r

goes : (old : Shared) (u : Name) (x : Unit) (h : Ahead) (halts : Halt) (found : Given) (new : Shared) → LeadGoes old u x h halts found new → is_stale found ≡ false
goes old u x h (halt.Ask (request.Dosync body values) at) found new r = lead-tries old u x h body values at (named u old.attempts) found new r
goes old u x h (halt.Ask (request.Deref ref) at) found new r = ap is_stale r.found_is
goes old u x h (halt.Ask (request.RefSet ref v) at) found new r = ap is_stale r.found_is
goes old u x h (halt.Ask (request.Join future) at) found new r = ap is_stale r.found_is
goes old u x h (halt.Ask (request.Send to args) at) found new r = holds old u x h (request.Send to args) found new r
goes old u x h (halt.Ask (request.Print text) at) found new r = holds old u x h (request.Print text) found new r
goes old u x h (halt.Ask (request.NewRef v) at) found new r = holds old u x h (request.NewRef v) found new r
goes old u x h (halt.Ask (request.Fork body values) at) found new r = holds old u x h (request.Fork body values) found new r
goes old u x h (halt.Ask (request.Spawn behaviour state) at) found new r = holds old u x h (request.Spawn behaviour state) found new r
goes old u x h (halt.Ask (request.Become behaviour state) at) found new r = holds old u x h (request.Become behaviour state) found new r
goes old u x h (halt.Ask request.SelfActor at) found new r = holds old u x h request.SelfActor found new r
goes old u x h (halt.Value v) found new r = ap is_stale r.found_is
goes old u x h (halt.Fault code at) found new r = ap is_stale r.found_is
goes old u x h halt.Spent found new r = ap is_stale r.found_is

-- or the next that it holds is settled
lead-forks : (old : Shared) (u : Name) (x : Unit) (h : Ahead) (body : NodeId) (values : List Value) (rest : List Request) (full : Bool) (found : Given) (new : Shared) → ForkSettles old u x h body values rest full found new → is_stale found ≡ false
lead-forks old u x h body values rest true found new r = ap is_stale r.found_is
lead-forks old u x h body values rest false found new r = ap is_stale r.2.found_is

first : (old : Shared) (u : Name) (x : Unit) (h : Ahead) (r : Request) (rest : List Request) (found : Given) (new : Shared) → FirstSettles old u x h r rest found new → is_stale found ≡ false
first old u x h (request.Print text) rest found new r = ap is_stale r.found_is
first old u x h (request.NewRef v) rest found new r = ap is_stale r.settles.found_is
first old u x h (request.Spawn behaviour state) rest found new r = ap is_stale r.2.found_is
first old u x h (request.Fork body values) rest found new r = lead-forks old u x h body values rest (old.made == old.setup.limits.units) found new r
first old u x h (request.Send to args) rest found new r = ap is_stale r.2.found_is
first old u x h (request.Become behaviour state) rest found new r = ap is_stale r.found_is
first old u x h request.SelfActor rest found new r = ap is_stale r.found_is
first old u x h (request.Deref ref) rest found new r = absurd r
first old u x h (request.RefSet ref v) rest found new r = absurd r
first old u x h (request.Join future) rest found new r = absurd r
first old u x h (request.Dosync body values) rest found new r = absurd r

begin : (old : Shared) (u : Name) (x : Unit) (h : Ahead) (a : Name) (actor : Actor) (m : Message) (full : Bool) (found : Given) (new : Shared) → TakeSettlesIfAllowed old u x h a actor m full found new → is_stale found ≡ false
begin old u x h a actor m true found new r = ap is_stale r.found_is
begin old u x h a actor m false found new r = ap is_stale r.settles.found_is

next : (old : Shared) (u : Name) (x : Unit) (h : Ahead) (takes_of : Option Name) (held : List Request) (found : Given) (new : Shared) → NextSettles old u x h takes_of held found new → is_stale found ≡ false
next old u x h (Some a) held found new r = begin old u x h a r.0.actor r.0.message (old.made == old.setup.limits.units) found new r.1
next old u x h None (r ∷ rest) found new is = first old u x h r rest found new is
next old u x h None [] found new r = absurd r

lead-row : (old : Shared) (u : Name) (x : Unit) (h : Ahead) (settles : Bool) (found : Given) (new : Shared) → LeadGives old u x h settles found new → is_stale found ≡ false
lead-row old u x h true found new r = next old u x h h.takes h.held found new r
lead-row old u x h false found new r = goes old u x h (next_of old.setup (unit_state x)) found new r

-- what comes of a piece is not Stale
pub not-stale : (old new : Shared) (name : Name) (w : Work) (found : Given) → LiveGave old name w found new → found ≡ given.Stale → ⊥
not-stale old new name w found gave is = let no : true ≡ false = sym (ap is_stale is) ∙ of gave in cc
  where
    told : PieceGave old name found new → is_stale found ≡ false
    told (gives.unit g) = unit-row old name g.unit (next_of old.setup (unit_state g.unit)) found new g.gives
    told (gives.task g) = task-row old g.owner g.unit name g.tree (end_at g.tree) (machine_of g.tree name) found new g.gives
    told (gives.actor g) = takes old name g.actor.state g.first g.rest g.can.behaviour (old.made == old.setup.limits.units) found new g.gives

    of : LiveGave old name w found new → is_stale found ≡ false
    of (live.piece g) = told g
    of (live.lead g) = lead-row old name g.unit g.ahead (is_definite old.taken g.ahead.takes && is_to_settle w) found new g.gives
    of (live.tentative g) = ap is_stale g.takes.found_is
