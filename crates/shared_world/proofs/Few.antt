-- Few versions are kept of each ref, whatever a result comes to.
use Rattle.std.proofs.Common.{◌≡◌, ◌∙◌, ◌==◌, ◌+◌, ◌≤◌, ◌++◌, ◌∷◌, [], ℕ, suc, Bool, true, false, cond, length, le_refl, List, Option, None, Some, sym, ap, subst, arith}
use Rattle.std.specs.declared.cmp.Ordering.{Ordering}
use Rattle.std.specs.declared.cmp.Ordering.TheVariants.{Equal, Greater, Less}
use Rattle.std.specs.FinMap.Entries.{by_order}
use Rattle.std.specs.Prelude.{◌&&◌, unwrap_or}
use Rattle.actor_mailbox.specs.declared.message.Message.{Message}
use Rattle.core_syntax.specs.declared.behaviour.Behaviour.{Behaviour}
use Rattle.eval_step.specs.Evaluation.{Evaluation}
use Rattle.ref_store.specs.declared.version.Version.{Version}
use Rattle.ref_store.specs.Store.{committed, version_of, versions_of}
use Rattle.ref_store.specs.Version.{newest}
use Rattle.serial_model.specs.declared.actor_state.ActorState.{ActorState}
use Rattle.serial_model.specs.declared.end.End.{End}
use Rattle.serial_model.specs.declared.entry.Entry.{Entry}
use Rattle.serial_model.specs.declared.halt.Halt.{Halt}
use Rattle.serial_model.specs.declared.halt.Halt.TheVariants as halt
use Rattle.serial_model.specs.declared.request.Request.{Request}
use Rattle.serial_model.specs.declared.request.Request.TheVariants as request
use Rattle.serial_model.specs.State.{Setup, UnitState}
use Rattle.serial_model.specs.Step.{next_of}
use Rattle.shared_world.proofs.Posting.{IsPosting, posting-rest, step-posting}
use Rattle.shared_world.specs.Ahead.{Ahead}
use Rattle.shared_world.specs.declared.given.Given.{Given}
use Rattle.shared_world.specs.Few.{KeepsFew}
use Rattle.shared_world.specs.Gave as gave
use Rattle.shared_world.specs.Gave.{Gave, GaveTask, GaveUnit}
use Rattle.shared_world.specs.Opening.{IsOpening}
use Rattle.shared_world.specs.Returned.{Returned}
use Rattle.shared_world.specs.rows.Attempts.{ArePrunedFor, BeginsMarked}
use Rattle.shared_world.specs.rows.Leading as lead
use Rattle.shared_world.specs.rows.Leading.{FirstSettles, ForkSettles, GaveLead, GaveTentative, HoldsOn, LeadGives, LeadGoes, LeadSettles, LeadTries, NextSettles, SendsHeld, SettlesBegin, TakeSettlesIfAllowed, WaitsDefinite, is_definite, is_to_settle}
use Rattle.shared_world.specs.rows.Pieces.{EndsBy, Settles}
use Rattle.shared_world.specs.rows.Resetting.{Resets}
use Rattle.shared_world.specs.rows.Sending.{sends_in}
use Rattle.shared_world.specs.rows.Tasks as tasks
use Rattle.shared_world.specs.rows.Tasks.{AfterStep, EndGives, Missing, RootGives, StepGives, TaskGives}
use Rattle.shared_world.specs.rows.Turns.{GaveActor, TakesIfAllowed}
use Rattle.shared_world.specs.rows.Units.{Becomes, Derefs, Finishes, ForksIfAllowed, Joins, Selves, Tries, UnitGives}
use Rattle.shared_world.specs.Seen.{done_by_root}
use Rattle.shared_world.specs.Shared.{Shared, actor_of, finished_at, ref_now, unit_state}
use Rattle.task_fork_join.specs.Attempt.{Attempt, end_at}
use Rattle.task_fork_join.specs.declared.stepped.Stepped.{Stepped}
use Rattle.task_fork_join.specs.declared.stepped.Stepped.TheVariants as stepped
use Rattle.task_fork_join.specs.declared.task_end.TaskEnd.{TaskEnd}
use Rattle.task_fork_join.specs.declared.task_end.TaskEnd.TheVariants as end
use Rattle.unit_table.specs.declared.mark.Mark.{Mark}
use Rattle.unit_table.specs.declared.unit.Unit.{Unit}
use Rattle.value_core.proofs.NamedLaws.{named-with_named}
use Rattle.value_core.specs.declared.value.Value.{Value}
use Rattle.value_core.specs.Name.{after_cmp}
use Rattle.value_core.specs.Named.{Name, Named, named, same_name, with_named}

-- a map with one entry more, or with another one in its place, is no shorter
pub no-fewer : {X : Type 0} (k : Name) (x : X) (all : Named X) → length all ≤ length (with_named all k x)
no-fewer k x [] = omega arith
no-fewer {X} k x (e ∷ es) = on (after_cmp k e.0) (no-fewer k x es)
  where
    on : (o : Ordering) → length es ≤ length (with_named es k x) → suc (length es) ≤ length (by_order o ((k, x) ∷ e ∷ es) ((e.0, x) ∷ es) (e ∷ with_named es k x))
    on Less rest = omega arith
    on Equal rest = omega arith
    on Greater rest = omega (arith, rest)

-- where the attempts are the same, none is gone
pub none-gone : (old new : Shared) → new.attempts ≡ old.attempts → length old.attempts ≤ length new.attempts
none-gone old new same = subst (λ (all : Named Attempt). length old.attempts ≤ length all) (sym same) (le_refl (length old.attempts))

-- where the attempt of a unit is put
pub none-gone-put : (old new : Shared) (u : Name) (tree : Attempt) → new.attempts ≡ with_named old.attempts u tree → length old.attempts ≤ length new.attempts
none-gone-put old new u tree same = subst (λ (all : Named Attempt). length old.attempts ≤ length all) (sym same) (no-fewer u tree old.attempts)

-- ---- few versions
-- where the versions stay, and there are no fewer attempts
pub few-still : (old new : Shared) → new.versions ≡ old.versions → length old.attempts ≤ length new.attempts → KeepsFew old → KeepsFew new
few-still old new versions attempts few ref =
    let same = ap (λ vs. length (versions_of vs ref)) versions in
    let was = few ref in
    omega (arith, same, was, attempts)

pub few-same : (old new : Shared) → new.versions ≡ old.versions → new.attempts ≡ old.attempts → KeepsFew old → KeepsFew new
few-same old new versions attempts few = few-still old new versions (none-gone old new attempts) few

few-put : (old new : Shared) (u : Name) (tree : Attempt) → new.versions ≡ old.versions → new.attempts ≡ with_named old.attempts u tree → KeepsFew old → KeepsFew new
few-put old new u tree versions attempts few = few-still old new versions (none-gone-put old new u tree attempts) few

-- where the versions are pruned for the attempts, whatever they were before
pub few-pruned : (s : Shared) (before : Named (List Version)) → ArePrunedFor s.attempts before s.versions → KeepsFew s
few-pruned s before is ref =
    let count = (is.pruned ref).count in
    let live = is.are_live.count in
    omega (arith, count, live)

-- where a ref that had no version has its first
few-made : (s : Shared) (n : Name) (v : Value) (number : ℕ) → versions_of s.versions n ≡ [] → KeepsFew s → KeepsFew (record s { versions = committed s.versions ((n, v) ∷ []) number })
few-made s n v number none few ref = on (same_name ref n) (named-with_named ref n first s.versions)
  where
    first : List Version
    first = versions_of s.versions n ++ version_of number v ∷ []

    alone : length first ≡ 1
    alone = ap (λ (vs : List Version). length (vs ++ version_of number v ∷ [])) none

    on : (c : Bool) → named ref (with_named s.versions n first) ≡ cond c (Some first) (named ref s.versions) → length (versions_of (with_named s.versions n first) ref) ≤ length s.attempts + 1
    on true is = let one = ap (λ (o : Option (List Version)). length (unwrap_or o [])) is ∙ alone in omega (arith, one)
    on false is = let same = ap (λ (o : Option (List Version)). length (unwrap_or o [])) is in let was = few ref in omega (arith, same, was)

-- ---- the rows
settles : (base : Shared) (u : Name) (x : Unit) (after : UnitState) (found : Given) (new : Shared) → KeepsFew base → Settles base u x after found new → KeepsFew new
settles base u x after found new few r = few-same base new (ap (λ (s : Shared). s.versions) r.others) (ap (λ (s : Shared). s.attempts) r.others) few

ends : (old : Shared) (entry : Entry) (e : End) (found : Given) (new : Shared) → KeepsFew old → EndsBy old entry e found new → KeepsFew new
ends old entry e found new few r = few-same old new (ap (λ (s : Shared). s.versions) r.others) (ap (λ (s : Shared). s.attempts) r.others) few

begins : (old : Shared) (u : Name) (x : Unit) (m : Mark) (body : _) (values : _) (at : _) (found : Given) (new : Shared) → KeepsFew old → BeginsMarked old u x m body values at found new → KeepsFew new
begins old u x m body values at found new few r = few-put old new u r.tree (ap (λ (s : Shared). s.versions) r.others) r.attempts few

-- only pieces change
boards : (old new : Shared) → KeepsFew old → new ≡ record old { board = new.board } → KeepsFew new
boards old new few is = few-same old new (ap (λ (s : Shared). s.versions) is) (ap (λ (s : Shared). s.attempts) is) few

module _ (old : Shared) (few : KeepsFew old) (u : Name) (x : Unit) (found : Given) (new : Shared) where
  -- ---- what a unit comes to
  derefs : (value : Option Value) → Derefs old u x value found new → KeepsFew new
  derefs None r = absurd r
  derefs (Some v) r = settles old u x _ found new few r

  forks : (body : _) (values : _) (full : Bool) → ForksIfAllowed old u x body values full found new → KeepsFew new
  forks body values true r = ends old _ _ found new few r
  forks body values false r = settles _ u x _ found new few r.settles

  joins : (future : Name) (value : Option Value) → Joins old u x future value found new → KeepsFew new
  joins future None r = boards old new few r.others
  joins future (Some v) r = settles old u x _ found new few r

  tries : (body : _) (values : _) (at : _) (attempt : Option Attempt) → Tries old u x body values at attempt found new → KeepsFew new
  tries body values at None r = begins old u x _ body values at found new few r
  tries body values at (Some tree) r = absurd r

  becomes : (behaviour : _) (state : _) (at : _) (actor : Option Name) → Becomes old u x behaviour state at actor found new → KeepsFew new
  becomes behaviour state at None r = ends old _ _ found new few r
  becomes behaviour state at (Some actor) r = settles old u x _ found new few r

  selves : (at : _) (actor : Option Name) → Selves old u x at actor found new → KeepsFew new
  selves at None r = ends old _ _ found new few r
  selves at (Some actor) r = settles old u x _ found new few r

  finishes : (v : _) (actor : Option Name) → Finishes old u x v actor found new → KeepsFew new
  finishes v None r = settles old u x _ found new few r
  finishes v (Some actor) r = settles _ u x _ found new few r.settles

  unit-few : (h : Halt) → UnitGives old u x h found new → KeepsFew new
  unit-few (halt.Ask (request.Print text) at) r = settles _ u x _ found new few r
  unit-few (halt.Ask (request.NewRef v) at) r = settles _ u x _ found new (few-made old _ v _ r.none few) r.settles
  unit-few (halt.Ask (request.Deref ref) at) r = derefs (ref_now old.versions ref) r
  unit-few (halt.Ask (request.RefSet ref v) at) r = ends old _ _ found new few r
  unit-few (halt.Ask (request.Fork body values) at) r = forks body values (old.made == old.setup.limits.units) r
  unit-few (halt.Ask (request.Join future) at) r = joins future (finished_at old.board future) r
  unit-few (halt.Ask (request.Dosync body values) at) r = tries body values at (named u old.attempts) r
  unit-few (halt.Ask (request.Spawn n args) at) r = settles _ u x _ found new few r.settles
  unit-few (halt.Ask (request.Send a args) at) r = settles _ u x _ found new few r.settles
  unit-few (halt.Ask (request.Become n args) at) r = becomes n args at (actor_of x.kind) r
  unit-few (halt.Ask request.SelfActor at) r = selves at (actor_of x.kind) r
  unit-few (halt.Value v) r = finishes v (actor_of x.kind) r
  unit-few (halt.Fault code at) r = ends old _ _ found new few r
  unit-few halt.Spent r = ends old _ _ found new few r

  -- ---- what a task comes to
  end-few : (tree : Attempt) (ended : TaskEnd) → EndGives old u x tree ended found new → KeepsFew new
  end-few tree (end.Value v) r = few-pruned new _ r.versions
  end-few tree (end.Fault failed at) r = ends old _ _ found new few r
  end-few tree end.Spent r = ends old _ _ found new few r

  root-few : (task : Name) (tree : Attempt) (ended : TaskEnd) → RootGives old u x task tree ended found new → KeepsFew new
  root-few task tree ended (tasks.valid level unchanged r) = end-few tree ended r
  root-few task tree ended (tasks.conflicts level r) = few-pruned new old.versions r.aborts.undoes.versions
  root-few task tree ended (tasks.waits r) = boards old new few r.marked.others

  missing-few : (task : Name) (tree : Attempt) (ref : Name) (version : Option Version) → Missing old u x task tree ref version found new → KeepsFew new
  missing-few task tree ref None r = boards old new few r.marked.others
  missing-few task tree ref (Some version) r = few-pruned new old.versions r.undoes.versions

  step-few : (task : Name) (tree : Attempt) (went : Stepped) → StepGives old u x task tree went found new → KeepsFew new
  step-few task tree stepped.Now r = boards old new few r.1.others
  step-few task tree (stepped.Forked child) r = boards (record old { owners = with_named old.owners child u; board = r.1.board }) new few r.1.steps.others
  step-few task tree (stepped.WaitJoin future) r = boards old new few r.1.others
  step-few task tree (stepped.NotInSnapshot ref) r = missing-few task tree ref (newest (versions_of old.versions ref)) r
  step-few task tree stepped.Finished r = boards old new few r.1.others

  after-few : (task : Name) (tree : Attempt) (went : Stepped) (ended : Option TaskEnd) → AfterStep old u x task tree went ended found new → KeepsFew new
  after-few task tree went None r = step-few task tree went r
  after-few task tree went (Some ended) r = root-few task tree ended r

  -- ---- what a turn that runs ahead comes to
  module _ (h : Ahead) where
    lead-settles : (base : Shared) (left : Ahead) (entry : Entry) → KeepsFew base → LeadSettles base u x left entry found new → KeepsFew new
    lead-settles base left entry few r = few-same base new (ap (λ (s : Shared). s.versions) r.others) (ap (λ (s : Shared). s.attempts) r.others) few

    holds : (r : Request) (base : Shared) → KeepsFew base → HoldsOn base u x h r found new → KeepsFew new
    holds r base few g = few-same base new (ap (λ (s : Shared). s.versions) g.others) (ap (λ (s : Shared). s.attempts) g.others) few

    waits : WaitsDefinite old u x h found new → KeepsFew new
    waits r = few-same old new (ap (λ (s : Shared). s.versions) r.others) (ap (λ (s : Shared). s.attempts) r.others) few

    sends-held : (to : Name) (args : List Value) (base : Shared) → SendsHeld old u to args base → KeepsFew base
    sends-held to args base (lead.taken m actor took depends there changed put is) = few-same old base (ap (λ (s : Shared). s.versions) is) (ap (λ (s : Shared). s.attempts) is) few
    sends-held to args base (lead.mailed none mailed put is) = few-same old base (ap (λ (s : Shared). s.versions) is) (ap (λ (s : Shared). s.attempts) is) few

    first-few : (r : Request) (rest : List Request) → FirstSettles old u x h r rest found new → KeepsFew new
    first-few (request.Print text) rest g = lead-settles _ _ _ few g
    first-few (request.NewRef v) rest g = lead-settles _ _ _ (few-made old _ v _ g.none few) g.settles
    first-few (request.Deref ref) rest g = absurd g
    first-few (request.RefSet ref v) rest g = absurd g
    first-few (request.Fork body values) rest g = on (old.made == old.setup.limits.units) g
      where
        on : (full : Bool) → ForkSettles old u x h body values rest full found new → KeepsFew new
        on true r = ends old _ _ found new few r
        on false r = lead-settles r.0 _ _ (few-same old r.0 (ap (λ (s : Shared). s.versions) r.1.others) (ap (λ (s : Shared). s.attempts) r.1.others) few) r.2
    first-few (request.Join future) rest g = absurd g
    first-few (request.Dosync body values) rest g = absurd g
    first-few (request.Spawn behaviour state) rest g = lead-settles g.0 _ _ (boards old g.0 few g.1.others) g.2
    first-few (request.Send to args) rest g = lead-settles g.0 _ _ (sends-held to args g.0 g.1) g.2
    first-few (request.Become behaviour state) rest g = lead-settles old _ _ few g
    first-few request.SelfActor rest g = lead-settles old _ _ few g

    begin-few : (a : Name) (g : SettlesBegin old u x h a) (full : Bool) → TakeSettlesIfAllowed old u x h a g.actor g.message full found new → KeepsFew new
    begin-few a g true r = ends old _ _ found new few r
    begin-few a g false r = lead-settles _ _ _ few r.settles

    next-few : (takes : Option Name) (held : List Request) → NextSettles old u x h takes held found new → KeepsFew new
    next-few (Some a) held g = begin-few a g.0 (old.made == old.setup.limits.units) g.1
    next-few None (r ∷ rest) g = first-few r rest g
    next-few None [] g = absurd g

    goes-few : (halted : Halt) → LeadGoes old u x h halted found new → KeepsFew new
    goes-few (halt.Ask (request.Dosync body values) at) g = on (named u old.attempts) g
      where
        on : (attempt : Option Attempt) → LeadTries old u x h body values at attempt found new → KeepsFew new
        on None r = begins old u x _ body values at found new few r
        on (Some tree) r = absurd r
    goes-few (halt.Ask (request.Deref ref) at) g = waits g
    goes-few (halt.Ask (request.RefSet ref v) at) g = waits g
    goes-few (halt.Ask (request.Join future) at) g = waits g
    goes-few (halt.Ask (request.Print text) at) g = holds _ old few g
    goes-few (halt.Ask (request.NewRef v) at) g = holds _ old few g
    goes-few (halt.Ask (request.Fork body values) at) g = holds _ old few g
    goes-few (halt.Ask (request.Spawn behaviour state) at) g = holds _ old few g
    goes-few (halt.Ask (request.Send to args) at) g = holds _ (record old { mails = g.mails; board = g.board }) few g.holds
    goes-few (halt.Ask (request.Become behaviour state) at) g = holds _ old few g
    goes-few (halt.Ask request.SelfActor at) g = holds _ old few g
    goes-few (halt.Value v) g = waits g
    goes-few (halt.Fault failed at) g = waits g
    goes-few halt.Spent g = waits g

    lead-few : (settling : Bool) → LeadGives old u x h settling found new → KeepsFew new
    lead-few true g = next-few h.takes h.held g
    lead-few false g = goes-few (next_of old.setup (unit_state x)) g

task-few : (old : Shared) → KeepsFew old → (u : Name) (x : Unit) (task : Name) (tree : Attempt) (ended : Option TaskEnd) (machine : Option Evaluation) (found : Given) (new : Shared) → TaskGives old u x task tree ended machine found new → KeepsFew new
task-few old few u x task tree None (Some machine) found new r = after-few base (few-put old base u r.by.after (ap (λ (s : Shared). s.versions) rest) (ap (λ (s : Shared). with_named s.attempts u r.by.after) rest) few) u x found new task r.by.after r.by.went (end_at r.by.after) r.comes
  where
    base : Shared
    base = record r.mid { attempts = with_named r.mid.attempts u r.by.after }

    p : IsPosting old r.mid
    p = step-posting (end_at r.by.after) (named u old.aheads) old u tree.root (sends_in (done_by_root tree)) (sends_in r.by.more) r.mid r.posts

    rest : r.mid ≡ record old { mails = r.mid.mails; board = r.mid.board }
    rest = posting-rest old r.mid p
task-few old few u x task tree None None found new r = absurd r
task-few old few u x task tree (Some ended) machine found new r = root-few old few u x found new task tree ended r

actor-few : (old : Shared) → KeepsFew old → (a : Name) (actor : ActorState) (m : Message) (rest : List Message) (behaviour : Behaviour) (full : Bool) (found : Given) (new : Shared) → TakesIfAllowed old a actor m rest behaviour full found new → KeepsFew new
actor-few old few a actor m rest behaviour true found new r = ends old _ _ found new few r
actor-few old few a actor m rest behaviour false found new r = few-same old new (ap (λ (s : Shared). s.versions) r.others) (ap (λ (s : Shared). s.attempts) r.others) few

-- ---- the law
-- what a unit, a task and an actor come to
pub gave-unit-few : (old : Shared) (name : Name) (found : Given) (new : Shared) → GaveUnit old name found new → KeepsFew old → KeepsFew new
gave-unit-few old name found new g few = unit-few old few name g.unit found new (next_of old.setup (unit_state g.unit)) g.gives

pub gave-task-few : (old : Shared) (name : Name) (found : Given) (new : Shared) → GaveTask old name found new → KeepsFew old → KeepsFew new
gave-task-few old name found new g few = task-few old few g.owner g.unit name g.tree _ _ found new g.gives

pub gave-actor-few : (old : Shared) (name : Name) (found : Given) (new : Shared) → GaveActor old name found new → KeepsFew old → KeepsFew new
gave-actor-few old name found new g few = actor-few old few name g.actor.state g.first g.rest g.can.behaviour _ found new g.gives

-- what a result comes to
pub gave-keeps-few : (old new : Shared) (r : Returned) (found : Given) → KeepsFew old → Gave old r found new → KeepsFew new
gave-keeps-few old new r found few (gave.stale none is unclaimed) = boards old new few unclaimed.rest
gave-keeps-few old new r found few (gave.unit name live g) = gave-unit-few old name found new g few
gave-keeps-few old new r found few (gave.task name live g) = gave-task-few old name found new g few
gave-keeps-few old new r found few (gave.actor name live g) = gave-actor-few old name found new g few
gave-keeps-few old new r found few (gave.lead name live g) = lead-few old few name g.unit found new g.ahead (is_definite old.taken g.ahead.takes && is_to_settle r.work) g.gives
gave-keeps-few old new r found few (gave.tentative name live g) = few-same old new (ap (λ (s : Shared). s.versions) g.takes.others) (ap (λ (s : Shared). s.attempts) g.takes.others) few

-- main alone
pub opening-keeps-few : (setup : Setup) (s : Shared) → IsOpening setup s → KeepsFew s
opening-keeps-few setup s is = subst KeepsFew (sym is.rest) (λ ref. omega arith)

-- back to where the history left everything
pub resets-keep-few : (old new : Shared) → Resets old new → KeepsFew new
resets-keep-few old new r = few-pruned new old.versions r.versions
