-- What a result comes to keeps what is kept standing.
use Rattle.std.proofs.Common.{◌≡◌, ◌∙◌, List, refl, sym, ap, subst}
use Rattle.std.specs.Prelude.{Option, None, Some}
use Rattle.core_syntax.specs.declared.node_id.NodeId.{NodeId}
use Rattle.eval_step.specs.Evaluation.{Evaluation}
use Rattle.ref_store.specs.declared.version.Version.{Version}
use Rattle.ref_store.specs.Store.{versions_of}
use Rattle.ref_store.specs.Version.{newest}
use Rattle.serial_model.specs.declared.halt.Halt.TheVariants as halt
use Rattle.serial_model.specs.declared.request.Request.TheVariants as request
use Rattle.serial_model.specs.Step.{next_made, next_of}
use Rattle.shared_world.proofs.Begins.{begins}
use Rattle.shared_world.proofs.Commits.{end-keeps}
use Rattle.shared_world.proofs.LeadsBegin.{begun-keeps}
use Rattle.shared_world.proofs.LeadsKeep.{lead-keeps}
use Rattle.shared_world.proofs.Live.{going, no-unit, state-there, unfinished}
use Rattle.shared_world.proofs.ActorPieces.{actor_of_piece, same-pieces-actors}
use Rattle.shared_world.proofs.Standing.{same-states}
use Rattle.shared_world.proofs.States.{machines-same, same-pieces}
use Rattle.shared_world.proofs.Sending.{posted-by}
use Rattle.shared_world.proofs.Posting.{IsPosting, step-posting, posting-rest, posting-unit}
use Rattle.shared_world.proofs.Steps.{NeitherAt, forked-task, marked-task}
use Rattle.shared_world.proofs.Turns.{actor-gave}
use Rattle.shared_world.proofs.Undoes.{undoes-keeps}
use Rattle.shared_world.proofs.Units.{IsHere, unit-keeps}
use Rattle.shared_world.specs.declared.given.Given.{Given}
use Rattle.shared_world.specs.Gave as gave
use Rattle.shared_world.specs.Gave.{Gave, GaveTask, GaveUnit, IsUnclaimed}
use Rattle.shared_world.specs.Laws.{IsTried}
use Rattle.shared_world.specs.Returned.{Returned}
use Rattle.shared_world.specs.rows.Sending.{sends_in}
use Rattle.shared_world.specs.rows.Tasks as row
use Rattle.shared_world.specs.rows.Tasks.{AfterStep, Missing, RootGives, StepGives, TaskGives}
use Rattle.shared_world.specs.rows.Units.{Tries}
use Rattle.shared_world.specs.Seen.{done_by_root}
use Rattle.shared_world.specs.Shared.{Shared, is_going, unit_state}
use Rattle.shared_world.specs.Stands.{IsMachine, Stands}
use Rattle.task_fork_join.specs.Attempt.{Attempt, end_at, machine_of}
use Rattle.task_fork_join.specs.declared.stepped.Stepped.{Stepped}
use Rattle.task_fork_join.specs.declared.stepped.Stepped.TheVariants as stepped_as
use Rattle.task_fork_join.specs.declared.task_end.TaskEnd.{TaskEnd}
use Rattle.unit_table.specs.Board.{unit_at}
use Rattle.unit_table.specs.declared.mark.Mark.TheVariants as mark
use Rattle.unit_table.specs.declared.mark.WaitOn.TheVariants as wait
use Rattle.unit_table.specs.declared.mark.Work.TheVariants as work
use Rattle.unit_table.specs.declared.unit.Unit.{Unit}
use Rattle.value_core.proofs.NamedLaws.{named-here}
use Rattle.value_core.specs.declared.ticket.Ticket.{Ticket}
use Rattle.value_core.specs.declared.value.Value.{Value}
use Rattle.value_core.specs.declared.value.Value.TheVariants as value
use Rattle.value_core.specs.Named.{Name, named, with_named}
use Rattle.value_core.specs.Place.{Spot}

-- a claim that ends changes nothing that stands
pub unclaimed-keeps : (ticket : Ticket) (old new : Shared) → Stands old → IsUnclaimed ticket old new → Stands new
unclaimed-keeps ticket old new st is = subst Stands (sym is.rest) (same-states old st new.board (same-pieces old.board new.board is.pieces) (same-pieces-actors old.board new.board is.pieces) (machines-same (IsMachine old.setup) old.board new.board is.pieces st.machines))

-- what a unit comes to that is not finished
pub unit-gave : (old : Shared) → Stands old → old.end ≡ None → (u : Name) → ((x : Unit) → unit_at old.board u ≡ Some x → (unit_state x).finished ≡ None) → (found : Given) (new : Shared) → GaveUnit old u found new → Stands new
unit-gave old st on_going u not_done found new g = unit-keeps old st u g.unit here (next_of old.setup (unit_state g.unit)) refl found new g.gives tries
  where
    here : IsHere old u (unit_state g.unit)
    here = record { going = on_going; there = state-there old.board u g.unit g.there; unfinished = not_done g.unit g.there; level = g.level }

    tries : (attempt : Option Attempt) → named u old.attempts ≡ attempt → (body : NodeId) (values : List Value) (at : Spot) → next_of old.setup (unit_state g.unit) ≡ halt.Ask (request.Dosync body values) at
        → Tries old u g.unit body values at attempt found new → Stands new
    tries None is body values at asks t = begins old st u g.unit here.going here.there here.unfinished (mark.Waiting (wait.Finish (next_made u (unit_state g.unit)))) body values at asks is found new t
    tries (Some tree) is body values at asks t = absurd t

-- what an attempt comes to whose root is at its end
module _ (old : Shared) (st : Stands old) (on_going : old.end ≡ None) (u : Name) (x : Unit) (tree : Attempt) (unit_there : unit_at old.board u ≡ Some x) (there : named u old.attempts ≡ Some tree) where
  tried : IsTried old u x tree
  tried = record { stands = st; going = ap is_going on_going; there = unit_there; attempt = there }

  root-keeps : (task : Name) → NeitherAt old.board task → (ended : TaskEnd) → end_at tree ≡ Some ended → (found : Given) (new : Shared) → RootGives old u x task tree ended found new → Stands new
  root-keeps task none ended is found new (row.valid level unchanged gives) = end-keeps old st on_going u x tree unit_there there level unchanged ended is found new gives
  root-keeps task none ended is found new (row.conflicts level c) = undoes-keeps old new u x tree tried c.aborts.undoes
  root-keeps task none ended is found new (row.waits r) = marked-task old st task (mark.Waiting (wait.Definite u)) new none r.marked

  missing-keeps : (task : Name) → NeitherAt old.board task → (ref : Name) (version : Option Version) (found : Given) (new : Shared) → Missing old u x task tree ref version found new → Stands new
  missing-keeps task none ref None found new r = marked-task old st task (mark.Waiting (wait.Definite u)) new none r.marked
  missing-keeps task none ref (Some version) found new r = undoes-keeps old new u x tree tried r.undoes

  step-keeps : (task : Name) → NeitherAt old.board task → (went : Stepped) (found : Given) (new : Shared) → StepGives old u x task tree went found new → Stands new
  step-keeps task none stepped_as.Now found new r = marked-task old st task (mark.Ready work.Eval) new none r.1
  step-keeps task none (stepped_as.Forked child) found new r = forked-task old st u task child new none r.1
  step-keeps task none (stepped_as.WaitJoin future) found new r = marked-task old st task (mark.Waiting (wait.Finish future)) new none r.1
  step-keeps task none (stepped_as.NotInSnapshot ref) found new r = missing-keeps task none ref (newest (versions_of old.versions ref)) found new r
  step-keeps task none stepped_as.Finished found new r = marked-task old st task (mark.Finished value.Nil) new none r.1

  after-keeps : (task : Name) → NeitherAt old.board task → (went : Stepped) (end : Option TaskEnd) → end_at tree ≡ end → (found : Given) (new : Shared) → AfterStep old u x task tree went end found new → Stands new
  after-keeps task none went None is found new r = step-keeps task none went found new r
  after-keeps task none went (Some ended) is found new r = root-keeps task none ended is found new r

-- what a task comes to
task-keeps : (old : Shared) → Stands old → old.end ≡ None → (u : Name) (x : Unit) (task : Name) (tree : Attempt) → unit_at old.board u ≡ Some x → named u old.attempts ≡ Some tree → NeitherAt old.board task
    → (ended : Option TaskEnd) (machine : Option Evaluation) → end_at tree ≡ ended → machine_of tree task ≡ machine → (found : Given) (new : Shared) → TaskGives old u x task tree ended machine found new → Stands new
task-keeps old st on_going u x task tree unit_there there none None (Some machine) unended is found new r =
    after-keeps (record r.mid { attempts = with_named r.mid.attempts u r.by.after })
    (posted-by old st (ap is_going on_going) u task tree there machine is r.by (end_at r.by.after) (named u old.aheads) r.mid r.posts)
    (ap (λ (s : Shared). s.end) (posting-rest old r.mid p) ∙ on_going) u x r.by.after (posting-unit old r.mid p u ∙ unit_there) (named-here u r.by.after r.mid.attempts) task (p.states task ∙ none.0, p.actors task ∙ none.1) r.by.went (end_at r.by.after) refl found new r.comes
  where
    p : IsPosting old r.mid
    p = step-posting (end_at r.by.after) (named u old.aheads) old u tree.root (sends_in (done_by_root tree)) (sends_in r.by.more) r.mid r.posts
task-keeps old st on_going u x task tree unit_there there none None None unended is found new r = absurd r
task-keeps old st on_going u x task tree unit_there there none (Some ended) machine unended is found new r = root-keeps old st on_going u x tree unit_there there task none ended unended found new r

pub task-gave : (old : Shared) → Stands old → old.end ≡ None → (name : Name) (found : Given) (new : Shared) → GaveTask old name found new → Stands new
task-gave old st on_going name found new g =
    task-keeps old st on_going g.owner g.unit name g.tree g.unit_there g.attempt (no-unit old.board name g.mark g.there, ap actor_of_piece g.there) (end_at g.tree) (machine_of g.tree name) refl refl found new g.gives

pub gave-keeps : (old new : Shared) (r : Returned) (found : Given) → Stands old → Gave old r found new → Stands new
gave-keeps old new r found st (gave.stale none is same) = unclaimed-keeps r.ticket old new st same
gave-keeps old new r found st (gave.unit name live g) = unit-gave old st (going old r name live) name (λ x there. unfinished old r name x live there) found new g
gave-keeps old new r found st (gave.task name live g) = task-gave old st (going old r name live) name found new g
gave-keeps old new r found st (gave.actor name live g) = actor-gave old st (going old r name live) name found new g
gave-keeps old new r found st (gave.lead name live g) = lead-keeps old new name r.work found st (going old r name live) g
gave-keeps old new r found st (gave.tentative name live g) = begun-keeps old st (going old r name live) name found new g
