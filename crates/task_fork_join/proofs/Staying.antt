-- What a step leaves as it was.
use Rattle.std.proofs.Common.{◌≡◌, ap, Option}
use Rattle.eval_step.specs.Evaluation.{Evaluation}
use Rattle.serial_model.specs.declared.request.Request.{Request}
use Rattle.serial_model.specs.declared.request.Request.TheVariants as request
use Rattle.task_fork_join.specs.Attempt.{Attempt}
use Rattle.task_fork_join.specs.declared.stepped.Stepped.{Stepped}
use Rattle.task_fork_join.specs.Step.{Asks, Rereads, Stays}
use Rattle.task_fork_join.specs.Stepping.{IsActed}
use Rattle.txn_snapshot.specs.SnapshotAnswer.{IsAnswerable}
use Rattle.value_core.specs.declared.value.Value.{Value as Datum}
use Rattle.value_core.specs.Named.{Name}

pub stays_reading : (old new : Attempt) → new ≡ record old { tasks = new.tasks; reads = new.reads } → Stays old new
stays_reading old new same = record {
  root = ap (λ (a : Attempt). a.root) same;
  actor = ap (λ (a : Attempt). a.actor) same;
  snapshot = ap (λ (a : Attempt). a.snapshot) same;
  fuel = ap (λ (a : Attempt). a.fuel) same;
  escape = ap (λ (a : Attempt). a.escape) same;
}

pub stays : (old new : Attempt) → new ≡ record old { tasks = new.tasks } → Stays old new
stays old new same = record {
  root = ap (λ (a : Attempt). a.root) same;
  actor = ap (λ (a : Attempt). a.actor) same;
  snapshot = ap (λ (a : Attempt). a.snapshot) same;
  fuel = ap (λ (a : Attempt). a.fuel) same;
  escape = ap (λ (a : Attempt). a.escape) same;
}

pub rereads : (P : Type 0) (old new : Attempt) → P → new ≡ record old { tasks = new.tasks } → Rereads P old new
rereads P old new does same = record { does = does; reads = ap (λ (a : Attempt). a.reads) same }

-- what the log of a task answers
pub asks_acted : (refs : Name → Option Datum) (name : Name) (moved : Evaluation) (outer : Option Datum) (asked : Request) (old new : Attempt) (found : Stepped) → IsAnswerable asked
    → IsActed refs name moved asked old.tasks old.reads new.tasks new.reads found → Asks refs name moved outer asked old new found
asks_acted refs name moved outer (request.Print text) old new found is did = did
asks_acted refs name moved outer (request.NewRef v) old new found is did = did
asks_acted refs name moved outer (request.Deref ref) old new found is did = did
asks_acted refs name moved outer (request.RefSet ref v) old new found is did = did
asks_acted refs name moved outer (request.Fork body values) old new found is did = absurd is
asks_acted refs name moved outer (request.Join future) old new found is did = absurd is
asks_acted refs name moved outer (request.Dosync body values) old new found is did = absurd is
asks_acted refs name moved outer (request.Spawn behaviour state) old new found is did = did
asks_acted refs name moved outer (request.Send to message) old new found is did = did
asks_acted refs name moved outer (request.Become behaviour state) old new found is did = did
asks_acted refs name moved outer request.SelfActor old new found is did = did
