-- A task of a transaction on a snapshot of the refs.
use Rattle.std.specs.Prelude.{◌≡◌, ◌≤◌, ℕ, true, List, [], Option, refl, fold}
use Rattle.std.specs.Coded.{Coded, code_by, coded×, coded_list, coded_option, coded_ℕ}
use Rattle.std.specs.Option.{option_or}
use Rattle.serial_model.specs.Log.{Log, merged, new_log, with_made}
use Rattle.task_log.specs.Logged.{log_code}
use Rattle.txn_snapshot.specs.Reads.{with_read}
use Rattle.value_core.specs.contracts.value.Value as value
use Rattle.value_core.specs.declared.value.Value.{Value as Datum}
use Rattle.value_core.specs.Named.{Name, Named, is_among, named}

-- What it has done; its base, the values that it was forked with; how many forks it is below the root; the actor whose turn
-- the transaction is in, where there is one; and the refs that it has read from the store, in after-order.
pub record SnapshotTask : Type 0 where
  pub log : Log
  pub base : Named Datum
  pub depth : ℕ
  pub actor : Option Name
  pub reads : List Name

-- it is stored as its parts
abbrev pub snapshot_task_code : Coded SnapshotTask
snapshot_task_code =
    code_by (Log × (Named Datum × (ℕ × (Option Name × List Name))))
    (coded× log_code (coded× (coded_list (coded× (coded_list coded_ℕ) (value.the_row).coded)) (coded× coded_ℕ (coded× (coded_option (coded_list coded_ℕ)) (coded_list (coded_list coded_ℕ))))))
    (λ t. (t.log, (t.base, (t.depth, (t.actor, t.reads)))))
    (λ p. record { log = p.0; base = p.1.0; depth = p.1.1.0; actor = p.1.1.1.0; reads = p.1.1.1.1 })
    (λ _. refl)

-- a task that has done nothing
abbrev pub new_task : Name → Named Datum → ℕ → Option Name → SnapshotTask
new_task name base depth actor = record { log = new_log name; base = base; depth = depth; actor = actor; reads = [] }

-- the task has done that
abbrev pub with_log : SnapshotTask → Log → SnapshotTask
with_log task log = record task { log = log }

-- it has read the ref from the store
abbrev pub having_read : SnapshotTask → Name → SnapshotTask
having_read task ref = record task { reads = with_read task.reads ref }

-- the value of a ref that the task has of its own: in its writes, or else in its base
abbrev pub private : SnapshotTask → Name → Option Datum
private task ref = option_or (named ref task.log.writes) (named ref task.base)

-- a thing more is made
abbrev pub having_forked : SnapshotTask → SnapshotTask
having_forked task = with_log task (with_made task.log)

-- The child is merged as that future: what it has done is, and what it has read counts as read.
abbrev pub having_merged : SnapshotTask → Name → SnapshotTask → SnapshotTask
having_merged task future child =
    record task { log = merged task.log (record child.log { name = future }); reads = fold with_read task.reads child.reads }

-- all names of the first list are in the second
abbrev pub AreAmong : List Name → List Name → Type 0
AreAmong reads more = (ref : Name) → is_among ref reads ≡ true → is_among ref more ≡ true

-- what an answer leaves: the task is whose it was, has joined what it had, has made no less, and has read what it had
pub record Stays (task after : SnapshotTask) : Type 0 where
  pub name : after.log.name ≡ task.log.name
  pub base : after.base ≡ task.base
  pub depth : after.depth ≡ task.depth
  pub actor : after.actor ≡ task.actor
  pub joined : after.log.joined ≡ task.log.joined
  pub made : task.log.made ≤ after.log.made
  pub reads : AreAmong task.reads after.reads
