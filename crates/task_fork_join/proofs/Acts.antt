-- A task whose log has answered as it was foreseen.
use Rattle.std.proofs.Common.{◌≡◌, ◌∙◌, List, refl, sym, ap, subst, Option, Some, None}
use Rattle.std.specs.Option.{option_map, IsSome}
use Rattle.eval_step.specs.Evaluation.{Evaluation}
use Rattle.serial_model.specs.declared.answer.Answer.{Answer}
use Rattle.serial_model.specs.declared.request.Request.{Request}
use Rattle.task_fork_join.specs.declared.stepped.Stepped.TheVariants as stepped
use Rattle.task_fork_join.specs.declared.task.Stage.TheVariants as kept
use Rattle.task_fork_join.specs.declared.task.Task.{Task}
use Rattle.task_fork_join.specs.Stepping.{noted, with_one, Acted, Gone, HasActed, IsActed, IsForeseen, IsGiven}
use Rattle.txn_snapshot.specs.declared.answered.Answered.{Answered}
use Rattle.txn_snapshot.specs.declared.answered.Answered.TheVariants as answered
use Rattle.txn_snapshot.specs.SnapshotAnswer.{Reply, answer_of, replies}
use Rattle.txn_snapshot.specs.SnapshotTask.{SnapshotTask}
use Rattle.value_core.specs.declared.value.Value.{Value as Datum}
use Rattle.value_core.specs.Named.{Name, Named, named, IsChanged, IsChangedTo}

some_same : {X : Type 0} (x y : X) → Some x ≡ Some y → x ≡ y
some_same x y is = cc

-- what is answered is what was foreseen
as_foreseen : (found : Option Reply) (reply : Answered) (log : SnapshotTask) (given : Answer) → found ≡ Some (reply, log) → option_map answer_of found ≡ Some (answered.Now given) → found ≡ Some (answered.Now given, log)
as_foreseen found reply log given is foreseen =
    let same : reply ≡ answered.Now given = some_same reply (answered.Now given) (sym (ap (option_map answer_of) is) ∙ foreseen) in
    is ∙ ap (λ r. Some (r, log)) same

-- with the answer that was foreseen there is a log after it
whole : (found : Option Reply) (given : Answered) → option_map answer_of found ≡ Some given → (log : SnapshotTask) × found ≡ Some (given, log)
whole None given foreseen = absurd (cc)
whole (Some reply) given foreseen = (reply.1, ap (λ a. Some (a, reply.1)) (some_same reply.0 given foreseen))

module _ (refs : Name → Option Datum) (name : Name) (moved : Evaluation) (asked : Request) (old : Named Task) (reads : List Name) (new : Named Task) (more : List Name) where
  -- the task of that name was answered as it was foreseen, and the ref that it read is noted
  pub acted_so : (given : Answer) (machine : Evaluation) → IsSome (named name old) → IsForeseen refs name asked given old → IsGiven moved given machine
      → IsChanged name old new (HasActed refs asked machine) → ((t : Task) → named name old ≡ Some t → more ≡ noted t.log asked reads) → IsActed refs name moved asked old reads new more stepped.Now
  acted_so given machine there foreseen given_so changes reads_so = on (named name old) refl there
    where
      on : (found : Option Task) → named name old ≡ found → IsSome found → IsActed refs name moved asked old reads new more stepped.Now
      on None none never = absurd (cc)
      on (Some t) is some =
          let to = changes t is in
          let did = to.related in
          let same : (s : Task) → named name old ≡ Some s → t ≡ s = λ s at. some_same t s (sym is ∙ at) in
          record {
            reply = answered.Now given;
            log = did.log;
            replies_so = λ s at. subst (λ (u : Task). replies refs u.log asked ≡ Some (answered.Now given, did.log)) (same s at)
                (as_foreseen (replies refs t.log asked) did.reply did.log given did.replies_so (foreseen t is));
            came = record {
              machine = machine;
              given_so = given_so;
              tasks = λ s at. subst (λ (u : Task). IsChangedTo name old new (Acted did.log (kept.Going machine)) u) (same s at) (record { item = to.item; put = to.put; related = did.acted });
              reads_so = reads_so;
              now = refl;
            };
          }

  -- what is foreseen of the task that was looked up is foreseen of the task of that name
  pub foreseen_so : (t : Task) (given : Answer) → named name old ≡ Some t → option_map answer_of (replies refs t.log asked) ≡ Some (answered.Now given) → IsForeseen refs name asked given old
  foreseen_so t given is foreseen s at = subst (λ (u : Task). option_map answer_of (replies refs u.log asked) ≡ Some (answered.Now given)) (some_same t s (sym is ∙ at)) foreseen

  -- what is noted of the task that was looked up is noted of the task of that name
  pub noted_so : (t : Task) (mid : List Name) (read : Option Name) → named name old ≡ Some t → ((rs : List Name) → noted t.log asked rs ≡ with_one read rs) → mid ≡ reads → more ≡ with_one read mid
      → (s : Task) → named name old ≡ Some s → more ≡ noted s.log asked reads
  noted_so t mid read is one same more_is s at = more_is ∙ ap (with_one read) same ∙ sym (one reads) ∙ ap (λ (u : Task). noted u.log asked reads) (some_same t s (sym is ∙ at))

  -- the task of that name waits for a ref, as it was foreseen
  pub missed_so : (t : Task) (ref : Name) → named name old ≡ Some t → option_map answer_of (replies refs t.log asked) ≡ Some (answered.NotInSnapshot ref)
      → IsChanged name old new (Gone (kept.Going moved)) → more ≡ reads → IsActed refs name moved asked old reads new more (stepped.NotInSnapshot ref)
  missed_so t ref is foreseen changes same =
      let full = whole (replies refs t.log asked) (answered.NotInSnapshot ref) foreseen in
      record {
        reply = answered.NotInSnapshot ref;
        log = full.0;
        replies_so = λ s at. subst (λ (u : Task). replies refs u.log asked ≡ Some (answered.NotInSnapshot ref, full.0)) (some_same t s (sym is ∙ at)) full.1;
        came = record { waiting = record { tasks = changes; waits = refl }; reads_so = same };
      }
