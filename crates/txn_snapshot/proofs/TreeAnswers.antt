-- The tasks of an attempt, as one of them is answered on the snapshot.
use Rattle.std.proofs.Common.{◌∙◌, ◌∷◌, [], ◌++◌, sym, subst}
use Rattle.serial_model.specs.Standing.{Going, IsAt, call_below}
use Rattle.serial_model.proofs.standing.Requests.{replied, task_at}
use Rattle.serial_model.proofs.standing.Trees.{changed}
use Rattle.txn_snapshot.specs.declared.answered.Answered.TheVariants as answered
use Rattle.txn_snapshot.specs.Laws.{AnswersKeepRuns, in_tree}
use Rattle.txn_snapshot.proofs.ReadsAgree.{answers_rest_on_reads}
use Rattle.txn_snapshot.proofs.Replies.{stays}
use Rattle.value_core.specs.declared.value.Value.{Value as Datum}
use Rattle.value_core.specs.Named.{Named}

pub answers_keep_runs : AnswersKeepRuns
answers_keep_runs start snapshot finished tasks reads more run name task after levels knows body values answers there actor asked at given asking is all read =
    let kept = stays snapshot task after asked (answered.Now given) is in
    let old = in_tree task levels knows (Going body values answers) in
    let new = in_tree after levels knows (Going body values (answers ++ given ∷ [])) in
    changed start snapshot finished tasks reads more name old new run there all
    (record { named_so = kept.name; made = kept.made; knows_there = (run.formed name old there).knows_there })
    (λ around agrees results each standing.
    subst (λ (view : Named Datum). IsAt around results name (task_at levels view knows after.log (Going body values (answers ++ given ∷ [])))) (sym kept.base)
    (replied around results name levels task.base knows task.log body values answers standing asked at after.log given
    (rw (agrees.program, agrees.fuel) asking)
    (λ known. answers_rest_on_reads snapshot task after asked given is around (agrees.actor ∙ sym actor) (λ ref among. agrees.store ref (read ref among)) levels (call_below around levels) answers known)))
