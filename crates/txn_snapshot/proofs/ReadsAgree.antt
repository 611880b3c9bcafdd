-- What a task is answered rests on the refs that it has read.
use Rattle.std.proofs.Common.{◌≡◌, ◌∙◌, true, List, [], ◌∷◌, ◌++◌, Option, Some, None, refl, sym, ap, subst}
use Rattle.std.specs.Option.{option_map, option_or}
use Rattle.serial_model.specs.Ahead.{of_turn, self_of}
use Rattle.serial_model.specs.declared.answer.Answer.{Answer}
use Rattle.serial_model.specs.declared.answer.Answer.TheVariants as answer
use Rattle.serial_model.specs.declared.request.Request.{Request}
use Rattle.serial_model.specs.declared.request.Request.TheVariants as request
use Rattle.serial_model.specs.Log.{Log, with_write}
use Rattle.serial_model.specs.Standing.{here_of}
use Rattle.serial_model.specs.Task.{Known, On, asks, done_by, looks_up}
use Rattle.txn_snapshot.specs.declared.answered.Answered.TheVariants as answered
use Rattle.txn_snapshot.specs.Laws.{AnswersRestOnReads, DerefsRestOnReads}
use Rattle.txn_snapshot.specs.SnapshotAnswer.{Reply, acts, reads_ref, replies, sets_ref}
use Rattle.txn_snapshot.specs.SnapshotTask.{SnapshotTask, having_read, private}
use Rattle.txn_snapshot.proofs.ReadLaws.{among-itself}
use Rattle.txn_snapshot.proofs.Replies.{same_reply}
use Rattle.value_core.specs.declared.value.Value.{Value as Datum}
use Rattle.value_core.specs.declared.value.Value.TheVariants as value
use Rattle.value_core.specs.Named.{Name, is_among, made_by, named}

same_answer : (one other : Answer) → answered.Now one ≡ answered.Now other → one ≡ other
same_answer one other is = cc

-- ---- a deref
-- where it is answered with the store's value the ref has been read
deref_on : (task after : SnapshotTask) (ref : Name) (own stored there : Option Datum) (given : Answer) → reads_ref task ref own stored ≡ (answered.Now given, after)
    → (is_among ref after.reads ≡ true → there ≡ stored) → reads_ref task ref own there ≡ (answered.Now given, after)
deref_on task after ref (Some v) stored there given is agree = is
deref_on task after ref None (Some v) there given is agree =
    let read : is_among ref after.reads ≡ true = subst (λ (t : SnapshotTask). is_among ref t.reads ≡ true) (ap (λ (r : Reply). r.1) is) (among-itself task.reads ref) in
    ap (reads_ref task ref None) (agree read) ∙ is
deref_on task after ref None None there given is agree = absurd (let never = ap (λ (r : Reply). r.0) is in cc)

pub derefs_rest_on_reads : DerefsRestOnReads
derefs_rest_on_reads snapshot other task after ref given is agree =
    ap Some (deref_on task after ref (private task ref) (snapshot ref) (other ref) given (same_reply (reads_ref task ref (private task ref) (snapshot ref)) (answered.Now given, after) is) (agree ref))

-- it is what the look-up gives
looked_up : (task after : SnapshotTask) (ref : Name) (own below stored : Option Datum) (given : Answer) (answers : List Answer) (known : Known)
    → reads_ref task ref (option_or own below) stored ≡ (answered.Now given, after)
    → looks_up (here_of answers task.log known) (option_or own (option_or below stored)) ≡ On (here_of (answers ++ given ∷ []) after.log known)
looked_up task after ref own below stored given answers known is = on own below stored is
  where
    here : (v : Datum) (t : SnapshotTask) → t.log ≡ task.log → ◌≡◌ {A = Reply} (answered.Now (answer.Value v), t) (answered.Now given, after)
        → On (here_of (answers ++ answer.Value v ∷ []) task.log known) ≡ On (here_of (answers ++ given ∷ []) after.log known)
    here v t same is =
        ap (λ (g : Answer). On (here_of (answers ++ g ∷ []) task.log known)) (same_answer (answer.Value v) given (ap (λ (r : Reply). r.0) is))
        ∙ ap (λ (l : Log). On (here_of (answers ++ given ∷ []) l known)) (sym same ∙ ap (λ (r : Reply). r.1.log) is)

    on : (own below stored : Option Datum) → reads_ref task ref (option_or own below) stored ≡ (answered.Now given, after)
        → looks_up (here_of answers task.log known) (option_or own (option_or below stored)) ≡ On (here_of (answers ++ given ∷ []) after.log known)
    on (Some v) below stored is = here v task refl is
    on None (Some v) stored is = here v task refl is
    on None None (Some v) is = here v (having_read task ref) refl is
    on None None None is = absurd (let never = ap (λ (r : Reply). r.0) is in cc)

-- ---- a ref-set
set_to : (task after : SnapshotTask) (ref : Name) (v : Datum) (found : Option Datum) (given : Answer) → sets_ref task ref v found ≡ (answered.Now given, after)
    → (given ≡ answer.Value v) × (after.log ≡ with_write task.log ref v)
set_to task after ref v (Some old) given is = (sym (same_answer (answer.Value v) given (ap (λ (r : Reply). r.0) is)), sym (ap (λ (r : Reply). r.1.log) is))
set_to task after ref v None given is = absurd (let never = ap (λ (r : Reply). r.0) is in cc)

-- ---- what is known ahead
acts_on : (task after : SnapshotTask) (asked : Request) (given : Answer) (answers : List Answer) (known : Known) (x : Answer) → option_map (acts task asked) (Some x) ≡ Some (answered.Now given, after)
    → On (here_of (answers ++ x ∷ []) (done_by task.actor task.log asked) known) ≡ On (here_of (answers ++ given ∷ []) after.log known)
acts_on task after asked given answers known x is =
    let reply = same_reply (acts task asked x) (answered.Now given, after) is in
    ap (λ (g : Answer). On (here_of (answers ++ g ∷ []) (done_by task.actor task.log asked) known)) (same_answer x given (ap (λ (r : Reply). r.0) reply))
    ∙ ap (λ (r : Reply). On (here_of (answers ++ given ∷ []) r.1.log known)) reply

pub answers_rest_on_reads : AnswersRestOnReads
answers_rest_on_reads snapshot task after asked given is around same agree levels call answers known = on asked is
  where
    on : (asked : Request) → replies snapshot task asked ≡ Some (answered.Now given, after)
        → asks around levels call task.base (here_of answers task.log known) asked ≡ On (here_of (answers ++ given ∷ []) after.log known)
    on (request.Print text) is = acts_on task after (request.Print text) given answers known (answer.Value value.Nil) is
    on (request.NewRef v) is = acts_on task after (request.NewRef v) given answers known (answer.Value (value.Ref (made_by task.log.name task.log.made))) is
    on (request.Deref ref) is =
        looked_up task after ref (named ref task.log.writes) (named ref task.base) (around.store ref) given answers known
        (same_reply (reads_ref task ref (private task ref) (around.store ref)) (answered.Now given, after) (derefs_rest_on_reads snapshot around.store task after ref given is agree))
    on (request.RefSet ref v) is =
        let to = set_to task after ref v (option_or (private task ref) (snapshot ref)) given
        (same_reply (sets_ref task ref v (option_or (private task ref) (snapshot ref))) (answered.Now given, after) is) in
        ap (λ (g : Answer). On (here_of (answers ++ g ∷ []) (with_write task.log ref v) known)) (sym to.0) ∙ ap (λ (l : Log). On (here_of (answers ++ given ∷ []) l known)) (sym to.1)
    on (request.Fork body values) is = absurd (cc)
    on (request.Join future) is = absurd (cc)
    on (request.Dosync body values) is = absurd (cc)
    on (request.Spawn behaviour state) is = acts_on task after (request.Spawn behaviour state) given answers known (answer.Value (value.Actor (made_by task.log.name task.log.made))) is
    on (request.Send to message) is = acts_on task after (request.Send to message) given answers known (answer.Value value.Nil) is
    on (request.Become behaviour state) is = rw same (acts_on task after (request.Become behaviour state) given answers known (of_turn task.actor (answer.Value value.Nil)) is)
    on request.SelfActor is = rw same (acts_on task after request.SelfActor given answers known (self_of task.actor) is)
