-- A step of a task leaves what each task of its attempt has done, and adds to that what it does itself.
use Rattle.std.proofs.Common.{◌≡◌, ◌∙◌, Bool, true, false, cond, append-nil, append_assoc, List, [], ◌∷◌, ◌++◌, refl, sym, ap, subst}
use Rattle.std.specs.Option.{option_map, option_or}
use Rattle.std.specs.Prelude.{ℕ, zero, suc, ◌+◌, ◌-◌, Option, None, Some, fold, if◌then◌else◌}
use Rattle.core_syntax.specs.declared.node_id.NodeId.{NodeId}
use Rattle.eval_step.specs.Evaluation.{Evaluation}
use Rattle.serial_model.specs.Ahead.{answer_ahead}
use Rattle.serial_model.specs.declared.answer.Answer.{Answer}
use Rattle.serial_model.specs.declared.effect.Effect.{Effect}
use Rattle.serial_model.specs.declared.effect.What.TheVariants as what
use Rattle.serial_model.specs.declared.effect.What.{What}
use Rattle.serial_model.specs.declared.halt.Halt.{Halt}
use Rattle.serial_model.specs.declared.halt.Halt.TheVariants as halt
use Rattle.serial_model.specs.declared.request.Request.{Request}
use Rattle.serial_model.specs.declared.request.Request.TheVariants as request
use Rattle.serial_model.specs.Log.{Log, is_held, with_effect, with_missing}
use Rattle.serial_model.specs.Task.{done_by}
use Rattle.task_fork_join.specs.Attempt.{Attempt}
use Rattle.task_fork_join.specs.Closing.{AllWent, CameClose, Goes, IsClose, IsWent, WentAt, WentBy, to_join}
use Rattle.task_fork_join.specs.declared.closing.Went.{Went}
use Rattle.task_fork_join.specs.declared.closing.Went.TheVariants as went_as
use Rattle.task_fork_join.specs.declared.joining.Met.{Met}
use Rattle.task_fork_join.specs.declared.joining.Met.TheVariants as met
use Rattle.task_fork_join.specs.declared.stepped.Stepped.{Stepped}
use Rattle.task_fork_join.specs.declared.task.Parts.{Parts}
use Rattle.task_fork_join.specs.declared.task.Stage.{Stage}
use Rattle.task_fork_join.specs.declared.task.Stage.TheVariants as kept
use Rattle.task_fork_join.specs.declared.task.Task.{Task}
use Rattle.task_fork_join.specs.declared.task_end.TaskEnd.{TaskEnd}
use Rattle.task_fork_join.specs.declared.task_end.TaskEnd.TheVariants as end
use Rattle.task_fork_join.specs.Forking as forking
use Rattle.task_fork_join.specs.Forking.{CameFork}
use Rattle.task_fork_join.specs.Joining.{CameJoin, CamePlain, IsEnded, IsJoin, IsMerged, IsMetAs, known_in}
use Rattle.task_fork_join.specs.Step.{Asks, Comes}
use Rattle.task_fork_join.specs.Stepping.{CameReply, IsActed, IsAnswered, IsWaiting}
use Rattle.txn_snapshot.specs.declared.answered.Answered.{Answered}
use Rattle.txn_snapshot.specs.declared.answered.Answered.TheVariants as answered
use Rattle.txn_snapshot.specs.SnapshotAnswer.{Reply, acts, reads_ref, replies, sets_ref}
use Rattle.txn_snapshot.specs.SnapshotTask.{SnapshotTask, private}
use Rattle.value_core.proofs.NamedLaws.{named-with_named, same_name-equal}
use Rattle.value_core.specs.declared.value.Value.{Value}
use Rattle.value_core.specs.Named.{Name, Named, made_by, named, same_name, with_named, IsChangedTo}

-- ---- more effects behind those that there were
pub record IsGrown (before after : List Effect) : Type 0 where
  pub more : List Effect
  pub whole : after ≡ before ++ more

pub grown-same : (before after : List Effect) → after ≡ before → IsGrown before after
grown-same before after same = record { more = []; whole = same ∙ sym (append-nil before) }

grown-then : (before mid after : List Effect) → IsGrown before mid → IsGrown mid after → IsGrown before after
grown-then before mid after first last = record { more = first.more ++ last.more; whole = last.whole ∙ ap (λ es. es ++ last.more) first.whole ∙ append_assoc before first.more last.more }

-- those of a child are added where they are not held
missing-grown : (es : List Effect) (e : Effect) → IsGrown es (with_missing es e)
missing-grown es e = on (is_held es e)
  where
    on : (c : Bool) → IsGrown es (if c then es else es ++ e ∷ [])
    on true = grown-same es es refl
    on false = record { more = e ∷ []; whole = refl }

merged-grown : (fs es : List Effect) → IsGrown es (fold with_missing es fs)
merged-grown [] es = grown-same es es refl
merged-grown (f ∷ fs) es = grown-then es (with_missing es f) (fold with_missing (with_missing es f) fs) (missing-grown es f) (merged-grown fs (with_missing es f))

-- ---- what a task does
-- an effect of its own
effect-grown : (log : Log) (did : What) → IsGrown log.effects (with_effect log did).effects
effect-grown log did = record { more = record { task = log.name; number = log.own; what = did } ∷ []; whole = refl }

-- one request more is done
done-grown : (actor : Option Name) (t : SnapshotTask) (asked : Request) → IsGrown t.log.effects (done_by actor t.log asked).effects
done-grown actor t (request.Print text) = effect-grown t.log (what.Bytes text)
done-grown actor t (request.NewRef v) = grown-same t.log.effects _ refl
done-grown actor t (request.Deref ref) = grown-same t.log.effects _ refl
done-grown actor t (request.RefSet ref v) = grown-same t.log.effects _ refl
done-grown actor t (request.Fork body values) = grown-same t.log.effects _ refl
done-grown actor t (request.Join future) = grown-same t.log.effects _ refl
done-grown actor t (request.Dosync body values) = grown-same t.log.effects _ refl
done-grown actor t (request.Spawn behaviour state) = effect-grown t.log (what.Spawn (made_by t.log.name t.log.made) behaviour state)
done-grown actor t (request.Send to args) = effect-grown t.log (what.Send to args)
done-grown None t (request.Become behaviour state) = grown-same t.log.effects _ refl
done-grown (Some a) t (request.Become behaviour state) = effect-grown t.log (what.Become behaviour state)
done-grown actor t request.SelfActor = grown-same t.log.effects _ refl

module _ (t log : SnapshotTask) (reply : Answered) where
  abbrev Adds : Type 0
  Adds = IsGrown t.log.effects log.log.effects

  acts-grown : (asked : Request) (given : Option Answer) → option_map (acts t asked) given ≡ Some (reply, log) → Adds
  acts-grown asked None is = cc
  acts-grown asked (Some given) is =
      let both : acts t asked given ≡ (reply, log) = cc in
      subst (λ (r : Reply). IsGrown t.log.effects r.1.log.effects) both (done-grown t.actor t asked)

  reads-grown : (ref : Name) (own stored : Option Value) → Some (reads_ref t ref own stored) ≡ Some (reply, log) → Adds
  reads-grown ref own stored is = let both : reads_ref t ref own stored ≡ (reply, log) = cc in subst (λ (r : Reply). IsGrown t.log.effects r.1.log.effects) both (by own stored)
    where
      by : (own stored : Option Value) → IsGrown t.log.effects (reads_ref t ref own stored).1.log.effects
      by (Some v) stored = grown-same t.log.effects _ refl
      by None (Some v) = grown-same t.log.effects _ refl
      by None None = grown-same t.log.effects _ refl

  sets-grown : (ref : Name) (v : Value) (now : Option Value) → Some (sets_ref t ref v now) ≡ Some (reply, log) → Adds
  sets-grown ref v now is = let both : sets_ref t ref v now ≡ (reply, log) = cc in subst (λ (r : Reply). IsGrown t.log.effects r.1.log.effects) both (by now)
    where
      by : (now : Option Value) → IsGrown t.log.effects (sets_ref t ref v now).1.log.effects
      by (Some old) = grown-same t.log.effects _ refl
      by None = grown-same t.log.effects _ refl

  abbrev ahead : Request → Option Answer
  ahead asked = answer_ahead t.actor (made_by t.log.name t.log.made) asked

  replies-grown : (refs : Name → Option Value) (asked : Request) → replies refs t asked ≡ Some (reply, log) → Adds
  replies-grown refs (request.Deref ref) is = reads-grown ref (private t ref) (refs ref) is
  replies-grown refs (request.RefSet ref v) is = sets-grown ref v (option_or (private t ref) (refs ref)) is
  replies-grown refs (request.Fork body values) is = cc
  replies-grown refs (request.Print text) is = acts-grown (request.Print text) (ahead (request.Print text)) is
  replies-grown refs (request.NewRef v) is = acts-grown (request.NewRef v) (ahead (request.NewRef v)) is
  replies-grown refs (request.Join future) is = acts-grown (request.Join future) (ahead (request.Join future)) is
  replies-grown refs (request.Dosync body values) is = acts-grown (request.Dosync body values) (ahead (request.Dosync body values)) is
  replies-grown refs (request.Spawn behaviour state) is = acts-grown (request.Spawn behaviour state) (ahead (request.Spawn behaviour state)) is
  replies-grown refs (request.Send to args) is = acts-grown (request.Send to args) (ahead (request.Send to args)) is
  replies-grown refs (request.Become behaviour state) is = acts-grown (request.Become behaviour state) (ahead (request.Become behaviour state)) is
  replies-grown refs request.SelfActor is = acts-grown request.SelfActor (ahead request.SelfActor) is

-- a child is merged
merge-grown : (future : Name) (child : Task) (parts new : Parts) → IsMerged future child parts.log parts.knows new → IsGrown parts.log.log.effects new.log.log.effects
merge-grown future child parts new is = subst (λ (l : SnapshotTask). IsGrown parts.log.log.effects l.log.effects) (sym is.log_is) (merged-grown child.log.log.effects parts.log.log.effects)

-- the joins at the value of a task
went-grown : (found : Option Task) (future : Name) (k : ℕ) (old new : Parts) (w : Went) → WentBy found future k old new w → IsGrown old.log.log.effects new.log.log.effects
went-grown None future k old new w is = grown-same old.log.log.effects new.log.log.effects (ap (λ (p : Parts). p.log.log.effects) is.0)
went-grown (Some child) future k old new w is = by child.stage is
  where
    by : (s : Stage) → WentAt s future k child old new w → IsGrown old.log.log.effects new.log.log.effects
    by (kept.Going machine) is = grown-same old.log.log.effects new.log.log.effects (ap (λ (p : Parts). p.log.log.effects) is.0)
    by (kept.Closing closing) is = grown-same old.log.log.effects new.log.log.effects (ap (λ (p : Parts). p.log.log.effects) is.0)
    by (kept.Ended (end.Value v)) is = merge-grown future child old new is.0
    by (kept.Ended (end.Fault code at)) is = grown-same old.log.log.effects new.log.log.effects (ap (λ (p : Parts). p.log.log.effects) is.0)
    by (kept.Ended end.Spent) is = grown-same old.log.log.effects new.log.log.effects (ap (λ (p : Parts). p.log.log.effects) is.0)

is-went-grown : (tasks : Named Task) (k : ℕ) (old new : Parts) (w : Went) → IsWent tasks k old new w → IsGrown old.log.log.effects new.log.log.effects
is-went-grown tasks k old new w is = went-grown (to_join tasks old (made_by old.log.log.name k)) (made_by old.log.log.name k) k old new w is

goes-grown : (tasks : Named Task) (from : ℕ) (old : Parts) (count : ℕ) (new : Parts) → Goes tasks from old count new → IsGrown old.log.log.effects new.log.log.effects
goes-grown tasks from old zero new is = grown-same old.log.log.effects new.log.log.effects (ap (λ (p : Parts). p.log.log.effects) is)
goes-grown tasks from old (suc count) new is =
    grown-then old.log.log.effects is.0.log.log.effects new.log.log.effects (goes-grown tasks from old count is.0 is.1.0) (is-went-grown tasks (from + count) is.0 new went_as.On is.1.1)

all-grown : (tasks : Named Task) (from : ℕ) (old new : Parts) (w : Went) → AllWent tasks from old new w → IsGrown old.log.log.effects new.log.log.effects
all-grown tasks from old new went_as.On is = goes-grown tasks from old (old.log.log.made - from) new is
all-grown tasks from old new (went_as.Waits future next) is =
    grown-then old.log.log.effects is.mid.log.log.effects new.log.log.effects (goes-grown tasks from old is.count is.mid is.goes) (is-went-grown tasks (from + is.count) is.mid new (went_as.Waits future next) is.last)
all-grown tasks from old new (went_as.Ended e) is =
    grown-then old.log.log.effects is.mid.log.log.effects new.log.log.effects (goes-grown tasks from old is.count is.mid is.goes) (is-went-grown tasks (from + is.count) is.mid new (went_as.Ended e) is.last)

-- ---- the tasks of the attempt
-- the task is there still, and has done no less
pub record HasGrown (tasks : Named Task) (name : Name) (t : Task) : Type 0 where
  pub after : Task
  pub there : named name tasks ≡ Some after
  pub grown : IsGrown t.log.log.effects after.log.log.effects

abbrev pub AllGrow : Named Task → Named Task → Type 0
AllGrow old new = (n : Name) (t : Task) → named n old ≡ Some t → HasGrown new n t

module _ (name : Name) (tasks new : Named Task) (t : Task) (there : named name tasks ≡ Some t) where
  -- the task alone has changed
  alone : (R : Task → Task → Type 0) → IsChangedTo name tasks new R t → ((k : Task) → R t k → IsGrown t.log.log.effects k.log.log.effects) → AllGrow tasks new
  alone R to grows n k is = on (same_name n name) refl
    where
      on : (c : Bool) → same_name n name ≡ c → HasGrown new n k
      on true e =
          let both : Some t ≡ Some k = sym there ∙ ap (λ q. named q tasks) (sym (same_name-equal n name e)) ∙ is in
          let same : t ≡ k = cc in record {
            after = to.item;
            there = ap (named n) to.put ∙ named-with_named n name to.item tasks ∙ ap (λ c. cond c (Some to.item) (named n tasks)) e;
            grown = subst (λ (x : Task). IsGrown x.log.log.effects to.item.log.log.effects) same (grows to.item to.related);
          }
      on false e = record {
        after = k;
        there = ap (named n) to.put ∙ named-with_named n name to.item tasks ∙ ap (λ c. cond c (Some to.item) (named n tasks)) e ∙ is;
        grown = grown-same k.log.log.effects k.log.log.effects refl;
      }

  -- with the same log
  same-log : (stage : Stage) → IsChangedTo name tasks new (λ x y. y ≡ record x { stage = stage }) t → AllGrow tasks new
  same-log stage to = alone (λ x y. y ≡ record x { stage = stage }) to (λ k e. grown-same t.log.log.effects k.log.log.effects (ap (λ (x : Task). x.log.log.effects) e))

  -- with these parts
  with-parts : (parts : Parts) (stage : Stage) → IsChangedTo name tasks new (λ x y. y ≡ record { log = parts.log; knows = parts.knows; stage = stage }) t → IsGrown t.log.log.effects parts.log.log.effects → AllGrow tasks new
  with-parts parts stage to grown = alone (λ x y. y ≡ record { log = parts.log; knows = parts.knows; stage = stage }) to (λ k e. subst (λ (x : Task). IsGrown t.log.log.effects x.log.log.effects) (sym e) grown)

module _ (name : Name) (tasks new : Named Task) (t : Task) (there : named name tasks ≡ Some t) where
  answered-grows : (moved : Evaluation) (given : Answer) (went : Stepped) → IsAnswered name moved given tasks new went → AllGrow tasks new
  answered-grows moved given went is = same-log name tasks new t there (kept.Going is.machine) (is.tasks t there)

  waiting-grows : (moved : Evaluation) (w went : Stepped) → IsWaiting name moved w tasks new went → AllGrow tasks new
  waiting-grows moved w went is = same-log name tasks new t there (kept.Going moved) (is.tasks t there)

  ended-grows : (ended : TaskEnd) (went : Stepped) → IsEnded name ended tasks new went → AllGrow tasks new
  ended-grows ended went is = same-log name tasks new t there (kept.Ended ended) (is.tasks t there)

  acted-grows : (refs : Name → Option Value) (moved : Evaluation) (asked : Request) (reads more : List Name) (went : Stepped) → IsActed refs name moved asked tasks reads new more went → AllGrow tasks new
  acted-grows refs moved asked reads more went is = on is.reply (is.replies_so t there) is.came
    where
      on : (reply : Answered) → replies refs t.log asked ≡ Some (reply, is.log) → CameReply name moved asked reply is.log tasks reads new more went → AllGrow tasks new
      on (answered.Now given) so came = alone name tasks new t there (λ x y. y ≡ record x { log = is.log; stage = kept.Going came.machine }) (came.tasks t there)
          (λ k e. subst (λ (x : Task). IsGrown t.log.log.effects x.log.log.effects) (sym e) (replies-grown t.log is.log (answered.Now given) refs asked so))
      on (answered.NotInSnapshot ref) so came = waiting-grows moved _ went came.waiting

  fork-grows : (moved : Evaluation) (actor : Option Name) (fuel : ℕ) (body : NodeId) (values : List Value) (went : Stepped) → CameFork name moved actor fuel body values tasks new went → AllGrow tasks new
  fork-grows moved actor fuel body values went (forking.refused is) = answered-grows moved _ went is.given
  fork-grows moved actor fuel body values went (forking.forks is) = λ n k at.
      with-parts name with_child new t (mid name t there) is.fork.parent (kept.Going is.put.machine) (is.put.tasks t (mid name t there))
      (grown-same t.log.log.effects is.fork.parent.log.log.effects (ap (λ (l : SnapshotTask). l.log.effects) (is.forks t there).1.parent_log)) n k (mid n k at)
    where
      begun : Task
      begun = record { log = is.fork.child.log; knows = is.fork.child.knows; stage = kept.Going is.child }

      with_child : Named Task
      with_child = with_named tasks is.fork.future begun

      -- a task that was there is no child
      mid : (n : Name) (k : Task) → named n tasks ≡ Some k → named n with_child ≡ Some k
      mid n k at = named-with_named n is.fork.future begun tasks ∙ on (same_name n is.fork.future) refl
        where
          on : (c : Bool) → same_name n is.fork.future ≡ c → cond c (Some begun) (named n tasks) ≡ Some k
          on true e = let no : None ≡ Some k = sym is.put.fresh ∙ ap (λ q. named q tasks) (sym (same_name-equal n is.fork.future e)) ∙ at in cc
          on false e = at

  plain-grows : (moved : Evaluation) (f : Name) (o : Option Value) (went : Stepped) → CamePlain name moved f o tasks new went → AllGrow tasks new
  plain-grows moved f (Some v) went is = answered-grows moved _ went is
  plain-grows moved f None went is = waiting-grows moved _ went is

  join-grows : (moved : Evaluation) (f : Name) (outer : Option Value) (went : Stepped) → IsJoin name moved f outer tasks new went → AllGrow tasks new
  join-grows moved f outer went is = by (known_in tasks t.knows f) is.meets (is.met_so t there) is.came
    where
      by : (child : Option Task) (m : Met) → IsMetAs child t f m → CameJoin name moved f outer m tasks new went → AllGrow tasks new
      by child met.Unknown so came = plain-grows moved f outer went came
      by child met.Unfinished so came = waiting-grows moved _ went came
      by None (met.First joined) so came = cc
      by (Some child) (met.First joined) so came = with-parts name tasks new t there joined.parts (kept.Going came.machine) (came.tasks t there)
          (subst (λ (l : SnapshotTask). IsGrown t.log.log.effects l.log.effects) (sym so.2.log_is) (merged-grown child.log.log.effects t.log.log.effects))
      by child (met.Again v) so came = answered-grows moved _ went came
      by child (met.Ended e) so came = ended-grows e went came

  close-grows : (moved : Evaluation) (v : Value) (went : Stepped) → IsClose name moved v tasks new went → AllGrow tasks new
  close-grows moved v went is = on is.closed.went is.joins.went_so is.came
    where
      grown : (w : Went) → AllWent tasks is.joins.from is.joins.before is.closed.parts w → IsGrown t.log.log.effects is.closed.parts.log.log.effects
      grown w all = subst (λ (l : SnapshotTask). IsGrown l.log.effects is.closed.parts.log.log.effects) (is.joins.parts_of t there).log_is (all-grown tasks is.joins.from is.joins.before is.closed.parts w all)

      on : (w : Went) → AllWent tasks is.joins.from is.joins.before is.closed.parts w → CameClose name moved v is.closed.parts w tasks new went → AllGrow tasks new
      on went_as.On all came = with-parts name tasks new t there is.closed.parts (kept.Ended (end.Value v)) (came.tasks t there) (grown went_as.On all)
      on (went_as.Ended e) all came = with-parts name tasks new t there is.closed.parts (kept.Ended e) (came.tasks t there) (grown (went_as.Ended e) all)
      on (went_as.Waits f n) all came = with-parts name tasks new t there is.closed.parts (kept.Closing (record { machine = moved; value = v; next = n })) (came.tasks t there) (grown (went_as.Waits f n) all)

-- so it is for each step
module _ (refs : Name → Option Value) (name : Name) (moved : Evaluation) (outer : Option Value) (old new : Attempt) (went : Stepped) (t : Task) (there : named name old.tasks ≡ Some t) where
  act-grows : (asked : Request) → IsActed refs name moved asked old.tasks old.reads new.tasks new.reads went → AllGrow old.tasks new.tasks
  act-grows asked is = acted-grows name old.tasks new.tasks t there refs moved asked old.reads new.reads went is

  asks-grow : (asked : Request) → Asks refs name moved outer asked old new went → AllGrow old.tasks new.tasks
  asks-grow (request.Fork body values) is = fork-grows name old.tasks new.tasks t there moved old.actor old.fuel body values went is.does
  asks-grow (request.Join f) is = join-grows name old.tasks new.tasks t there moved f outer went is.does
  asks-grow (request.Dosync body values) is = absurd is
  asks-grow (request.Print text) is = act-grows (request.Print text) is
  asks-grow (request.NewRef v) is = act-grows (request.NewRef v) is
  asks-grow (request.Deref ref) is = act-grows (request.Deref ref) is
  asks-grow (request.RefSet ref v) is = act-grows (request.RefSet ref v) is
  asks-grow (request.Spawn n args) is = act-grows (request.Spawn n args) is
  asks-grow (request.Send a args) is = act-grows (request.Send a args) is
  asks-grow (request.Become n args) is = act-grows (request.Become n args) is
  asks-grow request.SelfActor is = act-grows request.SelfActor is

  pub steps-grow : (h : Halt) → Comes refs name moved outer h old new went → AllGrow old.tasks new.tasks
  steps-grow (halt.Ask asked at) is = asks-grow asked is
  steps-grow (halt.Value v) is = close-grows name old.tasks new.tasks t there moved v went is.does
  steps-grow (halt.Fault code at) is = ended-grows name old.tasks new.tasks t there (end.Fault code at) went is.does
  steps-grow halt.Spent is = ended-grows name old.tasks new.tasks t there end.Spent went is.does
