-- How a step of a task leaves the tasks of its attempt.
use Rattle.std.proofs.Common.{◌≡◌, ◌∙◌, ◌⊎◌, Bool, true, false, cond, inl, inr, refl, sym, ap, subst}
use Rattle.std.specs.Prelude.{ℕ, ◌+◌, List, Option, None, Some, if◌then◌else◌}
use Rattle.core_syntax.specs.declared.node_id.NodeId.{NodeId}
use Rattle.eval_step.specs.Evaluation.{Evaluation}
use Rattle.serial_model.specs.declared.answer.Answer.{Answer}
use Rattle.serial_model.specs.declared.halt.Halt.{Halt}
use Rattle.serial_model.specs.declared.halt.Halt.TheVariants as halt
use Rattle.serial_model.specs.declared.request.Request.{Request}
use Rattle.serial_model.specs.declared.request.Request.TheVariants as request
use Rattle.task_fork_join.specs.Attempt.{Attempt, end_of}
use Rattle.task_fork_join.specs.Closing.{AllWent, CameClose, IsClose, IsFinished, WentAt, WentBy}
use Rattle.task_fork_join.specs.declared.closing.Went.{Went}
use Rattle.task_fork_join.specs.declared.closing.Went.TheVariants as went_as
use Rattle.task_fork_join.specs.declared.joining.Met.{Met}
use Rattle.task_fork_join.specs.declared.joining.Met.TheVariants as met
use Rattle.task_fork_join.specs.declared.stepped.Stepped.{Stepped}
use Rattle.task_fork_join.specs.declared.stepped.Stepped.TheVariants as stepped
use Rattle.task_fork_join.specs.declared.task.Parts.{Parts}
use Rattle.task_fork_join.specs.declared.task.Stage.{Stage}
use Rattle.task_fork_join.specs.declared.task.Stage.TheVariants as kept
use Rattle.task_fork_join.specs.declared.task.Task.{Task}
use Rattle.task_fork_join.specs.declared.task_end.TaskEnd.{TaskEnd}
use Rattle.task_fork_join.specs.declared.task_end.TaskEnd.TheVariants as end
use Rattle.task_fork_join.specs.Forking as forking
use Rattle.task_fork_join.specs.Forking.{CameFork}
use Rattle.task_fork_join.specs.Joining.{CameJoin, CamePlain, IsEnded, IsGoing, IsJoin, IsMetAs, known_in}
use Rattle.task_fork_join.specs.Step.{Asks, Comes}
use Rattle.task_fork_join.specs.Stepping.{CameReply, IsActed, IsAnswered, IsWaiting, is_missing}
use Rattle.txn_snapshot.specs.declared.answered.Answered.{Answered}
use Rattle.txn_snapshot.specs.declared.answered.Answered.TheVariants as answered
use Rattle.value_core.proofs.NamedLaws.{named-here, named-with_named, same_name-equal}
use Rattle.value_core.specs.declared.value.Value.{Value}
use Rattle.task_fork_join.specs.Knowledge.{is_known}
use Rattle.value_core.specs.Named.{Name, Named, is_among, made_by, named, same_name, with_named, IsChangedTo}
use Rattle.value_core.specs.Place.{Spot}

-- the task of that name goes on
pub record GoesAt (tasks : Named Task) (name : Name) : Type 0 where
  pub task : Task
  pub there : named name tasks ≡ Some task
  pub going : IsGoing task.stage

-- no task of that name is known, and the unit of it that is asked for is not finished
pub record WaitsPlain (tasks : Named Task) (t : Task) (outer : Option Value) (h : Halt) (f : Name) : Type 0 where
  pub unknown : known_in tasks t.knows f ≡ None
  pub none : outer ≡ None
  pub at : Spot
  pub asks : h ≡ halt.Ask (request.Join f) at

-- where the task is that took the step
abbrev pub IsAfter : Named Task → Option Value → Halt → Stepped → Task → Type 0
IsAfter tasks outer h stepped.Now t = IsGoing t.stage
IsAfter tasks outer h (stepped.Forked child) t = IsGoing t.stage
IsAfter tasks outer h (stepped.WaitJoin f) t = IsGoing t.stage × (GoesAt tasks f ⊎ WaitsPlain tasks t outer h f)
IsAfter tasks outer h (stepped.NotInSnapshot ref) t = IsGoing t.stage
IsAfter tasks outer h stepped.Finished t = end_of t.stage ≡ None → ⊥

-- the task asked to fork, and its child is what it makes next
pub record IsForking (tasks : Named Task) (name : Name) (h : Halt) (child : Name) : Type 0 where
  pub body : NodeId
  pub values : List Value
  pub at : Spot
  pub asks : h ≡ halt.Ask (request.Fork body values) at
  pub next : (t : Task) → named name tasks ≡ Some t → child ≡ made_by t.log.log.name t.log.log.made

-- The task that took the step is there still, a child that it forked goes on, and every other task stays.
pub record IsShaped (tasks : Named Task) (name : Name) (outer : Option Value) (h : Halt) (went : Stepped) (new : Named Task) : Type 0 where
  pub after : Task
  pub here : named name new ≡ Some after
  pub is : IsAfter tasks outer h went after
  pub others : (n : Name) → (n ≡ name → ⊥) → (went ≡ stepped.Forked n → ⊥) → named n new ≡ named n tasks
  pub child : (c : Name) → went ≡ stepped.Forked c → (c ≡ name → ⊥) → GoesAt new c
  pub forking : (c : Name) → went ≡ stepped.Forked c → IsForking tasks name h c
  pub knows : is_missing went ≡ true → (t : Task) → named name tasks ≡ Some t → after.knows ≡ t.knows

-- a task that is put in the place of another one leaves the others
pub put-apart : {X : Type 0} (name : Name) (item : X) (old new : Named X) → new ≡ with_named old name item → (n : Name) → (n ≡ name → ⊥) → named n new ≡ named n old
put-apart name item old new put n other = ap (named n) put ∙ named-with_named n name item old ∙ on (same_name n name) refl
  where
    on : (c : Bool) → same_name n name ≡ c → cond c (Some item) (named n old) ≡ named n old
    on true e = absurd (other (same_name-equal n name e))
    on false e = refl

module _ (name : Name) (tasks new : Named Task) (outer : Option Value) (h : Halt) (t : Task) (there : named name tasks ≡ Some t) where
  -- the task alone has changed
  alone : (R : Task → Task → Type 0) (went : Stepped) → IsChangedTo name tasks new R t → ((k : Task) → R t k → IsAfter tasks outer h went k) → ((c : Name) → went ≡ stepped.Forked c → ⊥)
      → (is_missing went ≡ true → (k : Task) → R t k → k.knows ≡ t.knows) → IsShaped tasks name outer h went new
  alone R went to is none same = record {
    after = to.item;
    here = ap (named name) to.put ∙ named-here name to.item tasks;
    is = is to.item to.related;
    others = λ n other fork. put-apart name to.item tasks new to.put n other;
    child = λ c fork other. absurd (none c fork);
    forking = λ c fork. absurd (none c fork);
    knows = λ held k is_k. let both : Some t ≡ Some k = sym there ∙ is_k in let one : t ≡ k = cc in same held to.item to.related ∙ ap (λ (x : Task). x.knows) one;
  }

  answered-shape : (moved : Evaluation) (given : Answer) (went : Stepped) → IsAnswered name moved given tasks new went → IsShaped tasks name outer h went new
  answered-shape moved given went is = subst (λ w. IsShaped tasks name outer h w new) (sym is.now)
      (alone (λ x y. y ≡ record x { stage = kept.Going is.machine }) stepped.Now (is.tasks t there) (λ k e. subst (λ (x : Task). IsGoing x.stage) (sym e) tt) (λ c e. cc) (λ held. cc))

  waiting-shape : (moved : Evaluation) (w went : Stepped) → ((k : Task) → k ≡ record t { stage = kept.Going moved } → IsAfter tasks outer h w k) → ((c : Name) → w ≡ stepped.Forked c → ⊥)
      → IsWaiting name moved w tasks new went → IsShaped tasks name outer h went new
  waiting-shape moved w went after none is = subst (λ x. IsShaped tasks name outer h x new) (sym is.waits) (alone (λ x y. y ≡ record x { stage = kept.Going moved }) w (is.tasks t there) after none (λ held k e. ap (λ (x : Task). x.knows) e))

  ended-shape : (ended : TaskEnd) (went : Stepped) → IsEnded name ended tasks new went → IsShaped tasks name outer h went new
  ended-shape ended went is = subst (λ w. IsShaped tasks name outer h w new) (sym is.finished)
      (alone (λ x y. y ≡ record x { stage = kept.Ended ended }) stepped.Finished (is.tasks t there) (λ k e none. let no : Some ended ≡ None = sym (ap (λ (x : Task). end_of x.stage) e) ∙ none in cc) (λ c e. cc) (λ held. cc))

  acted-shape : (refs : Name → Option Value) (moved : Evaluation) (asked : Request) (reads more : List Name) (went : Stepped) → IsActed refs name moved asked tasks reads new more went → IsShaped tasks name outer h went new
  acted-shape refs moved asked reads more went is = on is.reply is.came
    where
      on : (reply : Answered) → CameReply name moved asked reply is.log tasks reads new more went → IsShaped tasks name outer h went new
      on (answered.Now given) came = subst (λ w. IsShaped tasks name outer h w new) (sym came.now)
          (alone (λ x y. y ≡ record x { log = is.log; stage = kept.Going came.machine }) stepped.Now (came.tasks t there) (λ k e. subst (λ (x : Task). IsGoing x.stage) (sym e) tt) (λ c e. cc) (λ held. cc))
      on (answered.NotInSnapshot ref) came = waiting-shape moved (stepped.NotInSnapshot ref) went (λ k e. subst (λ (x : Task). IsGoing x.stage) (sym e) tt) (λ c e. cc) came.waiting

  fork-shape : (moved : Evaluation) (actor : Option Name) (fuel : ℕ) (body : NodeId) (values : List Value) (at : Spot) (went : Stepped) → h ≡ halt.Ask (request.Fork body values) at → CameFork name moved actor fuel body values tasks new went → IsShaped tasks name outer h went new
  fork-shape moved actor fuel body values at went asks (forking.refused is) = answered-shape moved _ went is.given
  fork-shape moved actor fuel body values at went asks (forking.forks is) = subst (λ w. IsShaped tasks name outer h w new) (sym is.put.forked) (on (same_name name is.fork.future) refl)
    where
      begun : Task
      begun = record { log = is.fork.child.log; knows = is.fork.child.knows; stage = kept.Going is.child }

      -- the task as it stands once the child is put
      stands : (c : Bool) → same_name name is.fork.future ≡ c → (k : Task) × (named name (with_named tasks is.fork.future begun) ≡ Some k)
      stands true e = (begun, named-with_named name is.fork.future begun tasks ∙ ap (λ b. cond b (Some begun) (named name tasks)) e)
      stands false e = (t, named-with_named name is.fork.future begun tasks ∙ ap (λ b. cond b (Some begun) (named name tasks)) e ∙ there)

      on : (c : Bool) → same_name name is.fork.future ≡ c → IsShaped tasks name outer h (stepped.Forked is.fork.future) new
      on c e =
          let k = stands c e in
          let to = is.put.tasks k.0 k.1 in record {
            after = to.item;
            here = ap (named name) to.put ∙ named-here name to.item (with_named tasks is.fork.future begun);
            is = subst (λ (x : Task). IsGoing x.stage) (sym to.related) tt;
            others = λ n other fork. put-apart name to.item (with_named tasks is.fork.future begun) new to.put n other ∙ put-apart is.fork.future begun tasks (with_named tasks is.fork.future begun) refl n (λ same. fork (ap (λ q. stepped.Forked q) (sym same)));
            child = λ child fork other.
                let same : is.fork.future ≡ child = cc in
                record { task = begun; there = put-apart name to.item (with_named tasks is.fork.future begun) new to.put child other ∙ ap (λ q. named q (with_named tasks is.fork.future begun)) (sym same) ∙ named-here is.fork.future begun tasks; going = tt };
            forking = λ child fork.
                let same : is.fork.future ≡ child = cc in
                record {
                  body = body;
                  values = values;
                  at = at;
                  asks = asks;
                  next = λ k is_k. let both : Some t ≡ Some k = sym there ∙ is_k in let one : t ≡ k = cc in
                      sym same ∙ (is.forks t there).1.future_is ∙ ap (λ (x : Task). made_by x.log.log.name x.log.log.made) one;
                };
            knows = λ held. cc;
          }

  plain-shape : (moved : Evaluation) (f : Name) (at : Spot) (went : Stepped) → h ≡ halt.Ask (request.Join f) at → known_in tasks t.knows f ≡ None → (o : Option Value) → outer ≡ o → CamePlain name moved f o tasks new went → IsShaped tasks name outer h went new
  plain-shape moved f at went asks unknown (Some v) so is = answered-shape moved _ went is
  plain-shape moved f at went asks unknown None so is = waiting-shape moved (stepped.WaitJoin f) went
      (λ k e. (subst (λ (x : Task). IsGoing x.stage) (sym e) tt, inr (record { unknown = ap (λ (x : Task). known_in tasks x.knows f) e ∙ unknown; none = so; at = at; asks = asks }))) (λ c e. cc) is

  join-shape : (moved : Evaluation) (f : Name) (at : Spot) (went : Stepped) → h ≡ halt.Ask (request.Join f) at → IsJoin name moved f outer tasks new went → IsShaped tasks name outer h went new
  join-shape moved f at went asks is = by (known_in tasks t.knows f) refl is.meets (is.met_so t there) is.came
    where
      known-there : (child : Task) → known_in tasks t.knows f ≡ Some child → named f tasks ≡ Some child
      known-there child e = held (is_known t.knows f) e
        where
          held : (c : Bool) → (if c then named f tasks else None) ≡ Some child → named f tasks ≡ Some child
          held true e = e
          held false e = cc

      waits : (child : Task) → known_in tasks t.knows f ≡ Some child → IsGoing child.stage → IsWaiting name moved (stepped.WaitJoin f) tasks new went → IsShaped tasks name outer h went new
      waits child known going = waiting-shape moved (stepped.WaitJoin f) went (λ k e. (subst (λ (x : Task). IsGoing x.stage) (sym e) tt, inl (record { task = child; there = known-there child known; going = going }))) (λ c e. cc)

      by : (child : Option Task) → known_in tasks t.knows f ≡ child → (m : Met) → IsMetAs child t f m → CameJoin name moved f outer m tasks new went → IsShaped tasks name outer h went new
      by None known met.Unknown so came = plain-shape moved f at went asks known outer refl came
      by None known met.Unfinished so came = cc
      by None known (met.First joined) so came = cc
      by None known (met.Again v) so came = cc
      by None known (met.Ended e) so came = cc
      by (Some child) known met.Unknown so came = absurd so
      by (Some child) known met.Unfinished so came = waits child known so came
      by (Some child) known (met.First joined) so came = subst (λ w. IsShaped tasks name outer h w new) (sym came.now)
          (alone (λ x y. y ≡ record { log = joined.parts.log; knows = joined.parts.knows; stage = kept.Going came.machine }) stepped.Now (came.tasks t there) (λ k e. subst (λ (x : Task). IsGoing x.stage) (sym e) tt) (λ c e. cc) (λ held. cc))
      by (Some child) known (met.Again v) so came = answered-shape moved _ went came
      by (Some child) known (met.Ended e) so came = ended-shape e went came

  close-shape : (moved : Evaluation) (v : Value) (went : Stepped) → IsClose name moved v tasks new went → IsShaped tasks name outer h went new
  close-shape moved v went is = on is.closed.went is.joins.went_so is.came
    where
      finished : (parts : Parts) (ended : TaskEnd) → IsFinished name parts ended tasks new went → IsShaped tasks name outer h went new
      finished parts ended came = subst (λ w. IsShaped tasks name outer h w new) (sym came.finished)
          (alone (λ x y. y ≡ record { log = parts.log; knows = parts.knows; stage = kept.Ended ended }) stepped.Finished (came.tasks t there)
          (λ k e none. let no : Some ended ≡ None = sym (ap (λ (x : Task). end_of x.stage) e) ∙ none in cc) (λ c e. cc) (λ held. cc))

      -- what is waited for is a task of the attempt that goes on
      going-child : (f q : Name) (k n : ℕ) (parts last : Parts) (found : Option Task) → (if is_among q parts.log.log.joined then None else known_in tasks parts.knows q) ≡ found → WentBy found q k parts last (went_as.Waits f n) → GoesAt tasks f
      going-child f q k n parts last None e so = let no = so.1 in cc
      going-child f q k n parts last (Some child) e so = stage child.stage refl so
        where
          among : (c d : Bool) → (if c then None else (if d then named q tasks else None)) ≡ Some child → named q tasks ≡ Some child
          among true d e = cc
          among false true e = e
          among false false e = cc

          goes : IsGoing child.stage → went_as.Waits f n ≡ went_as.Waits q k → GoesAt tasks f
          goes going so = let same : f ≡ q = cc in record {
            task = child;
            there = ap (λ m. named m tasks) same ∙ among (is_among q parts.log.log.joined) (is_known parts.knows q) e;
            going = going;
          }

          stage : (s : Stage) → child.stage ≡ s → WentAt s q k child parts last (went_as.Waits f n) → GoesAt tasks f
          stage (kept.Going machine) is so = goes (subst (λ s. IsGoing s) (sym is) tt) so.1
          stage (kept.Closing closing) is so = goes (subst (λ s. IsGoing s) (sym is) tt) so.1
          stage (kept.Ended (end.Value v)) is so = let no = so.1 in cc
          stage (kept.Ended (end.Fault code at)) is so = let no = so.1 in cc
          stage (kept.Ended end.Spent) is so = let no = so.1 in cc

      on : (w : Went) → AllWent tasks is.joins.from is.joins.before is.closed.parts w → CameClose name moved v is.closed.parts w tasks new went → IsShaped tasks name outer h went new
      on went_as.On all came = finished is.closed.parts (end.Value v) came
      on (went_as.Ended e) all came = finished is.closed.parts e came
      on (went_as.Waits f n) all came = subst (λ w. IsShaped tasks name outer h w new) (sym came.waits)
          (alone (λ x y. y ≡ record { log = is.closed.parts.log; knows = is.closed.parts.knows; stage = kept.Closing (record { machine = moved; value = v; next = n }) }) (stepped.WaitJoin f) (came.tasks t there)
          (λ k e. (
            subst (λ (x : Task). IsGoing x.stage) (sym e) tt,
            inl (going-child f (made_by all.mid.log.log.name (is.joins.from + all.count)) (is.joins.from + all.count) n all.mid is.closed.parts _ refl all.last),
          )) (λ c e. cc) (λ held. cc))

-- so it is for each step
module _ (refs : Name → Option Value) (name : Name) (moved : Evaluation) (outer : Option Value) (old new : Attempt) (went : Stepped) (t : Task) (there : named name old.tasks ≡ Some t) where
  acts : (asked : Request) (h : Halt) → IsActed refs name moved asked old.tasks old.reads new.tasks new.reads went → IsShaped old.tasks name outer h went new.tasks
  acts asked h is = acted-shape name old.tasks new.tasks outer h t there refs moved asked old.reads new.reads went is

  asks-shape : (asked : Request) (at : Spot) → Asks refs name moved outer asked old new went → IsShaped old.tasks name outer (halt.Ask asked at) went new.tasks
  asks-shape (request.Fork body values) at is = fork-shape name old.tasks new.tasks outer (halt.Ask (request.Fork body values) at) t there moved old.actor old.fuel body values at went refl is.does
  asks-shape (request.Join f) at is = join-shape name old.tasks new.tasks outer (halt.Ask (request.Join f) at) t there moved f at went refl is.does
  asks-shape (request.Dosync body values) at is = absurd is
  asks-shape (request.Print text) at is = acts (request.Print text) (halt.Ask (request.Print text) at) is
  asks-shape (request.NewRef v) at is = acts (request.NewRef v) (halt.Ask (request.NewRef v) at) is
  asks-shape (request.Deref ref) at is = acts (request.Deref ref) (halt.Ask (request.Deref ref) at) is
  asks-shape (request.RefSet ref v) at is = acts (request.RefSet ref v) (halt.Ask (request.RefSet ref v) at) is
  asks-shape (request.Spawn n args) at is = acts (request.Spawn n args) (halt.Ask (request.Spawn n args) at) is
  asks-shape (request.Send a args) at is = acts (request.Send a args) (halt.Ask (request.Send a args) at) is
  asks-shape (request.Become n args) at is = acts (request.Become n args) (halt.Ask (request.Become n args) at) is
  asks-shape request.SelfActor at is = acts request.SelfActor (halt.Ask request.SelfActor at) is

  pub shaped : (h : Halt) → Comes refs name moved outer h old new went → IsShaped old.tasks name outer h went new.tasks
  shaped (halt.Ask asked at) is = asks-shape asked at is
  shaped (halt.Value v) is = close-shape name old.tasks new.tasks outer (halt.Value v) t there moved v went is.does
  shaped (halt.Fault code at) is = ended-shape name old.tasks new.tasks outer (halt.Fault code at) t there (end.Fault code at) went is.does
  shaped halt.Spent is = ended-shape name old.tasks new.tasks outer halt.Spent t there end.Spent went is.does
