-- Where a task is that waits for a finish: what it joins, and whether it knows the task of that.
use Rattle.std.proofs.Common.{◌≡◌, ◌∙◌, ◌⊎◌, Bool, true, false, inl, inr, refl, sym, ap, subst}
use Rattle.std.specs.Prelude.{◌+◌, ℕ, Option, None, Some, if◌then◌else◌}
use Rattle.core_syntax.specs.declared.node_id.NodeId.{NodeId}
use Rattle.core_syntax.specs.Table.{Table}
use Rattle.eval_step.specs.Evaluation.{Evaluation, IsSame}
use Rattle.serial_model.specs.declared.halt.Halt.{Halt}
use Rattle.serial_model.specs.declared.halt.Halt.TheVariants as halt
use Rattle.serial_model.specs.declared.request.Request.{Request}
use Rattle.serial_model.specs.declared.request.Request.TheVariants as request
use Rattle.serial_model.specs.Eval.{next}
use Rattle.task_fork_join.proofs.StepShapes.{GoesAt, WaitsPlain}
use Rattle.task_fork_join.specs.Attempt.{Attempt}
use Rattle.task_fork_join.specs.Closing.{AllWent, CameClose, IsClose, IsHeld, StopsAt, WentAt, WentBy}
use Rattle.task_fork_join.specs.declared.closing.Went.{Went}
use Rattle.task_fork_join.specs.declared.closing.Went.TheVariants as went_as
use Rattle.task_fork_join.specs.declared.joining.Met.{Met}
use Rattle.task_fork_join.specs.declared.joining.Met.TheVariants as met
use Rattle.task_fork_join.specs.declared.stepped.Stepped.{Stepped}
use Rattle.task_fork_join.specs.declared.stepped.Stepped.TheVariants as stepped
use Rattle.task_fork_join.specs.declared.task.Parts.{Parts}
use Rattle.task_fork_join.specs.declared.task.Stage.{Stage}
use Rattle.task_fork_join.specs.declared.task.Stage.TheVariants as kept
use Rattle.task_fork_join.specs.declared.task.Task.{Task}
use Rattle.task_fork_join.specs.declared.task_end.TaskEnd.TheVariants as end
use Rattle.task_fork_join.specs.Forking as forking
use Rattle.task_fork_join.specs.Forking.{CameFork}
use Rattle.task_fork_join.specs.Joining.{CameJoin, CamePlain, IsGoing, IsJoin, IsMetAs, IsToJoin, JoinsAt, known_in}
use Rattle.task_fork_join.specs.Knowledge.{is_known}
use Rattle.task_fork_join.specs.Step.{Asks, Comes}
use Rattle.task_fork_join.specs.Stepping.{CameReply, IsActed, IsWaiting}
use Rattle.txn_snapshot.specs.declared.answered.Answered.{Answered}
use Rattle.txn_snapshot.specs.declared.answered.Answered.TheVariants as answered
use Rattle.value_core.proofs.NamedLaws.{named-here}
use Rattle.value_core.specs.declared.value.Value.{Value}
use Rattle.value_core.specs.Named.{Name, Named, is_among, made_by, named}
use Rattle.value_core.specs.Place.{Spot}

-- where a machine stops
abbrev halt_of : Table → Evaluation → Halt
halt_of program m = next program m.body m.values m.inside m.answers m.fuel

-- a machine that evaluates the same after the same answers stops at the same
pub halts-same : (program : Table) (m n : Evaluation) → IsSame m n → halt_of program n ≡ halt_of program m
halts-same program m n same =
    ap (λ b. next program b n.values n.inside n.answers n.fuel) same.task.body
    ∙ ap (λ v. next program m.body v n.inside n.answers n.fuel) same.task.values
    ∙ ap (λ i. next program m.body m.values i n.answers n.fuel) same.task.inside
    ∙ ap (λ a. next program m.body m.values m.inside a n.fuel) same.answers
    ∙ ap (λ f. next program m.body m.values m.inside m.answers f) same.task.fuel

-- it knows the task of the future, and that goes on
pub record KnowsGoing (tasks : Named Task) (t : Task) (f : Name) : Type 0 where
  pub known : is_known t.knows f ≡ true
  pub goes : GoesAt tasks f

-- a task that waits for a finish: it joins that where it is, and knows a task of it that goes on; or it knows none, and no unit of that name
-- is finished
pub record WaitsAt (tasks : Named Task) (name : Name) (moved : Evaluation) (outer : Option Value) (h : Halt) (f : Name) (new : Named Task) : Type 0 where
  pub after : Task
  pub here : named name new ≡ Some after
  pub joins : (program : Table) → halt_of program moved ≡ h → JoinsAt program after after.stage f
  pub way : KnowsGoing tasks after f ⊎ WaitsPlain tasks after outer h f

module _ (name : Name) (tasks new : Named Task) (moved : Evaluation) (outer : Option Value) (h : Halt) (t : Task) (there : named name tasks ≡ Some t) where
  abbrev Waits : Name → Type 0
  Waits f = WaitsAt tasks name moved outer h f new

  -- the future that is said is the one that is waited for
  said : (f g : Name) → stepped.WaitJoin g ≡ stepped.WaitJoin f → Waits f → Waits g
  said f g so is = let same : g ≡ f = cc in subst Waits (sym same) is

  asked : (f : Name) (at : Spot) → h ≡ halt.Ask (request.Join f) at → ((k : Task) → k ≡ record t { stage = kept.Going moved } → KnowsGoing tasks k f ⊎ WaitsPlain tasks k outer h f)
      → (g : Name) → IsWaiting name moved (stepped.WaitJoin f) tasks new (stepped.WaitJoin g) → Waits g
  asked f at asks way g is =
      let to = is.tasks t there in
      said f g is.waits (record {
        after = to.item;
        here = ap (named name) to.put ∙ named-here name to.item tasks;
        joins = λ program so. subst (λ (k : Task). JoinsAt program k k.stage f) (sym to.related) (at, so ∙ asks);
        way = way to.item to.related;
      })

  among : (f : Name) (c : Bool) (child : Task) → (if c then named f tasks else None) ≡ Some child → (c ≡ true) × (named f tasks ≡ Some child)
  among f true child e = (refl, e)
  among f false child e = cc

  join-waits : (f : Name) (at : Spot) → h ≡ halt.Ask (request.Join f) at → (g : Name) → IsJoin name moved f outer tasks new (stepped.WaitJoin g) → Waits g
  join-waits f at asks g is = by (known_in tasks t.knows f) refl is.meets (is.met_so t there) is.came
    where
      plain : known_in tasks t.knows f ≡ None → (o : Option Value) → outer ≡ o → CamePlain name moved f o tasks new (stepped.WaitJoin g) → Waits g
      plain unknown (Some v) so came = let no = came.now in cc
      plain unknown None so came = asked f at asks (λ k e. inr (record { unknown = ap (λ (x : Task). known_in tasks x.knows f) e ∙ unknown; none = so; at = at; asks = asks })) g came

      knows : (child : Task) → known_in tasks t.knows f ≡ Some child → IsGoing child.stage → (k : Task) → k ≡ record t { stage = kept.Going moved } → KnowsGoing tasks k f
      knows child e going k is_k =
          let both = among f (is_known t.knows f) child e in
          record { known = ap (λ (x : Task). is_known x.knows f) is_k ∙ both.0; goes = record { task = child; there = both.1; going = going } }

      by : (child : Option Task) → known_in tasks t.knows f ≡ child → (m : Met) → IsMetAs child t f m → CameJoin name moved f outer m tasks new (stepped.WaitJoin g) → Waits g
      by None known met.Unknown so came = plain known outer refl came
      by None known met.Unfinished so came = cc
      by None known (met.First joined) so came = cc
      by None known (met.Again v) so came = cc
      by None known (met.Ended e) so came = cc
      by (Some child) known met.Unknown so came = absurd so
      by (Some child) known met.Unfinished so came = asked f at asks (λ k e. inl (knows child known so k e)) g came
      by (Some child) known (met.First joined) so came = let no = came.now in cc
      by (Some child) known (met.Again v) so came = let no = came.now in cc
      by (Some child) known (met.Ended e) so came = let no = came.finished in cc

  close-waits : (v : Value) (g : Name) → IsClose name moved v tasks new (stepped.WaitJoin g) → Waits g
  close-waits v g is = on is.closed.went is.joins.went_so is.came
    where
      -- the child for which the joins stop
      stops : (f q : Name) (k n : ℕ) (mid parts : Parts) (found : Option Task) → q ≡ made_by mid.log.log.name k → (if is_among q mid.log.log.joined then None else known_in tasks mid.knows q) ≡ found → WentBy found q k mid parts (went_as.Waits f n)
          → (x : Task) → x ≡ record { log = parts.log; knows = parts.knows; stage = kept.Closing (record { machine = moved; value = v; next = n }) } → IsToJoin x n f × KnowsGoing tasks x f
      stops f q k n mid parts None called e so x is_x = let no = so.1 in cc
      stops f q k n mid parts (Some child) called e so x is_x = stage child.stage refl so
        where
          unjoined : (c d : Bool) → (if c then None else (if d then named q tasks else None)) ≡ Some child → (c ≡ false) × (d ≡ true) × (named q tasks ≡ Some child)
          unjoined true d e = cc
          unjoined false true e = (refl, refl, e)
          unjoined false false e = cc

          held : (is_among q mid.log.log.joined ≡ false) × (is_known mid.knows q ≡ true) × (named q tasks ≡ Some child)
          held = unjoined (is_among q mid.log.log.joined) (is_known mid.knows q) e

          goes : IsGoing child.stage → parts ≡ mid → went_as.Waits f n ≡ went_as.Waits q k → IsToJoin x n f × KnowsGoing tasks x f
          goes going same so =
              let here : f ≡ q = cc in
              let number : n ≡ k = cc in
              let log : x.log ≡ mid.log = ap (λ (y : Task). y.log) is_x ∙ ap (λ (p : Parts). p.log) same in
              let knows : x.knows ≡ mid.knows = ap (λ (y : Task). y.knows) is_x ∙ ap (λ (p : Parts). p.knows) same in
              let known : is_known x.knows f ≡ true = ap (λ k. is_known k f) knows ∙ ap (is_known mid.knows) here ∙ held.1 in (
                record {
                  called = here ∙ called ∙ ap (λ l. made_by l.log.name k) (sym log) ∙ ap (made_by x.log.log.name) (sym number);
                  unjoined = ap (λ l. is_among f l.log.joined) log ∙ ap (λ m. is_among m mid.log.log.joined) here ∙ held.0;
                  known = known;
                },
                record { known = known; goes = record { task = child; there = ap (λ m. named m tasks) here ∙ held.2; going = going } },
              )

          stage : (s : Stage) → child.stage ≡ s → WentAt s q k child mid parts (went_as.Waits f n) → IsToJoin x n f × KnowsGoing tasks x f
          stage (kept.Going machine) is so = goes (subst (λ s. IsGoing s) (sym is) tt) so.0 so.1
          stage (kept.Closing closing) is so = goes (subst (λ s. IsGoing s) (sym is) tt) so.0 so.1
          stage (kept.Ended (end.Value v)) is so = let no = so.1 in cc
          stage (kept.Ended (end.Fault code at)) is so = let no = so.1 in cc
          stage (kept.Ended end.Spent) is so = let no = so.1 in cc

      on : (w : Went) → AllWent tasks is.joins.from is.joins.before is.closed.parts w → CameClose name moved v is.closed.parts w tasks new (stepped.WaitJoin g) → Waits g
      on went_as.On all came = let no = came.finished in cc
      on (went_as.Ended e) all came = let no = came.finished in cc
      on (went_as.Waits f n) all came =
          let to = came.tasks t there in
          let at = stops f (made_by all.mid.log.log.name (is.joins.from + all.count)) (is.joins.from + all.count) n all.mid is.closed.parts _ refl refl all.last to.item to.related in
          said f g came.waits (record {
            after = to.item;
            here = ap (named name) to.put ∙ named-here name to.item tasks;
            joins = λ program so. subst (λ s. JoinsAt program to.item s f) (sym (ap (λ (x : Task). x.stage) to.related)) at.0;
            way = inl at.1;
          })

  -- a task does not wait so where it is answered by its log, or forks
  acted-none : (refs : Name → Option Value) (asked : Request) (reads more : _) (g : Name) → IsActed refs name moved asked tasks reads new more (stepped.WaitJoin g) → Waits g
  acted-none refs asked reads more g is = on is.reply is.came
    where
      on : (reply : Answered) → CameReply name moved asked reply is.log tasks reads new more (stepped.WaitJoin g) → Waits g
      on (answered.Now given) came = let no = came.now in cc
      on (answered.NotInSnapshot ref) came = let no = came.waiting.waits in cc

  fork-none : (actor : Option Name) (fuel : ℕ) (body : NodeId) (values : _) (g : Name) → CameFork name moved actor fuel body values tasks new (stepped.WaitJoin g) → Waits g
  fork-none actor fuel body values g (forking.refused is) = let no = is.given.now in cc
  fork-none actor fuel body values g (forking.forks is) = let no = is.put.forked in cc

-- so it is wherever a step waits for a finish
module _ (refs : Name → Option Value) (name : Name) (moved : Evaluation) (outer : Option Value) (old new : Attempt) (t : Task) (there : named name old.tasks ≡ Some t) (f : Name) where
  acts : (asked : Request) (h : Halt) → IsActed refs name moved asked old.tasks old.reads new.tasks new.reads (stepped.WaitJoin f) → WaitsAt old.tasks name moved outer h f new.tasks
  acts asked h is = acted-none name old.tasks new.tasks moved outer h t there refs asked old.reads new.reads f is

  asks-waits : (asked : Request) (at : Spot) → Asks refs name moved outer asked old new (stepped.WaitJoin f) → WaitsAt old.tasks name moved outer (halt.Ask asked at) f new.tasks
  asks-waits (request.Fork body values) at is = fork-none name old.tasks new.tasks moved outer (halt.Ask (request.Fork body values) at) t there old.actor old.fuel body values f is.does
  asks-waits (request.Join g) at is = join-waits name old.tasks new.tasks moved outer (halt.Ask (request.Join g) at) t there g at refl f is.does
  asks-waits (request.Dosync body values) at is = absurd is
  asks-waits (request.Print text) at is = acts (request.Print text) (halt.Ask (request.Print text) at) is
  asks-waits (request.NewRef v) at is = acts (request.NewRef v) (halt.Ask (request.NewRef v) at) is
  asks-waits (request.Deref ref) at is = acts (request.Deref ref) (halt.Ask (request.Deref ref) at) is
  asks-waits (request.RefSet ref v) at is = acts (request.RefSet ref v) (halt.Ask (request.RefSet ref v) at) is
  asks-waits (request.Spawn n args) at is = acts (request.Spawn n args) (halt.Ask (request.Spawn n args) at) is
  asks-waits (request.Send a args) at is = acts (request.Send a args) (halt.Ask (request.Send a args) at) is
  asks-waits (request.Become n args) at is = acts (request.Become n args) (halt.Ask (request.Become n args) at) is
  asks-waits request.SelfActor at is = acts request.SelfActor (halt.Ask request.SelfActor at) is

  pub waits-at : (h : Halt) → Comes refs name moved outer h old new (stepped.WaitJoin f) → WaitsAt old.tasks name moved outer h f new.tasks
  waits-at (halt.Ask asked at) is = asks-waits asked at is
  waits-at (halt.Value v) is = close-waits name old.tasks new.tasks moved outer (halt.Value v) t there v f is.does
  waits-at (halt.Fault code at) is = let no = is.does.finished in cc
  waits-at halt.Spent is = let no = is.does.finished in cc

-- a task that waits for a ref joins nothing
module _ (refs : Name → Option Value) (name : Name) (moved : Evaluation) (outer : Option Value) (old new : Attempt) (t : Task) (there : named name old.tasks ≡ Some t) (ref : Name) where
  pub no-join-misses : (f : Name) (at : Spot) → Comes refs name moved outer (halt.Ask (request.Join f) at) old new (stepped.NotInSnapshot ref) → ⊥
  no-join-misses f at step = by (known_in old.tasks t.knows f) step.does.meets (step.does.met_so t there) step.does.came
    where
      plain : (o : Option Value) → CamePlain name moved f o old.tasks new.tasks (stepped.NotInSnapshot ref) → ⊥
      plain (Some v) came = let no = came.now in cc
      plain None came = let no = came.waits in cc

      by : (child : Option Task) (m : Met) → IsMetAs child t f m → CameJoin name moved f outer m old.tasks new.tasks (stepped.NotInSnapshot ref) → ⊥
      by child met.Unknown so came = plain outer came
      by child met.Unfinished so came = let no = came.waits in cc
      by child (met.First joined) so came = let no = came.now in cc
      by child (met.Again v) so came = let no = came.now in cc
      by child (met.Ended e) so came = let no = came.finished in cc

  pub no-close-misses : (v : Value) → Comes refs name moved outer (halt.Value v) old new (stepped.NotInSnapshot ref) → ⊥
  no-close-misses v step = by step.does.closed.went step.does.came
    where
      by : (w : Went) → CameClose name moved v step.does.closed.parts w old.tasks new.tasks (stepped.NotInSnapshot ref) → ⊥
      by went_as.On came = let no = came.finished in cc
      by (went_as.Ended e) came = let no = came.finished in cc
      by (went_as.Waits f n) came = let no = came.waits in cc
