-- A task goes on from turn to turn.
use Rattle.std.proofs.Common.{◌≡◌, ◌∙◌, ℕ, zero, suc, List, [], refl, sym, ap, subst, Option, Some, None, true}
use Rattle.value_core.specs.declared.value.Value.{Value as Datum}
use Rattle.core_syntax.specs.declared.node_id.NodeId.{NodeId}
use Rattle.serial_model.specs.declared.answer.Answer.{Answer}
use Rattle.eval_step.specs.Evaluation.{Evaluation, IsSameTask}
use Rattle.core_syntax.specs.Table.{Table}
use Rattle.core_syntax.specs.WellFormed.{IsWellFormed}
use Rattle.serial_model.specs.declared.halt.Halt.{Halt}
use Rattle.serial_model.specs.declared.halt.Halt.TheVariants as halt
use Rattle.serial_model.specs.Eval.{next}
use Rattle.serial_model.proofs.evaluation.Carries.{ask-is-there}
use Rattle.serial_model.specs.Log.{Log, new_log}
use Rattle.value_core.specs.Named.{Name, Named}
use Rattle.serial_model.specs.Task.{Around, Call, Here, Known, Nothing, Moved, On, End, Result, follows, root_task, task_step, turns as turns_of, task as task_of}
use Rattle.serial_model.proofs.standing.Turns.{task_is_turns}
use Rattle.serial_units.proofs.Forks.{begins_knowing}
use Rattle.serial_units.specs.declared.task.Done.{Done}
use Rattle.serial_units.specs.declared.task.Task.{Task}
use Rattle.serial_units.specs.declared.task.TaskEnd.{TaskEnd}
use Rattle.serial_units.specs.declared.task.TaskEnd.TheVariants as end
use Rattle.serial_model.specs.Standing.{call_below, here_of}
use Rattle.serial_units.specs.Tasks.{view_of, with_top, Extends, Knows, IsMoved, IsResult, root_turns}
use Rattle.serial_units.specs.Asking.{IsThereAt}

module _ (around : Around) (levels : ℕ) (call : Call) (body : NodeId) (values : List Datum) where
  -- the task stands somewhere from where so many turns come to the whole
  pub record Turning (results : Named Done) (below : List Task) (task : Task) (answers : List Answer) (left : ℕ) (whole : Result) : Type 0 where
    pub known : Known
    pub knows : Knows results below task.known known
    pub rest : turns_of around levels call body values (view_of below) left (here_of answers task.log known) ≡ whole

  module _ (below : List Task) (old new : Named Done) (before after : Task) (answers answers' : List Answer) where
    here_again : (here : Here) (task : Task) (given : List Answer) → task.log ≡ here.log → given ≡ here.answers → here_of given task.log here.known ≡ here
    here_again here task given log same = λ i. record { answers = same i; log = log i; known = here.known }

    -- it goes on
    pub turning_on : (left rest : ℕ) (whole : Result) (from : Turning old below before answers left whole) → left ≡ suc rest
        → IsMoved new below after answers' None (task_step around levels call body values (view_of below) (here_of answers before.log from.known)) → Turning new below after answers' rest whole
    unfolding turns_of
    turning_on left rest whole from more moved = on (task_step around levels call body values (view_of below) (here_of answers before.log from.known)) refl moved
      where
        on : (next : Moved) → task_step around levels call body values (view_of below) (here_of answers before.log from.known) ≡ next → IsMoved new below after answers' None next → Turning new below after answers' rest whole
        on (On here) is moved = record {
          known = here.known;
          knows = moved.0.knows;
          rest = ap (turns_of around levels call body values (view_of below) rest) (here_again here after answers' moved.0.log moved.1)
              ∙ sym (ap (λ next. follows next (λ h. turns_of around levels call body values (view_of below) rest h)) is)
              ∙ sym (ap (λ n. turns_of around levels call body values (view_of below) n (here_of answers before.log from.known)) more) ∙ from.rest;
        }
        on (End outcome here) is moved = absurd moved

    -- it ends
    pub turning_end : (left rest : ℕ) (whole : Result) (from : Turning old below before answers left whole) → left ≡ suc rest → (e : TaskEnd)
        → IsMoved new below after answers' (Some e) (task_step around levels call body values (view_of below) (here_of answers before.log from.known)) → IsResult new below after e whole
    unfolding turns_of
    turning_end left rest whole from more e moved = on (task_step around levels call body values (view_of below) (here_of answers before.log from.known)) refl moved
      where
        on : (next : Moved) → task_step around levels call body values (view_of below) (here_of answers before.log from.known) ≡ next → IsMoved new below after answers' (Some e) next → IsResult new below after e whole
        on (On here) is moved = absurd moved
        on (End outcome here) is moved =
            subst (IsResult new below after e)
            (sym (ap (λ next. follows next (λ h. turns_of around levels call body values (view_of below) rest h)) is)
            ∙ sym (ap (λ n. turns_of around levels call body values (view_of below) n (here_of answers before.log from.known)) more) ∙ from.rest)
            moved

  -- no turn is left
  pub turning_spent : (results : Named Done) (below : List Task) (task : Task) (answers : List Answer) (left : ℕ) (whole : Result) → Turning results below task answers left whole → left ≡ zero
      → IsResult results below task end.Spent whole
  unfolding turns_of
  turning_spent results below task answers left whole from none =
      subst (IsResult results below task end.Spent) (sym (ap (λ n. turns_of around levels call body values (view_of below) n (here_of answers task.log from.known)) none) ∙ from.rest)
      (record { outcome_is = refl; log_is = refl; knows = from.knows })

-- what a child that began above the running task came to, when that one runs again
pub child_done : (old started ran left : Named Done) (below below' below'' : List Task) (top child ended : Task) (log : Log) (around : Around) (levels : ℕ) (call : Call) (body : NodeId) (values : List Datum)
    (answers : List Answer) (e : TaskEnd) (done : Done) → started ≡ old → below' ≡ with_top below top → child.log ≡ log → child.known.keys ≡ [] → left ≡ ran → below'' ≡ below' → done.end ≡ e → done.task ≡ ended
    → ((known : Known) → Knows started below' child.known known → IsResult ran below'' ended e (turns_of around levels call body values (view_of below') (suc around.fuel) (here_of answers child.log known)))
    → (known : Known) → Knows old below top.known known
    → IsResult left (with_top below top) done.task done.end (turns_of around levels call body values (view_of (with_top below top)) (suc around.fuel) (here_of answers log known))
child_done old started ran left below below' below'' top child ended log around levels call body values answers e done same_old same_below same_log empty same_left same_below' same_end same_task ended_so known knows =
    let at : Knows started below' child.known known =
    subst (λ r. Knows r below' child.known known) (sym same_old) (subst (λ b. Knows old b child.known known) (sym same_below) (begins_knowing old below top child.known known empty knows)) in
    let result = ended_so known at in
    subst (λ r. IsResult r (with_top below top) done.task done.end (whole (with_top below top) log)) (sym same_left)
    (subst (λ t. IsResult ran (with_top below top) t done.end (whole (with_top below top) log)) (sym same_task)
    (subst (λ x. IsResult ran (with_top below top) ended x (whole (with_top below top) log)) (sym same_end)
    (subst (λ l. IsResult ran (with_top below top) ended e (whole (with_top below top) l)) same_log
    (subst (λ b. IsResult ran b ended e (whole b child.log)) same_below (subst (λ b. IsResult ran b ended e (whole below' child.log)) same_below' result)))))
  where
    whole : List Task → Log → Result
    whole view_below l = turns_of around levels call body values (view_of view_below) (suc around.fuel) (here_of answers l known)

pub extends_by : (old started ran left : Named Done) → started ≡ old → left ≡ ran → Extends started ran → Extends old left
extends_by old started ran left same_old same_left more = subst (λ r. Extends r left) same_old (subst (Extends started) (sym same_left) more)

-- what a task came to that began with this machine
pub begun_done : (around : Around) (levels : ℕ) (name : Name) (machine : Evaluation) (body : NodeId) (values : List Datum) (view : Named Datum) (known : Known) (results : Named Done) (below : List Task) (task : Task) (e : TaskEnd)
    → machine.body ≡ body → machine.values ≡ values → machine.answers ≡ []
    → IsResult results below task e (turns_of around levels (call_below around levels) machine.body machine.values view (suc around.fuel) (here_of machine.answers (new_log name) known))
    → IsResult results below task e (task_of around levels name body values view known)
begun_done around levels name machine body values view known results below task e same_body same_values none is =
    subst (IsResult results below task e) (sym (task_is_turns around levels name body values view known))
    (subst (λ b. IsResult results below task e (turns_of around levels (call_below around levels) b values view (suc around.fuel) (here_of [] (new_log name) known))) same_body
    (subst (λ vs. IsResult results below task e (turns_of around levels (call_below around levels) machine.body vs view (suc around.fuel) (here_of [] (new_log name) known))) same_values
    (subst (λ xs. IsResult results below task e (turns_of around levels (call_below around levels) machine.body machine.values view (suc around.fuel) (here_of xs (new_log name) known))) none is)))

-- the turns of a machine that evaluates the same
pub same_step : (around : Around) (levels : ℕ) (call : Call) (one other : Evaluation) (view : Named Datum) (here : Here) → IsSameTask one other
    → task_step around levels call other.body other.values view here ≡ task_step around levels call one.body one.values view here
same_step around levels call one other view here same = ap (λ b. task_step around levels call b other.values view here) same.body ∙ ap (λ vs. task_step around levels call one.body vs view here) same.values

-- what a task asks for is there
pub there_at : (table : Table) → IsWellFormed table → (body : NodeId) (values : List Datum) (answers : List Answer) (fuel : ℕ) (found : Halt) → found ≡ next table body values true answers fuel → IsThereAt table true found
there_at table formed body values answers fuel (halt.Ask asked at) is = ask-is-there table formed body values true answers fuel asked at (sym is)
there_at table formed body values answers fuel (halt.Value v) is = tt
there_at table formed body values answers fuel (halt.Fault code at) is = tt
there_at table formed body values answers fuel halt.Spent is = tt

-- what comes of one turn more
pub AfterTurn : (around : Around) (levels : ℕ) (call : Call) (machine : Evaluation) (new : Named Done) (below below' : List Task) (after : Task) (answers : List Answer) (rest : ℕ) (whole : Result) → Option TaskEnd → Type 0
AfterTurn around levels call machine new below below' after answers rest whole None = Turning around levels call machine.body machine.values new below after answers rest whole
AfterTurn around levels call machine new below below' after answers rest whole (Some e) = IsResult new below' after e whole

pub turned : (around : Around) (levels : ℕ) (call : Call) (first machine : Evaluation) (below0 below below' : List Task) (old new : Named Done) (before after : Task) (answers : List Answer) (left rest : ℕ) (whole : Result) (end : Option TaskEnd)
    → below ≡ below0 → below' ≡ below → IsSameTask first machine → Turning around levels call first.body first.values old below0 before machine.answers left whole → left ≡ suc rest
    → ((known : Known) → Knows old below before.known known
    → IsMoved new below' after answers end (task_step around levels call machine.body machine.values (view_of below) (here_of machine.answers before.log known)))
    → AfterTurn around levels call first new below0 below' after answers rest whole end
unfolding AfterTurn
turned around levels call first machine below0 below below' old new before after answers left rest whole end same_below same_below' same from more moved =
    let at : Knows old below before.known from.known = subst (λ b. Knows old b before.known from.known) (sym same_below) from.knows in
    let here = here_of machine.answers before.log from.known in
    let one : IsMoved new below0 after answers end (task_step around levels call first.body first.values (view_of below0) here) =
    subst (IsMoved new below0 after answers end) (same_step around levels call first machine (view_of below0) here same)
    (subst (λ b. IsMoved new below0 after answers end (task_step around levels call machine.body machine.values (view_of b) here)) same_below
    (subst (λ b. IsMoved new b after answers end (task_step around levels call machine.body machine.values (view_of below) here)) (same_below' ∙ same_below) (moved from.known at))) in
    on end one
  where
    on : (e : Option TaskEnd) → IsMoved new below0 after answers e (task_step around levels call first.body first.values (view_of below0) (here_of machine.answers before.log from.known))
        → AfterTurn around levels call first new below0 below' after answers rest whole e
    on None is = turning_on around levels call first.body first.values below0 old new before after machine.answers answers left rest whole from more is
    on (Some e) is = subst (λ b. IsResult new b after e whole) (sym (same_below' ∙ same_below)) (turning_end around levels call first.body first.values below0 old new before after machine.answers answers left rest whole from more e is)

-- the same, where it went on
pub turned_on : (around : Around) (levels : ℕ) (call : Call) (machine : Evaluation) (new : Named Done) (below below' : List Task) (after : Task) (answers : List Answer) (rest : ℕ) (whole : Result) (end : Option TaskEnd)
    → AfterTurn around levels call machine new below below' after answers rest whole end → end ≡ None → Turning around levels call machine.body machine.values new below after answers rest whole
unfolding AfterTurn
turned_on around levels call machine new below below' after answers rest whole end is none = subst (AfterTurn around levels call machine new below below' after answers rest whole) none is

-- and where it ended
pub turned_end : (around : Around) (levels : ℕ) (call : Call) (machine : Evaluation) (new : Named Done) (below below' : List Task) (after : Task) (answers : List Answer) (rest : ℕ) (whole : Result) (end : Option TaskEnd) (e : TaskEnd)
    → AfterTurn around levels call machine new below below' after answers rest whole end → end ≡ Some e → IsResult new below' after e whole
unfolding AfterTurn
turned_end around levels call machine new below below' after answers rest whole end e is some = subst (AfterTurn around levels call machine new below below' after answers rest whole) some is

pub same_both : (first second third : Evaluation) → IsSameTask first second → IsSameTask second third → IsSameTask first third
same_both first second third one two = record { body = two.body ∙ one.body; values = two.values ∙ one.values; inside = two.inside ∙ one.inside; fuel = two.fuel ∙ one.fuel }

-- the root's turns are the transaction
pub root_is_task : (around : Around) (machine : Evaluation) (name : Name) (body : NodeId) (values : List Datum) → machine.body ≡ body → machine.values ≡ values → machine.answers ≡ []
    → root_turns around machine name ≡ root_task around name body values
root_is_task around machine name body values same_body same_values none =
    ap (λ b. turns_of around 16 (call_below around 16) b machine.values [] (suc around.fuel) (here_of machine.answers (new_log name) Nothing)) same_body
    ∙ ap (λ vs. turns_of around 16 (call_below around 16) body vs [] (suc around.fuel) (here_of machine.answers (new_log name) Nothing)) same_values
    ∙ ap (λ xs. turns_of around 16 (call_below around 16) body values [] (suc around.fuel) (here_of xs (new_log name) Nothing)) none
    ∙ sym (task_is_turns around 16 name body values [] Nothing)
