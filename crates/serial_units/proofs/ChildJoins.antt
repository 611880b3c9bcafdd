-- A task at its value joins its children.
use Rattle.std.proofs.Common.{◌≡◌, ◌∙◌, ℕ, zero, suc, true, false, List, refl, sym, ap, subst, Option, Some, None}
use Rattle.std.specs.Prelude.{if◌then◌else◌}
use Rattle.value_core.specs.declared.value.Value.{Value as Datum}
use Rattle.serial_model.specs.Log.{Log}
use Rattle.value_core.specs.Named.{Name, Named, is_among, made_by}
use Rattle.serial_model.specs.Task as meaning
use Rattle.serial_model.specs.Task.{Here, Moved, On, End, Outcome, Result, result_of, after_join, closes, joins_child, then_moves, unjoined}
use Rattle.serial_units.specs.declared.task.Done.{Done}
use Rattle.serial_units.specs.declared.task.Task.{Task}
use Rattle.serial_units.specs.declared.task.TaskEnd.{TaskEnd}
use Rattle.serial_units.specs.declared.task.TaskEnd.TheVariants as end
use Rattle.serial_units.specs.declared.tasks.Met.{Met}
use Rattle.serial_units.specs.declared.tasks.Met.TheVariants as met
use Rattle.serial_units.specs.Tasks.{end_met, IsAt, IsMet, IsMetAs, IsClosed, IsFinal}

module _ (results : Named Done) (below : List Task) where
  -- a child that is joined is passed
  pub passed : (task : Task) (here : Here) (future : Name) → is_among future here.log.joined ≡ true → IsAt results below task here → IsClosed results below task here future None
  passed task here future joined at = (here, at, ap (λ b. joins_child here future (if b then None else result_of future here.known)) joined)

  -- a child that is met is joined, or passed where its result is not known
  pub closed_met : (task : Task) (here : Here) (future : Name) (found : Met) → is_among future here.log.joined ≡ false
      → IsMet results below task here future found (result_of future here.known) → IsClosed results below task here future (end_met found)
  closed_met task here future found apart is = on (result_of future here.known) refl is
    where
      at_known : (o : Option Result) → result_of future here.known ≡ o → unjoined here future ≡ o
      at_known o known = ap (λ b. if b then None else result_of future here.known) apart ∙ known

      ends : (child : Result) (outcome : Outcome) (f : Met) → IsMetAs results below task here future f child outcome → result_of future here.known ≡ Some child → child.outcome ≡ outcome
          → IsClosed results below task here future (end_met f)
      ends child (meaning.Value w) met.Unknown is known same = absurd is
      ends child (meaning.Value w) (met.Value v) is known same =
          (after_join here future child, is.1, ap (joins_child here future) (at_known (Some child) known) ∙ ap (λ o. meaning.joins here future child o (λ after joined. On after)) same)
      ends child (meaning.Value w) (met.Ended e) is known same = absurd is
      ends child (meaning.Fault code at) met.Unknown is known same = absurd is
      ends child (meaning.Fault code at) (met.Value v) is known same = absurd is
      ends child (meaning.Fault code at) (met.Ended e) is known same =
          (meaning.Fault code at, record { outcome_is = is.0; log_is = is.1.log; knows = is.1.knows }, ap (joins_child here future) (at_known (Some child) known) ∙ ap (λ o. meaning.joins here future child o (λ after joined. On after)) same)
      ends child meaning.Spent met.Unknown is known same = absurd is
      ends child meaning.Spent (met.Value v) is known same = absurd is
      ends child meaning.Spent (met.Ended e) is known same =
          (meaning.Spent, record { outcome_is = is.0; log_is = is.1.log; knows = is.1.knows }, ap (joins_child here future) (at_known (Some child) known) ∙ ap (λ o. meaning.joins here future child o (λ after joined. On after)) same)
      ends child meaning.Blocked met.Unknown is known same = absurd is
      ends child meaning.Blocked (met.Value v) is known same = absurd is
      ends child meaning.Blocked (met.Ended e) is known same =
          (meaning.Blocked, record { outcome_is = is.0; log_is = is.1.log; knows = is.1.knows }, ap (joins_child here future) (at_known (Some child) known) ∙ ap (λ o. meaning.joins here future child o (λ after joined. On after)) same)

      on : (o : Option Result) → result_of future here.known ≡ o → IsMet results below task here future found o → IsClosed results below task here future (end_met found)
      on None unknown is =
          subst (λ f. IsClosed results below task here future (end_met f)) (sym is.0) (here, is.1, ap (joins_child here future) (at_known None unknown))
      on (Some child) known is = ends child child.outcome found is known refl

  -- where the children of a task from a number on are still to be joined
  pub record Closing (task : Task) (v : Datum) (number left : ℕ) (whole : Moved) : Type 0 where
    pub here : Here
    pub at : IsAt results below task here
    pub rest : closes v number left here ≡ whole

  -- one child more is passed or joined
  closing_next : (old new : Task) (v : Datum) (number left : ℕ) (whole : Moved) (before : Closing old v number (suc left) whole)
      → IsClosed results below new before.here (made_by old.log.name number) None → Closing new v (suc number) left whole
  closing_next old new v number left whole before is = record {
    here = is.0;
    at = is.1;
    rest = sym (ap (λ m. then_moves m (λ after. closes v (suc number) left after))
        (subst (λ (l : Log). joins_child before.here (made_by l.name number) (unjoined before.here (made_by l.name number)) ≡ On is.0) before.at.log is.2)) ∙ before.rest;
  }

  -- the task ends as the child did
  closing_end : (old new : Task) (v : Datum) (number left : ℕ) (whole : Moved) (before : Closing old v number (suc left) whole) (e : TaskEnd)
      → IsClosed results below new before.here (made_by old.log.name number) (Some e) → IsFinal results below new e whole
  closing_end old new v number left whole before e is =
      subst (IsFinal results below new e)
      (sym (ap (λ m. then_moves m (λ after. closes v (suc number) left after))
      (subst (λ (l : Log). joins_child before.here (made_by l.name number) (unjoined before.here (made_by l.name number)) ≡ End is.0 before.here) before.at.log is.2)) ∙ before.rest)
      is.1

  -- all children are joined
  closing_last : (task : Task) (v : Datum) (number : ℕ) (whole : Moved) → Closing task v number zero whole → IsFinal results below task (end.Value v) whole
  closing_last task v number whole at = subst (IsFinal results below task (end.Value v)) at.rest (record { outcome_is = refl; log_is = at.at.log; knows = at.at.knows })

  -- the same, where so many are left
  pub closing_more : (old new : Task) (v : Datum) (number left next rest : ℕ) (whole : Moved) (before : Closing old v number left whole) → left ≡ suc rest → next ≡ suc number
      → IsClosed results below new before.here (made_by old.log.name number) None → Closing new v next rest whole
  closing_more old new v number left next rest whole before more one is =
      subst (λ n. Closing new v n rest whole) (sym one)
      (closing_next old new v number rest whole (record { here = before.here; at = before.at; rest = subst (λ n. closes v number n before.here ≡ whole) more before.rest }) is)

  pub closing_ends : (old new : Task) (v : Datum) (number left rest : ℕ) (whole : Moved) (before : Closing old v number left whole) → left ≡ suc rest → (e : TaskEnd)
      → IsClosed results below new before.here (made_by old.log.name number) (Some e) → IsFinal results below new e whole
  closing_ends old new v number left rest whole before more e is =
      closing_end old new v number rest whole (record { here = before.here; at = before.at; rest = subst (λ n. closes v number n before.here ≡ whole) more before.rest }) e is

  pub closing_done : (task : Task) (v : Datum) (number left : ℕ) (whole : Moved) → Closing task v number left whole → left ≡ zero → IsFinal results below task (end.Value v) whole
  closing_done task v number left whole at none = closing_last task v number whole (subst (λ n. Closing task v number n whole) none at)

-- the same, where the results and the tasks below stay
pub closing_more_by : (results : Named Done) (below : List Task) (results' : Named Done) (below' : List Task) → results ≡ results' → below ≡ below'
    → (old new : Task) (v : Datum) (number left next rest : ℕ) (whole : Moved) (before : Closing results below old v number left whole) → left ≡ suc rest → next ≡ suc number
    → IsClosed results' below' new before.here (made_by old.log.name number) None → Closing results' below' new v next rest whole
closing_more_by results below results' below' same_results same_below old new v number left next rest whole before more one is =
    subst (λ r. Closing r below' new v next rest whole) same_results (subst (λ b. Closing results b new v next rest whole) same_below
    (closing_more results below old new v number left next rest whole before more one
    (subst (λ b. IsClosed results b new before.here (made_by old.log.name number) None) (sym same_below)
    (subst (λ r. IsClosed r below' new before.here (made_by old.log.name number) None) (sym same_results) is))))

pub closing_ends_by : (results : Named Done) (below : List Task) (results' : Named Done) (below' : List Task) → results ≡ results' → below ≡ below'
    → (old new : Task) (v : Datum) (number left rest : ℕ) (whole : Moved) (before : Closing results below old v number left whole) → left ≡ suc rest → (e : TaskEnd)
    → IsClosed results' below' new before.here (made_by old.log.name number) (Some e) → IsFinal results' below' new e whole
closing_ends_by results below results' below' same_results same_below old new v number left rest whole before more e is =
    subst (λ r. IsFinal r below' new e whole) same_results (subst (λ b. IsFinal results b new e whole) same_below
    (closing_ends results below old new v number left rest whole before more e
    (subst (λ b. IsClosed results b new before.here (made_by old.log.name number) (Some e)) (sym same_below)
    (subst (λ r. IsClosed r below' new before.here (made_by old.log.name number) (Some e)) (sym same_results) is))))
