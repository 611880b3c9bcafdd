-- A task of the model that waits for one whose result is to wait, or for a unit that has no value, has that result itself.
use Rattle.std.proofs.Common.{◌≡◌, ◌∙◌, ◌<◌, ◌≤◌, ◌+◌, ℕ, zero, suc, true, false, cond, List, sym, ap, subst, arith}
use Rattle.std.specs.Prelude.{None, Some}
use Rattle.core_syntax.specs.declared.node_id.NodeId.{NodeId}
use Rattle.serial_model.proofs.standing.Turns.{turns_end}
use Rattle.serial_model.specs.declared.answer.Answer.{Answer}
use Rattle.serial_model.specs.declared.halt.Halt.TheVariants as halt
use Rattle.serial_model.specs.declared.request.Request.TheVariants as request
use Rattle.serial_model.specs.Eval.{next}
use Rattle.serial_model.specs.Standing.{Closing, Comes, Going, IsAt, Joining, TreeTask, Turning, call_below, here_of}
use Rattle.serial_model.specs.Task.{Around, Blocked, End, Here, Moved, On, Result, closes, closes_child, follows, gets, joins, joins_child, joins_found, looks_up, result_of, then_moves}
use Rattle.value_core.specs.declared.value.Value.{Value as Datum}
use Rattle.value_core.specs.Named.{Name, is_among, made_by}
use Rattle.value_core.specs.Place.{Spot}
use Rattle.world_progress.proofs.Sizes.{closes-grow, found-less, size, turns-more}

module _ (around : Around) (results : Name → Result) (name : Name) (t : TreeTask) (at : IsAt around results name t) where
  -- it has the result of each task that it knows
  known-result : (f : Name) → is_among f t.knows ≡ true → result_of f at.known ≡ Some (results f)
  known-result f known = at.matches f ∙ ap (λ b. cond b (Some (results f)) None) known

  -- and of no other
  unknown-result : (f : Name) → is_among f t.knows ≡ false → result_of f at.known ≡ None
  unknown-result f unknown = at.matches f ∙ ap (λ b. cond b (Some (results f)) None) unknown

  -- ---- it goes on with its body
  module _ (body : NodeId) (values : List Datum) (answers : List Answer) (stage : t.stage ≡ Going body values answers) where
    abbrev here : Here
    here = here_of answers t.log at.known

    -- its turns from here come to its result
    turning : Turning around t.levels (call_below around t.levels) body values t.view here (results name)
    turning = subst (λ s. Comes around t.levels t.view t.log at.known s (results name)) stage at.comes

    -- a task that it knows knew less than it does at its end
    pub going-less : (f : Name) → is_among f t.knows ≡ true → size (results f).known < size (results name).known
    going-less f known =
        let less = found-less f at.known (results f) (known-result f known) in
        let more = subst (λ (r : Result). size at.known ≤ size r.known) turning.rest (turns-more around t.levels (call_below around t.levels) body values t.view (suc turning.left) here) in omega (arith, less, more)

    module _ (f : Name) (place : Spot) (asks : next around.program body values true answers around.fuel ≡ halt.Ask (request.Join f) place) where
      -- where its join waits, so does it
      ends-blocked : joins_found around here f (result_of f at.known) ≡ End Blocked here → (results name).outcome ≡ Blocked
      ends-blocked moved =
          sym (ap (λ (r : Result). r.outcome) (turns_end around t.levels (call_below around t.levels) body values t.view here (results name) turning (request.Join f) place Blocked asks moved))

      -- it asks for a task that waits
      pub blocked-by-task : is_among f t.knows ≡ true → (results f).outcome ≡ Blocked → (results name).outcome ≡ Blocked
      blocked-by-task known waits = ends-blocked (ap (joins_found around here f) (known-result f known) ∙ ap (λ o. joins here f (results f) o (λ (after : Here) (v : Datum). gets after after.log v)) waits)

      -- it asks for a unit that has no value
      pub blocked-by-unit : is_among f t.knows ≡ false → around.finished f ≡ None → (results name).outcome ≡ Blocked
      blocked-by-unit unknown still = ends-blocked (ap (joins_found around here f) (unknown-result f unknown) ∙ ap (looks_up here) still)

  -- ---- it is at its value
  module _ (v : Datum) (k : ℕ) (stage : t.stage ≡ Closing v k) where
    -- its joins from here come to its result
    closing : Joining v k t.log at.known (results name)
    closing = subst (λ s. Comes around t.levels t.view t.log at.known s (results name)) stage at.comes

    abbrev joint : Here
    joint = here_of closing.answers t.log at.known

    -- a task that it knows knew less than it does at its end
    pub closing-less : (f : Name) → is_among f t.knows ≡ true → size (results f).known < size (results name).known
    closing-less f known =
        let less = found-less f at.known (results f) (known-result f known) in
        let more = subst (λ (r : Result). size at.known ≤ size r.known) closing.rest (closes-grow v k closing.left joint closing.go) in omega (arith, less, more)

    -- it joins a child next that waits
    pub blocked-by-child : is_among (made_by t.log.name k) t.knows ≡ true → is_among (made_by t.log.name k) t.log.joined ≡ false → k < t.log.made → (results (made_by t.log.name k)).outcome ≡ Blocked
        → (results name).outcome ≡ Blocked
    blocked-by-child known apart less waits = on closing.left closing.within closing.rest
      where
        child : Name
        child = made_by t.log.name k

        moved : closes_child joint k ≡ End Blocked joint
        moved = ap (joins_child joint child) (ap (λ b. cond b None (result_of child at.known)) apart ∙ known-result child known)
            ∙ ap (λ o. joins joint child (results child) o (λ (after : Here) (joined : Datum). On after)) waits

        on : (left : ℕ) → k + left ≡ t.log.made → follows (closes v k left joint) closing.go ≡ results name → (results name).outcome ≡ Blocked
        on zero within rest = absurd (omega (arith, within, less))
        on (suc left) within rest = sym (ap (λ (r : Result). r.outcome) rest)
            ∙ ap (λ (m : Moved). (follows (then_moves m (λ (after : Here). closes v (suc k) left after)) closing.go).outcome) moved
