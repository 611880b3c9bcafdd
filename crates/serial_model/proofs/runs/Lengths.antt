-- A history has no more entries than its limits allow: each unit is answered at most as often as it has fuel and finishes once, each
-- turn that is taken is a unit, and an end is set once.
use Rattle.std.proofs.Common.{◌≡◌, ◌∙◌, ℕ, suc, ◌+◌, ◌-◌, ◌*◌, ◌<◌, ◌≤◌, ◌==◌, false, List, [], ◌∷◌, ◌++◌, length, length-append, refl, sym, ap, subst, arith}
use Rattle.std.specs.Prelude.{Option, None, Some}
use Rattle.value_core.specs.Place.{Spot}
use Rattle.value_core.specs.declared.value.Value.{Value}
use Rattle.value_core.specs.declared.value.Value.TheVariants as value
use Rattle.serial_model.specs.declared.answer.Answer.{Answer}
use Rattle.serial_model.specs.declared.answer.Answer.TheVariants as answer
use Rattle.serial_model.specs.declared.end.End.{End}
use Rattle.serial_model.specs.declared.entry.Entry.{Entry}
use Rattle.serial_model.specs.declared.halt.Halt.TheVariants as halt
use Rattle.serial_model.specs.declared.request.Request.{Request}
use Rattle.serial_model.specs.Limits.{IsInRange}
use Rattle.value_core.specs.Named.{Name, Named, named, with_named, over, made_by, Rises}
use Rattle.serial_model.specs.Replay.{replay}
use Rattle.serial_model.specs.State.{Setup, UnitState, State, new_unit}
use Rattle.serial_model.specs.Step.{answered, with_made, with_unit, next_made, becoming, released, next_of, take_effects}
use Rattle.std.proofs.Math.Nat.{mul-le-mul_right}
use Rattle.std.proofs.lemmas.Bool.{eqb-false}
use Rattle.serial_model.proofs.evaluation.Costs.{ask_costs_fuel}
use Rattle.serial_model.proofs.runs.EffectLaws.{effects-keep, released-keeps}
use Rattle.value_core.proofs.NamedLaws.{rises-with_named, weight, weight-put, weight-replace, named-other}
use Rattle.serial_model.proofs.runs.StepCases.{IsRunning, RunRows, StepRows, step-cases, replay-counts}

-- how many entries more a unit can take: none where it is finished, else one for each answer that its fuel allows, and one at its end
abbrev pub left_by : ℕ → List Answer → Option Value → ℕ
left_by fuel answers (Some v) = 0
left_by fuel answers None = suc (fuel - length answers)

abbrev pub left_of : ℕ → UnitState → ℕ
left_of fuel unit = left_by fuel unit.answers unit.finished

abbrev pub one_at : Option End → ℕ
one_at None = 0
one_at (Some end) = 1

-- after so many entries: what is done and what the units can still take is at most what all units that were made could take
pub record AreCounted (fuel most n : ℕ) (units : Named UnitState) (made : ℕ) (end : Option End) : Type 0 where
  pub rises : Rises units
  pub within : made ≤ most
  pub counts : n + weight (left_of fuel) units ≤ made * (fuel + 2) + one_at end

abbrev pub IsCounted : Setup → ℕ → State → Type 0
IsCounted setup n s = AreCounted setup.limits.fuel setup.limits.units n s.units s.made s.end

most_left : (fuel : ℕ) (answers : List Answer) (finished : Option Value) → left_by fuel answers finished ≤ suc fuel
most_left fuel answers None = omega arith
most_left fuel answers (Some v) = omega arith

-- an answer costs one
answer_costs : (fuel : ℕ) (answers : List Answer) (a : Answer) (finished : Option Value) → finished ≡ None → length answers < fuel
    → suc (left_by fuel (answers ++ a ∷ []) finished) ≡ left_by fuel answers finished
answer_costs fuel answers a None open_still less = omega (arith, length-append answers (a ∷ []))
answer_costs fuel answers a (Some v) over less = cc

unfinished_left : (fuel : ℕ) (answers : List Answer) (finished : Option Value) → finished ≡ None → 1 ≤ left_by fuel answers finished
unfinished_left fuel answers None open_still = omega arith
unfinished_left fuel answers (Some v) over = cc

-- a name is none of the names that it makes
apart : (name : Name) (k : ℕ) → ¬ (name ≡ made_by name k)
apart name k same = let lengths = ap length same in omega (arith, length-append name (k ∷ []))

-- one unit takes one entry
unit_counts : (fuel most n : ℕ) (units : Named UnitState) (made : ℕ) (end : Option End) (name : Name) (unit after : UnitState) → AreCounted fuel most n units made end
    → named name units ≡ Some unit → suc (left_of fuel after) ≤ left_of fuel unit → AreCounted fuel most (suc n) (with_named units name after) made end
unit_counts fuel most n units made end name unit after counted there less =
    let replaced = weight-replace (left_of fuel) name after unit units counted.rises there in
    record { rises = rises-with_named name after units counted.rises; within = counted.within; counts = omega arith }

-- the same, where it makes a unit
fork_counts : (fuel most n : ℕ) (units : Named UnitState) (made : ℕ) (end : Option End) (name child : Name) (unit after new : UnitState) → AreCounted fuel most n units made end
    → ¬ (name ≡ child) → (made == most) ≡ false → named name units ≡ Some unit → suc (left_of fuel after) ≤ left_of fuel unit
    → AreCounted fuel most (suc n) (with_named (with_named units child new) name after) (suc made) end
fork_counts fuel most n units made end name child unit after new counted other room there less =
    let put = weight-put (left_of fuel) child new units in
    let rises = rises-with_named child new units counted.rises in
    let replaced = weight-replace (left_of fuel) name after unit (with_named units child new) rises (named-other name child new units other ∙ there) in
    let most_new = most_left fuel new.answers new.finished in
    let apart = eqb-false made most room in
    record { rises = rises-with_named name after (with_named units child new) rises; within = omega (arith, counted.within); counts = omega (arith, counted.counts) }

turn_counts : (fuel most n : ℕ) (units : Named UnitState) (made : ℕ) (end : Option End) (child : Name) (new : UnitState) → AreCounted fuel most n units made end
    → (made == most) ≡ false → AreCounted fuel most (suc n) (with_named units child new) (suc made) end
turn_counts fuel most n units made end child new counted room =
    let put = weight-put (left_of fuel) child new units in
    let most_new = most_left fuel new.answers new.finished in
    let apart = eqb-false made most room in
    record { rises = rises-with_named child new units counted.rises; within = omega (arith, counted.within); counts = omega (arith, counted.counts) }

module _ (setup : Setup) (n : ℕ) (s : State) (counted : IsCounted setup n s) where
  answer_counts : (name : Name) (unit : UnitState) (asked : Request) (at : Spot) (after : UnitState) (a : Answer) → IsRunning s name unit → next_of setup unit ≡ halt.Ask asked at
      → after.answers ≡ unit.answers ++ a ∷ [] → after.finished ≡ unit.finished
      → suc (left_of setup.limits.fuel after) ≤ left_of setup.limits.fuel unit
  answer_counts name unit asked at after a running asks answers finished =
      let less = ask_costs_fuel setup.program unit.body unit.values false unit.answers setup.limits.fuel asked at asks in
      let costs = answer_costs setup.limits.fuel unit.answers a unit.finished running.unfinished less in
      let same : left_of setup.limits.fuel after ≡ left_by setup.limits.fuel (unit.answers ++ a ∷ []) unit.finished = λ i. left_by setup.limits.fuel (answers i) (finished i) in
      omega arith

  gets_counts : (name : Name) (unit : UnitState) (asked : Request) (at : Spot) (after : UnitState) (a : Answer) → IsRunning s name unit → next_of setup unit ≡ halt.Ask asked at
      → after.answers ≡ unit.answers ++ a ∷ [] → after.finished ≡ unit.finished
      → AreCounted setup.limits.fuel setup.limits.units (suc n) (with_named s.units name after) s.made s.end
  gets_counts name unit asked at after a running asks answers finished =
      unit_counts setup.limits.fuel setup.limits.units n s.units s.made s.end name unit after counted running.there (answer_counts name unit asked at after a running asks answers finished)

  run_rows : (name : Name) (unit : UnitState) → IsRunning s name unit → RunRows setup s (IsCounted setup (suc n)) name unit
  run_rows name unit running = record {
    prints = λ text at asks. gets_counts name unit _ at (answered unit value.Nil) (answer.Value value.Nil) running asks refl refl;
    new_ref = λ v at asks. gets_counts name unit _ at (answered (with_made unit) (value.Ref (next_made name unit))) (answer.Value (value.Ref (next_made name unit))) running asks refl refl;
    derefs = λ ref at v asks there. gets_counts name unit _ at (answered unit v) (answer.Value v) running asks refl refl;
    forks = λ body values at asks room.
        fork_counts setup.limits.fuel setup.limits.units n s.units s.made s.end name (next_made name unit) unit (answered (with_made unit) (value.Future (next_made name unit))) (new_unit None body values)
        counted (apart name unit.made) room running.there
        (answer_counts name unit _ at (answered (with_made unit) (value.Future (next_made name unit))) (answer.Value (value.Future (next_made name unit))) running asks refl refl);
    joins = λ future at v asks found. gets_counts name unit _ at (answered unit v) (answer.Value v) running asks refl refl;
    commits = λ body values at result v asks is out held.
        let kept = effects-keep name result.log.effects (record s { refs = over result.log.writes s.refs }) unit in
        let done = take_effects name result.log.effects (record s { refs = over result.log.writes s.refs }) unit in
        let counts = gets_counts name unit _ at (answered (with_made done.1) v) (answer.Value v) running asks (ap (λ answers. answers ++ answer.Value v ∷ []) kept.unit.answers) kept.unit.finished in
        subst (λ units. AreCounted setup.limits.fuel setup.limits.units (suc n) (with_named units name (answered (with_made done.1) v)) done.0.made done.0.end) (sym kept.base.units)
        (subst (λ made. AreCounted setup.limits.fuel setup.limits.units (suc n) (with_named s.units name (answered (with_made done.1) v)) made done.0.end) (sym kept.base.made)
        (subst (λ end. AreCounted setup.limits.fuel setup.limits.units (suc n) (with_named s.units name (answered (with_made done.1) v)) s.made end) (sym kept.base.end) counts));
    spawns = λ behaviour state at asks. gets_counts name unit _ at (answered (with_made unit) (value.Actor (next_made name unit))) (answer.Value (value.Actor (next_made name unit))) running asks refl refl;
    sends = λ actor message at asks. gets_counts name unit _ at (answered unit value.Nil) (answer.Value value.Nil) running asks refl refl;
    becomes = λ behaviour state at actor asks of. gets_counts name unit _ at (answered (becoming unit behaviour state) value.Nil) (answer.Value value.Nil) running asks refl refl;
    selves = λ at actor asks of. gets_counts name unit _ at (answered unit (value.Actor actor)) (answer.Value (value.Actor actor)) running asks refl refl;
    finishes = λ v is.
        let base = with_unit s name (record unit { finished = Some v }) in
        let kept = released-keeps unit.actor base unit.becomes in
        let after = released unit.actor base unit.becomes in
        let less : suc (left_of setup.limits.fuel (record unit { finished = Some v })) ≤ left_of setup.limits.fuel unit = unfinished_left setup.limits.fuel unit.answers unit.finished running.unfinished in
        let counts = unit_counts setup.limits.fuel setup.limits.units n s.units s.made s.end name unit (record unit { finished = Some v }) counted running.there less in
        subst (λ units. AreCounted setup.limits.fuel setup.limits.units (suc n) units after.made after.end) (sym kept.units)
        (subst (λ made. AreCounted setup.limits.fuel setup.limits.units (suc n) base.units made after.end) (sym kept.made)
        (subst (λ end. AreCounted setup.limits.fuel setup.limits.units (suc n) base.units base.made end) (sym kept.end) counts));
  }

  step_rows : StepRows setup s (IsCounted setup (suc n))
  step_rows = record {
    ends = λ going end. record { rises = counted.rises; within = counted.within; counts = let none = ap one_at going in omega (arith, counted.counts) };
    runs = run_rows;
    begins = λ name sender actor behaviour message messages taking room.
        turn_counts setup.limits.fuel setup.limits.units n s.units s.made s.end (made_by name actor.turns) (new_unit (Some name) behaviour.body (actor.state ++ message)) counted room;
  }

counted-replay : (setup : Setup) → IsInRange setup.limits → (entries : List Entry) (s : State) → replay setup entries ≡ Some s → IsCounted setup (length entries) s
counted-replay setup range entries s is =
    replay-counts setup (IsCounted setup) (record { rises = tt; within = range.some_units; counts = omega arith })
    (λ n s t entry counted stepped. step-cases setup s (IsCounted setup (suc n)) entry t (step_rows setup n s counted) stepped) entries s is

at_most_one : (end : Option End) → one_at end ≤ 1
at_most_one None = omega arith
at_most_one (Some end) = omega arith

-- so many units with so many entries each
enough : (made units fuel : ℕ) → made ≤ units → made * (fuel + 2) ≤ units * (fuel + 2)
enough made units fuel le = mul-le-mul_right (fuel + 2) le

-- a history has at most so many entries
pub entries_are_bounded : (setup : Setup) → IsInRange setup.limits → (entries : List Entry) (s : State) → replay setup entries ≡ Some s → length entries ≤ setup.limits.units * (setup.limits.fuel + 3)
entries_are_bounded setup range entries s is =
    let counted = counted-replay setup range entries s is in
    let one = at_most_one s.end in
    let all = enough s.made setup.limits.units setup.limits.fuel counted.within in
    omega (arith, range.some_units)
