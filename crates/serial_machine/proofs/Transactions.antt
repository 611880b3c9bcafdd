-- How a run comes from state to state by a transaction.
use Rattle.std.proofs.Common.{◌≡◌, ◌∙◌, ℕ, Bool, true, false, List, refl, sym, ap, subst, Option, Some}
use Rattle.std.specs.Prelude.{Result as Either, Ok, Err, IfOk, OnOk, IsOk, if◌then◌else◌}
use Rattle.std.specs.Option.{option_and_then}
use Rattle.serial_units.specs.declared.unit.Unit.{Unit}
use Rattle.serial_units.proofs.UnitViews.{finished_of}
use Rattle.value_core.specs.Futures.{holds_future}
use Rattle.value_core.specs.Place.{Spot}
use Rattle.value_core.specs.declared.code.Code.TheVariants as code
use Rattle.value_core.specs.declared.value.Value.{Value}
use Rattle.core_syntax.specs.declared.node_id.NodeId.{NodeId}
use Rattle.serial_model.specs.Log.{Log}
use Rattle.value_core.specs.Named.{Name, named}
use Rattle.serial_model.specs.State.{Setup, UnitState, State}
use Rattle.serial_model.specs.Step.{around, after_transaction, transacts, next_made, fails, commits}
use Rattle.serial_model.specs.Task as task
use Rattle.serial_model.specs.Task.{Around, Result, root_outcome, root_task}
use Rattle.serial_machine.specs.declared.now.Now.{Now}
use Rattle.serial_units.specs.declared.task.Done.{Done}
use Rattle.serial_machine.specs.Now.{state_after, IsNow, Comes, Does, IsStepped, Tries, IsResult}
use Rattle.serial_units.specs.Task.{outcome_of}
use Rattle.serial_units.specs.Units.{units_of}

pub both_ok : {X E : Type 0} (r : Either X E) (P Q : X → Type 0) → IfOk r P → IfOk r Q → IfOk r (λ x. P x × Q x)
both_ok (Ok x) P Q p q = (p, q)
both_ok (Err e) P Q p q = tt

module _ (setup : Setup) (name : Name) (old new : Now) (at : Spot) (body : NodeId) (values : List Value) (done : Done) where
  -- the transaction came to that
  abbrev pub Came : Type 0
  Came = (before : List ℕ) (unit : UnitState) → named name (units_of old.units) ≡ Some unit
      → IsResult done (root_task (around setup (state_after before old) unit) (next_made name unit) body values)

  pub after_it : (outcome : task.Outcome) (flag : Bool) → Came → outcome_of done.end ≡ outcome
      → ((before : List ℕ) (s : State) (unit : UnitState) (result : Result) → IsNow setup before old s → named name s.units ≡ Some unit → done.task.log ≡ result.log
      → IsStepped setup before new s (after_transaction s name unit result.log (root_outcome at outcome)) flag)
      → Tries setup name old new flag (λ s unit. transacts setup s name unit at body values)
  after_it outcome flag came ends step before s unit here there =
      subst (λ (t : State). named name t.units ≡ Some unit → IsNow setup before old t → IsStepped setup before new t (transacts setup t name unit at body values) flag) here.is
      (λ there here.
      let result = root_task (around setup (state_after before old) unit) (next_made name unit) body values in
      subst (λ (o : task.Outcome). IsStepped setup before new (state_after before old) (after_transaction (state_after before old) name unit result.log (root_outcome at o)) flag)
      (sym ends ∙ (came before unit there).end) (step before (state_after before old) unit result here there (came before unit there).log)) there here

  pub escaped : (v : Value) → Came → outcome_of done.end ≡ task.Value v → holds_future v ≡ true → Comes setup old new (λ s. fails s name code.FutureEscapes at)
      → Tries setup name old new true (λ s unit. transacts setup s name unit at body values)
  escaped v came ends holds comes = after_it (task.Value v) true came ends (λ before s unit result here there log.
      subst (λ (b : Bool). IsStepped setup before new s (after_transaction s name unit result.log (if b then task.Fault code.FutureEscapes at else task.Value v)) true) (sym holds) (comes before s here))

  pub committed : (v : Value) → Came → outcome_of done.end ≡ task.Value v → holds_future v ≡ false → Does setup name old new (λ s unit. commits s name unit done.task.log v)
      → Tries setup name old new true (λ s unit. transacts setup s name unit at body values)
  committed v came ends holds does = after_it (task.Value v) true came ends (λ before s unit result here there log.
      subst (λ (b : Bool). IsStepped setup before new s (after_transaction s name unit result.log (if b then task.Fault code.FutureEscapes at else task.Value v)) true) (sym holds)
      (subst (λ (l : Log). IsNow setup before new (commits s name unit l v)) log (does before s unit here there)))

abbrev pub surroundings : Setup → Now → ℕ → Option Name → (Name → Option Value) → Around
surroundings setup now fuel actor finished = record { program = setup.program; fuel = fuel; actor = actor; store = λ ref. named ref now.refs.entries; finished = finished }

abbrev pub finished_in : Now → Name → Option Value
finished_in now n = option_and_then (λ (u : Unit). u.value) (named n now.units)

-- what the tasks are run with is what the meaning says
pub around_same : (setup : Setup) (now : Now) (before : List ℕ) (unit : UnitState) (fuel : ℕ) (actor : Option Name) → fuel ≡ setup.limits.fuel → actor ≡ unit.actor
    → surroundings setup now fuel actor (finished_in now) ≡ around setup (state_after before now) unit
around_same setup now before unit fuel actor same_fuel same_actor =
    ap (λ f. surroundings setup now f actor (finished_in now)) same_fuel
    ∙ ap (λ a. surroundings setup now setup.limits.fuel a (finished_in now)) same_actor
    ∙ ap (λ f. surroundings setup now setup.limits.fuel unit.actor f) (λ i n. finished_of n now.units (named n now.units) refl i)

pub came_so : (setup : Setup) (name : Name) (body : NodeId) (values : List Value) (done : Done) (a b : Around) (made due : Name) → a ≡ b → made ≡ due
    → (outcome_of done.end ≡ (root_task a made body values).outcome) × (done.task.log ≡ (root_task a made body values).log) → IsResult done (root_task b due body values)
came_so setup name body values done a b made due same same_name is = record {
  end = is.0 ∙ ap (λ x. (root_task x made body values).outcome) same ∙ ap (λ n. (root_task b n body values).outcome) same_name;
  log = is.1 ∙ ap (λ x. (root_task x made body values).log) same ∙ ap (λ n. (root_task b n body values).log) same_name;
}

-- it is done where there was memory
pub done_so : {A E : Type 0} (r : Either Bool E) (did : Either A E) (P : Type 0) (Q : Bool → Type 0) → IfOk r (λ b. b ≡ true) → (IsOk r → IsOk did) → OnOk did P → (P → Q true) → IfOk r Q
done_so (Ok b) (Ok x) P Q is ok p to = subst Q (sym is) (to p)
done_so (Ok b) (Err e) P Q is ok p to = let no = ok refl in cc
done_so (Err e) did P Q is ok p to = tt
