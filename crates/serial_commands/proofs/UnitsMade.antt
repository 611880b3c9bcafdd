-- A run that ends for want of a unit has made as many as its limit.
use Rattle.std.proofs.Common.{◌≡◌, ℕ, suc, List, [], ◌∷◌, refl, sym, ◌∙◌, subst, arith}
use Rattle.std.specs.Prelude.{Bool, true, false, ◌==◌, if◌then◌else◌, Option, None, Some}
use Rattle.std.specs.Option.{option_and_then, option_map}
use Rattle.std.proofs.lemmas.Option.{none-some, same_Some}
use Rattle.std.proofs.lemmas.Grind.{common_steps}
use Rattle.value_core.specs.Place.{Spot}
use Rattle.value_core.specs.declared.value.Value.{Value}
use Rattle.value_core.specs.declared.value.Value.TheVariants as value
use Rattle.serial_model.specs.declared.answer.Answer.TheVariants as answer
use Rattle.serial_model.specs.Ahead.{of_turn, self_of}
use Rattle.serial_model.specs.Log.{Log}
use Rattle.serial_model.specs.declared.actor_state.ActorState.{ActorState}
use Rattle.serial_model.specs.declared.effect.Effect.{Effect}
use Rattle.serial_model.specs.declared.effect.What.{What}
use Rattle.serial_model.specs.declared.effect.What.TheVariants as what
use Rattle.serial_model.specs.declared.end.End.{End}
use Rattle.serial_model.specs.declared.end.End.TheVariants.{Done, UnitsSpent}
use Rattle.serial_model.specs.declared.entry.Entry.{Entry}
use Rattle.serial_model.specs.declared.entry.Entry.TheVariants.{Run, Take}
use Rattle.serial_model.specs.declared.halt.Halt.{Halt}
use Rattle.serial_model.specs.declared.halt.Halt.TheVariants as halt
use Rattle.serial_model.specs.declared.request.Request.{Request}
use Rattle.serial_model.specs.declared.request.Request.TheVariants as request
use Rattle.value_core.specs.Named.{Name, named, with_named, over, made_by}
use Rattle.serial_model.specs.State.{Setup, UnitState, State, opening}
use Rattle.value_core.specs.declared.code.Code.TheVariants as code
use Rattle.serial_model.specs.declared.end.End.TheVariants as end
use Rattle.serial_model.specs.Step.{step, unless_ended, run_step, unit_step, if_unfinished, goes_on, next_of, does, gets_if_there, after_transaction, around, next_made, take_effects, takes_effect, finishes, released, take_step, begins_turn, queue_of, turn_unit, value_of, becoming, gives, with_unit, with_queue, if_allowed}
use Rattle.serial_model.specs.Replay.{replay, replay_from, IsOver}
use Rattle.serial_model.specs.Task as task
use Rattle.serial_model.specs.Task.{transaction}

-- where the end says so, all units are made
abbrev pub AreMade : Setup → State → Type 0
AreMade setup s = s.end ≡ Some UnitsSpent → s.made ≡ setup.limits.units

abbrev pub Next : Setup → Option State → Type 0
Next setup None = Unit {0}
Next setup (Some s) = AreMade setup s

not_set : (setup : Setup) (made : ℕ) (end : Option End) → end ≡ None → end ≡ Some UnitsSpent → made ≡ setup.limits.units
not_set setup made end none some = absurd (none-some UnitsSpent (sym none ∙ some))

other : (setup : Setup) (made : ℕ) (end : End) → (end ≡ UnitsSpent → ⊥) → Some end ≡ Some UnitsSpent → made ≡ setup.limits.units
other setup made end apart e = absurd (apart (same_Some end UnitsSpent e))

effects_end : (name : Name) (effects : List Effect) (s : State) (unit : UnitState) → (take_effects name effects s unit).0.end ≡ s.end
effects_end name [] s unit = refl
effects_end name (effect ∷ effects) s unit = effects_end name effects (takes_effect name s unit effect.what).0 (takes_effect name s unit effect.what).1 ∙ one effect.what
  where
    one : (what : What) → (takes_effect name s unit what).0.end ≡ s.end
    one (what.Bytes text) = refl
    one (what.Send actor message) = refl
    one (what.Spawn actor behaviour state) = refl
    one (what.Become behaviour state) = refl

module _ (setup : Setup) (s : State) (none : s.end ≡ None) where
  -- one unit more, or the end
  allowed : (made units : ℕ) (b : Bool) → b ≡ (made == units) → (t : State) → t.end ≡ None → units ≡ setup.limits.units → made ≡ s.made
      → AreMade setup (if b then (record s { end = Some UnitsSpent }) else t)
  allowed made units true is t quiet same at e = sym at ∙ (grind (arith, common_steps)) ∙ same
  allowed made units false is t quiet same at e = not_set setup t.made t.end quiet e

  found : (name : Name) (unit : UnitState) (v : Option Value) → Next setup (gets_if_there s name unit v)
  found name unit None = tt
  found name unit (Some v) = not_set setup s.made s.end none

  ends : (name : Name) (unit : UnitState) (log : Log) (outcome : task.Outcome) → Next setup (after_transaction s name unit log outcome)
  ends name unit log (task.Value v) = not_set setup _ _ (effects_end name log.effects (record s { refs = over log.writes s.refs }) unit ∙ none)
  ends name unit log (task.Fault failed place) = other setup s.made (end.Fault failed place name) (λ e. cc)
  ends name unit log task.Spent = other setup s.made (end.Spent name) (λ e. cc)
  ends name unit log task.Blocked = tt

  turned : (name : Name) (unit : UnitState) (at : Spot) (actor : Option Name) → AreMade setup (gives s name unit at (of_turn actor (answer.Value value.Nil)))
  turned name unit at None = other setup s.made (end.Fault code.NoTurn at name) (λ e. cc)
  turned name unit at (Some actor) = not_set setup s.made s.end none

  selved : (name : Name) (unit : UnitState) (at : Spot) (actor : Option Name) → AreMade setup (gives s name unit at (self_of actor))
  selved name unit at None = other setup s.made (end.Fault code.NoTurn at name) (λ e. cc)
  selved name unit at (Some actor) = not_set setup s.made s.end none

  asked : (name : Name) (unit : UnitState) (at : Spot) (r : Request) → Next setup (does setup s name unit at r)
  asked name unit at (request.Print text) = not_set setup s.made s.end none
  asked name unit at (request.NewRef v) = not_set setup s.made s.end none
  asked name unit at (request.Deref ref) = found name unit (named ref s.refs)
  asked name unit at (request.RefSet ref v) = other setup s.made (end.Fault code.NoTransaction at name) (λ e. cc)
  asked name unit at (request.Fork body values) = allowed s.made setup.limits.units (s.made == setup.limits.units) refl _ none refl refl
  asked name unit at (request.Join future) = found name unit (value_of s future)
  asked name unit at (request.Dosync body values) =
      let result = transaction (around setup s unit) (next_made name unit) at body values in ends name unit result.log result.outcome
  asked name unit at (request.Spawn behaviour state) = not_set setup s.made s.end none
  asked name unit at (request.Send actor message) = not_set setup s.made s.end none
  asked name unit at (request.Become behaviour state) = turned name (becoming unit behaviour state) at unit.actor
  asked name unit at request.SelfActor = selved name unit at unit.actor

  finished : (t : State) → t.end ≡ None → (actor : Option Name) (unit : UnitState) → (released actor t unit.becomes).end ≡ None
  finished t quiet None unit = quiet
  finished t quiet (Some name) unit = on (named name t.actors) refl
    where
      on : (found : Option ActorState) → named name t.actors ≡ found → (released (Some name) t unit.becomes).end ≡ None
      on None is = rw is quiet
      on (Some actor) is = rw is quiet

  halted : (name : Name) (unit : UnitState) (h : Halt) → Next setup (goes_on setup s name unit h)
  halted name unit (halt.Ask r at) = asked name unit at r
  halted name unit (halt.Value v) = not_set setup (finishes s name unit v).made (finishes s name unit v).end (finished (with_unit s name (record unit { finished = Some v })) none unit.actor unit)
  halted name unit (halt.Fault failed at) = other setup s.made (end.Fault failed at name) (λ e. cc)
  halted name unit halt.Spent = other setup s.made (end.Spent name) (λ e. cc)

  stepped : (name : Name) (unit : UnitState) (finished : Option Value) → Next setup (if_unfinished finished (goes_on setup s name unit (next_of setup unit)))
  stepped name unit None = halted name unit (next_of setup unit)
  stepped name unit (Some v) = tt

  ran : (name : Name) (unit : Option UnitState) → Next setup (option_and_then (unit_step setup s name) unit)
  ran name None = tt
  ran name (Some unit) = stepped name unit unit.finished

  began : (name sender : Name) (actor : ActorState) (queue : List (List Value)) → Next setup (begins_turn setup s name sender actor queue)
  began name sender actor [] = tt
  began name sender actor (message ∷ messages) = on (turn_unit setup name actor message)
    where
      on : (unit : Option UnitState) → Next setup (option_map (λ unit. if_allowed setup s (λ s. record (with_unit s (made_by name actor.turns) unit) {
        actors = with_named s.actors name (record actor { turns = suc actor.turns; busy = true });
        queues = with_queue s.queues name sender messages;
      })) unit)
      on None = tt
      on (Some unit) = allowed s.made setup.limits.units (s.made == setup.limits.units) refl _ none refl refl

  took : (name sender : Name) (actor : Option ActorState) → Next setup (option_and_then (take_step setup s name sender) actor)
  took name sender None = tt
  took name sender (Some actor) = on actor.busy
    where
      on : (b : Bool) → Next setup (if b then None else begins_turn setup s name sender actor (queue_of s.queues name sender))
      on true = tt
      on false = began name sender actor (queue_of s.queues name sender)

one_step : (setup : Setup) (s : State) (entry : Entry) → Next setup (step setup s entry)
unfolding step
one_step setup s (Run name) = on s.end refl
  where
    on : (end : Option End) → s.end ≡ end → Next setup (unless_ended end (run_step setup s name))
    on None none = ran setup s none name (named name s.units)
    on (Some end) is = tt
one_step setup s (Take actor sender) = on s.end refl
  where
    on : (end : Option End) → s.end ≡ end → Next setup (unless_ended end (option_and_then (take_step setup s actor sender) (named actor s.actors)))
    on None none = took setup s none actor sender (named actor s.actors)
    on (Some end) is = tt

replayed_from : (setup : Setup) (from : State) (entries : List Entry) (s : State) → AreMade setup from → replay_from setup from entries ≡ Some s → AreMade setup s
unfolding replay_from
replayed_from setup from [] s made e = subst (AreMade setup) (same_Some from s e) made
replayed_from setup from (entry ∷ entries) s made e = on (step setup from entry) (one_step setup from entry) (λ t h e. replayed_from setup t entries s h e) e
  where
    on : (next : Option State) → Next setup next → ((t : State) → AreMade setup t → replay_from setup t entries ≡ Some s → AreMade setup s) → option_and_then (λ t. replay_from setup t entries) next ≡ Some s → AreMade setup s
    on None h rest e = absurd (none-some s e)
    on (Some t) h rest e = rest t h e

over_set : (setup : Setup) (s : State) (end : End) → IsOver setup s end → end ≡ UnitsSpent → s.end ≡ Some UnitsSpent
over_set setup s end (IsOver.set e) is = e ∙ subst (λ x. Some end ≡ Some x) is refl
over_set setup s Done (IsOver.still none still) is = absurd (cc)

pub all_units_made : (setup : Setup) (entries : List Entry) (s : State) → replay setup entries ≡ Some s → IsOver setup s UnitsSpent → s.made ≡ setup.limits.units
all_units_made setup entries s e over = replayed_from setup (opening setup) entries s (λ is. absurd (none-some UnitsSpent is)) e (over_set setup s UnitsSpent over refl)
