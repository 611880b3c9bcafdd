-- A turn that is not finished is the last one of an actor that is busy.
use Rattle.std.proofs.Common.{◌≡◌, ◌∙◌, ◌⊎◌, inl, inr, ℕ, suc, ◌==◌, Bool, true, false, List, [], ◌∷◌, ◌++◌, refl, sym, ap, ap₂, subst, arith}
use Rattle.std.specs.Prelude.{Option, None, Some}
use Rattle.value_core.specs.declared.value.Value.{Value}
use Rattle.value_core.specs.declared.value.Value.TheVariants as value
use Rattle.core_syntax.specs.declared.node_id.NodeId.{NodeId}
use Rattle.core_syntax.specs.WellFormed.{IsWellFormed}
use Rattle.serial_model.specs.declared.actor_state.ActorState.{ActorState}
use Rattle.serial_model.specs.declared.entry.Entry.{Entry}
use Rattle.serial_model.specs.Laws.{IsLastTurn, TurnsAreLast}
use Rattle.serial_model.specs.Log.{Log}
use Rattle.value_core.specs.Named.{Name, Named, named, with_named, over, made_by}
use Rattle.serial_model.specs.Replay.{replay}
use Rattle.serial_model.specs.State.{Setup, Becoming, UnitState, State, opening, new_unit, main_name}
use Rattle.serial_model.specs.Step.{step, answered, with_made, with_unit, next_made, becoming, idle, take_effects, commits, finishes, released, after_turn}
use Rattle.serial_model.specs.Task.{Result}
use Rattle.serial_model.proofs.runs.EffectLaws.{effects-keep}
use Rattle.serial_model.proofs.runs.Made.{opening-made, step-made}
use Rattle.value_core.proofs.NamedLaws.{found_in, found_apart, named-here, named-other, same_or_not}
use Rattle.serial_model.proofs.runs.Ordered.{opening-ordered, step-ordered}
use Rattle.serial_model.proofs.runs.Fresh.{Makes, OfUnit, OfActor}
use Rattle.serial_model.proofs.runs.Scoped.{opening-scoped, step-scoped}
use Rattle.serial_model.proofs.runs.SpawnedActors.{not-spawned, others-stay}
use Rattle.serial_model.proofs.runs.StepCases.{IsRunning, RunRows, StepRows, step-cases, replay-keeps}
use Rattle.serial_model.proofs.runs.Stuck.{IsSound}
use Rattle.serial_model.proofs.tasks.TaskKeeps.{transactions-keep}

abbrev pub AreLast : Named UnitState → Named ActorState → Type 0
AreLast units actors = (name : Name) (unit : UnitState) (a : Name) → named name units ≡ Some unit → unit.actor ≡ Some a → unit.finished ≡ None → IsLastTurn actors name a

abbrev pub HasLast : State → Type 0
HasLast s = AreLast s.units s.actors

-- the actors that are there stay as they are

last-stays : (actors actors2 : Named ActorState) (name a : Name) → ((a : Name) (actor : ActorState) → named a actors ≡ Some actor → named a actors2 ≡ Some actor) → IsLastTurn actors name a → IsLastTurn actors2 name a
last-stays actors actors2 name a stay is = record { state = is.state; number = is.number; there = stay a is.state is.there; busy = is.busy; called = is.called; last = is.last }

module _ (setup : Setup) (formed : IsWellFormed setup.program) (s : State) (sound : IsSound setup s) (are : HasLast s) where
  -- a unit goes on
  put-last : (name : Name) (unit after : UnitState) (actors2 : Named ActorState) → named name s.units ≡ Some unit → after.actor ≡ unit.actor → after.finished ≡ unit.finished
      → ((a : Name) (actor : ActorState) → named a s.actors ≡ Some actor → named a actors2 ≡ Some actor) → AreLast (with_named s.units name after) actors2
  put-last name unit after actors2 there actor finished stay x y a is of unfinished = on (found_in x name after y s.units is)
    where
      on : ((x ≡ name) × (y ≡ after)) ⊎ (named x s.units ≡ Some y) → IsLastTurn actors2 x a
      on (inl same) = last-stays s.actors actors2 x a stay (are x unit a (ap (λ n. named n s.units) same.0 ∙ there) (sym actor ∙ ap (λ (z : UnitState). z.actor) (sym same.1) ∙ of) (sym finished ∙ ap (λ (z : UnitState). z.finished) (sym same.1) ∙ unfinished))
      on (inr old) = last-stays s.actors actors2 x a stay (are x y a old of unfinished)

  same-actors : (a : Name) (actor : ActorState) → named a s.actors ≡ Some actor → named a s.actors ≡ Some actor
  same-actors a actor is = is

  run-rows : (name : Name) (unit : UnitState) → IsRunning s name unit → RunRows setup s HasLast name unit
  run-rows name unit running = record {
    prints = λ text at asks. put-last name unit (answered unit value.Nil) s.actors running.there refl refl same-actors;
    new_ref = λ v at asks. put-last name unit (answered (with_made unit) (value.Ref (next_made name unit))) s.actors running.there refl refl same-actors;
    derefs = λ ref at v asks there. put-last name unit (answered unit v) s.actors running.there refl refl same-actors;
    forks = λ body values at asks room. forks body values;
    joins = λ future at v asks found. put-last name unit (answered unit v) s.actors running.there refl refl same-actors;
    commits = λ body values at result v asks is out held.
        let base = record s { refs = over result.log.writes s.refs } in
        let done = take_effects name result.log.effects base unit in
        let kept = effects-keep name result.log.effects base unit in
        subst (λ units. AreLast (with_named units name (answered (with_made done.1) v)) done.0.actors) (sym kept.base.units)
        (put-last name unit (answered (with_made done.1) v) done.0.actors running.there kept.unit.actor kept.unit.finished
        (λ a actor there. others-stay name result.log.effects base unit a (not-spawned setup formed s sound name unit running body values at asks result is a actor there) ∙ there));
    spawns = λ behaviour state at asks. put-last name unit (answered (with_made unit) (value.Actor (next_made name unit))) (with_named s.actors (next_made name unit) (idle behaviour state)) running.there refl refl
        (λ a actor there. named-other a (next_made name unit) (idle behaviour state) s.actors (old a actor there) ∙ there);
    sends = λ actor message at asks. put-last name unit (answered unit value.Nil) s.actors running.there refl refl same-actors;
    becomes = λ behaviour state at actor asks of. put-last name unit (answered (becoming unit behaviour state) value.Nil) s.actors running.there refl refl same-actors;
    selves = λ at actor asks of. put-last name unit (answered unit (value.Actor actor)) s.actors running.there refl refl same-actors;
    finishes = λ v is. ends v;
  }
    where
      old : (a : Name) (actor : ActorState) → named a s.actors ≡ Some actor → ¬ (a ≡ next_made name unit)
      old a actor there same =
          let fewer = sound.made.fresh name unit.made a actor.turns unit.made [] (OfUnit unit running.there refl) (OfActor actor there refl) same in
          let no : ⊥ = omega arith in no

      forks : (body : NodeId) (values : List Value) → AreLast (with_named (with_named s.units (next_made name unit) (new_unit None body values)) name (answered (with_made unit) (value.Future (next_made name unit)))) s.actors
      forks body values x y a is of unfinished = on (found_in x name (answered (with_made unit) (value.Future (next_made name unit))) y (with_named s.units (next_made name unit) (new_unit None body values)) is)
        where
          new : ((x ≡ next_made name unit) × (y ≡ new_unit None body values)) ⊎ (named x s.units ≡ Some y) → IsLastTurn s.actors x a
          new (inl same) = let no : None ≡ Some a = ap (λ (z : UnitState). z.actor) (sym same.1) ∙ of in cc
          new (inr before) = are x y a before of unfinished

          on : ((x ≡ name) × (y ≡ answered (with_made unit) (value.Future (next_made name unit)))) ⊎ (named x (with_named s.units (next_made name unit) (new_unit None body values)) ≡ Some y) → IsLastTurn s.actors x a
          on (inl same) = are x unit a (ap (λ n. named n s.units) same.0 ∙ running.there) (ap (λ (z : UnitState). z.actor) (sym same.1) ∙ of) running.unfinished
          on (inr before) = new (found_in x (next_made name unit) (new_unit None body values) y s.units before)

      ends : (v : Value) → HasLast (finishes s name unit v)
      ends v = on unit.actor refl
        where
          -- the others that are not finished
          others : (x : Name) (y : UnitState) (a : Name) → named x (with_named s.units name (record unit { finished = Some v })) ≡ Some y → y.actor ≡ Some a → y.finished ≡ None → ¬ (x ≡ name) × IsLastTurn s.actors x a
          others x y a is of unfinished = at (found_apart x name (record unit { finished = Some v }) y s.units is)
            where
              at : ((x ≡ name) × (y ≡ (record unit { finished = Some v }))) ⊎ (¬ (x ≡ name) × (named x s.units ≡ Some y)) → ¬ (x ≡ name) × IsLastTurn s.actors x a
              at (inl same) = let no : Some v ≡ None = ap (λ (z : UnitState). z.finished) (sym same.1) ∙ unfinished in cc
              at (inr other) = (other.0, are x y a other.1 of unfinished)

          on : (actor : Option Name) → unit.actor ≡ actor → HasLast (released actor (with_unit s name (record unit { finished = Some v })) unit.becomes)
          on None of = λ x y a is from unfinished. (others x y a is from unfinished).1
          on (Some actor) of = at (named actor s.actors) refl
            where
              mine : IsLastTurn s.actors name actor
              mine = are name unit actor running.there of running.unfinished

              at : (found : Option ActorState) → named actor s.actors ≡ found → HasLast (released (Some actor) (with_unit s name (record unit { finished = Some v })) unit.becomes)
              at None none = let no : Some mine.state ≡ None = sym mine.there ∙ none in cc
              at (Some state) there = rw there rest
                where
                  rest : AreLast (with_named s.units name (record unit { finished = Some v })) (with_named s.actors actor (after_turn unit.becomes state))
                  rest x y a is from unfinished =
                      let other = others x y a is from unfinished in
                      let apart : ¬ (a ≡ actor) = (λ same. other.0 (is_mine a other.1 same)) in
                      record {
                        state = other.1.state;
                        number = other.1.number;
                        there = named-other a actor (after_turn unit.becomes state) s.actors apart ∙ other.1.there;
                        busy = other.1.busy;
                        called = other.1.called;
                        last = other.1.last;
                      }
                    where
                      is_mine : (a : Name) (o : IsLastTurn s.actors x a) → a ≡ actor → x ≡ name
                      is_mine a o same =
                          let both : Some o.state ≡ Some mine.state = sym o.there ∙ ap (λ n. named n s.actors) same ∙ mine.there in
                          let one : o.state ≡ mine.state = cc in
                          let counts : o.state.turns ≡ mine.state.turns = ap (λ (z : ActorState). z.turns) one in
                          let first = o.last in
                          let second = mine.last in
                          let numbers : o.number ≡ mine.number = omega arith in
                          o.called ∙ ap₂ made_by same numbers ∙ sym mine.called

  step-rows : StepRows setup s HasLast
  step-rows = record {
    ends = λ going end. are;
    runs = run-rows;
    begins = λ name sender actor behaviour message messages taking room x y a is of unfinished.
        on name actor (new_unit (Some name) behaviour.body (actor.state ++ message)) taking.there taking.idle refl x y a of unfinished (found_in x (made_by name actor.turns) (new_unit (Some name) behaviour.body (actor.state ++ message)) y s.units is);
  }
    where
      on : (name : Name) (actor : ActorState) (new : UnitState) → named name s.actors ≡ Some actor → actor.busy ≡ false → new.actor ≡ Some name → (x : Name) (y : UnitState) (a : Name) → y.actor ≡ Some a → y.finished ≡ None
          → ((x ≡ made_by name actor.turns) × (y ≡ new)) ⊎ (named x s.units ≡ Some y) → IsLastTurn (with_named s.actors name (record actor { turns = suc actor.turns; busy = true })) x a
      on name actor new there idle_now turn x y a of unfinished (inl same) =
          let names : Some a ≡ Some name = sym of ∙ ap (λ (z : UnitState). z.actor) same.1 ∙ turn in
          let is : a ≡ name = cc in
          record {
            state = record actor { turns = suc actor.turns; busy = true };
            number = actor.turns;
            there = ap (λ n. named n (with_named s.actors name (record actor { turns = suc actor.turns; busy = true }))) is ∙ named-here name (record actor { turns = suc actor.turns; busy = true }) s.actors;
            busy = refl;
            called = same.0 ∙ ap (λ n. made_by n actor.turns) (sym is);
            last = refl;
          }
      on name actor new there idle_now turn x y a of unfinished (inr old) =
          let before = are x y a old of unfinished in
          let apart : ¬ (a ≡ name) = (λ same. not_idle before same) in
          record {
            state = before.state;
            number = before.number;
            there = named-other a name (record actor { turns = suc actor.turns; busy = true }) s.actors apart ∙ before.there;
            busy = before.busy;
            called = before.called;
            last = before.last;
          }
        where
          not_idle : (before : IsLastTurn s.actors x a) → a ≡ name → ⊥
          not_idle before same =
              let both : Some before.state ≡ Some actor = sym before.there ∙ ap (λ n. named n s.actors) same ∙ there in
              let one : before.state ≡ actor = cc in
              let no : true ≡ false = sym before.busy ∙ ap (λ (z : ActorState). z.busy) one ∙ idle_now in cc

pub record IsSounder (setup : Setup) (s : State) : Type 0 where
  pub sound : IsSound setup s
  pub last : HasLast s

-- each state that a history replays to
pub replay-sounder : (setup : Setup) → IsWellFormed setup.program → (entries : List Entry) (s : State) → replay setup entries ≡ Some s → IsSounder setup s
replay-sounder setup formed entries s is =
    replay-keeps setup (IsSounder setup) (record {
      sound = record { ordered = opening-ordered setup; scoped = opening-scoped setup; made = opening-made setup };
      last = λ name unit a there of unfinished. first name unit a (found_in name main_name (new_unit None setup.program.main []) unit [] there) of;
    })
    (λ a b entry so stepped. record {
      sound = record {
        ordered = step-ordered setup a b entry so.sound.ordered stepped;
        scoped = step-scoped setup formed transactions-keep a b entry so.sound.scoped stepped;
        made = step-made setup formed transactions-keep a b entry so.sound.scoped so.sound.made stepped;
      };
      last = step-cases setup a HasLast entry b (step-rows setup formed a so.sound so.last) stepped;
    }) entries s is
  where
    first : (name : Name) (unit : UnitState) (a : Name) → ((name ≡ main_name) × (unit ≡ new_unit None setup.program.main [])) ⊎ (named {X = UnitState} name [] ≡ Some unit) → unit.actor ≡ Some a → IsLastTurn [] name a
    first name unit a (inl same) of = let no : None ≡ Some a = ap (λ (z : UnitState). z.actor) (sym same.1) ∙ of in cc
    first name unit a (inr none) of = cc

pub turns_are_last : (setup : Setup) → IsWellFormed setup.program → TurnsAreLast setup
turns_are_last setup formed entries s is = (replay-sounder setup formed entries s is).last
