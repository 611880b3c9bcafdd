-- Each step keeps names fresh, and leaves a busy actor its turn.
use Rattle.std.proofs.Common.{◌≡◌, ◌∙◌, ◌⊎◌, inl, inr, ℕ, suc, true, false, List, [], ◌∷◌, ◌++◌, append_assoc, refl, sym, ap, subst}
use Rattle.std.specs.Prelude.{Option, None, Some}
use Rattle.value_core.specs.declared.value.Value.{Value}
use Rattle.value_core.specs.declared.value.Value.TheVariants as value
use Rattle.core_syntax.specs.WellFormed.{IsWellFormed}
use Rattle.serial_model.specs.declared.actor_state.ActorState.{ActorState}
use Rattle.serial_model.specs.declared.effect.Effect.{Effect}
use Rattle.serial_model.specs.declared.effect.What.{What}
use Rattle.serial_model.specs.declared.effect.What.TheVariants as what
use Rattle.serial_model.specs.declared.entry.Entry.{Entry}
use Rattle.value_core.specs.Named.{Name, Named, named, with_named, over, made_by}
use Rattle.serial_model.specs.State.{Setup, Becoming, UnitState, State, opening, new_unit, main_name}
use Rattle.serial_model.specs.Step.{step, answered, with_made, with_unit, next_made, spawned, becoming, released, finishes, commits, around, idle, after_turn, takes_effect, take_effects}
use Rattle.serial_model.specs.Task.{Result}
use Rattle.serial_model.proofs.runs.EffectLaws.{effects-keep}
use Rattle.serial_model.proofs.Early.{not-below-itself}
use Rattle.serial_model.proofs.runs.Fresh.{Makes, OfUnit, OfActor, AreFresh, AreNew, AreMade, GoesOn, one-new, goes-on, makes-one, finishes-made, turn-made}
use Rattle.value_core.proofs.NamedLaws.{found_in, found_apart, named-here, named-other}
use Rattle.serial_model.proofs.runs.Scope.{EarlyUnit}
use Rattle.serial_model.proofs.runs.Scoped.{IsScoped, scope_of, transaction-kept}
use Rattle.serial_model.proofs.runs.StepCases.{IsRunning, RunRows, StepRows, step-cases}
use Rattle.serial_model.proofs.tasks.TaskScope.{IsSpawned, IsKept, TransactionsKeep}

abbrev pub IsMade : State → Type 0
IsMade s = AreMade s.units s.actors

-- main alone
pub opening-made : (setup : Setup) → IsMade (opening setup)
opening-made setup = record {
  fresh = λ x c n d j q made below is. fresh x c n d j q made below is;
  apart = λ name unit actor is none. cc;
  busy = λ name actor none is_busy. cc;
}
  where
    is_main : (x : Name) (c : ℕ) → Makes (with_named [] main_name (new_unit None setup.program.main [])) [] x c → (x ≡ main_name)
    is_main x c (OfActor a none count) = cc
    is_main x c (OfUnit u is count) = at (found_in x main_name (new_unit None setup.program.main []) u [] is)
      where
        at : ((x ≡ main_name) × (u ≡ new_unit None setup.program.main [])) ⊎ (named {X = UnitState} x [] ≡ Some u) → x ≡ main_name
        at (inl same) = same.0
        at (inr none) = cc

    fresh : AreFresh (Makes (with_named [] main_name (new_unit None setup.program.main [])) [])
    fresh x c n d j q made below is = absurd (not-below-itself main_name j q (sym (is_main n d below) ∙ is ∙ ap (λ m. m ++ j ∷ q) (is_main x c made)))

-- an actor after effects was there, or is an idle one that they begin
abbrev ActorFrom : List Effect → State → Name → ActorState → Type 0
ActorFrom effects s x a = (named x s.actors ≡ Some a) ⊎ (IsSpawned x effects × (a.turns ≡ 0) × (a.busy ≡ false))

effects-from : (name : Name) (effects : List Effect) (s : State) (unit : UnitState) (x : Name) (a : ActorState) → named x (take_effects name effects s unit).0.actors ≡ Some a → ActorFrom effects s x a
effects-from name [] s unit x a is = inl is
effects-from name (effect ∷ effects) s unit x a is =
    let next = takes_effect name s unit effect.what in on effect.what refl (effects-from name effects next.0 next.1 x a is)
  where
    on : (done : What) → effect.what ≡ done → ActorFrom effects (takes_effect name s unit done).0 x a → ActorFrom (effect ∷ effects) s x a
    on done same (inr spawned) = inr (inr spawned.0, spawned.1, spawned.2)
    on (what.Bytes text) same (inl found) = inl found
    on (what.Send actor message) same (inl found) = inl found
    on (what.Become behaviour state) same (inl found) = inl found
    on (what.Spawn actor behaviour state) same (inl found) = at (found_in x actor (idle behaviour state) a s.actors found)
      where
        at : ((x ≡ actor) × (a ≡ idle behaviour state)) ⊎ (named x s.actors ≡ Some a) → ActorFrom (effect ∷ effects) s x a
        at (inr there) = inl there
        at (inl is) = inr (inl (rw same is.0), ap (λ a. a.turns) is.1, ap (λ a. a.busy) is.1)

module _ (setup : Setup) (s : State) (are : IsMade s) (name : Name) (unit : UnitState) (running : IsRunning s name unit) where
  gets-made : (after : UnitState) → GoesOn unit after → AreMade (with_named s.units name after) s.actors
  gets-made after on_it = goes-on s.units s.actors are name unit running.there after on_it

  forks-made : (after new : UnitState) → after.made ≡ suc unit.made → after.finished ≡ unit.finished → after.actor ≡ unit.actor → new.made ≡ 0
      → AreMade (with_named (with_named s.units (next_made name unit) new) name after) s.actors
  forks-made after new made finished actor zero_made =
      makes-one s.units s.actors are name unit running.there (λ x. x ≡ child) (λ x. ⊥) (with_named (with_named s.units child new) name after) s.actors after (record {
        made = made;
        finished = finished;
        actor = actor;
        itself = named-here name after (with_named s.units child new);
        kept = λ x u other not_child there. named-other x name after (with_named s.units child new) other ∙ named-other x child new s.units not_child ∙ there;
        units_from = λ x u other is. from x u (found_apart x child new u s.units (sym (named-other x name after (with_named s.units child new) other) ∙ is));
        actors_from = λ x a is. inl is;
        new = record {
          below = λ x fresh_one. ([], only x fresh_one);
          apart = λ x y j q first second under. (one-new name unit.made).apart x y j q (only x first) (only y second) under;
        };
        disjoint = λ x is none. none;
      })
    where
      child : Name
      child = made_by name unit.made

      only : (x : Name) → (x ≡ child) ⊎ ⊥ → x ≡ child
      only x (inl same) = same
      only x (inr none) = absurd none

      from : (x : Name) (u : UnitState) → ((x ≡ child) × (u ≡ new)) ⊎ (¬ (x ≡ child) × (named x s.units ≡ Some u)) → (named x s.units ≡ Some u) ⊎ ((x ≡ child) × (u.made ≡ 0))
      from x u (inl same) = inr (same.0, ap (λ u. u.made) same.1 ∙ zero_made)
      from x u (inr there) = inl there.1

  -- new actors, none below another
  actors-made : (M : Name → Type 0) (after : UnitState) (actors2 : Named ActorState) → after.made ≡ suc unit.made → after.finished ≡ unit.finished → after.actor ≡ unit.actor
      → ((x : Name) (a : ActorState) → named x actors2 ≡ Some a → (named x s.actors ≡ Some a) ⊎ (M x × (a.turns ≡ 0) × (a.busy ≡ false)))
      → AreNew M name unit.made → AreMade (with_named s.units name after) actors2
  actors-made M after actors2 made finished actor from new =
      makes-one s.units s.actors are name unit running.there (λ x. ⊥) M (with_named s.units name after) actors2 after (record {
        made = made;
        finished = finished;
        actor = actor;
        itself = named-here name after s.units;
        kept = λ x u other none there. named-other x name after s.units other ∙ there;
        units_from = λ x u other is. inl (sym (named-other x name after s.units other) ∙ is);
        actors_from = from;
        new = record {
          below = λ x fresh_one. new.below x (only x fresh_one);
          apart = λ x y j q first second under. new.apart x y j q (only x first) (only y second) under;
        };
        disjoint = λ x none is. none;
      })
    where
      only : (x : Name) → ⊥ ⊎ M x → M x
      only x (inl none) = absurd none
      only x (inr is) = is

  spawns-made : (behaviour : ℕ) (state : List Value) (after : UnitState) → after.made ≡ suc unit.made → after.finished ≡ unit.finished → after.actor ≡ unit.actor
      → AreMade (with_named s.units name after) (with_named s.actors (next_made name unit) (idle behaviour state))
  spawns-made behaviour state after made finished actor =
      actors-made (λ x. x ≡ next_made name unit) after (with_named s.actors (next_made name unit) (idle behaviour state)) made finished actor
      (λ x a is. from x a (found_in x (next_made name unit) (idle behaviour state) a s.actors is)) (one-new name unit.made)
    where
      from : (x : Name) (a : ActorState) → ((x ≡ next_made name unit) × (a ≡ idle behaviour state)) ⊎ (named x s.actors ≡ Some a)
          → (named x s.actors ≡ Some a) ⊎ ((x ≡ next_made name unit) × (a.turns ≡ 0) × (a.busy ≡ false))
      from x a (inl same) = inr (same.0, ap (λ a. a.turns) same.1, ap (λ a. a.busy) same.1)
      from x a (inr there) = inl there

  commits-made : (R A F : Name → Type 0) (result : Result) (v : Value) → IsKept (around setup s unit) R A F (next_made name unit) result → IsMade (commits s name unit result.log v)
  commits-made R A F result v kept =
      let base = record s { refs = over result.log.writes s.refs } in
      let done = take_effects name result.log.effects base unit in
      let same = effects-keep name result.log.effects base unit in
      let after = answered (with_made done.1) v in
      let new : AreNew (λ x. IsSpawned x result.log.effects) name unit.made = record {
        below = λ x spawned. let under = kept.below x spawned in (under.0, under.1 ∙ append_assoc name (unit.made ∷ []) under.0);
        apart = λ x y j q first second under. kept.apart x y j q first second under;
      } in
      subst (λ units. AreMade (with_named units name after) done.0.actors) (sym same.base.units)
      (actors-made (λ x. IsSpawned x result.log.effects) after done.0.actors (ap suc same.unit.made) same.unit.finished same.unit.actor
      (λ x a is. effects-from name result.log.effects base unit x a is) new)

  finishes-row : (v : Value) → IsMade (finishes s name unit v)
  finishes-row v = on unit.actor refl unit.becomes
    where
      same_turns : (becomes : Option Becoming) (a : ActorState) → (after_turn becomes a).turns ≡ a.turns
      same_turns None a = refl
      same_turns (Some b) a = refl

      is_idle : (becomes : Option Becoming) (a : ActorState) → (after_turn becomes a).busy ≡ false
      is_idle None a = refl
      is_idle (Some b) a = refl

      on : (actor : Option Name) → unit.actor ≡ actor → (becomes : Option Becoming) → IsMade (released actor (with_unit s name (record unit { finished = Some v })) becomes)
      on None of becomes =
          finishes-made s.units s.actors are name unit running.there (record unit { finished = Some v }) s.actors refl
          (λ x a is. (a, is, refl, λ is_busy. (is_busy, λ its. cc)))
      on (Some actor) of becomes = at (named actor s.actors) refl
        where
          at : (found : Option ActorState) → named actor s.actors ≡ found → IsMade (released (Some actor) (with_unit s name (record unit { finished = Some v })) becomes)
          at None none =
              rw none (finishes-made s.units s.actors are name unit running.there (record unit { finished = Some v }) s.actors refl
              (λ x a is. (
                a,
                is,
                refl,
                λ is_busy. (
                  is_busy,
                  λ its.
                      let same : actor ≡ x = cc in
                      let found : named actor s.actors ≡ Some a = ap (λ n. named n s.actors) same ∙ is in cc,
                ),
              )))
          at (Some state) there =
              rw there (finishes-made s.units s.actors are name unit running.there (record unit { finished = Some v }) (with_named s.actors actor (after_turn becomes state)) refl
              (λ x a is. split x a (found_apart x actor (after_turn becomes state) a s.actors is)))
            where
              split : (x : Name) (a : ActorState) → ((x ≡ actor) × (a ≡ after_turn becomes state)) ⊎ (¬ (x ≡ actor) × (named x s.actors ≡ Some a))
                  → (old : ActorState) × (named x s.actors ≡ Some old) × (a.turns ≡ old.turns) × (a.busy ≡ true → (old.busy ≡ true) × ¬ (unit.actor ≡ Some x))
              split x a (inl same) = (
                state,
                ap (λ n. named n s.actors) same.0 ∙ there,
                ap (λ a. a.turns) same.1 ∙ same_turns becomes state,
                λ is_busy. let idle_now = ap (λ a. a.busy) same.1 ∙ is_idle becomes state in absurd (cc),
              )
              split x a (inr other) = (a, other.1, refl, λ is_busy. (is_busy, λ its. other.0 (let same : actor ≡ x = cc in sym same)))

module _ (setup : Setup) (formed : IsWellFormed setup.program) (keep : TransactionsKeep) (s : State) (scoped : IsScoped setup s) (are : IsMade s) where
  abbrev on_it : {unit after : UnitState} → after.made ≡ unit.made → after.finished ≡ unit.finished → after.actor ≡ unit.actor → GoesOn unit after
  on_it made finished actor = record { made = made; finished = finished; actor = actor }

  run_rows : (name : Name) (unit : UnitState) → IsRunning s name unit → RunRows setup s IsMade name unit
  run_rows name unit running = record {
    prints = λ text at asks. gets-made setup s are name unit running (answered unit value.Nil) (on_it refl refl refl);
    new_ref = λ v at asks. actors-made setup s are name unit running (λ x. x ≡ next_made name unit) (answered (with_made unit) (value.Ref (next_made name unit))) s.actors refl refl refl
        (λ x a is. inl is) (one-new name unit.made);
    derefs = λ ref at v asks there. gets-made setup s are name unit running (answered unit v) (on_it refl refl refl);
    forks = λ body values at asks room.
        forks-made setup s are name unit running (answered (with_made unit) (value.Future (next_made name unit))) (new_unit None body values) refl refl refl refl;
    joins = λ future at v asks found. gets-made setup s are name unit running (answered unit v) (on_it refl refl refl);
    commits = λ body values at result v asks is out held.
        let S = scope_of s.refs s.actors s.units in
        commits-made setup s are name unit running S.refs S.actors (EarlyUnit S name unit.made) result v
        (subst (IsKept (around setup s unit) S.refs S.actors (EarlyUnit S name unit.made) (next_made name unit)) is
        (transaction-kept setup formed s scoped name unit running keep body values at asks));
    spawns = λ behaviour state at asks. spawns-made setup s are name unit running behaviour state (answered (with_made unit) (value.Actor (next_made name unit))) refl refl refl;
    sends = λ actor message at asks. gets-made setup s are name unit running (answered unit value.Nil) (on_it refl refl refl);
    becomes = λ behaviour state at actor asks of. gets-made setup s are name unit running (answered (becoming unit behaviour state) value.Nil) (on_it refl refl refl);
    selves = λ at actor asks of. gets-made setup s are name unit running (answered unit (value.Actor actor)) (on_it refl refl refl);
    finishes = λ v is. finishes-row setup s are name unit running v;
  }

  step_rows : StepRows setup s IsMade
  step_rows = record {
    ends = λ going end. are;
    runs = run_rows;
    begins = λ name sender actor behaviour message messages taking room.
        turn-made s.units s.actors are name actor (record actor { turns = suc actor.turns; busy = true }) (new_unit (Some name) behaviour.body (actor.state ++ message)) taking.there refl refl refl refl;
  }

-- each step keeps names fresh, and leaves a busy actor its turn
pub step-made : (setup : Setup) → IsWellFormed setup.program → TransactionsKeep → (s t : State) (entry : Entry) → IsScoped setup s → IsMade s → step setup s entry ≡ Some t → IsMade t
step-made setup formed keep s t entry scoped are stepped = step-cases setup s IsMade entry t (step_rows setup formed keep s scoped are) stepped
