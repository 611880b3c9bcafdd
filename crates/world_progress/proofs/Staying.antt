-- The refs and the actors of a run stay.
use Rattle.std.proofs.Common.{◌≡◌, ◌∙◌, inl, ℕ, suc, true, List, [], ◌∷◌, ◌++◌, refl, sym, ap, subst}
use Rattle.std.proofs.lemmas.List.{take-append-drop}
use Rattle.std.specs.Option.{IsSome, option_and_then}
use Rattle.std.specs.Prelude.{Option, None, Some, take, drop}
use Rattle.serial_model.proofs.runs.EffectLaws.{effects-keep}
use Rattle.serial_model.proofs.runs.ScopeEffects.{effects-actors}
use Rattle.serial_model.proofs.runs.StepCases.{step-cases}
use Rattle.serial_model.specs.declared.actor_state.ActorState.{ActorState}
use Rattle.serial_model.specs.declared.effect.Effect.{Effect}
use Rattle.serial_model.specs.declared.entry.Entry.{Entry}
use Rattle.serial_model.specs.Replay.{replay, replay_from}
use Rattle.serial_model.specs.State.{Becoming, Setup, State, UnitState, opening}
use Rattle.serial_model.specs.Step.{after_turn, idle, next_made, released, step, take_effects, with_unit}
use Rattle.value_core.proofs.NamedLaws.{still_named, still_over}
use Rattle.value_core.specs.declared.value.Value.{Value}
use Rattle.value_core.specs.Named.{Name, Named, named, over}

-- each ref and each actor is there still
pub record Stay (s t : State) : Type 0 where
  pub refs : (r : Name) → IsSome (named r s.refs) → IsSome (named r t.refs)
  pub actors : (a : Name) → IsSome (named a s.actors) → IsSome (named a t.actors)

-- where nothing is done
same : (s : State) → Stay s s
same s = record { refs = λ r there. there; actors = λ a there. there }

-- where two things are done
both : (s t u : State) → Stay s t → Stay t u → Stay s u
both s t u first then = record { refs = λ r there. then.refs r (first.refs r there); actors = λ a there. then.actors a (first.actors a there) }

-- refs are written, and effects done
committed : (s : State) (name : Name) (unit : UnitState) (writes : Named Value) (effects : List Effect) → Stay s (take_effects name effects (record s { refs = over writes s.refs }) unit).0
committed s name unit writes effects =
    let base = record s { refs = over writes s.refs } in
    record {
      refs = λ r there. subst (λ (all : Named Value). IsSome (named r all)) (sym (effects-keep name effects base unit).base.refs) (still_over r writes s.refs there);
      actors = λ a there. effects-actors name effects base unit a (inl there);
    }

-- a turn is at its end
freed : (actor : Option Name) (s : State) (becomes : Option Becoming) → Stay s (released actor s becomes)
freed None s becomes = same s
freed (Some name) s becomes = on (named name s.actors) refl
  where
    on : (found : Option ActorState) → named name s.actors ≡ found → Stay s (released (Some name) s becomes)
    on None is = rw is (same s)
    on (Some actor) is = rw is (record { refs = λ r there. there; actors = λ a there. still_named a name (after_turn becomes actor) s.actors there })

-- each step leaves them
step-stays : (setup : Setup) (s : State) (entry : Entry) (t : State) → step setup s entry ≡ Some t → Stay s t
step-stays setup s entry t = step-cases setup s (Stay s) entry t (record {
  ends = λ going end. record { refs = λ r there. there; actors = λ a there. there };
  runs = λ name unit running. record {
    prints = λ text at asks. record { refs = λ r there. there; actors = λ a there. there };
    new_ref = λ v at asks. record { refs = λ r there. still_named r (next_made name unit) v s.refs there; actors = λ a there. there };
    derefs = λ ref at v asks found. record { refs = λ r there. there; actors = λ a there. there };
    forks = λ body values at asks room. record { refs = λ r there. there; actors = λ a there. there };
    joins = λ future at v asks found. record { refs = λ r there. there; actors = λ a there. there };
    commits = λ body values at result v asks is out held.
        let done = committed s name unit result.log.writes result.log.effects in record { refs = λ r there. done.refs r there; actors = λ a there. done.actors a there };
    spawns = λ behaviour state at asks. record { refs = λ r there. there; actors = λ a there. still_named a (next_made name unit) (idle behaviour state) s.actors there };
    sends = λ actor message at asks. record { refs = λ r there. there; actors = λ a there. there };
    becomes = λ behaviour state at actor asks of. record { refs = λ r there. there; actors = λ a there. there };
    selves = λ at actor asks of. record { refs = λ r there. there; actors = λ a there. there };
    finishes = λ v asks.
        let base = with_unit s name (record unit { finished = Some v }) in
        let done = freed unit.actor base unit.becomes in record { refs = λ r there. done.refs r there; actors = λ a there. done.actors a there };
  };
  begins = λ name sender actor behaviour message messages taking room.
      record { refs = λ r there. there; actors = λ a there. still_named a name (record actor { turns = suc actor.turns; busy = true }) s.actors there };
})

-- and so does each replay that goes on
stays-from : (setup : Setup) (a : State) (entries more : List Entry) (s t : State) → replay_from setup a entries ≡ Some s → replay_from setup a (entries ++ more) ≡ Some t → Stay s t
unfolding replay_from
stays-from setup a [] [] s t is then = let here : s ≡ t = cc in subst (Stay s) here (same s)
stays-from setup a [] (entry ∷ more) s t is then = on (step setup a entry) refl (λ b e. stays-from setup b [] more b t refl e) then
  where
    on : (next : Option State) → step setup a entry ≡ next → ((b : State) → replay_from setup b more ≡ Some t → Stay b t)
        → option_and_then (λ u. replay_from setup u more) next ≡ Some t → Stay s t
    on None stepped rest e = cc
    on (Some b) stepped rest e = let here : a ≡ s = cc in subst (λ x. Stay x t) here (both a b t (step-stays setup a entry b stepped) (rest b e))
stays-from setup a (entry ∷ entries) more s t is then = on (step setup a entry) (λ b e f. stays-from setup b entries more s t e f) is then
  where
    on : (next : Option State) → ((b : State) → replay_from setup b entries ≡ Some s → replay_from setup b (entries ++ more) ≡ Some t → Stay s t)
        → option_and_then (λ u. replay_from setup u entries) next ≡ Some s → option_and_then (λ u. replay_from setup u (entries ++ more)) next ≡ Some t → Stay s t
    on None rest e f = cc
    on (Some b) rest e f = rest b e f

-- what was there after so many entries is there after all of them
pub earlier-stays : (setup : Setup) (entries : List Entry) (n : ℕ) (s t : State) → replay setup (take n entries) ≡ Some s → replay setup entries ≡ Some t → Stay s t
earlier-stays setup entries n s t is then =
    stays-from setup (opening setup) (take n entries) (drop n entries) s t is (ap (replay_from setup (opening setup)) (take-append-drop n entries) ∙ then)
