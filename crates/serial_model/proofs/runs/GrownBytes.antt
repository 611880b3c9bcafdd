-- The bytes of a run only grow.
use Rattle.std.proofs.Common.{◌≡◌, ◌∙◌, sym, ap, ℕ, suc, List, [], ◌∷◌, ◌++◌, refl, append_assoc, subst}
use Rattle.std.specs.Prelude.{Option, None, Some}
use Rattle.std.specs.Option.{option_and_then}
use mathlib.Core.List.{IsPrefix}
use Rattle.value_core.specs.declared.value.Value.{Value}
use Rattle.serial_model.specs.declared.actor_state.ActorState.{ActorState}
use Rattle.serial_model.specs.declared.effect.Effect.{Effect}
use Rattle.serial_model.specs.declared.effect.What.{What}
use Rattle.serial_model.specs.declared.effect.What.TheVariants as what
use Rattle.serial_model.specs.declared.entry.Entry.{Entry}
use Rattle.serial_model.specs.Laws.{BytesGrow}
use Rattle.value_core.specs.Named.{Name, named}
use Rattle.serial_model.specs.Replay.{replay_from, replay}
use Rattle.serial_model.specs.State.{Becoming, Setup, UnitState, State, opening}
use Rattle.serial_model.specs.Step.{step, takes_effect, take_effects, released}
use Rattle.serial_model.proofs.runs.StepCases.{RunRows, StepRows, step-cases}

-- the bytes of the second begin with those of the first
abbrev pub Grows : State → State → Type 0
Grows s t = IsPrefix s.bytes t.bytes

stays : (s : State) → Grows s s
stays s = self s.bytes
  where
    self : (xs : List ℕ) → IsPrefix xs xs
    self [] = ([], refl)
    self (x ∷ xs) = let r = self xs in (r.0, ap {B = List ℕ} (λ ys. x ∷ ys) r.1)

both : (s t u : State) → Grows s t → Grows t u → Grows s u
both s t u p q = (p.0 ++ q.0, sym (append_assoc s.bytes p.0 q.0) ∙ (ap (λ (w : List ℕ). w ++ q.0) p.1 ∙ q.1))

one_effect : (name : Name) (s : State) (unit : UnitState) (what : What) → Grows s (takes_effect name s unit what).0
one_effect name s unit (what.Bytes text) = (text, refl)
one_effect name s unit (what.Send actor message) = stays s
one_effect name s unit (what.Spawn actor behaviour state) = stays s
one_effect name s unit (what.Become behaviour state) = stays s

all_effects : (name : Name) (effects : List Effect) (s : State) (unit : UnitState) → Grows s (take_effects name effects s unit).0
all_effects name [] s unit = stays s
all_effects name (effect ∷ effects) s unit =
    let next = takes_effect name s unit effect.what in
    both s next.0 (take_effects name effects next.0 next.1).0 (one_effect name s unit effect.what) (all_effects name effects next.0 next.1)

at_release : (actor : Option Name) (s : State) (becomes : Option Becoming) → Grows s (released actor s becomes)
at_release None s becomes = stays s
at_release (Some name) s becomes = on (named name s.actors) refl
  where
    on : (found : Option ActorState) → named name s.actors ≡ found → Grows s (released (Some name) s becomes)
    on None is = rw is (stays s)
    on (Some actor) is = rw is (stays s)

pub step_grows : (setup : Setup) (s : State) (entry : Entry) (t : State) → step setup s entry ≡ Some t → Grows s t
step_grows setup s entry t = step-cases setup s (Grows s) entry t (record {
  ends = λ going end. stays s;
  runs = λ name unit running. record {
    prints = λ text at asks. (text, refl);
    new_ref = λ v at asks. stays s;
    derefs = λ ref at v asks found. stays s;
    forks = λ body values at asks room. stays s;
    joins = λ future at v asks found. stays s;
    commits = λ body values at result v asks is out held. all_effects name result.log.effects _ unit;
    spawns = λ behaviour state at asks. stays s;
    sends = λ actor message at asks. stays s;
    becomes = λ behaviour state at actor asks of. stays s;
    selves = λ at actor asks of. stays s;
    finishes = λ v asks. at_release unit.actor _ unit.becomes;
  };
  begins = λ name sender actor behaviour message messages taking room. stays s;
})

-- a longer history has printed at least as much
pub replay_grows : (setup : Setup) (a : State) (entries more : List Entry) (s t : State) → replay_from setup a entries ≡ Some s → replay_from setup a (entries ++ more) ≡ Some t → Grows s t
unfolding replay_from
replay_grows setup a [] [] s t is then = let same : s ≡ t = cc in subst (Grows s) same (stays s)
replay_grows setup a [] (entry ∷ more) s t is then = on (step setup a entry) refl (λ b e. replay_grows setup b [] more b t refl e) then
  where
    on : (next : Option State) → step setup a entry ≡ next → ((b : State) → replay_from setup b more ≡ Some t → Grows b t)
        → option_and_then (λ u. replay_from setup u more) next ≡ Some t → Grows s t
    on None stepped rest e = cc
    on (Some b) stepped rest e = let same : a ≡ s = cc in subst (λ x. Grows x t) same (both a b t (step_grows setup a entry b stepped) (rest b e))
replay_grows setup a (entry ∷ entries) more s t is then = on (step setup a entry) (λ b e f. replay_grows setup b entries more s t e f) is then
  where
    on : (next : Option State) → ((b : State) → replay_from setup b entries ≡ Some s → replay_from setup b (entries ++ more) ≡ Some t → Grows s t)
        → option_and_then (λ u. replay_from setup u entries) next ≡ Some s → option_and_then (λ u. replay_from setup u (entries ++ more)) next ≡ Some t → Grows s t
    on None rest e f = cc
    on (Some b) rest e f = rest b e f

pub bytes_grow : (setup : Setup) → BytesGrow setup
bytes_grow setup entries more s t is then = replay_grows setup (opening setup) entries more s t is then
