-- What stays: maps with one entry more, and the records of other names.
use Rattle.std.proofs.Common.{◌≡◌, ◌∙◌, Bool, true, false, cond, List, [], ◌∷◌, ◌++◌, refl, sym, ap, subst}
use Rattle.std.specs.Prelude.{Option, None, Some}
use Rattle.value_core.proofs.NamedLaws.{same_name-itself, same_name-equal}
use Rattle.value_core.specs.Named.{Name, same_name, made_by}
use Rattle.value_core.specs.Place.{Spot}
use Rattle.serial_model.specs.State.{Setup, UnitState, new_unit}
use Rattle.serial_model.specs.declared.actor_state.ActorState.{ActorState}
use Rattle.serial_model.specs.declared.halt.Halt.TheVariants as halt
use Rattle.serial_model.specs.declared.request.Request.TheVariants as request
use Rattle.serial_model.specs.declared.request.Request.{Request}
use Rattle.world_model.specs.Ahead.{ahead, IsHeld, RunsAhead}
use Rattle.actor_mailbox.specs.declared.message.Message.{Message}
use Rattle.world_model.specs.StandsFor.{IsBegunTurn, LiveStands, UnitStands, AttemptStands, HasBegun, TakenStands}
use Rattle.world_model.specs.World.{LiveUnit, Attempt, with_at}

pub at-here : {X : Type 0} (f : Name → X) (k : Name) (x : X) → with_at f k x k ≡ x
at-here f k x = ap (λ b. cond b x (f k)) (same_name-itself k)

pub at-other : {X : Type 0} (f : Name → X) (k q : Name) (x : X) → same_name q k ≡ false → with_at f k x q ≡ f q
at-other f k q x not = ap (λ b. cond b x (f q)) not

-- one more held effect
pub runs-more : (setup : Setup) (u : Name) (unit : UnitState) (rs : List Request) (mid : UnitState) (r : Request) (at : Spot) (after : UnitState)
    → RunsAhead setup u unit rs mid → IsHeld setup u mid r at after → RunsAhead setup u unit (rs ++ r ∷ []) after
runs-more setup u unit [] mid r at after same held = (at, after, subst (λ (from : UnitState). IsHeld setup u from r at after) (sym same) held, refl)
runs-more setup u unit (q ∷ rs) mid r at after runs held = (runs.0, runs.1, runs.2, runs-more setup u runs.1 rs mid r at after runs.3 held)

-- where the world has no unit the state has none, and no attempt is live
pub no-unit : (setup : Setup) (actors : Name → Option ActorState) (taken : Name → List Message) (u : Name) (live : Option LiveUnit) (found : Option UnitState)
    → UnitStands setup actors taken u live found → live ≡ None → found ≡ None
no-unit setup actors taken u None None stands none = refl
no-unit setup actors taken u None (Some unit) stands none = absurd stands
no-unit setup actors taken u (Some x) found stands none = cc

pub no-attempt : (setup : Setup) (u : Name) (live : Option LiveUnit) (found : Option Attempt) → AttemptStands setup u live found → live ≡ None → found ≡ None
no-attempt setup u live None stands none = refl
no-attempt setup u None (Some at) stands none = absurd stands
no-attempt setup u (Some x) (Some at) stands none = cc

is_dosync : Request → Bool
is_dosync (request.Dosync body values) = true
is_dosync _ = false

-- a unit that asks for what can be held has no attempt
pub holds-no-attempt : (setup : Setup) (u : Name) (x : LiveUnit) (r : Request) (at : Spot) (after : UnitState) (found : Option Attempt) → AttemptStands setup u (Some x) found → IsHeld setup u x.now r at after → found ≡ None
holds-no-attempt setup u x r at after None stands held = refl
holds-no-attempt setup u x r at after (Some attempt) stands held =
    let same : halt.Ask (request.Dosync attempt.body attempt.values) attempt.at ≡ halt.Ask r at = sym stands.asks ∙ held.asks in
    let is : request.Dosync attempt.body attempt.values ≡ r = cc in
    let no : None ≡ Some after = ap (ahead u x.now) is ∙ held.gives in cc

-- how the message of a begun turn and its actor come to be after a change
pub record IsMoved (actors : Name → Option ActorState) (taken : Name → List Message) (b : Name) (actor : ActorState) (message : Message) : Type 0 where
  pub moved : Message
  pub there : actors b ≡ Some actor
  pub took : taken b ≡ moved ∷ []
  pub args : moved.args ≡ message.args

module _ (setup : Setup) (actors actors2 : Name → Option ActorState) (taken taken2 : Name → List Message) (u : Name) where
  Moves : Type 0
  Moves = (b : Name) (actor : ActorState) (message : Message) → actors b ≡ Some actor → u ≡ made_by b actor.turns → taken b ≡ message ∷ [] → IsMoved actors2 taken2 b actor message

  turn_moves : (x : LiveUnit) (a : Name) → ((b : Name) (actor : ActorState) (message : Message) → actors b ≡ Some actor → u ≡ made_by b actor.turns → taken b ≡ message ∷ [] → IsMoved actors2 taken2 b actor message)
      → IsBegunTurn setup actors taken u x a → IsBegunTurn setup actors2 taken2 u x a
  turn_moves x a moves t =
      let to = moves a t.actor t.message t.there t.called t.took in
      record {
        actor = t.actor;
        behaviour = t.behaviour;
        message = to.moved;
        there = to.there;
        idle = t.idle;
        behaves = t.behaves;
        called = t.called;
        took = to.took;
        starts = t.starts ∙ ap (λ args. new_unit (Some a) t.behaviour.body (t.actor.state ++ args)) (sym to.args);
        runs = t.runs;
      }

  live_moves : (x : LiveUnit) (takes : Option Name) (found : Option UnitState)
      → ((b : Name) (actor : ActorState) (message : Message) → actors b ≡ Some actor → u ≡ made_by b actor.turns → taken b ≡ message ∷ [] → IsMoved actors2 taken2 b actor message)
      → LiveStands setup actors taken u x takes found → LiveStands setup actors2 taken2 u x takes found
  live_moves x None None moves stands = stands
  live_moves x None (Some unit) moves stands = stands
  live_moves x (Some a) None moves stands = turn_moves x a moves stands
  live_moves x (Some a) (Some unit) moves stands = stands

  -- the unit's record stays
  pub unit-moves : (live : Option LiveUnit) (found : Option UnitState)
      → ((b : Name) (actor : ActorState) (message : Message) → actors b ≡ Some actor → u ≡ made_by b actor.turns → taken b ≡ message ∷ [] → IsMoved actors2 taken2 b actor message)
      → UnitStands setup actors taken u live found → UnitStands setup actors2 taken2 u live found
  unit-moves None None moves stands = stands
  unit-moves None (Some unit) moves stands = stands
  unit-moves (Some x) found moves stands = live_moves x x.takes found moves stands

-- a begun turn is still there after a unit's record is put that keeps its Take, whatever becomes of the message
pub taken-again : (actors actors2 : Name → Option ActorState) (units : Name → Option LiveUnit) (a u : Name) (y : LiveUnit) (ms ns : List Message)
    → ((x : LiveUnit) → units u ≡ Some x → x.takes ≡ Some a → y.takes ≡ Some a) → ((o : ActorState) → actors a ≡ Some o → actors2 a ≡ Some o) → (ms ≡ [] → ns ≡ [])
    → TakenStands actors units a ms → TakenStands actors2 (with_at units u (Some y)) a ns
taken-again actors actors2 units a u y [] ns keeps same empty stands = rw (empty refl) tt
taken-again actors actors2 units a u y (m ∷ ms) [] keeps same empty stands = tt
taken-again actors actors2 units a u y (m ∷ ms) (n ∷ ns) keeps same empty t = on (same_name (made_by a t.actor.turns) u) refl
  where
    on : (c : Bool) → same_name (made_by a t.actor.turns) u ≡ c → HasBegun actors2 (with_at units u (Some y)) a
    on true e = record {
      actor = t.actor;
      turn = y;
      there = same t.actor t.there;
      begun = ap (λ b. cond b (Some y) (units (made_by a t.actor.turns))) e;
      takes = keeps t.turn (ap units (sym (same_name-equal (made_by a t.actor.turns) u e)) ∙ t.begun) t.takes;
    }
    on false e = record { actor = t.actor; turn = t.turn; there = same t.actor t.there; begun = at-other units u (made_by a t.actor.turns) (Some y) e ∙ t.begun; takes = t.takes }
