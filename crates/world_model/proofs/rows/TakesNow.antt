-- Settled, where it is a Take of a settled message at an idle actor's front: a turn is begun, and its Take settles.
use Rattle.std.proofs.Common.{◌≡◌, ◌∙◌, ◌==◌, Bool, true, false, cond, List, [], ◌∷◌, refl, sym, ap, subst₂}
use Rattle.std.specs.Prelude.{Option, None, Some}
use Rattle.value_core.proofs.NamedLaws.{same_name-equal}
use Rattle.value_core.specs.Named.{Name, same_name, made_by}
use Rattle.core_syntax.specs.declared.behaviour.Behaviour.{Behaviour}
use Rattle.serial_model.proofs.runs.Made.{IsMade}
use Rattle.serial_model.specs.State.{Setup, State}
use Rattle.serial_model.specs.Step.{step, ended}
use Rattle.serial_model.specs.declared.actor_state.ActorState.{ActorState}
use Rattle.serial_model.specs.declared.end.End.TheVariants as end
use Rattle.serial_model.specs.declared.entry.Entry.TheVariants.{Take}
use Rattle.actor_mailbox.specs.declared.message.Message.{Message}
use Rattle.world_model.specs.StandsFor.{StandsFor}
use Rattle.world_model.specs.World.{LiveUnit, World, with_at}
use Rattle.world_model.specs.rows.Turns.{BeginsAhead, live_turn, begun_ahead, taken_now, begun_turn}
use Rattle.world_model.proofs.records.Frames.{at-here}
use Rattle.world_model.proofs.records.Steps.{Settles}
use Rattle.world_model.proofs.rows.BeginsAhead.{begins-ahead}
use Rattle.world_model.proofs.rows.SettlesTake.{settles-take, full-take}

-- the last entry under a name prevails
pub put-twice : {X : Type 0} (f : Name → X) (k : Name) (x y : X) → with_at (with_at f k x) k y ≡ with_at f k y
put-twice {X} f k x y = λ i q. on q (same_name q k) i
  where
    on : (q : Name) (b : Bool) → cond b y (cond b x (f q)) ≡ cond b y (f q)
    on q true = refl
    on q false = refl

-- an entry put and taken away again
pub put-back : {X : Type 0} (f : Name → X) (k : Name) (x y : X) → f k ≡ y → with_at (with_at f k x) k y ≡ f
put-back {X} f k x y is = λ i q. on q (same_name q k) refl i
  where
    on : (q : Name) (b : Bool) → same_name q k ≡ b → cond b y (cond b x (f q)) ≡ f q
    on q true e = sym (ap f (same_name-equal q k e) ∙ is)
    on q false e = refl

pub takes-now : (setup : Setup) (w : World) (s : State) (a : Name) (m : Message) (ms : List Message) (actor : ActorState) (behaviour : Behaviour) → StandsFor setup w s → IsMade s
    → BeginsAhead setup w a (made_by a actor.turns) m ms actor behaviour → w.end ≡ None → m.depends ≡ None → (w.made == setup.limits.units) ≡ false
    → Settles setup s (Take a m.sender) (taken_now w a (begun_turn (live_turn a actor behaviour m)) m ms actor)
takes-now setup w s a m ms actor behaviour st made row going definite room =
    let u = made_by a actor.turns in
    let x = live_turn a actor behaviour m in
    let w1 = begun_ahead w a u m ms x in
    let done = settles-take setup w1 s a x m actor (begins-ahead setup w s a u m ms actor behaviour st made row) (record {
      going = going;
      actor_there = row.there;
      there = at-here w.units u (Some x);
      takes = refl;
      took = at-here w.taken a (m ∷ []);
      definite = definite;
    }) room in
    record {
      after = done.after;
      steps = done.steps;
      stands = subst₂ (λ (units : Name → Option LiveUnit) (taken : Name → List Message). StandsFor setup (record (taken_now w a (begun_turn x) m ms actor) { units = units; taken = taken }) done.after)
          (put-twice w.units u (Some x) (Some (begun_turn x))) (put-back w.taken a (m ∷ []) [] row.free) done.stands;
    }

-- and where no unit more is allowed, the run ends
pub full-now : (setup : Setup) (w : World) (s : State) (a : Name) (m : Message) (ms : List Message) (actor : ActorState) (behaviour : Behaviour) → StandsFor setup w s → IsMade s
    → BeginsAhead setup w a (made_by a actor.turns) m ms actor behaviour → w.end ≡ None → m.depends ≡ None → (w.made == setup.limits.units) ≡ true → step setup s (Take a m.sender) ≡ Some (ended s end.UnitsSpent)
full-now setup w s a m ms actor behaviour st made row going definite full =
    let u = made_by a actor.turns in
    let x = live_turn a actor behaviour m in
    full-take setup (begun_ahead w a u m ms x) s a x m actor (begins-ahead setup w s a u m ms actor behaviour st made row) (record {
      going = going;
      actor_there = row.there;
      there = at-here w.units u (Some x);
      takes = refl;
      took = at-here w.taken a (m ∷ []);
      definite = definite;
    }) full
