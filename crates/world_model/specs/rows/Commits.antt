-- The row of a commit.
use Rattle.std.specs.Prelude.{Contains, List, None, Option, Some, [], flat_map, ℕ, ◌++◌, ◌∷◌, ◌≡◌}
use Rattle.value_core.specs.Named.{Name, Named, same_name}
use Rattle.value_core.specs.declared.value.Value.{Value}
use Rattle.serial_model.specs.State.{Setup, UnitState}
use Rattle.serial_model.specs.Step.{answered, becoming, idle, with_made}
use Rattle.serial_model.specs.Task as task
use Rattle.serial_model.specs.declared.actor_state.ActorState.{ActorState}
use Rattle.serial_model.specs.declared.effect.Effect.{Effect}
use Rattle.serial_model.specs.declared.effect.What.TheVariants as what
use Rattle.serial_model.specs.declared.effect.What.{What}
use Rattle.serial_model.specs.declared.entry.Entry.TheVariants.{Run}
use Rattle.actor_mailbox.specs.Messages.{settle}
use Rattle.world_model.specs.World.{Attempt, AttemptEnd, LiveUnit, World, kept_sends, with_at}

-- what the effects of a commit do to the actors
abbrev pub what_actor : What → (Name → Option ActorState) → Name → Option ActorState
what_actor (what.Spawn actor behaviour state) f = with_at f actor (Some (idle behaviour state))
what_actor _ f = f

abbrev pub effects_actors : List Effect → (Name → Option ActorState) → Name → Option ActorState
effects_actors [] f = f
effects_actors (e ∷ es) f = effects_actors es (what_actor e.what f)

-- to the unit
abbrev pub what_unit : What → UnitState → UnitState
what_unit (what.Become behaviour state) unit = becoming unit behaviour state
what_unit _ unit = unit

abbrev pub effects_unit : List Effect → UnitState → UnitState
effects_unit [] unit = unit
effects_unit (e ∷ es) unit = effects_unit es (what_unit e.what unit)

-- the bytes that they print
abbrev pub what_bytes : What → List ℕ
what_bytes (what.Bytes text) = text
what_bytes _ = []

abbrev pub effects_bytes : List Effect → List ℕ
effects_bytes effects = flat_map (λ e. what_bytes e.what) effects

-- the refs with the writes
abbrev pub over_at : Named Value → (Name → Option Value) → Name → Option Value
over_at [] f = f
over_at (e ∷ es) f = over_at es (with_at f e.0 (Some e.1))

-- the root of an attempt is at its end, its unit is definite and holds nothing, and what it read is as it was
pub record IsOver (setup : Setup) (w : World) (u : Name) (x : LiveUnit) (tried : Attempt) (result : AttemptEnd) : Type 0 where
  pub going : w.end ≡ None
  pub there : w.units u ≡ Some x
  pub takes : x.takes ≡ None
  pub held : x.held ≡ []
  pub attempt : w.attempts u ≡ Some tried
  pub ended : tried.ended ≡ Some result
  pub valid : (r : Name) → Contains tried.reads r → w.refs r ≡ tried.store r

-- an attempt that is over, and came to a value
pub record Commits (setup : Setup) (w : World) (u : Name) (x : LiveUnit) (tried : Attempt) (result : AttemptEnd) (v : Value) : Type 0 where
  pub over : IsOver setup w u x tried result
  pub value : result.outcome ≡ task.Value v

-- the unit, with the answer of its dosync
abbrev pub committed_unit : LiveUnit → List Effect → Value → LiveUnit
committed_unit x effects v = record {
  from = answered (with_made (effects_unit effects x.now)) v;
  now = answered (with_made (effects_unit effects x.now)) v;
  takes = None;
  held = [];
}

-- Settled: the messages of the attempt become definite in their places, and those that were kept are put
abbrev pub committed : World → Name → LiveUnit → Attempt → AttemptEnd → Value → World
committed w u x tried result v = record w {
  history = w.history ++ Run u ∷ [];
  refs = over_at result.writes w.refs;
  units = with_at w.units u (Some (committed_unit x tried.effects v));
  actors = effects_actors tried.effects w.actors;
  taken = λ b. settle (same_name tried.root) (w.taken b);
  mails = λ b. settle (same_name tried.root) (w.mails b ++ kept_sends w u b);
  attempts = with_at w.attempts u None;
  bytes = w.bytes ++ effects_bytes tried.effects;
}
