-- Which units run ahead of the history, and which stand where it left them.
use Rattle.std.proofs.Common.{◌≡◌, ◌∙◌, true, List, refl, sym, ap, subst}
use Rattle.std.specs.Option.{option_and_then, option_map}
use Rattle.std.specs.Prelude.{Option, None, Some}
use Rattle.core_syntax.specs.declared.node_id.NodeId.{NodeId}
use Rattle.ref_store.specs.declared.version.Version.{Version}
use Rattle.serial_model.specs.declared.halt.Halt.TheVariants as halt
use Rattle.serial_model.specs.declared.request.Request.TheVariants as request
use Rattle.serial_model.specs.State.{UnitState}
use Rattle.serial_model.specs.Step.{next_of}
use Rattle.shared_world.specs.Ahead.{Ahead}
use Rattle.shared_world.specs.Seen.{AttemptSeen, live_with}
use Rattle.shared_world.specs.Shared.{Shared, finished_at, is_going, state_at}
use Rattle.shared_world.specs.Stands.{IsAheadAt, Stands}
use Rattle.task_fork_join.specs.Attempt.{Attempt}
use Rattle.txn_snapshot.specs.SnapshotAnswer.{snapshot_of}
use Rattle.unit_table.specs.Board.{Board}
use Rattle.value_core.proofs.NamedLaws.{same_name-equal}
use Rattle.value_core.specs.declared.value.Value.{Value}
use Rattle.value_core.specs.Named.{Name, Named, named, same_name}
use Rattle.value_core.specs.Place.{Spot}
use Rattle.world_model.specs.World as world
use Rattle.world_model.specs.World.{LiveUnit, still}

-- a unit that runs ahead does, where it stands as it did
pub ahead-still : (old new : Board) (u : Name) (h : Ahead) → state_at new u ≡ state_at old u → IsAheadAt old u h → IsAheadAt new u h
ahead-still old new u h same is = record { unit = is.unit; there = same ∙ is.there; unfinished = is.unfinished; within = is.within; holds = is.holds }

-- a unit is where its machine stands, whether or not it runs ahead
pub now-kept : (h : Option Ahead) (k : UnitState) → (live_with h k).now ≡ k
now-kept None k = refl
now-kept (Some h) k = refl

-- an attempt is seen the same where its refs read the same
pub seen-again : (before versions : Named (List Version)) (found : Option Attempt) (tried : Option world.Attempt)
    → ((tree : Attempt) → found ≡ Some tree → (r : Name) → snapshot_of versions tree.snapshot r ≡ snapshot_of before tree.snapshot r) → AttemptSeen before found tried → AttemptSeen versions found tried
seen-again before versions None None reads is = is
seen-again before versions None (Some tried) reads is = is
seen-again before versions (Some tree) None reads is = is
seen-again before versions (Some tree) (Some tried) reads is = record {
  root = is.root;
  snapshot = is.snapshot;
  store = λ r. is.store r ∙ sym (reads tree refl r);
  reads = is.reads;
  joined = is.joined;
  effects = is.effects;
  ended = is.ended;
}

module _ (old : Shared) (st : Stands old) where
  -- a unit that asks for no transaction has no attempt
  pub asks-no-attempt : is_going old.end ≡ true → (u : Name) (unit : UnitState) → state_at old.board u ≡ Some unit
      → ((body : NodeId) (values : List Value) (at : Spot) → next_of old.setup unit ≡ halt.Ask (request.Dosync body values) at → ⊥) → (tree : Attempt) → named u old.attempts ≡ Some tree → ⊥
  asks-no-attempt going u unit there other tree is =
      let way = st.attempts going u tree is in
      let both : Some way.unit ≡ Some unit = sym way.there ∙ there in
      let same : way.unit ≡ unit = cc in
      other way.body way.values way.at (subst (λ (x : UnitState). next_of old.setup x ≡ halt.Ask (request.Dosync way.body way.values) way.at) same way.asks)

  -- what has no attempt is seen to have none
  pub none-tried : is_going old.end ≡ true → (u : Name) → named u old.attempts ≡ None → st.world.attempts u ≡ None
  none-tried going u none = on (st.world.attempts u) (subst (λ found. AttemptSeen old.versions found (st.world.attempts u)) none (st.seen.attempts going u))
    where
      on : (tried : Option world.Attempt) → AttemptSeen old.versions None tried → tried ≡ None
      on None is = refl
      on (Some tried) is = absurd is

  -- what a unit is seen as, with these pieces
  abbrev pub live_on : Board → Name → Option LiveUnit
  live_on b q = option_map (live_with (named q old.aheads)) (state_at b q)

  -- where no unit stands, none runs ahead
  pub none-leads : (q : Name) → state_at old.board q ≡ None → named q old.aheads ≡ None
  none-leads q none = on (named q old.aheads) refl
    where
      on : (found : Option Ahead) → named q old.aheads ≡ found → found ≡ None
      on None is = refl
      on (Some h) is = let no : None ≡ Some (st.aheads q h is).unit = sym none ∙ (st.aheads q h is).there in cc

  -- and no unit that is finished does
  pub finished-is-level : (f : Name) (v : Value) → finished_at old.board f ≡ Some v → named f old.aheads ≡ None
  finished-is-level f v is = on (named f old.aheads) refl
    where
      on : (found : Option Ahead) → named f old.aheads ≡ found → found ≡ None
      on None level = refl
      on (Some h) leads =
          let no : None ≡ Some v = sym (st.aheads f h leads).unfinished ∙ sym (ap (option_and_then (λ (k : UnitState). k.finished)) (st.aheads f h leads).there) ∙ is in cc

  -- a unit that runs ahead with the history is seen as it is
  pub seen-level : (b : Board) (q : Name) (unit : UnitState) → named q old.aheads ≡ None → state_at b q ≡ Some unit → live_on b q ≡ Some (still unit)
  seen-level b q unit level there = ap (option_map (live_with (named q old.aheads))) there ∙ ap (λ h. Some (live_with h unit)) level

  pub level-there : (q : Name) (unit : UnitState) → named q old.aheads ≡ None → state_at old.board q ≡ Some unit → st.world.units q ≡ Some (still unit)
  level-there q unit level there = st.seen.units q ∙ seen-level old.board q unit level there

  -- those that stood as they did are seen as they were
  pub seen-same : (b : Board) (q : Name) → state_at b q ≡ state_at old.board q → st.world.units q ≡ live_on b q
  seen-same b q same = st.seen.units q ∙ sym (ap (option_map (live_with (named q old.aheads))) same)

  -- a unit that runs ahead is no other one
  pub leads-apart : (u : Name) → named u old.aheads ≡ None → (v : Name) (h : Ahead) → named v old.aheads ≡ Some h → v ≡ u → ⊥
  leads-apart u level v h leads same = let no : None ≡ Some h = sym level ∙ ap (λ n. named n old.aheads) (sym same) ∙ leads in cc

  -- the unit under a name, where it stands there now and is level
  pub seen-here : (b : Board) (u q : Name) (unit : UnitState) → named u old.aheads ≡ None → same_name q u ≡ true → state_at b q ≡ Some unit → Some (still unit) ≡ live_on b q
  seen-here b u q unit level same there = sym (seen-level b q unit (ap (λ n. named n old.aheads) (same_name-equal q u same) ∙ level) there)
