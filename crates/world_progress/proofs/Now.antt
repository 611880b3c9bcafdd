-- The state that the history replays to, and the units that are kept for its units.
use Rattle.std.proofs.Common.{◌≡◌, ◌∙◌, true, List, [], ◌∷◌, refl, sym, ap, subst}
use Rattle.std.specs.Option.{IsSome, option_and_then, option_map}
use Rattle.std.specs.Prelude.{Option, None, Some}
use Rattle.serial_model.proofs.runs.Scoped.{value_of-is}
use Rattle.serial_model.proofs.runs.Stuck.{IsSound, replay-sound}
use Rattle.serial_model.proofs.tasks.TaskKeeps.{transactions-keep}
use Rattle.serial_model.specs.declared.end.End.{End}
use Rattle.serial_model.specs.declared.request.Request.{Request}
use Rattle.serial_model.specs.State.{Setup, State, UnitState}
use Rattle.serial_model.specs.Step.{value_of}
use Rattle.shared_world.proofs.Leading.{finished-is-level, level-there, now-kept}
use Rattle.shared_world.specs.Seen.{live_with}
use Rattle.shared_world.specs.Shared.{Shared, finished_at, is_going, state_at}
use Rattle.shared_world.specs.Stands.{Stands}
use Rattle.value_core.specs.declared.value.Value.{Value}
use Rattle.value_core.specs.Named.{Name, named}
use Rattle.world_model.specs.Ahead.{RunsAhead}
use Rattle.world_model.specs.StandsFor.{LiveStands, StandsFor, UnitStands}
use Rattle.world_model.specs.World.{LiveUnit, World, still}

-- what has no value has none
pub no-value : {Q : Type 0} (found : Option Value) → found ≡ None → IsSome found → Q
no-value None e is = absurd (cc)
no-value (Some v) e is = absurd (cc)

-- a finished unit has run ahead over nothing
pub over-nothing : (setup : Setup) (u : Name) (unit now : UnitState) (held : List Request) → IsSome unit.finished → RunsAhead setup u unit held now → (held ≡ []) × (unit ≡ now)
over-nothing setup u unit now [] finished runs = (refl, runs)
over-nothing setup u unit now (r ∷ rs) finished runs = no-value unit.finished runs.2.unfinished finished

-- no end is set
pub none-set : (end : Option End) → is_going end ≡ true → end ≡ None
none-set None going = refl
none-set (Some end) going = cc

module _ (s : Shared) (st : Stands s) where
  abbrev w : World
  w = st.world

  -- the state that the history replays to
  abbrev pub now : State
  now = st.is_world.state

  -- the world stands for it
  abbrev pub stands : StandsFor s.setup w now
  stands = st.is_world.stands

  -- what holds of each such state
  pub sound : IsSound s.setup now
  sound = replay-sound s.setup st.formed transactions-keep w.history now st.is_world.replays

  -- it has no end while the run goes on
  pub now-going : is_going s.end ≡ true → now.end ≡ None
  now-going going = sym stands.end ∙ st.seen.end ∙ none-set s.end going

  -- a unit that is kept, as it is seen
  pub kept-live : (u : Name) (k : UnitState) → state_at s.board u ≡ Some k → w.units u ≡ Some (live_with (named u s.aheads) k)
  kept-live u k there = st.seen.units u ∙ ap (option_map (live_with (named u s.aheads))) there

  -- a unit of the state is kept, and its begin is not held
  pub record IsKeptFor (u : Name) (unit : UnitState) : Type 0 where
    pub kept : UnitState
    pub there : state_at s.board u ≡ Some kept
    pub takes : (live_with (named u s.aheads) kept).takes ≡ None
    pub from : unit ≡ (live_with (named u s.aheads) kept).from
    pub runs : RunsAhead s.setup u (live_with (named u s.aheads) kept).from (live_with (named u s.aheads) kept).held (live_with (named u s.aheads) kept).now

  -- so each unit of the state is
  pub of-state : (u : Name) (unit : UnitState) → named u now.units ≡ Some unit → IsKeptFor u unit
  of-state u unit there = on (state_at s.board u) refl
    where
      seen : UnitStands s.setup w.actors w.taken u (w.units u) (Some unit)
      seen = subst (UnitStands s.setup w.actors w.taken u (w.units u)) there (stands.units u)

      by : (k : UnitState) → state_at s.board u ≡ Some k → (x : LiveUnit) → live_with (named u s.aheads) k ≡ x → (takes : Option Name) → x.takes ≡ takes
          → LiveStands s.setup w.actors w.taken u x takes (Some unit) → IsKeptFor u unit
      by k is x same None e live = record {
        kept = k;
        there = is;
        takes = ap (λ (y : LiveUnit). y.takes) same ∙ e;
        from = live.0 ∙ ap (λ (y : LiveUnit). y.from) (sym same);
        runs = subst (λ (y : LiveUnit). RunsAhead s.setup u y.from y.held y.now) (sym same) live.1;
      }
      by k is x same (Some a) e live = absurd live

      on : (found : Option UnitState) → state_at s.board u ≡ found → IsKeptFor u unit
      on None is = absurd (subst (λ live. UnitStands s.setup w.actors w.taken u live (Some unit)) (st.seen.units u ∙ ap (option_map (live_with (named u s.aheads))) is) seen)
      on (Some k) is = by k is (live_with (named u s.aheads) k) refl (live_with (named u s.aheads) k).takes refl
          (subst (λ live. UnitStands s.setup w.actors w.taken u live (Some unit)) (kept-live u k is) seen)

  -- one that is finished is kept so
  pub kept-finished : (u : Name) (unit : UnitState) → named u now.units ≡ Some unit → IsSome unit.finished → (k : UnitState) → state_at s.board u ≡ Some k → unit ≡ k
  kept-finished u unit there over k is =
      let its = of-state u unit there in
      let both : Some its.kept ≡ Some k = sym its.there ∙ is in
      let same : its.kept ≡ k = cc in
      let live = live_with (named u s.aheads) its.kept in
      its.from ∙ (over-nothing s.setup u live.from live.now live.held (subst (λ (x : UnitState). IsSome x.finished) its.from over) its.runs).1 ∙ now-kept (named u s.aheads) its.kept ∙ same

  -- the value of a unit that is finished in the state is kept
  pub value-kept : (f : Name) (v : Value) → value_of now f ≡ Some v → finished_at s.board f ≡ Some v
  value-kept f v is =
      let its = value_of-is now f v is in
      let kept = of-state f its.unit its.there in
      let same = kept-finished f its.unit its.there (subst IsSome (sym its.over) refl) kept.kept kept.there in
      ap (option_and_then (λ (unit : UnitState). unit.finished)) kept.there ∙ ap (λ (unit : UnitState). unit.finished) (sym same) ∙ its.over

  -- and a value that is kept is that of the unit in the state
  pub kept-value : (f : Name) (v : Value) → finished_at s.board f ≡ Some v → value_of now f ≡ Some v
  kept-value f v is = on (state_at s.board f) refl is
    where
      level : named f s.aheads ≡ None
      level = finished-is-level s st f v is

      by : (k : UnitState) → (found : Option UnitState) → named f now.units ≡ found → LiveStands s.setup w.actors w.taken f (still k) None found → k.finished ≡ Some v → value_of now f ≡ Some v
      by k None none live over = absurd live
      by k (Some unit) there live over = ap (option_and_then (λ (x : UnitState). x.finished)) there ∙ ap (λ (x : UnitState). x.finished) live.0 ∙ over

      on : (found : Option UnitState) → state_at s.board f ≡ found → option_and_then (λ (unit : UnitState). unit.finished) found ≡ Some v → value_of now f ≡ Some v
      on None none e = cc
      on (Some k) there e = by k (named f now.units) refl (subst (λ live. UnitStands s.setup w.actors w.taken f live (named f now.units)) (level-there s st f k level there) (stands.units f)) e
