-- Where some unit of the state is not finished: with the first such one, or with its attempt, something can be done.
use Rattle.std.proofs.Common.{◌≡◌, ◌∙◌, true, false, refl, sym, ap}
use Rattle.std.specs.Prelude.{Option, None, Some}
use Rattle.serial_model.proofs.runs.Firsts.{IsFirstUnit}
use Rattle.serial_model.proofs.runs.Scope.{EarlyUnit}
use Rattle.serial_model.proofs.runs.Scoped.{carries, scope_of}
use Rattle.serial_model.specs.declared.halt.Halt.TheVariants as halt
use Rattle.serial_model.specs.declared.request.Request.TheVariants as request
use Rattle.serial_model.specs.State.{UnitState}
use Rattle.serial_model.specs.Step.{next_of}
use Rattle.shared_world.specs.Ahead.{Ahead}
use Rattle.shared_world.specs.Marks.{AreMarked, UnitSays}
use Rattle.shared_world.specs.Marks as marked
use Rattle.shared_world.specs.rows.Leading.{can_settle, is_definite, settles_next}
use Rattle.shared_world.specs.Seen.{live_with}
use Rattle.shared_world.specs.Shared.{Shared, is_going, unit_state}
use Rattle.shared_world.specs.Stands.{Stands}
use Rattle.unit_table.specs.declared.mark.Mark.TheVariants as mark
use Rattle.unit_table.specs.declared.mark.WaitOn.{WaitOn}
use Rattle.unit_table.specs.declared.mark.WaitOn.TheVariants as wait
use Rattle.unit_table.specs.declared.unit.Unit.{Unit as Doing}
use Rattle.value_core.proofs.Within.{future_within}
use Rattle.value_core.specs.Named.{Name, named}
use Rattle.world_progress.proofs.Around.{attempt-works, known-kept, running}
use Rattle.world_progress.proofs.Now.{IsKeptFor, now, of-state, sound}
use Rattle.world_progress.proofs.Units.{unit-works}
use Rattle.world_progress.specs.Progress.{HasWork}

module _ (s : Shared) (st : Stands s) (going : is_going s.end ≡ true) (marks : AreMarked s) (u : Name) (unit : UnitState) (first : IsFirstUnit (now s st).units u unit) where
  -- it is kept
  its : IsKeptFor s st u unit
  its = of-state s st u unit first.there

  -- its begin is settled: where it runs ahead, what it holds can be settled
  settles : (h : Ahead) → named u s.aheads ≡ Some h → can_settle s u ≡ true
  settles h leads = ap (settles_next s.taken) leads ∙ ap (is_definite s.taken) (ap (λ found. (live_with found its.kept).takes) (sym leads) ∙ its.takes)

  -- where it does not run ahead it is kept as it is in the state
  level-same : named u s.aheads ≡ None → unit ≡ its.kept
  level-same level = its.from ∙ ap (λ found. (live_with found its.kept).from) level

  -- it is kept as one that is not finished
  kept-unfinished : its.kept.finished ≡ None
  kept-unfinished = on (named u s.aheads) refl
    where
      on : (found : Option Ahead) → named u s.aheads ≡ found → its.kept.finished ≡ None
      on None level = ap (λ (k : UnitState). k.finished) (sym (level-same level)) ∙ first.unfinished
      on (Some h) leads =
          let far = st.aheads u h leads in
          let both : Some its.kept ≡ Some far.unit = sym its.there ∙ far.there in
          let same : its.kept ≡ far.unit = cc in ap (λ (k : UnitState). k.finished) same ∙ far.unfinished

  -- what it waits for is its attempt, or is not there
  waits-works : (x : Doing) → unit_state x ≡ its.kept → (w : WaitOn) → UnitSays s u x (mark.Waiting w) → HasWork s
  waits-works x same (wait.Finish f) (marked.root not_yet tree has rooted) = on (named u s.aheads) refl
    where
      on : (found : Option Ahead) → named u s.aheads ≡ found → HasWork s
      on None level = attempt-works s st going u unit first level tree has marks
      on (Some h) leads = let no : false ≡ true = sym not_yet ∙ settles h leads in cc
  waits-works x same (wait.Finish f) (marked.join level none at asks still) = absurd (known-kept s st going u unit first f known still)
    where
      known : EarlyUnit (scope_of (now s st).refs (now s st).actors (now s st).units) u unit.made f
      known = let S = scope_of (now s st).refs (now s st).actors (now s st).units in
          future_within S.refs S.actors (EarlyUnit S u unit.made) f
          (carries s.setup st.formed (now s st) (sound s st).scoped u unit (running s st going u unit first) (halt.Ask (request.Join f) at) (ap (next_of s.setup) (level-same level ∙ sym same) ∙ asks))
  waits-works x same (wait.Definite turn) says = let no : false ≡ true = sym says.1.not_yet ∙ settles says.1.ahead says.1.leads in cc

  -- so something can be done
  pub first-works : HasWork s
  first-works = unit-works s marks u its.kept its.there kept-unfinished (λ x is same w says. waits-works x same w says)
