-- In a state that a history replays to each unit begins as an evaluation of the program may begin.
use Rattle.std.proofs.Common.{◌≡◌, ◌∙◌, ℕ, true, false, List, [], ◌++◌, refl, sym, ap, subst}
use Rattle.std.specs.Prelude.{None, Some, Contains}
use Rattle.std.specs.List.{slice_get}
use Rattle.std.specs.Option.{unwrap_or}
use Rattle.std.proofs.lemmas.Option.{slice_get_within, unwrap_or-slice_get}
use Rattle.value_core.specs.declared.value.Value.TheVariants as value
use Rattle.core_syntax.specs.Table.{Table}
use Rattle.serial_model.specs.declared.entry.Entry.{Entry}
use Rattle.serial_model.specs.Fitting.{IsBegun, main, turn, task as task_begun, transaction as transaction_begun}
use Rattle.serial_model.specs.Laws.{TasksAreBegun}
use Rattle.value_core.specs.Named.{Name, Named, named, with_named, over, made_by}
use Rattle.serial_model.specs.Replay.{replay}
use Rattle.serial_model.specs.State.{Setup, UnitState, State, new_unit, main_name}
use Rattle.serial_model.specs.Step.{answered, around, with_made, with_unit, next_made, becoming, take_effects}
use Rattle.serial_model.specs.TaskTree.{Beginning, IsTaskOf, root, child}
use Rattle.serial_model.proofs.runs.EffectLaws.{effects-keep, released-keeps}
use Rattle.value_core.proofs.NamedLaws.{Each, each-put}
use Rattle.serial_model.proofs.runs.StepCases.{IsRunning, RunRows, StepRows, step-cases, replay-keeps}

-- the unit begins as an evaluation may begin
abbrev pub UnitBegun : Table → Name → UnitState → Type 0
UnitBegun table name unit = IsBegun table unit.body unit.values

abbrev pub AreBegun : Table → Named UnitState → Type 0
AreBegun table units = Each (UnitBegun table) units

contains_read : {A : Type 0} (xs : List A) (k : ℕ) (x : A) → slice_get xs k ≡ Some x → Contains xs x
contains_read xs k x is = (k, slice_get_within xs k x is, sym (unwrap_or-slice_get xs k x) ∙ ap (λ o. unwrap_or o x) is)

module _ (setup : Setup) (s : State) (each : AreBegun setup.program s.units) where
  kept : (name : Name) (unit after : UnitState) → IsRunning s name unit → after.body ≡ unit.body → after.values ≡ unit.values → AreBegun setup.program (with_named s.units name after)
  kept name unit after running body values =
      each-put (UnitBegun setup.program) name after s.units each
      (subst (λ b. IsBegun setup.program b after.values) (sym body) (subst (IsBegun setup.program unit.body) (sym values) (each name unit running.there)))

  run_rows : (name : Name) (unit : UnitState) → IsRunning s name unit → RunRows setup s (λ t. AreBegun setup.program t.units) name unit
  run_rows name unit running = record {
    prints = λ text at asks. kept name unit (answered unit value.Nil) running refl refl;
    new_ref = λ v at asks. kept name unit (answered (with_made unit) (value.Ref (next_made name unit))) running refl refl;
    derefs = λ ref at v asks there. kept name unit (answered unit v) running refl refl;
    forks = λ body values at asks room.
        let begun = each name unit running.there in
        let after = answered (with_made unit) (value.Future (next_made name unit)) in
        each-put (UnitBegun setup.program) name after (with_named s.units (next_made name unit) (new_unit None body values))
        (each-put (UnitBegun setup.program) (next_made name unit) (new_unit None body values) s.units each (task_begun false unit.answers setup.limits.fuel begun asks)) begun;
    joins = λ future at v asks found. kept name unit (answered unit v) running refl refl;
    commits = λ body values at result v asks is out held.
        let effects = effects-keep name result.log.effects (record s { refs = over result.log.writes s.refs }) unit in
        let done = take_effects name result.log.effects (record s { refs = over result.log.writes s.refs }) unit in
        subst (λ units. AreBegun setup.program (with_named units name (answered (with_made done.1) v))) (sym effects.base.units)
        (kept name unit (answered (with_made done.1) v) running effects.unit.body effects.unit.values);
    spawns = λ behaviour state at asks. kept name unit (answered (with_made unit) (value.Actor (next_made name unit))) running refl refl;
    sends = λ actor message at asks. kept name unit (answered unit value.Nil) running refl refl;
    becomes = λ behaviour state at actor asks of. kept name unit (answered (becoming unit behaviour state) value.Nil) running refl refl;
    selves = λ at actor asks of. kept name unit (answered unit (value.Actor actor)) running refl refl;
    finishes = λ v is.
        let base = with_unit s name (record unit { finished = Some v }) in
        subst (AreBegun setup.program) (sym (released-keeps unit.actor base unit.becomes).units) (kept name unit (record unit { finished = Some v }) running refl refl);
  }

  step_rows : StepRows setup s (λ t. AreBegun setup.program t.units)
  step_rows = record {
    ends = λ going end. each;
    runs = run_rows;
    begins = λ name sender actor behaviour message messages taking room.
        each-put (UnitBegun setup.program) (made_by name actor.turns) (new_unit (Some name) behaviour.body (actor.state ++ message)) s.units each
        (turn behaviour (actor.state ++ message) (contains_read setup.program.behaviours actor.behaviour behaviour taking.behaves));
  }

-- whatever a history replays to, its units begin as evaluations of the program may begin
pub units_are_begun : (setup : Setup) (entries : List Entry) (s : State) → replay setup entries ≡ Some s
    → (name : Name) (unit : UnitState) → named name s.units ≡ Some unit → IsBegun setup.program unit.body unit.values
units_are_begun setup entries s is =
    replay-keeps setup (λ t. AreBegun setup.program t.units)
    (each-put (UnitBegun setup.program) main_name (new_unit None setup.program.main []) [] (λ name unit none. cc) main)
    (λ s t entry each stepped. step-cases setup s (λ t. AreBegun setup.program t.units) entry t (step_rows setup s each) stepped) entries s is

-- and so does each task of a transaction of theirs
pub tasks_are_begun : (setup : Setup) → TasksAreBegun setup
tasks_are_begun setup entries s is name unit there body values at asks task of = on of
  where
    on : {task : Beginning} → IsTaskOf (around setup s unit) (next_made name unit) body values task → IsBegun setup.program task.body task.values
    on root = transaction_begun false unit.answers setup.limits.fuel (units_are_begun setup entries s is name unit there) asks
    on (child {here = here} parent levels reached forks) = task_begun true here.answers setup.limits.fuel (on parent) forks
