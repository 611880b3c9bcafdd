-- How a unit goes on in its place.
use Rattle.std.proofs.Common.{◌≡◌, ◌∙◌, false, refl, sym, ap, subst, Option, Some, None}
use Rattle.std.specs.Option.{IsSome}
use Rattle.std.specs.BTreeMap.{BTreeMap, WritesThrough}
use Rattle.core_syntax.specs.WellFormed.{IsWellFormed}
use Rattle.value_core.specs.Name.{after_cmp}
use Rattle.value_core.specs.declared.value.Value.{Value}
use Rattle.value_core.specs.Named.{Name, named, with_named}
use Rattle.value_core.proofs.NamedLaws.{named-here}
use Rattle.value_core.proofs.NameMaps.{written_is_put}
use Rattle.value_core.proofs.NamedViews.{view_same, view_found, view_none}
use Rattle.serial_model.specs.declared.halt.Halt.{Halt}
use Rattle.serial_model.specs.declared.halt.Halt.TheVariants as halt
use Rattle.serial_model.specs.State.{Setup}
use Rattle.serial_model.specs.Step.{next_of}
use Rattle.serial_model.proofs.evaluation.Carries.{ask-is-there}
use Rattle.eval_step.specs.Evaluation.{IsAsking}
use Rattle.serial_units.specs.Asking.{IsThereAt}
use Rattle.serial_units.specs.declared.unit.Unit.{Unit}
use Rattle.serial_units.specs.Units.{unit_of, units_of, AreUnits, IsGone, IsRun, IsFinished}
use Rattle.serial_units.proofs.UnitViews.{put_units}

some_same : {X : Type 0} (x y : X) → Some x ≡ Some y → x ≡ y
some_same x y e = cc

module _ (setup : Setup) (name : Name) (old new : BTreeMap Name Unit) where
  pub run_done : (w y : Unit) (stop : Option Halt) → WritesThrough after_cmp (after_cmp name) old w new → named name old.entries ≡ Some y → AreUnits setup old.entries → IsGone setup y w stop y.value
      → IsRun setup name old.entries new.entries stop
  run_done w y stop writes there are gone = on stop y.value refl gone
    where
      put : new.entries ≡ with_named old.entries name w
      put = written_is_put name old new w y writes there

      on : (stop : Option Halt) (v : Option Value) → y.value ≡ v → IsGone setup y w stop v → IsRun setup name old.entries new.entries stop
      on (Some stop) None is gone = record {
        unit = y;
        there = there;
        unfinished = is;
        stops = gone.stops;
        same = view_same unit_of name old new w y writes there gone.same;
        units = subst (AreUnits setup) (sym put) (put_units setup name w old.entries gone.unit are);
        asks = λ asks u found. subst (λ (x : Unit). IsAsking x.machine) (some_same w u (sym (ap (named name) put ∙ named-here name w old.entries) ∙ found)) (gone.asks asks);
      }
      on (Some stop) (Some v) is gone = absurd gone
      on None None is gone = absurd gone
      on None (Some v) is gone = (
        view_same unit_of name old new w y writes there (ap unit_of gone),
        subst (AreUnits setup) (sym (put ∙ ap (with_named old.entries name) gone)) (put_units setup name y old.entries (are name y there) are),
        subst IsFinished (sym (view_found unit_of name old.entries y there)) (subst IsSome (sym is) refl),
      )

  pub run_nowhere : new ≡ old → named name old.entries ≡ None → AreUnits setup old.entries → IsRun setup name old.entries new.entries None
  run_nowhere same none are = (
    ap (λ (m : BTreeMap Name Unit). units_of m.entries) same,
    subst (λ (m : BTreeMap Name Unit). AreUnits setup m.entries) (sym same) are,
    subst IsFinished (sym (view_none unit_of name old.entries none)) tt,
  )

-- what a request of a unit names is in the table
pub names_there : (setup : Setup) (old : Unit) (stop : Halt) → IsWellFormed setup.program → stop ≡ next_of setup (unit_of old) → IsThereAt setup.program false stop
names_there setup old (halt.Ask asked at) formed is = ask-is-there setup.program formed old.machine.body old.machine.values false old.machine.answers setup.limits.fuel asked at (sym is)
names_there setup old (halt.Value v) formed is = tt
names_there setup old (halt.Fault code at) formed is = tt
names_there setup old halt.Spent formed is = tt
