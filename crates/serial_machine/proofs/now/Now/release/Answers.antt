use Rattle.std.proofs.Common.{◌∙◌, refl, sym, ap}
use Rattle.std.specs.Option.{option_copied, option_map}
use Rattle.std.proofs.lemmas.Result.{on_ok_weaker}
use Rattle.serial_model.specs.State.{UnitState}
use Rattle.serial_units.specs.Units.{becoming_of}
use Rattle.serial_units.proofs.UnitViews.{same_unit, no_unit}
use Rattle.serial_machine.proofs.UnitSteps.{released_actor, released_none}
use Rattle.serial_machine.proofs.now.Now.release.Goals as goal

pub returns-in-Some-actor-clause-released : goal.returns-in-Some-actor-clause-released
returns-in-Some-actor-clause-released c = on_ok_weaker c.free.result (λ freed. λ setup.
    released_actor setup c.args.name.now c.in-Some-actor.actor c.args.self.now (record c.args.self.now { actors = c.free.new.actors }) (option_map becoming_of c.in-Some.unit.now.becomes) freed refl
    (λ unit there. let same = same_unit c.args.name.now c.args.self.now.units c.in-Some.unit.now unit (option_copied c.get.result) c.get.ensures (ap option_copied c.in-Some.is) there in
    (sym c.in-Some-actor.is ∙ ap (λ (u : UnitState). u.actor) same, ap (λ (u : UnitState). u.becomes) same))) c.free.ensures

pub returns-in-None-actor-clause-released : goal.returns-in-None-actor-clause-released
returns-in-None-actor-clause-released c = λ setup. released_none setup c.args.name.now c.args.self.now
    (λ unit there. sym c.in-None-actor.is ∙ ap (λ (u : UnitState). u.actor) (same_unit c.args.name.now c.args.self.now.units c.in-Some.unit.now unit (option_copied c.get.result) c.get.ensures (ap option_copied c.in-Some.is) there))

pub returns-in-None-clause-released : goal.returns-in-None-clause-released
returns-in-None-clause-released c = λ setup. released_none setup c.args.name.now c.args.self.now
    (λ unit there. absurd (no_unit c.args.name.now c.args.self.now.units unit (option_copied c.get.result) c.get.ensures (ap option_copied c.in-None.is) there))
