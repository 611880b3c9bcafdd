use Rattle.std.proofs.Common.{◌≡◌, ◌∙◌, ◌∷◌, [], refl, sym, ap, subst, List, length, arith}
use Rattle.std.specs.Vec.Iter.{into_iter_items}
use Rattle.serial_model.specs.declared.effect.Effect.{Effect}
use Rattle.serial_model.specs.State.{UnitState, State}
use Rattle.serial_model.specs.Step as row
use Rattle.serial_machine.specs.Now.{IsNow, turned_into}
use Rattle.serial_machine.proofs.now.Now.take_effects.Goals as goal

pub loop-effect-preserved : goal.loop-effect-preserved
loop-effect-preserved c = record {
  units = c.in_ok-take_effect.ensures.units ∙ c.loop-effect.invariant.units;
  taken = λ setup before s unit at.
      let prior = c.loop-effect.invariant.taken setup before s unit at in
      let step = c.in_ok-take_effect.ensures.taken setup before prior.0 unit prior.1 in (
        _,
        step.0,
        prior.2 ∙ ap (λ (es : List Effect). row.take_effects c.args.name.now es prior.0 (turned_into c.loop-effect.becomes unit)) c.in-Some.ensures.steps.0
            ∙ ap (λ (u : UnitState). row.take_effects c.args.name.now (into_iter_items c.next.new.self) (row.takes_effect c.args.name.now prior.0 (turned_into c.loop-effect.becomes unit) c.in-Some.effect.what).0 u) step.1,
      );
}

nothing : {X : Type 0} (xs : List X) → length xs ≡ 0 → xs ≡ []
nothing [] is = refl
nothing (x ∷ xs) is = absurd (omega (arith, is))

pub returns-clause-taken : goal.returns-clause-taken
returns-clause-taken c = λ setup before s unit at.
    let prior = c.loop-effect.invariant.taken setup before s unit at in
    let none = nothing (into_iter_items c.loop-effect.effect-iterator) (sym c.loop-effect.effect-iterator.rest.ok.0 ∙ c.in-None.ensures.steps.0) in
    let is = prior.2 ∙ ap (λ (es : List Effect). row.take_effects c.args.name.now es prior.0 (turned_into c.loop-effect.becomes unit)) none in
    (subst (IsNow setup before c.loop-effect.self) (sym (ap (λ (p : State × UnitState). p.0) is)) prior.1, ap (λ (p : State × UnitState). p.1) is)
