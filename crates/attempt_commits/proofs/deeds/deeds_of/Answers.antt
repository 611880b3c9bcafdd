use Rattle.std.proofs.Common.{◌≡◌, ◌∙◌, ◌+◌, ◌∷◌, List, suc, drop, arith, ap, subst, sym}
use Rattle.std.proofs.Math.Seq.{drop-cons}
use Rattle.attempt_commits.proofs.Effects.{one-done}
use Rattle.attempt_commits.specs.Deeds.{AreDeedsBut}
use Rattle.serial_model.specs.declared.effect.Effect.{Effect}
use Rattle.attempt_commits.proofs.deeds.deeds_of.Goals as goal

pub loop-effect-preserved : goal.loop-effect-preserved
loop-effect-preserved c =
    let i = c.loop-effect.effect-index in
    let all = c.args.effects.now in
    let e = c.effect-item.result in
    let next : suc i ≡ i + 1 = omega arith in
    let left : drop i all ≡ e ∷ drop (i + 1) all = drop-cons all i e c.loop-effect-test.true ∙ ap (λ (f : Effect). f ∷ drop (suc i) all) (sym c.effect-item.is) ∙ ap (λ n. e ∷ drop n all) next in
    one-done c.args.owner.now all (drop (i + 1) all) e c.loop-effect.deeds c.add_deed.new.deeds
    (subst (λ (es : List Effect). AreDeedsBut c.args.owner.now all es c.loop-effect.deeds) left c.loop-effect.invariant) c.in_ok-add_deed.ensures
