use Rattle.std.proofs.Common.{◌≡◌, suc, ◌+◌, ◌∷◌, drop, sym, ap, subst, ◌∙◌, arith}
use Rattle.std.proofs.Math.Seq.{drop-cons}
use Rattle.scope_check.specs.Tops.{tops_of}
use Rattle.scope_check.proofs.Remaining.{StillTops}
use Rattle.scope_check.proofs.TopSteps.{tops_step}
use Rattle.scope_check.proofs.resolver.Resolver.tops.Goals as goal

pub loop-form-preserved : goal.loop-form-preserved
loop-form-preserved c =
    let forms = c.args.forms.now in
    let index = c.loop-form.form-index in
    let form = c.form-item.result in
    let one_more : suc index ≡ index + 1 = omega arith in
    let rest = drop-cons forms index form c.loop-form-test.true ∙ ap (λ f. f ∷ drop (suc index) forms) (sym c.form-item.is) ∙ ap (λ n. form ∷ drop n forms) one_more in
    let still = subst (λ fs. StillTops c.args.self.now c.loop-form.self c.loop-form.tops (tops_of fs c.loop-form.number c.loop-form.self.definitions c.loop-form.self.loops) (tops_of forms 0 c.args.self.now.definitions c.args.self.now.loops)) rest c.loop-form.invariant in
    rw c.in_ok-number.ensures.tops (tops_step _ _ _ form (drop (index + 1) forms) c.loop-form.number c.in_ok-number.number _ _ _ still c.in_ok-top.ensures c.in_ok-number.ensures.next)
