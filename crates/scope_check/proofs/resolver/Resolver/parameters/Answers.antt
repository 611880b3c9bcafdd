use Rattle.std.proofs.Common.{◌+◌, drop, [], refl, sym, subst}
use Rattle.scope_check.specs.Moves.{scope_in}
use Rattle.scope_check.specs.Tops.{parameters}
use Rattle.scope_check.specs.Value.{meaning, meanings}
use Rattle.scope_check.proofs.Remaining.{StillBinds}
use Rattle.scope_check.proofs.Steps.{meanings_at}
use Rattle.scope_check.proofs.TopSteps.{parameters_step}
use Rattle.scope_check.proofs.resolver.Resolver.parameters.Goals as goal

pub loop-part-preserved : goal.loop-part-preserved
loop-part-preserved c =
    let parts = c.args.parts.now in
    let index = c.loop-part.part-index in
    let rest = meanings_at parts index c.part-item.result c.loop-part-test.true (sym c.part-item.is) in
    let still = subst (λ ms. StillBinds c.args.self.now c.loop-part.self [] (parameters ms (scope_in c.loop-part.self c.args.stand) c.loop-part.self.loops) (parameters (meanings parts) (scope_in c.args.self.now c.args.stand) c.args.self.now.loops)) rest c.loop-part.invariant in
    parameters_step _ _ _ _ c.args.stand (meaning c.part-item.result) (meanings (drop (index + 1) parts)) _ _ still c.in_ok-name.ensures refl c.in_ok-bind.ensures.ok refl refl
