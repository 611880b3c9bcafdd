use Rattle.std.proofs.Common.{◌++◌, length, take, drop, ◌-◌, ap, ◌∙◌}
use Rattle.scope_locals.specs.Levels.{names_of}
use Rattle.scope_locals.specs.Innermost.{levels_of}
use Rattle.scope_locals.proofs.Levels.{names_from}
use Rattle.scope_locals.proofs.locals.Locals.innermost_from.Goals as goal

pub loop-local-init : goal.loop-local-init
loop-local-init c =
    let bound = names_of (take (length c.deref.result.now - c.args.level) (drop c.args.level c.deref.result.now)) in
    record {
      all = names_from c.deref.result.now c.args.level ∙ ap (λ locals. drop c.args.level (names_of locals)) c.deref.ensures.value ∙ ap (drop c.args.level) c.self.view_is;
      rest = ap (λ levels. levels ++ levels_of c.args.self.now bound) c.new-levels.ensures;
    }
