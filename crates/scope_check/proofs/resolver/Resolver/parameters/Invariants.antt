use Rattle.std.proofs.Common.{[], drop}
use Rattle.scope_check.specs.Moves.{scope_in}
use Rattle.scope_check.specs.Tops.{parameters}
use Rattle.scope_check.specs.Value.{meanings}
use Rattle.scope_check.proofs.Remaining.{StillBinds}
use Rattle.scope_check.proofs.resolver.Resolver.parameters.Given as goal

abbrev pub invariant-loop-part : goal.invariant-loop-part
invariant-loop-part l = StillBinds l.initial.self l.self [] (parameters (meanings (drop l.part-index l.parts)) (scope_in l.self l.stand) l.self.loops) (parameters (meanings l.parts) (scope_in l.initial.self l.stand) l.initial.self.loops)
