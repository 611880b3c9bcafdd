use Rattle.std.proofs.Common.{drop}
use Rattle.scope_check.specs.Tops.{tops_of}
use Rattle.scope_check.proofs.Remaining.{StillTops}
use Rattle.scope_check.proofs.resolver.Resolver.tops.Given as goal

abbrev pub invariant-loop-form : goal.invariant-loop-form
invariant-loop-form l = StillTops l.initial.self l.self l.tops (tops_of (drop l.form-index l.forms) l.number l.self.definitions l.self.loops) (tops_of l.forms 0 l.initial.self.definitions l.initial.self.loops)
