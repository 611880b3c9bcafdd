use Rattle.std.proofs.Common.{◌≡◌, map}
use Rattle.resolved_forms.proofs.units.rising.Given as goal

abbrev pub invariant-loop-number : goal.invariant-loop-number
invariant-loop-number l = l.rises ≡ map (λ number. number.now) l.yielded
