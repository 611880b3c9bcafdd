use Rattle.std.proofs.Common.{◌≡◌, drop}
use Rattle.early_globals.specs.Early.{reaches_unbound}
use Rattle.early_globals.proofs.early.reaches_unbound.Given as goal

abbrev pub invariant-loop-unit : goal.invariant-loop-unit
invariant-loop-unit l = reaches_unbound l.reached l.form.before (drop l.unit-index l.unit-items) ≡ reaches_unbound l.reached l.form.before l.form.uses.units
