use Rattle.std.proofs.Common.{◌≡◌, drop}
use Rattle.early_globals.specs.Early.{first_early}
use Rattle.early_globals.proofs.early.first_early.Given as goal

abbrev pub invariant-loop-form : goal.invariant-loop-form
invariant-loop-form l = first_early (drop l.form-index l.form-items) l.reached ≡ first_early l.survey.forms l.reached
