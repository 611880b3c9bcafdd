use Rattle.std.proofs.Common.{◌≡◌, drop}
use Rattle.scope_check.specs.Declaring.{declare_all, nothing}
use Rattle.scope_check.proofs.declared.declare_all.Given as goal

abbrev pub invariant-loop-form : goal.invariant-loop-form
invariant-loop-form l = record { all : l.form-items ≡ l.forms; rest : declare_all (drop l.form-index l.form-items) l.declared ≡ declare_all l.forms nothing }
