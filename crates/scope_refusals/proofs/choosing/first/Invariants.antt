use Rattle.std.proofs.Common.{◌≡◌, drop}
use Rattle.scope_refusals.specs.First.{first_from, first_of}
use Rattle.scope_refusals.proofs.choosing.first.Given as goal

abbrev pub invariant-loop-refusal : goal.invariant-loop-refusal
invariant-loop-refusal l = record { all : l.refusal-items ≡ l.refusals; rest : first_from l.best (drop l.refusal-index l.refusal-items) ≡ first_of l.refusals }
