use Rattle.std.proofs.Common.{◌≡◌}
use Rattle.resolved_forms.proofs.reach.to_seq.Given as goal

abbrev pub invariant-loop-list : goal.invariant-loop-list
invariant-loop-list l = l.seq ≡ l.yielded
