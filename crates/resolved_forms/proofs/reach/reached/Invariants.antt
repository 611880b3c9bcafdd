use Rattle.resolved_forms.specs.Reach.{AreReached}
use Rattle.resolved_forms.proofs.reach.reached.Given as goal

abbrev pub invariant-loop-global : goal.invariant-loop-global
invariant-loop-global l = AreReached l.uses l.global l.lists.items
