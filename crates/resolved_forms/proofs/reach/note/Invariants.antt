use Rattle.std.proofs.Common.{take}
use Rattle.resolved_forms.specs.Users.{Notes}
use Rattle.resolved_forms.proofs.reach.note.Given as goal

abbrev pub invariant-loop-number : goal.invariant-loop-number
invariant-loop-number l = Notes l.initial.users (take l.number-index l.named) l.unit l.users
