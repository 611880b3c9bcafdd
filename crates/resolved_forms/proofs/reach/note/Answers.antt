use Rattle.resolved_forms.proofs.Noting.{notes_at, notes_past}
use Rattle.resolved_forms.proofs.reach.note.Goals as goal
use Rattle.resolved_forms.proofs.reach.note.Goals.{then-number-users+in_ok-put_last, else-number-users}

pub loop-number-preserved : goal.loop-number-preserved
loop-number-preserved c =
    elim c.if-number-users.branch [
      | then-number-users+in_ok-put_last w ↦ notes_at _ _ _ _ _ _ _ _ c.loop-number.invariant c.loop-number-test.true w.if-number-users.true w.in_ok-put_last.ensures.after w.users-is
      | else-number-users w ↦ notes_past _ _ _ _ _ _ c.loop-number.invariant c.loop-number-test.true w.if-number-users.false w.users-is
    ]
