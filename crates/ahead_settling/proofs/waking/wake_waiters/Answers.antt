use Rattle.std.proofs.Common.{◌∙◌, ap, refl, subst, sym}
use Rattle.std.specs.Option.{option_copied}
use Rattle.ahead_settling.proofs.waking.wake_waiters.Goals as goal
use Rattle.ahead_settling.proofs.Wakes.{none-waits}
use Rattle.ahead_settling.specs.Leaving.{WaitersAmong}
use Rattle.std.specs.Prelude.{None, Some}

pub returns-in-Some-clause-woken : goal.returns-in-Some-clause-woken
returns-in-Some-clause-woken c =
    none-waits c.args.turn.now (Some c.in-Some.tree.now) c.args.units.now c.wake_tasks.new.units (subst (WaitersAmong c.args.units.now c.args.turn.now) (sym c.find.ensures ∙ ap option_copied c.in-Some.is) c.requires.waiters) c.wake_tasks.ensures.woken

pub returns-in_default-clause-woken : goal.returns-in_default-clause-woken
returns-in_default-clause-woken c =
    none-waits c.args.turn.now None c.args.units.now c.args.units.now (subst (WaitersAmong c.args.units.now c.args.turn.now) (sym c.find.ensures ∙ ap option_copied c.in_default.is) c.requires.waiters) (λ q. refl)
