use Rattle.ahead_steps.proofs.Held.{told-none}
use Rattle.ahead_steps.proofs.holding.prepare.Goals as goal

pub hold_last-requires-clause-begins : goal.hold_last-requires-clause-begins
hold_last-requires-clause-begins c =
    let is = c.in_ok-going.ensures in (told-none c.args.name.now is.unit c.args.moved c.args.request c.in_ok-going.going is.going).0

pub hold_last-requires-clause-look_up : goal.hold_last-requires-clause-look_up
hold_last-requires-clause-look_up c =
    let is = c.in_ok-going.ensures in (told-none c.args.name.now is.unit c.args.moved c.args.request c.in_ok-going.going is.going).1
