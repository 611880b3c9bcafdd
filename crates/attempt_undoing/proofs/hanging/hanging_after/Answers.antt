use Rattle.std.proofs.Common.{◌∙◌, ap, sym}
use Rattle.std.specs.Option.{option_copied}
use Rattle.attempt_undoing.proofs.hanging.hanging_after.Goals as goal
use Rattle.attempt_undoing.proofs.Walk.{among-hangs}
use Rattle.value_core.specs.Placed.{filled}

pub returns-then-still_hangs : goal.returns-then-still_hangs
returns-then-still_hangs c =
    among-hangs (filled c.args.taken.now) c.args.units.now c.args.aheads.now.entries c.in-Some.next.now c.in-Some-find.turn.now
    (sym c.find.ensures ∙ ap option_copied c.in-Some-find.is) (sym c.still_hangs.ensures ∙ c.if-still_hangs.true)
