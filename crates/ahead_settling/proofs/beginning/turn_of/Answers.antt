use Rattle.std.proofs.Common.{◌∙◌, sym}
use Rattle.ahead_settling.proofs.beginning.turn_of.Goals as goal
use Rattle.ahead_settling.proofs.Begun.{on-ok-so}
use Rattle.value_core.proofs.NamedLaws.{same_name-equal}

pub returns-then-is_same-clause-called : goal.returns-then-is_same-clause-called
returns-then-is_same-clause-called c = on-ok-so c.in_turn.result (sym (same_name-equal c.in_ok-next.next c.args.name.now (sym c.if-is_same.ensures)) ∙ c.in_ok-next.ensures)
