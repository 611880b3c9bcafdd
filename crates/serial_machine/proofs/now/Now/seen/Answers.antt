use Rattle.std.proofs.Common.{◌∙◌, sym, ap, Some}
use Rattle.serial_machine.specs.Now.{state_after}
use Rattle.serial_machine.proofs.SerialRuns.{seen_done, seen_going}
use Rattle.serial_machine.proofs.now.Now.seen.Goals as goal

pub returns-then-is_over : goal.returns-then-is_over
returns-then-is_over c = λ before. ap Some c.requires ∙ seen_done (state_after before c.args.self.now) c.in-None.is (sym c.if-is_over.true ∙ c.is_over.ensures before)

pub returns-else-is_over : goal.returns-else-is_over
returns-else-is_over c = λ before. seen_going (state_after before c.args.self.now) c.in-None.is (sym c.if-is_over.false ∙ c.is_over.ensures before)
