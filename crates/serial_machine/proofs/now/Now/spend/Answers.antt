use Rattle.std.proofs.Common.{subst}
use Rattle.serial_model.specs.declared.end.End.TheVariants as ends
use Rattle.value_core.specs.Named.{Name}
use Rattle.serial_model.specs.State.{Setup}
use Rattle.serial_model.specs.Step.{ended}
use Rattle.serial_machine.specs.Now.{Comes}
use Rattle.serial_machine.proofs.now.Now.spend.Goals as goal

pub returns : goal.returns
returns c = subst (λ (n : Name). (setup : Setup) → Comes setup c.args.self.now c.end_with.new.self (λ s. ended s (ends.Spent n))) c.in_ok-unit.ensures c.end_with.ensures
