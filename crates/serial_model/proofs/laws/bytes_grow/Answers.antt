use Rattle.serial_model.proofs.runs.GrownBytes.{bytes_grow}
use Rattle.serial_model.proofs.laws.bytes_grow.Goals as goal

pub returns : goal.returns
returns c = bytes_grow (record { program = c.args.program.now; limits = c.args.limits })
