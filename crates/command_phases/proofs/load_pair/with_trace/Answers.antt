use Rattle.serial_model.specs.Trace.{IsTextOfTrace, trace_refusal}
use Rattle.command_phases.specs.declared.load_pair.Given.{Given}
use Rattle.command_phases.proofs.PairLoads.{no_second}
use Rattle.command_phases.proofs.load_pair.with_trace.Goals as goal

pub returns-in-Err : goal.returns-in-Err
returns-in-Err c =
    no_second trace_refusal (λ (given : Given). given.program) (λ (given : Given). IsTextOfTrace given.trace) c.args.program c.args.text.now c.in-Err.error c.in-Err.ensures
