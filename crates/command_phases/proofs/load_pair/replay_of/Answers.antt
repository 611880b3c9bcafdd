use Rattle.serial_model.specs.Trace.{IsTextOfTrace, trace_refusal}
use Rattle.command_phases.specs.declared.load_pair.Given.{Given}
use Rattle.command_phases.proofs.PairLoads.{gives_pair}
use Rattle.command_phases.proofs.load_pair.replay_of.Goals as goal

pub returns-in-Ok : goal.returns-in-Ok
returns-in-Ok c =
    gives_pair trace_refusal (λ (given : Given). given.program) (λ (given : Given). IsTextOfTrace given.trace) c.args.source.now c.args.text.now c.in-Ok.program c.with_trace.result
    c.in-Ok.ensures c.with_trace.ensures
