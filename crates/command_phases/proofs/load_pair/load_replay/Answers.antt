use Rattle.serial_model.specs.Trace.{trace_limit, trace_refusal}
use Rattle.serial_model.specs.Trace.{IsTextOfTrace}
use Rattle.command_phases.specs.declared.load_pair.Given.{Given}
use Rattle.command_phases.proofs.PairLoads.{loads_pair, trace_too_long, unread_pair}
use Rattle.command_phases.proofs.load_pair.load_replay.Goals as goal

pub returns-in-Ok-clause-loads : goal.returns-in-Ok-clause-loads
returns-in-Ok-clause-loads g c =
    loads_pair trace_refusal trace_limit trace_too_long (λ (given : Given). given.program) (λ (given : Given). IsTextOfTrace given.trace) c.args.file.now c.args.trace.now
    (g.F.Files.seen c.args.files.now) (g.F.Files.seen c.fetch_pair.new.files)
    c.in-Ok.pair c.replay_of.result c.in-Ok.ensures.fetches c.replay_of.ensures

pub returns-in-Err-clause-loads : goal.returns-in-Err-clause-loads
returns-in-Err-clause-loads g c =
    unread_pair trace_refusal trace_limit trace_too_long (λ (given : Given). given.program) (λ (given : Given). IsTextOfTrace given.trace) c.args.file.now c.args.trace.now
    (g.F.Files.seen c.args.files.now) (g.F.Files.seen c.fetch_pair.new.files)
    c.in-Err.error c.in-Err.ensures.fetches
