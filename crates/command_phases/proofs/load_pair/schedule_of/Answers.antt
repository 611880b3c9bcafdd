use Rattle.schedule_text.specs.Schedule.{IsTextOfSchedule, schedule_refusal}
use Rattle.command_phases.specs.declared.load_pair.Scheduled.{Scheduled}
use Rattle.command_phases.proofs.PairLoads.{gives_pair}
use Rattle.command_phases.proofs.load_pair.schedule_of.Goals as goal

pub returns-in-Ok : goal.returns-in-Ok
returns-in-Ok c =
    gives_pair schedule_refusal (λ (given : Scheduled). given.program) (λ (given : Scheduled). IsTextOfSchedule given.lines) c.args.source.now c.args.text.now c.in-Ok.program
    c.with_lines.result c.in-Ok.ensures c.with_lines.ensures
