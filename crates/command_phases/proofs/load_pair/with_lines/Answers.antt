use Rattle.schedule_text.specs.Schedule.{IsTextOfSchedule, schedule_refusal}
use Rattle.command_phases.specs.declared.load_pair.Scheduled.{Scheduled}
use Rattle.command_phases.proofs.PairLoads.{no_second}
use Rattle.command_phases.proofs.load_pair.with_lines.Goals as goal

pub returns-in-Err : goal.returns-in-Err
returns-in-Err c =
    no_second schedule_refusal (λ (given : Scheduled). given.program) (λ (given : Scheduled). IsTextOfSchedule given.lines) c.args.program c.args.text.now c.in-Err.error
    c.in-Err.ensures
