use Rattle.std.proofs.Common.{refl, subst}
use Rattle.command_phases.specs.Outcome.{IsEnded}
use Rattle.command_phases.proofs.Statuses.{six_not_ended}
use Rattle.serial_commands.proofs.Finishes.{Finished-unbegun}
use Rattle.serial_commands.proofs.Stopped.{SaysOutcome-stopped}
use Rattle.run_command.proofs.Stopped.{ProgramAnswers-stopped}
use Rattle.schedule_command.proofs.schedule_command.run_given.Goals as goal

pub returns-in-Ok-clause-reports : goal.returns-in-Ok-clause-reports
returns-in-Ok-clause-reports g c = rw (c.deref.ensures, c.in-Ok.ensures.program) at c.run_world.ensures.reports

pub returns-clause-answers : goal.returns-clause-answers
returns-clause-answers g c =
    let unrun = c.out_of_memory.ensures.outcome in
    ProgramAnswers-stopped c.out_of_memory.result unrun.status _ c.args.trace.now _ _ _ unrun.detail unrun.end
    (Finished-unbegun _ c.out_of_memory.result _ _ unrun.history unrun.status unrun.end refl)

pub returns-clause-reports : goal.returns-clause-reports
returns-clause-reports g c = λ ended. absurd (six_not_ended (subst IsEnded c.out_of_memory.ensures.outcome.status ended))

pub returns-clause-says : goal.returns-clause-says
returns-clause-says g c = λ never. SaysOutcome-stopped c.out_of_memory.result c.out_of_memory.ensures.outcome.status _ _ c.out_of_memory.ensures.says
