use Rattle.std.proofs.Common.{refl}
use Rattle.schedule_command.proofs.Unscheduled.{schedule_error}
use Rattle.schedule_command.proofs.ScheduleRuns.{schedule_loaded}
use Rattle.schedule_command.proofs.schedule_command.schedule_file.Goals as goal

pub returns-in-Ok-clause-answers : goal.returns-in-Ok-clause-answers
returns-in-Ok-clause-answers g c =
    schedule_loaded c.args.file.now c.args.schedule.now c.args.limits c.args.trace.now _ _ (g.F.Files.seen c.load_schedule.new.files) c.run_given.result c.in-Ok.given.program c.in-Ok.given.lines
    c.in-Ok.ensures.loads.0 c.in-Ok.ensures.loads.1 c.in-Ok.ensures.loads.2 c.in-Ok.ensures.same c.in-Ok.ensures.writes
    c.run_given.ensures.answers c.run_given.ensures.reports c.run_given.ensures.says

pub returns-in-Err-clause-answers : goal.returns-in-Err-clause-answers
returns-in-Err-clause-answers g c =
    schedule_error c.args.file.now c.args.schedule.now _ _ c.without_pair.result c.in-Err.error c.in-Err.ensures.loads c.without_pair.ensures.outcome c.args.limits c.args.trace.now refl
    (record { held = c.in-Err.ensures.same; faults = c.in-Err.ensures.writes }) c.without_pair.ensures.says
