use Rattle.schedule_text.specs.Schedule.{IsTextOfSchedule, schedule_limit, schedule_refusal}
use Rattle.command_phases.specs.declared.load_pair.Scheduled.{Scheduled}
use Rattle.command_phases.proofs.PairLoads.{loads_pair, schedule_too_long, unread_pair}
use Rattle.command_phases.proofs.load_pair.load_schedule.Goals as goal

pub returns-in-Ok-clause-loads : goal.returns-in-Ok-clause-loads
returns-in-Ok-clause-loads g c =
    loads_pair schedule_refusal schedule_limit schedule_too_long (λ (given : Scheduled). given.program) (λ (given : Scheduled). IsTextOfSchedule given.lines) c.args.file.now c.args.schedule.now
    (g.F.Files.seen c.args.files.now) (g.F.Files.seen c.fetch_pair.new.files)
    c.in-Ok.pair c.schedule_of.result c.in-Ok.ensures.fetches c.schedule_of.ensures

pub returns-in-Err-clause-loads : goal.returns-in-Err-clause-loads
returns-in-Err-clause-loads g c =
    unread_pair schedule_refusal schedule_limit schedule_too_long (λ (given : Scheduled). given.program) (λ (given : Scheduled). IsTextOfSchedule given.lines) c.args.file.now c.args.schedule.now
    (g.F.Files.seen c.args.files.now) (g.F.Files.seen c.fetch_pair.new.files)
    c.in-Err.error c.in-Err.ensures.fetches
