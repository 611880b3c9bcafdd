use Rattle.std.proofs.Common.{refl}
use Rattle.serial_commands.proofs.Checking.{check_error, check_loaded}
use Rattle.serial_commands.proofs.check_command.check_file.Goals as goal

pub returns-in-Ok-clause-answers : goal.returns-in-Ok-clause-answers
returns-in-Ok-clause-answers g c =
    check_loaded c.args.file.now _ _ c.tell_counts.result c.in-Ok.program c.in-Ok.ensures.loads.0
    c.tell_counts.ensures.status c.tell_counts.ensures.prefix c.tell_counts.ensures.whole c.tell_counts.ensures.fault c.tell_counts.ensures.unfailed c.tell_counts.ensures.unrun
    (record { held = c.in-Ok.ensures.same; faults = c.in-Ok.ensures.writes }) refl c.in-Ok.ensures.loads.1

pub returns-in-Err-clause-answers : goal.returns-in-Err-clause-answers
returns-in-Err-clause-answers g c =
    check_error c.args.file.now _ _ c.without_program.result c.in-Err.error c.in-Err.ensures.loads c.without_program.ensures.outcome refl
    (record { held = c.in-Err.ensures.same; faults = c.in-Err.ensures.writes }) c.without_program.ensures.says
