use Rattle.std.proofs.Common.{refl}
use Rattle.serial_commands.proofs.Answered.{replay_loaded}
use Rattle.serial_commands.proofs.Unreplayed.{replay_error}
use Rattle.serial_commands.proofs.replay_command.replay_file.Goals as goal

pub returns-clause-answers : goal.returns-clause-answers
returns-clause-answers g c =
    replay_loaded c.args.file.now c.args.trace.now _ _ c.replay_given.result c.in-Ok.given.program c.in-Ok.given.trace c.in-Ok.ensures.loads.0 c.in-Ok.ensures.loads.1 c.in-Ok.ensures.loads.2
    c.replay_given.ensures.replay c.replay_given.ensures.writes (record { held = c.in-Ok.ensures.same; faults = c.in-Ok.ensures.writes })

pub returns-in-Err-clause-answers : goal.returns-in-Err-clause-answers
returns-in-Err-clause-answers g c =
    replay_error c.args.file.now c.args.trace.now _ _ c.in-Err.error c.in-Err.ensures.loads c.without_pair.result c.without_pair.ensures.outcome refl
    (record { held = c.in-Err.ensures.same; faults = c.in-Err.ensures.writes }) c.without_pair.ensures.says
