use Rattle.std.proofs.Common.{refl}
use Rattle.run_command.proofs.Worlds.{opening_setup}
use Rattle.serial_commands.proofs.Finishes.{Finished-unbegun}
use Rattle.serial_commands.proofs.Stopped.{SaysOutcome-stopped}
use Rattle.run_command.proofs.Stopped.{ProgramAnswers-stopped}
use Rattle.run_command.proofs.run_command.run_program.Goals as goal

pub run_world-requires-clause-setup : goal.run_world-requires-clause-setup
run_world-requires-clause-setup g c κs within = rw (c.deref.ensures, c.in-Ok.ensures.program) (opening_setup _ _ c.in-Ok.ensures.opens)

pub returns-in-Ok-clause-answers : goal.returns-in-Ok-clause-answers
returns-in-Ok-clause-answers g c = rw (c.deref.ensures, c.in-Ok.ensures.program) at c.run_world.ensures.answers

pub returns-in-Err-clause-answers : goal.returns-in-Err-clause-answers
returns-in-Err-clause-answers g c =
    let unrun = c.out_of_memory.ensures.outcome in
    ProgramAnswers-stopped c.out_of_memory.result unrun.status _ c.args.trace.now _ _ _ unrun.detail unrun.end
    (Finished-unbegun _ c.out_of_memory.result _ _ unrun.history unrun.status unrun.end refl)

pub returns-in-Err-clause-says : goal.returns-in-Err-clause-says
returns-in-Err-clause-says g c = SaysOutcome-stopped c.out_of_memory.result c.out_of_memory.ensures.outcome.status _ _ c.out_of_memory.ensures.says
