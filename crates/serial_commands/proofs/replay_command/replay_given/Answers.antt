use Rattle.std.proofs.Common.{[], ◌∙◌, refl}
use Rattle.serial_commands.specs.ReplayAnswers.{setup_of}
use Rattle.serial_commands.proofs.Finishes.{Finished-unbegun, Finished-stopped}
use Rattle.serial_commands.proofs.Replaying.{ReplayOf-stopped}
use Rattle.serial_commands.proofs.Stopped.{ReplayWritten-stopped}
use Rattle.serial_commands.proofs.replay_command.replay_given.Goals as goal

pub returns-in_default-clause-replay : goal.returns-in_default-clause-replay
returns-in_default-clause-replay g c =
    let unrun = c.out_of_memory.ensures.outcome in
    ReplayOf-stopped c.args.given.program c.args.given.trace (record { setup = setup_of c.args.given.program c.args.given.trace; history = [] }) c.out_of_memory.result _ _ refl
    (Finished-unbegun (setup_of c.args.given.program c.args.given.trace) c.out_of_memory.result _ _ unrun.history unrun.status unrun.end refl)
    unrun.history refl unrun.status unrun.detail

pub returns-in_default-clause-writes : goal.returns-in_default-clause-writes
returns-in_default-clause-writes g c = ReplayWritten-stopped c.out_of_memory.result c.out_of_memory.ensures.outcome.status _ _ _ c.out_of_memory.ensures.says

pub returns-clause-replay : goal.returns-clause-replay
returns-clause-replay g c =
    ReplayOf-stopped c.args.given.program c.args.given.trace c.replay.new.serial c.stopped.result _ _ (c.replay.ensures.setup ∙ c.in-Ok.ensures.setup)
    (Finished-stopped c.replay.new.serial c.stopped.result _ _ c.stopped.ensures.history c.replay.ensures.replays c.stopped.ensures.status c.stopped.ensures.end refl)
    c.stopped.ensures.history c.replay.ensures.first_entries c.stopped.ensures.status c.stopped.ensures.detail

pub returns-clause-writes : goal.returns-clause-writes
returns-clause-writes g c = ReplayWritten-stopped c.stopped.result c.stopped.ensures.status _ _ _ c.stopped.ensures.says
