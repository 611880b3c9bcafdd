use Rattle.std.proofs.Common.{inl, refl}
use Rattle.serial_commands.proofs.Finishes.{Finished-of, Finished-stopped, wrote_whole}
use Rattle.serial_commands.proofs.Replaying.{ReplayWritten-of, not_eight}
use Rattle.serial_commands.proofs.Stopped.{ReplayWritten-stopped}
use Rattle.serial_commands.proofs.replay_command.agree.Goals as goal

pub returns-in_default-clause-writes : goal.returns-in_default-clause-writes
returns-in_default-clause-writes g c = ReplayWritten-stopped c.stopped.result c.stopped.ensures.status _ _ _ c.stopped.ensures.says

pub returns-clause-finished : goal.returns-clause-finished
returns-clause-finished g c =
    Finished-of c.args.serial _ c.output-bytes.result.now (g.K.Sink.seen c.args.out.now) (g.K.Sink.seen c.write_all-written.new.sink) c.into_history.ensures c.output-bytes.ensures.replays c.output-bytes.ensures.bytes c.requires.over c.write_all-written.ensures.prefix
    (wrote_whole c.write_all-written.result c.say_end-status.result (g.K.Sink.seen c.args.out.now) (g.K.Sink.seen c.write_all-written.new.sink) _ c.write_all-written.ensures.counts c.say_end-status.ensures.after.unwritten c.write_all-written.ensures.whole)
    c.say_end-status.ensures.of_end

pub returns-clause-writes : goal.returns-clause-writes
returns-clause-writes g c =
    ReplayWritten-of c.write_all-written.result _ _ _ _ _ c.write_all-written.ensures.counts c.write_all-written.ensures.later c.say_end-status.ensures.after
    c.say_end-status.ensures.says (λ eight. absurd (not_eight c.say_end-status.result (inl c.say_end-status.ensures.status) eight))

pub returns-in_default-clause-finished : goal.returns-in_default-clause-finished
returns-in_default-clause-finished g c = Finished-stopped c.args.serial c.stopped.result _ _ c.stopped.ensures.history c.requires.replays c.stopped.ensures.status c.stopped.ensures.end refl
