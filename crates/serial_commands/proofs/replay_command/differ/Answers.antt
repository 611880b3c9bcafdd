use Rattle.std.proofs.Common.{refl, inl, inr, rules}
use Rattle.std.specs.Prelude.{None}
use Rattle.serial_machine.specs.Progress.{state_of}
use Rattle.serial_commands.proofs.Finishes.{Finished-of, no_end, wrote_whole}
use Rattle.serial_commands.proofs.Replaying.{ReplayWritten-of, not_eight}
use Rattle.serial_commands.proofs.replay_command.differ.Goals as goal

pub returns-clause-finished : goal.returns-clause-finished
returns-clause-finished g c =
    Finished-of c.args.serial _ c.output.result.now (g.K.Sink.seen c.args.out.now) (g.K.Sink.seen c.write_all-written.new.sink) c.into_history.ensures c.output.ensures.replays c.output.ensures.bytes (no_end (state_of c.args.serial) c.args.serial.setup None refl)
    c.write_all-written.ensures.prefix
    (wrote_whole c.write_all-written.result c.say_differs-status.result (g.K.Sink.seen c.args.out.now) (g.K.Sink.seen c.write_all-written.new.sink) _ c.write_all-written.ensures.counts c.say_differs-status.ensures.after.unwritten c.write_all-written.ensures.whole)
    (λ e. tt)

pub returns-clause-writes : goal.returns-clause-writes
returns-clause-writes g c =
    ReplayWritten-of c.write_all-written.result _ _ _ _ _ c.write_all-written.ensures.counts c.write_all-written.ensures.later c.say_differs-status.ensures.after
    (record {
      said = c.say_differs-status.ensures.said;
      said_at_most = search rules;
      end_said = λ ended apart. absurd (elim c.say_differs-status.ensures.status [ inl e ↦ apart e | inr e ↦ not_eight c.say_differs-status.result (inl ended) e ]);
    })
    c.say_differs-status.ensures.whole
