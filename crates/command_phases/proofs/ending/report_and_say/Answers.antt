use Rattle.command_phases.proofs.EndWrites.{SaysReport-failed, SaysReport-of, WritesAfter-failed, WritesAfter-of}
use Rattle.command_phases.proofs.ending.report_and_say.Goals as goal

pub returns-in-Ok-clause-after : goal.returns-in-Ok-clause-after
returns-in-Ok-clause-after g c =
    WritesAfter-of c.args.report.now c.args.end.now (g.E.Sink.seen c.args.err.now) (g.E.Sink.seen c.write_all.new.sink) (g.E.Sink.seen c.say_end.new.err)
    c.args.written c.say_end.result c.in-Ok.ensures.counts c.say_end.ensures.after

pub returns-in-Ok-clause-says : goal.returns-in-Ok-clause-says
returns-in-Ok-clause-says g c =
    SaysReport-of c.args.report.now c.args.end.now (g.E.Sink.seen c.args.err.now) (g.E.Sink.seen c.write_all.new.sink) (g.E.Sink.seen c.say_end.new.err)
    c.say_end.result c.in-Ok.ensures.whole c.in-Ok.ensures.counts c.say_end.ensures.after.later c.say_end.ensures.says c.say_end.ensures.status

pub returns-in-Err-clause-after : goal.returns-in-Err-clause-after
returns-in-Err-clause-after g c = WritesAfter-failed c.args.written _ _ c.in-Err.ensures.counts c.write_all.ensures.later

pub returns-in-Err-clause-says : goal.returns-in-Err-clause-says
returns-in-Err-clause-says g c = SaysReport-failed c.args.report.now c.args.end.now _ _ c.write_all.ensures.prefix c.in-Err.ensures.counts
