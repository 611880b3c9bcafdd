use Rattle.std.proofs.Common.{◌∙◌, Err, ap, refl}
use Rattle.command_phases.proofs.Statuses.{six_not_ended}
use Rattle.command_phases.proofs.EndWrites.{EndWritten-failed, EndWritten-kept, EndWritten-memory, SaysOutcome-memory}
use Rattle.command_phases.proofs.ending.keep_and_report.Goals as goal

pub returns-in-Ok-clause-ends : goal.returns-in-Ok-clause-ends
returns-in-Ok-clause-ends g c =
    EndWritten-kept c.args.written c.args.ran.now.trace c.args.trace.now _ _ _ _ c.keep_after.result _ c.report_and_say.result (rw c.in-Ok.is refl) refl c.keep_after.ensures
    c.report_and_say.ensures.status c.report_and_say.ensures.of_end c.report_and_say.ensures.after

pub returns-in-Ok-clause-reports : goal.returns-in-Ok-clause-reports
returns-in-Ok-clause-reports g c = λ ended. rw c.items-report.ensures at c.report_and_say.ensures.says

pub returns-in-Ok-clause-says : goal.returns-in-Ok-clause-says
returns-in-Ok-clause-says g c = λ never. absurd (never c.report_and_say.ensures.status)

pub returns-in-Err-Failed-clause-ends : goal.returns-in-Err-Failed-clause-ends
returns-in-Err-Failed-clause-ends g c =
    EndWritten-failed c.args.written c.args.ran.now.trace c.args.trace.now _ _ _ _ c.keep_after.result _ c.report_and_say-in-Err-Failed.result (c.in-Err-Failed.is ∙ ap (λ e. Err e) c.in-Err-Failed.field-0-is) refl c.keep_after.ensures
    c.report_and_say-in-Err-Failed.ensures.status c.report_and_say-in-Err-Failed.ensures.after

pub returns-in-Err-Failed-clause-reports : goal.returns-in-Err-Failed-clause-reports
returns-in-Err-Failed-clause-reports g c = λ ended. rw c.items-report.ensures at c.report_and_say-in-Err-Failed.ensures.says

pub returns-in-Err-Failed-clause-says : goal.returns-in-Err-Failed-clause-says
returns-in-Err-Failed-clause-says g c = λ never. absurd (never c.report_and_say-in-Err-Failed.ensures.status)

pub returns-in-Err-Memory-clause-ends : goal.returns-in-Err-Memory-clause-ends
returns-in-Err-Memory-clause-ends g c =
    EndWritten-memory c.args.written c.args.ran.now.trace c.args.trace.now _ _ _ _ c.keep_after.result (c.in-Err-Memory.is ∙ ap (λ e. Err e) c.in-Err-Memory.field-0-is) c.keep_after.ensures c.say_memory.ensures.later

pub returns-in-Err-Memory-clause-reports : goal.returns-in-Err-Memory-clause-reports
returns-in-Err-Memory-clause-reports g c = λ ended. absurd (six_not_ended ended)

pub returns-in-Err-Memory-clause-says : goal.returns-in-Err-Memory-clause-says
returns-in-Err-Memory-clause-says g c = λ never. SaysOutcome-memory _ _ _ c.say_memory.ensures
