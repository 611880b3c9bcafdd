use Rattle.std.proofs.Common.{◌∙◌, refl}
use Rattle.run_command.proofs.Answering.{run_error, run_loaded}
use Rattle.run_command.proofs.Tracing.{KeepsTrace-read}
use Rattle.run_command.proofs.run_command.run_file.Goals as goal

pub returns-in-Ok-clause-answers : goal.returns-in-Ok-clause-answers
returns-in-Ok-clause-answers g c =
    run_loaded c.args.file.now _ _ c.run_program.result c.in-Ok.program c.in-Ok.ensures.loads.0 (c.run_program.ensures.answers.reads ∙ c.in-Ok.ensures.loads.1) c.run_program.ensures.answers.statuses
    (λ seven six. let none = c.run_program.ensures.answers.unfailed seven six in record { out = none.out; err = none.err; files = none.files ∙ c.in-Ok.ensures.writes })
    c.args.limits c.args.trace.now c.run_program.ensures.answers.finished c.run_program.ensures.answers.ended
    (KeepsTrace-read c.args.limits c.args.trace.now _ _ (g.F.Files.seen c.load_program.new.files) c.run_program.result c.in-Ok.ensures.same c.in-Ok.ensures.writes c.run_program.ensures.answers.keeps)
    (rw c.in-Ok.ensures.writes at c.run_program.ensures.answers.not_written) c.run_program.ensures.answers.detail c.run_program.ensures.says

pub returns-in-Err-clause-answers : goal.returns-in-Err-clause-answers
returns-in-Err-clause-answers g c =
    run_error c.args.file.now _ _ c.without_program.result c.in-Err.error c.in-Err.ensures.loads c.without_program.ensures.outcome c.args.limits c.args.trace.now refl
    (record { held = c.in-Err.ensures.same; faults = c.in-Err.ensures.writes }) c.without_program.ensures.says
