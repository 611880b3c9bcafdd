use Rattle.std.proofs.Common.{◌≡◌, subst}
use Rattle.std.specs.Prelude.{Err}
use Rattle.command_phases.specs.Load.{GivesText}
use Rattle.command_phases.specs.Program.{IsProgramOf}
use Rattle.program_maker.specs.MadeText.{made_text}
use Rattle.stress_command.proofs.Stressing.{stress_ran, stress_refused}
use Rattle.stress_command.proofs.stress_command.stress_program.Goals as goal

pub returns-in-Ok-program_in-clause-answers : goal.returns-in-Ok-program_in-clause-answers
returns-in-Ok-program_in-clause-answers g c small =
    let is : c.items.result.now ≡ made_text c.args.number c.args.size = cc (c.items.ensures, c.in-Ok.ensures) in
    stress_ran c.args.number c.args.size _ _ c.run_program.result c.in-Ok-program_in.program (subst (λ bytes. IsProgramOf bytes c.in-Ok-program_in.program) is c.in-Ok-program_in.ensures)
    (rw c.default-limits.ensures at c.run_program.ensures.answers) c.run_program.ensures.says

pub returns-clause-answers : goal.returns-clause-answers
returns-clause-answers g c small =
    let is : c.items.result.now ≡ made_text c.args.number c.args.size = cc (c.items.ensures, c.in-Ok.ensures) in
    stress_refused c.args.number c.args.size _ _ _ _ c.without_program.result small c.in-Err.error (subst (λ bytes. GivesText bytes (Err c.in-Err.error)) is c.in-Err.ensures)
    c.without_program.ensures.outcome (rw c.new.ensures at c.without_program.ensures.says)
