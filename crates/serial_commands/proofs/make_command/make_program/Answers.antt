use Rattle.serial_commands.proofs.Making.{make_told, make_without_memory}
use Rattle.serial_commands.proofs.make_command.make_program.Goals as goal

pub returns-in-Ok-clause-answers : goal.returns-in-Ok-clause-answers
returns-in-Ok-clause-answers g c = make_told c.args.number c.args.size _ _ _ _ c.tell_text.result (rw (c.items.ensures, c.in-Ok.ensures) at c.tell_text.ensures)

pub returns-in-Err-clause-answers : goal.returns-in-Err-clause-answers
returns-in-Err-clause-answers g c = make_without_memory c.args.number c.args.size _ _ _ _ c.out_of_memory.result c.out_of_memory.ensures.outcome c.out_of_memory.ensures.says
