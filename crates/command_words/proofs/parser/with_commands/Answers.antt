use Rattle.command_words.proofs.parser.with_commands.Goals as goal

pub returns : goal.returns
returns c = λ app one two is first second. c.with_command-2.ensures _ _ (c.with_command.ensures app one is first) second
