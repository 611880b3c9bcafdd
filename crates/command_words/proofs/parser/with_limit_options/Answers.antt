use Rattle.command_words.proofs.parser.with_limit_options.Goals as goal

pub returns-clause-told : goal.returns-clause-told
returns-clause-told c = λ app is. c.with_arg.ensures.told _ _ (c.with_arg-command-2.ensures.told _ _ (c.with_arg-command.ensures.told app _ is c.option.ensures.told) c.option-2.ensures.told) c.option-3.ensures.told
