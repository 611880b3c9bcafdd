use Rattle.command_words.proofs.parser.run.Goals as goal

pub returns-clause-told : goal.returns-clause-told
returns-clause-told c = c.with_limit_options.ensures.told _ (c.with_arg-command-2.ensures.told _ _ (c.with_arg-command.ensures.told _ _ c.named.ensures.told c.place.ensures.told) c.option.ensures.told)
