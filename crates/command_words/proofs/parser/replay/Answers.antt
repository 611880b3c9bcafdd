use Rattle.command_words.proofs.parser.replay.Goals as goal

pub returns-clause-told : goal.returns-clause-told
returns-clause-told c = c.with_arg.ensures.told _ _ (c.with_arg-command.ensures.told _ _ c.named.ensures.told c.place.ensures.told) c.place-2.ensures.told
