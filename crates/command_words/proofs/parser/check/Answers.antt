use Rattle.command_words.proofs.parser.check.Goals as goal

pub returns-clause-told : goal.returns-clause-told
returns-clause-told c = c.with_arg.ensures.told _ _ c.named.ensures.told c.place.ensures.told
