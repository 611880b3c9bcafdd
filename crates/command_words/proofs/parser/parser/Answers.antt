use Rattle.command_words.proofs.parser.parser.Goals as goal

pub returns : goal.returns
returns c =
    let with_runs = c.with_commands-parser.ensures _ _ _ c.settled.ensures c.run.ensures.told c.schedule.ensures.told in
    let with_checks = c.with_commands-parser-2.ensures _ _ _ with_runs c.replay.ensures.told c.check.ensures.told in
    c.with_commands.ensures _ _ _ with_checks c.make.ensures.told c.stress.ensures.told
