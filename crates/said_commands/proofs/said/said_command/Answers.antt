use Rattle.clap.specs.Words.{found_of}
use Rattle.said_commands.proofs.FoundCommand.{reads_found}
use Rattle.said_commands.proofs.said.said_command.Goals as goal

pub returns-in-Some : goal.returns-in-Some
returns-in-Some c =
    reads_found c.args.matches.now c.in-Some.name.now (found_of c.in-Some.given.now) c.command_named.result c.in-Some.ensures.name c.in-Some.ensures.rows c.command_named.ensures
