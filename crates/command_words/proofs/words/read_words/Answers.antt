use Rattle.std.proofs.Common.{sym, ◌∙◌}
use Rattle.clap.specs.Words.{subcommand_rows_of}
use Rattle.command_words.proofs.Found.{reads_refusal, reads_said, unread_refused}
use Rattle.command_words.proofs.words.read_words.Goals as goal

pub returns-then-not-are_readable : goal.returns-then-not-are_readable
returns-then-not-are_readable c = unread_refused c.args.words.now (sym c.are_readable.ensures ∙ c.if-not-are_readable.true)

pub returns-in_err-matches : goal.returns-in_err-matches
returns-in_err-matches c =
    reads_refusal c.args.words.now (sym c.are_readable.ensures ∙ c.if-not-are_readable.false) c.in_err-matches.field-0.0 c.from_residual.result
    c.in_err-matches.ensures.err c.from_residual.ensures.1

pub returns : goal.returns
returns c =
    reads_said c.args.words.now (sym c.are_readable.ensures ∙ c.if-not-are_readable.false) (subcommand_rows_of c.in_ok-matches.matches) c.said_command.result
    c.in_ok-matches.ensures.ok c.said_command.ensures
