use Rattle.sexpr_reader.specs.Tokens.{Begins}
use Rattle.sexpr_reader.proofs.Lexing.{symbol_fails}
use Rattle.sexpr_reader.proofs.lexer.symbol.Goals as goal

pub returns-in-Ok-clause-found : goal.returns-in-Ok-clause-found
returns-in-Ok-clause-found c = rw c.named.ensures (Begins.symbol c.in-Ok.name c.in-Ok.ensures.found)

pub returns-in-Err-clause-refused : goal.returns-in-Err-clause-refused
returns-in-Err-clause-refused c = symbol_fails c.args.reader.now c.in-Err.error c.in-Err.ensures.refused
