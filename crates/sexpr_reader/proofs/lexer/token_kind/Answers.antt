use Rattle.std.proofs.Common.{◌≡◌, ◌≢◌, ◌∙◌, rules}
use Rattle.sexpr_reader.specs.declared.lead.Lead.TheVariants.{End, Open, Close}
use Rattle.sexpr_reader.specs.Lead.{lead_of}
use Rattle.sexpr_reader.specs.Tokens.{Begins}
use Rattle.sexpr_reader.proofs.Lexing.{one_byte}
use Rattle.sexpr_reader.proofs.lexer.token_kind.Goals as goal

pub returns-in-Open : goal.returns-in-Open
returns-in-Open c =
    let there : lead_of c.args.reader.now.rest ≢ End = λ e. c.requires.not_at_end (c.requires.lead ∙ e) in
    let is : c.args.lead ≡ Open c.in-Open.group = search rules in
    rw is (Begins.opening c.in-Open.group (one_byte c.advance.result there c.advance.ensures.end c.advance.ensures.step))

pub returns-in-Close : goal.returns-in-Close
returns-in-Close c =
    let there : lead_of c.args.reader.now.rest ≢ End = λ e. c.requires.not_at_end (c.requires.lead ∙ e) in
    let is : c.args.lead ≡ Close c.in-Close.group = search rules in
    rw is (Begins.closing c.in-Close.group (one_byte c.advance-in-Close.result there c.advance-in-Close.ensures.end c.advance-in-Close.ensures.step))
