use Rattle.std.proofs.Common.{◌≢◌, rules}
use Rattle.std.specs.Prelude.{IfErr}
use Rattle.sexpr_reader.specs.declared.lead.Lead.TheVariants.{Colon, End}
use Rattle.sexpr_reader.specs.Grammar.{RefusedAs}
use Rattle.sexpr_reader.specs.Lead.{lead_of}
use Rattle.sexpr_reader.specs.Tokens.{Fails}
use Rattle.sexpr_reader.proofs.Lexing.{one_byte, colon_fails, keyword_fails, keyword_found}
use Rattle.sexpr_reader.proofs.lexer.keyword.Goals as goal

pub returns-in_err-expect_word-clause-refused : goal.returns-in_err-expect_word-clause-refused
returns-in_err-expect_word-clause-refused c =
    let there : lead_of c.args.reader.now.rest ≢ End = λ e. absurd (let h = c.requires in cc) in
    let one = one_byte c.advance.result there c.advance.ensures.end c.advance.ensures.step in
    let fails : IfErr c.expect_word.result (RefusedAs (Fails Colon c.args.reader.now)) = colon_fails c.expect_word.result c.place-colon.result c.place-colon.ensures one c.expect_word.ensures.refused in
    search rules

pub returns-clause-found : goal.returns-clause-found
returns-clause-found c =
    let there : lead_of c.args.reader.now.rest ≢ End = λ e. absurd (let h = c.requires in cc) in
    let one = one_byte c.advance.result there c.advance.ensures.end c.advance.ensures.step in
    keyword_found c.name.result _ _ _ one c.name.ensures.found

pub returns-clause-refused : goal.returns-clause-refused
returns-clause-refused c =
    let there : lead_of c.args.reader.now.rest ≢ End = λ e. absurd (let h = c.requires in cc) in
    let one = one_byte c.advance.result there c.advance.ensures.end c.advance.ensures.step in
    keyword_fails c.name.result one c.name.ensures.refused
