use Rattle.std.proofs.Common.{◌≡◌, ◌++◌, ◌∷◌, [], rules}
use Rattle.std.specs.Prelude.{IfErr}
use Rattle.sexpr_reader.specs.declared.lead.Lead.TheVariants.{Quote}
use Rattle.sexpr_reader.specs.Grammar.{RefusedAs}
use Rattle.sexpr_reader.specs.Strings.{Content, Written}
use Rattle.sexpr_reader.specs.Tokens.{Fails, Begins}
use Rattle.sexpr_reader.proofs.Lexing.{quote_byte, Content-more, string_stops}
use Rattle.sexpr_reader.proofs.lexer.string.Goals as goal

pub content-init : goal.content-init
content-init c = rw c.new-text.ensures Content.none

pub content-preserved : goal.content-preserved
content-preserved c =
    let pushed : c.push.new.self ≡ c.content.text ++ c.in-Some.byte ∷ [] = search rules in
    let written : Written c.content.reader c.in-Some.byte c.string_byte.new.reader = search rules in
    rw pushed (Content-more c.content.text c.content.invariant written)

pub returns-in_err-byte-clause-refused : goal.returns-in_err-byte-clause-refused
returns-in_err-byte-clause-refused c =
    let opens = quote_byte c.advance.result c.requires c.advance.ensures.end c.advance.ensures.step in
    let stops : IfErr c.string_byte.result (RefusedAs (Fails Quote c.args.reader.now)) = string_stops c.string_byte.result c.content.text c.string_byte.new.reader c.place-quote.result c.place-quote.ensures opens c.content.invariant c.string_byte.ensures in
    search rules

pub returns-clause-found : goal.returns-clause-found
returns-clause-found c = Begins.string c.content.text (record {
  inside = c.advance.new.self;
  close = c.content.reader;
  opens = quote_byte c.advance.result c.requires c.advance.ensures.end c.advance.ensures.step;
  content = c.content.invariant;
  closes = search rules;
})
