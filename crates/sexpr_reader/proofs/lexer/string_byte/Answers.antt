use Rattle.std.proofs.Common.{◌≡◌, rules}
use Rattle.std.specs.Prelude.{Some}
use Rattle.sexpr_reader.specs.Strings.{Written, unescaped}
use Rattle.sexpr_reader.proofs.Lexing.{escape_found}
use Rattle.sexpr_reader.proofs.lexer.string_byte.Goals as goal

pub returns-in-Some-unescaped : goal.returns-in-Some-unescaped
returns-in-Some-unescaped c =
    let is : c.in-Some-eq92.field-0 ≡ 92 = search rules in
    let found : unescaped c.in-Some-advance.byte ≡ Some c.in-Some-unescaped.byte = search rules in
    escape_found c.in-Some-eq92.field-0 c.in-Some-advance.byte c.in-Some-unescaped.byte is c.in-Some-eq92.ensures.step c.in-Some-advance.ensures.step found

pub returns-in-Some : goal.returns-in-Some
returns-in-Some c = Written.plain (search rules) (search rules) c.in-Some.ensures.step
