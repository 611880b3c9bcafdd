use Rattle.std.proofs.Common.{◌<◌, ◌≤◌, length, arith, rules}
use Rattle.std.specs.Prelude.{IfErr}
use Rattle.sexpr_reader.specs.Grammar.{RefusedAs, IsRefused}
use Rattle.sexpr_reader.specs.Limits.{source_limit}
use Rattle.sexpr_reader.proofs.Sources.{text_fails}
use Rattle.sexpr_reader.proofs.source.read.Goals as goal

pub returns-then-bytes-gt-SOURCE_LIMIT-clause-refused : goal.returns-then-bytes-gt-SOURCE_LIMIT-clause-refused
returns-then-bytes-gt-SOURCE_LIMIT-clause-refused c =
    let long : source_limit < length c.args.bytes.now = omega arith in
    rw c.too_long.ensures (IsRefused.too_long long)

pub returns-in_err-expect_text-clause-refused : goal.returns-in_err-expect_text-clause-refused
returns-in_err-expect_text-clause-refused c =
    let within : length c.args.bytes.now ≤ source_limit = omega arith in
    let fails : IfErr c.expect_text.result (RefusedAs (IsRefused c.args.bytes.now)) = text_fails c.args.bytes.now c.expect_text.result within c.expect_text.ensures.refused in
    search rules
