use Rattle.std.proofs.Common.{[], sym, subst, rules}
use Rattle.sexpr_reader.specs.Grammar.{source}
use Rattle.sexpr_reader.specs.Nest.{seen, nest_of, Moves}
use Rattle.sexpr_reader.specs.Tokens.{IsToken, IsEnd}
use Rattle.sexpr_reader.proofs.Same.{token_shorter}
use Rattle.sexpr_reader.proofs.Sources.{SoFar, SoFar-begin, SoFar-take, next_fails, take_fails, finish_fails, finish_found, finish_only}
use Rattle.sexpr_reader.proofs.source.read_forms.Goals as goal

pub tokens-init : goal.tokens-init
tokens-init c =
    let begun : SoFar (source c.args.bytes.now) (nest_of [] []) c.new-reader.result = subst (λ r. SoFar (source c.args.bytes.now) (nest_of [] []) r) (sym c.new-reader.ensures) (SoFar-begin (source c.args.bytes.now)) in
    subst (λ n. SoFar (source c.args.bytes.now) n c.new-reader.result) (sym c.new-nest.ensures) begun

pub returns-in_err-token-clause-refused : goal.returns-in_err-token-clause-refused
returns-in_err-token-clause-refused c =
    let fails = next_fails c.args.bytes.now c.tokens.reader c.requires.limit c.requires.text (seen c.tokens.nest) c.next_token.new.reader c.next_token.result c.tokens.invariant c.next_token.ensures in
    search rules

pub returns-in_err-take-clause-refused : goal.returns-in_err-take-clause-refused
returns-in_err-take-clause-refused c =
    let tok : IsToken c.tokens.reader c.in-Some.token c.next_token.new.reader = search rules in
    let fails = take_fails c.args.bytes.now c.tokens.reader c.requires.limit c.requires.text (seen c.tokens.nest) c.next_token.new.reader c.in-Some.token c.take.result c.tokens.invariant tok c.take.ensures.blocks in
    search rules

pub tokens-preserved : goal.tokens-preserved
tokens-preserved c =
    let tok : IsToken c.tokens.reader c.in-Some.token c.next_token.new.reader = search rules in
    let moves : Moves (seen c.tokens.nest) c.in-Some.token.at c.in-Some.token.kind (seen c.take.new.self) = search rules in
    SoFar-take (source c.args.bytes.now) c.tokens.reader c.next_token.new.reader (seen c.tokens.nest) (seen c.take.new.self) c.in-Some.token c.tokens.invariant tok moves

pub tokens-smaller : goal.tokens-smaller
tokens-smaller c =
    let tok : IsToken c.tokens.reader c.in-Some.token c.next_token.new.reader = search rules in token_shorter tok

pub returns-clause-found : goal.returns-clause-found
returns-clause-found c =
    let end : IsEnd c.tokens.reader = search rules in
    finish_found (source c.args.bytes.now) c.tokens.reader (seen c.tokens.nest).frames (seen c.tokens.nest).forms c.finish.result c.tokens.invariant end c.finish.ensures

pub returns-clause-only : goal.returns-clause-only
returns-clause-only c forms s =
    let end : IsEnd c.tokens.reader = search rules in
    finish_only (source c.args.bytes.now) c.tokens.reader (seen c.tokens.nest).frames (seen c.tokens.nest).forms c.finish.result c.tokens.invariant end c.finish.ensures forms s

pub returns-clause-refused : goal.returns-clause-refused
returns-clause-refused c =
    let end : IsEnd c.tokens.reader = search rules in
    finish_fails c.args.bytes.now c.tokens.reader c.requires.limit c.requires.text (seen c.tokens.nest).frames (seen c.tokens.nest).forms c.finish.result c.tokens.invariant end c.finish.ensures
