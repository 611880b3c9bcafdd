use Rattle.std.proofs.Common.{refl, sym, ◌∙◌}
use Rattle.sexpr_reader.specs.Names.{Misfit}
use Rattle.sexpr_reader.proofs.Lexing.{name_found}
use Rattle.sexpr_reader.proofs.lexer.name.Goals as goal

pub returns-then-not-begins-clause-refused : goal.returns-then-not-begins-clause-refused
returns-then-not-begins-clause-refused c =
    rw (c.refused.ensures, c.place.ensures) (refl, Misfit.first c.requires (sym c.begins.ensures ∙ c.if-not-begins.true))

pub returns-then-begins-clause-refused : goal.returns-then-begins-clause-refused
returns-then-begins-clause-refused c =
    rw (c.refused-then-begins.ensures, c.place-then-begins.ensures) (refl, Misfit.later c.run-name.result.now (sym c.begins.ensures ∙ c.if-not-begins.false) c.run-name.ensures (sym c.begins-2.ensures ∙ c.if-begins.true))

pub returns-in-Ok-clause-found : goal.returns-in-Ok-clause-found
returns-in-Ok-clause-found c = name_found c.run-name.result.now _ c.in-Ok.ensures (sym c.begins.ensures ∙ c.if-not-begins.false) c.run-name.ensures (sym c.begins-2.ensures ∙ c.if-begins.false)
