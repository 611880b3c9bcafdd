use Rattle.std.proofs.Math.Facts.{to_z-of_z}
use Rattle.sexpr_reader.specs.Tokens.{Fails, Begins}
use Rattle.sexpr_reader.proofs.lexer.number.Goals as goal

pub returns-in-None-clause-refused : goal.returns-in-None-clause-refused
returns-in-None-clause-refused c = rw (c.refused.ensures, c.place-at.ensures) (Fails.number c.run.result.now c.run.ensures c.in-None.ensures)

pub returns-in-Some-clause-found : goal.returns-in-Some-clause-found
returns-in-Some-clause-found c = rw (to_z-of_z c.in-Some.ensures.fits) (Begins.number c.in-Some.n (record { word = c.run.result.now; run = c.run.ensures; integer = c.in-Some.ensures }))
