use Rattle.std.proofs.Common.{sym, ap, ◌∙◌, Err}
use Rattle.value_core.proofs.Names.{no_name_at, no_name_last, one_more_piece, one_more_small, last_piece, no_dot_found}
use Rattle.value_core.specs.Numbers.{numbers_in}
use Rattle.value_core.proofs.name.Name.read.Goals as goal

pub loop-dot-preserved : goal.loop-dot-preserved
loop-dot-preserved c = record {
  small = one_more_small _ _ _ c.loop-dot.invariant.small c.in_ok-push_piece.ensures.ok;
  pieces = rw c.after_dot-rest.ensures (one_more_piece c.args.bytes.now c.loop-dot.rest.now (numbers_in c.loop-dot.numbers) (numbers_in c.push_piece.new.numbers) c.in-Some.dot c.loop-dot.invariant.pieces (sym c.in-Some.is ∙ c.first_dot.ensures) c.in_ok-push_piece.ensures.ok);
}

pub returns-in_err-push_piece-clause-bad_name : goal.returns-in_err-push_piece-clause-bad_name
returns-in_err-push_piece-clause-bad_name c bad =
    let is_bad = rw bad at c.from_residual.ensures in
    no_name_at c.args.bytes.now c.loop-dot.rest.now (numbers_in c.loop-dot.numbers) c.in-Some.dot c.loop-dot.invariant.pieces (sym c.in-Some.is ∙ c.first_dot.ensures) (c.push_piece.ensures.bad (c.in_err-push_piece.was ∙ ap Err (sym is_bad.1)))

pub returns-in_err-push_piece-2-clause-bad_name : goal.returns-in_err-push_piece-2-clause-bad_name
returns-in_err-push_piece-2-clause-bad_name c bad =
    let is_bad = rw bad at c.from_residual-in_err-push_piece-2.ensures in
    no_name_last c.args.bytes.now c.loop-dot.rest.now (numbers_in c.loop-dot.numbers) c.loop-dot.invariant.pieces (no_dot_found c.first_dot.result c.in_default.not-Some c.loop-dot.rest.now c.first_dot.ensures) (c.push_piece-2.ensures.bad (c.in_err-push_piece-2.was ∙ ap Err (sym is_bad.1)))

pub returns-clause-name : goal.returns-clause-name
returns-clause-name c = last_piece c.args.bytes.now c.loop-dot.rest.now (numbers_in c.loop-dot.numbers) (numbers_in c.push_piece-2.new.numbers) c.loop-dot.invariant.pieces (no_dot_found c.first_dot.result c.in_default.not-Some c.loop-dot.rest.now c.first_dot.ensures) c.loop-dot.invariant.small c.in_ok-push_piece-2.ensures.ok
