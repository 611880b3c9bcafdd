use Rattle.std.proofs.Common.{rules}
use Rattle.command_phases.proofs.Pieces.{TookPrefix-pieces}
use Rattle.command_phases.proofs.lines.write_pieces.Goals as goal

pub returns-in_err-write_all : goal.returns-in_err-write_all
returns-in_err-write_all g c = record {
  whole = search rules;
  prefix = TookPrefix-pieces (λ piece. piece.now) c.args.pieces.now c.loop-piece.piece-index _ _ _ _ c.loop-piece-test.true c.loop-piece.invariant.taken c.write_all.ensures.prefix;
  said = search rules;
  counts = search rules;
  later = search rules;
}
