-- The pieces before the index are what the sink has taken, and no fault has come.
use Rattle.std.proofs.Common.{◌≡◌, take}
use Rattle.std.specs.Prelude.{flat_map}
use Rattle.std.specs.Io.KnownBytes.{append_known}
use Rattle.command_phases.proofs.lines.write_pieces.Given as goal

abbrev pub invariant-loop-piece : goal.invariant-loop-piece
invariant-loop-piece g l = record {
  taken : (g.K.Sink.seen l.sink).taken ≡ append_known (g.K.Sink.seen l.fn.sink).taken (flat_map (λ piece. piece.now) (take l.piece-index l.pieces));
  faults : (g.K.Sink.seen l.sink).faults ≡ (g.K.Sink.seen l.fn.sink).faults;
}
