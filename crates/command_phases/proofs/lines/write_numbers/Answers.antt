use Rattle.std.proofs.Common.{subst}
use Rattle.command_phases.specs.LineWritten.{WritesLine}
use Rattle.command_phases.proofs.Pieces.{count_pieces}
use Rattle.command_phases.proofs.lines.write_numbers.Goals as goal

pub returns : goal.returns
returns g c =
    subst (λ text. WritesLine text c.write_pieces.result (g.K.Sink.seen c.args.out.now) (g.K.Sink.seen c.write_pieces.new.sink))
    (count_pieces c.args.functions c.args.behaviours c.args.globals)
    (rw (c.as_bytes.ensures.value, c.format.ensures.text, c.as_bytes-2.ensures.value, c.format-2.ensures.text, c.as_bytes-3.ensures.value, c.format-3.ensures.text) at c.write_pieces.ensures)
