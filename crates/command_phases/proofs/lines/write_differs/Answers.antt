use Rattle.command_phases.proofs.lines.write_differs.Goals as goal

pub returns : goal.returns
returns g c = rw (c.as_bytes.ensures.value, c.format.ensures.text) at c.write_pieces.ensures
