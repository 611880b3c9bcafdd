use Rattle.command_phases.proofs.lines.write_detail.Goals as goal

pub returns-in-Differs : goal.returns-in-Differs
returns-in-Differs g c = rw c.in-Differs.is c.write_differs.ensures
