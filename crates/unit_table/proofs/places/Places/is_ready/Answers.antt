use Rattle.std.proofs.Common.{◌∙◌, sym}
use Rattle.unit_table.specs.Keeping.{board_of}
use Rattle.unit_table.proofs.Lending.{absent_at, ready_at}
use Rattle.unit_table.proofs.places.Places.is_ready.Goals as goal

pub returns-in-Some : goal.returns-in-Some
returns-in-Some c = c.can_lend.ensures ∙ sym (ready_at (board_of c.args.self.now) c.args.self.now.waits c.requires c.args.name.now c.in-Some.ticket (sym c.in-Some.ensures))

pub returns-in-None : goal.returns-in-None
returns-in-None c = sym (absent_at (board_of c.args.self.now) c.args.self.now.waits c.requires c.args.name.now (sym c.in-None.ensures))
