use Rattle.std.proofs.Common.{◌<◌, length, arith}
use Rattle.unit_table.specs.Keeping.{board_of}
use Rattle.unit_table.proofs.OpenUnits.{grown_unfinished, made_unfinished}
use Rattle.unit_table.proofs.unfinished.make.Goals as goal

pub returns-clause-set : goal.returns-clause-set
returns-clause-set c =
    let room : length c.args.places.now.table.pieces.places < length c.reserve.new.self = omega (arith, c.in_ok-reserve.ensures.room, c.slots.ensures.value) in
    made_unfinished (board_of c.args.places.now) (board_of c.make.new.self) c.make.new.self.waits c.reserve.new.self
    (grown_unfinished (board_of c.args.places.now) c.args.unfinished.now c.reserve.new.self c.requires.set c.reserve.ensures.members c.reserve.ensures.kept)
    c.make.ensures.kept c.make.ensures.slots c.make.ensures.pieces room
