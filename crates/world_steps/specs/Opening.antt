-- What is kept before the first entry.
use Rattle.std.specs.Prelude.{[], None}
use Rattle.serial_model.specs.State.{Setup}
use Rattle.shared_world.specs.Shared.{Shared}
use Rattle.unit_table.specs.Board.{Board}

-- nothing has happened; these pieces are there, and nobody has mail
abbrev pub before_all : Setup → Board → Shared
before_all setup board = record { setup = setup; history = []; versions = []; board = board; mails = []; taken = []; aheads = []; attempts = []; owners = []; bytes = []; made = 1; end = None }
