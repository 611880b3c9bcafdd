use Rattle.std.proofs.Common.{length}
use Rattle.serial_units.proofs.tasks.+viewed.Given as goal

abbrev pub decreases-viewed : goal.decreases-viewed
decreases-viewed c = length c.tasks.now
